use Rattle.std.proofs.Common.{◌≡◌, ◌+◌, drop}
use Rattle.std.specs.List.{position_or_len}
use Rattle.ice_schema.specs.Kinds.{has_id}
use Rattle.ice_schema.proofs.kinds.place_of.Given as goal

abbrev pub invariant-loop-place : goal.invariant-loop-place
invariant-loop-place l = l.place + position_or_len (has_id l.id) (drop l.place l.fields) ≡ position_or_len (has_id l.id) l.fields
