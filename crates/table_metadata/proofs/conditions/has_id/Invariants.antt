use Rattle.std.proofs.Common.{◌≡◌, drop}
use Rattle.metadata_view.specs.Walk.{has_id}
use Rattle.table_metadata.proofs.conditions.has_id.Given as goal

abbrev pub invariant-loop-other : goal.invariant-loop-other
invariant-loop-other l = has_id l.id l.ids ≡ has_id l.id (drop l.other-index l.ids)
