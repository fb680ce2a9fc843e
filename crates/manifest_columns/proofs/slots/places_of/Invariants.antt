use Rattle.std.proofs.Common.{◌≡◌, take}
use Rattle.manifest_columns.specs.Slots.{places_of}
use Rattle.manifest_columns.proofs.slots.places_of.Given as goal

abbrev pub invariant-loop-id : goal.invariant-loop-id
invariant-loop-id l = l.places ≡ places_of (take l.id-index l.ids) l.fields
