use Rattle.std.proofs.Common.{◌≡◌, take, map}
use Rattle.manifest_columns.specs.Slots.{slot_of}
use Rattle.manifest_columns.proofs.slots.slots_of.Given as goal

abbrev pub invariant-loop-column : goal.invariant-loop-column
invariant-loop-column l = l.slots ≡ map (slot_of l.fields) (take l.column-index l.columns)
