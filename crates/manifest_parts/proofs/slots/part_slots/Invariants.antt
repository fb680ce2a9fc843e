use Rattle.std.proofs.Common.{◌≡◌, take, map}
use Rattle.manifest_parts.specs.Parts.{part_slot}
use Rattle.manifest_parts.proofs.slots.part_slots.Given as goal

abbrev pub invariant-loop-field : goal.invariant-loop-field
invariant-loop-field l = l.slots ≡ map (part_slot l.fields) (take l.field-index l.part.fields)
