use Rattle.std.proofs.Common.{◌≡◌, drop, None}
use Rattle.manifest_parts.specs.Parts.{part_fault}
use Rattle.manifest_parts.proofs.faults.part_fault.Given as goal

abbrev pub invariant-loop-field : goal.invariant-loop-field
invariant-loop-field l = part_fault l.least (drop l.field-index l.part.fields) l.fields ≡ part_fault None l.part.fields l.fields
