use Rattle.std.proofs.Common.{◌≡◌, take, map}
use Rattle.manifest_parts.specs.Parts.{written_part_field}
use Rattle.manifest_parts.proofs.written.written_part_fields.Given as goal

abbrev pub invariant-loop-field : goal.invariant-loop-field
invariant-loop-field l = l.fields ≡ map written_part_field (take l.field-index l.part.fields)
