use Rattle.std.proofs.Common.{◌≡◌, take}
use Rattle.schema_types.proofs.copying.copy_spec_fields.Given as goal

abbrev pub invariant-loop-field : goal.invariant-loop-field
invariant-loop-field l = l.copied ≡ take l.field-index l.fields
