use Rattle.std.proofs.Common.{◌≡◌, drop}
use Rattle.manifest_columns.specs.Places.{schema_of}
use Rattle.manifest_columns.proofs.places.schema_of.Given as goal

abbrev pub invariant-loop-field : goal.invariant-loop-field
invariant-loop-field l = schema_of l.id (drop l.field-index l.fields) ≡ schema_of l.id l.fields
