use Rattle.std.proofs.Common.{◌≡◌, take, map}
use Rattle.manifest_columns.specs.Written.{written_field}
use Rattle.manifest_columns.proofs.written.written_fields.Given as goal

abbrev pub invariant-loop-column : goal.invariant-loop-column
invariant-loop-column l = l.fields ≡ map written_field (take l.column-index l.columns)
