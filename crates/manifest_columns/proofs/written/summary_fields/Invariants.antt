use Rattle.std.proofs.Common.{◌≡◌, take, map}
use Rattle.manifest_columns.specs.Tables.{written_summary_columns}
use Rattle.manifest_columns.specs.Written.{plain_field}
use Rattle.manifest_columns.proofs.written.summary_fields.Given as goal

abbrev pub invariant-loop-column : goal.invariant-loop-column
invariant-loop-column l = l.fields ≡ map plain_field (take l.column-index written_summary_columns)
