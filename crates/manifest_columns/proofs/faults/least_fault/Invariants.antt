use Rattle.std.proofs.Common.{◌≡◌, drop, None}
use Rattle.manifest_columns.specs.Faults.{schema_fault}
use Rattle.manifest_columns.proofs.faults.least_fault.Given as goal

abbrev pub invariant-loop-column : goal.invariant-loop-column
invariant-loop-column l = schema_fault l.fault l.least (drop l.column-index l.columns) l.fields ≡ schema_fault l.fault None l.columns l.fields
