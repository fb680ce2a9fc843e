use Rattle.std.proofs.Common.{◌≡◌, drop, None}
use Rattle.manifest_columns.specs.Faults.{flat_fault}
use Rattle.manifest_columns.proofs.faults.flat_fault.Given as goal

abbrev pub invariant-loop-column : goal.invariant-loop-column
invariant-loop-column l = flat_fault l.fault l.least (drop l.column-index l.columns) l.fields ≡ flat_fault l.fault None l.columns l.fields
