use Rattle.std.proofs.Common.{◌≡◌, take}
use Rattle.manifest_rows.specs.Written.{row_fields}
use Rattle.manifest_rows.proofs.writing.row_fields.Given as goal

abbrev pub invariant-loop-place : goal.invariant-loop-place
invariant-loop-place l = l.items ≡ take l.place (row_fields l.row)
