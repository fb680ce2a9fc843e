use Rattle.std.proofs.Common.{◌≡◌, map, take}
use Rattle.run_refs.specs.Reports.{ancestor_row}
use Rattle.run_refs.proofs.report.ancestor_rows.Given as goal

abbrev pub invariant-loop-ancestor : goal.invariant-loop-ancestor
invariant-loop-ancestor l = l.rows ≡ map ancestor_row (take l.ancestor-index l.ancestors)
