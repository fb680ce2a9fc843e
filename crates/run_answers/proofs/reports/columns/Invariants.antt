use Rattle.std.proofs.Common.{◌≡◌, map, take}
use Rattle.run_answers.proofs.reports.columns.Given as goal

abbrev pub invariant-loop-name : goal.invariant-loop-name
invariant-loop-name l = l.columns ≡ map (λ name. name.now) (take l.name-index l.names)
