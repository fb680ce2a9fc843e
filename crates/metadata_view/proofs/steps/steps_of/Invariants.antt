use Rattle.std.proofs.Common.{◌≡◌, map}
use Rattle.metadata_view.specs.Steps.{steps_from}
use Rattle.metadata_view.proofs.steps.steps_of.Given as goal

abbrev pub invariant-loop-left : goal.invariant-loop-left
invariant-loop-left l = map (steps_from l.steps.items l.left) l.places.items ≡ map (steps_from l.fn.table.items l.fn.n) l.fn.table.items

abbrev pub decreases-loop-left : goal.decreases-loop-left
decreases-loop-left l = l.left
