use Rattle.std.proofs.Common.{◌≡◌, take, map}
use Rattle.metadata_view.specs.Steps.{step_from}
use Rattle.metadata_view.proofs.steps.steps_on.Given as goal

abbrev pub invariant-loop-place : goal.invariant-loop-place
invariant-loop-place l = l.found.items ≡ map (step_from l.steps) (take l.place-index l.places)
