use Rattle.std.proofs.Common.{◌≡◌, drop}
use Rattle.metadata_view.specs.Steps.{first_some}
use Rattle.metadata_view.proofs.steps.first_some.Given as goal

abbrev pub invariant-loop-i : goal.invariant-loop-i
invariant-loop-i l = first_some 0 l.places ≡ first_some l.i (drop l.i l.places)
