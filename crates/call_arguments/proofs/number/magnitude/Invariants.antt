use Rattle.std.proofs.Common.{◌≡◌, length}
use Rattle.call_arguments.specs.Numbers.{magnitude_of, magnitude_from}
use Rattle.call_arguments.proofs.number.magnitude.Given as goal

abbrev pub invariant-loop-rest : goal.invariant-loop-rest
invariant-loop-rest l = magnitude_from l.number l.rest ≡ magnitude_of l.digits

abbrev pub decreases-loop-rest : goal.decreases-loop-rest
decreases-loop-rest l = length l.rest
