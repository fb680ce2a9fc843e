use Rattle.std.proofs.Common.{◌≡◌, ◌+◌, length}
use Rattle.call_arguments.specs.Check.{value_from, value_of}
use Rattle.call_arguments.proofs.check.value_of.Given as goal

abbrev pub invariant-loop-rest : goal.invariant-loop-rest
invariant-loop-rest l = (value_from l.procedure l.place l.rest l.name ≡ value_of l.procedure l.args l.name) × (l.place + length l.rest ≡ length l.args)

abbrev pub decreases-loop-rest : goal.decreases-loop-rest
decreases-loop-rest l = length l.rest
