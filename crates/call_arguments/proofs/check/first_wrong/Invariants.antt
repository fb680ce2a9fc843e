use Rattle.std.proofs.Common.{◌≡◌, ◌+◌, [], length}
use Rattle.call_arguments.specs.Check.{first_wrong}
use Rattle.call_arguments.proofs.check.first_wrong.Given as goal

abbrev pub invariant-loop-rest : goal.invariant-loop-rest
invariant-loop-rest l = (first_wrong l.procedure l.args l.seen.items l.rest ≡ first_wrong l.procedure l.args [] l.args) × (length l.seen.items + length l.rest ≡ length l.args)

abbrev pub decreases-loop-rest : goal.decreases-loop-rest
decreases-loop-rest l = length l.rest
