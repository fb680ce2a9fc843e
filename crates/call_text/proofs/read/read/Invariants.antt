use Rattle.std.proofs.Common.{length}
use Rattle.call_text.proofs.Reading.{Reached}
use Rattle.call_text.proofs.read.read.Given as goal

abbrev pub invariant-loop-rest : goal.invariant-loop-rest
invariant-loop-rest l = Reached l.bytes l.state l.rest

abbrev pub decreases-loop-rest : goal.decreases-loop-rest
decreases-loop-rest l = length l.rest
