use Rattle.run_answers.proofs.EscapeLaws.{Reached}
use Rattle.run_answers.proofs.put.put_escaped.Given as goal

abbrev pub invariant-loop-i : goal.invariant-loop-i
invariant-loop-i g l = Reached (g.X.Sink.contents l.initial.err) (g.X.Sink.contents l.err) (g.X.Sink.faults l.initial.err) (g.X.Sink.faults l.err) l.text l.start l.i
