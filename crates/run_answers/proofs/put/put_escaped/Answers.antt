use Rattle.std.proofs.Common.{ℕ, List, subst}
use Rattle.run_answers.specs.Puts.{IsPut}
use Rattle.run_answers.proofs.EscapeLaws.{reached_plain, reached_escape, lost_run, lost_escape, finished, whole_rest}
use Rattle.run_answers.proofs.put.put_escaped.Goals.{in-Some+in_ok-put+in_ok-put-2, in_default}
use Rattle.run_answers.proofs.put.put_escaped.Goals as goal

pub returns-in_err-put : goal.returns-in_err-put
returns-in_err-put g c =
    let contents = g.X.Sink.contents in
    let faults = g.X.Sink.faults in
    lost_run (contents c.args.err.now) (contents c.loop-i.err) (faults c.args.err.now) (faults c.loop-i.err) c.args.text.now c.loop-i.start c.loop-i.i c.loop-i.invariant
    (contents c.put.new.self) (faults c.put.new.self) 0 c.loop-i-test.true c.in-Some.written.now c.in-Some.ensures
    c.in_err-put.field-0.0 c.from_residual.result (record { contents = c.in_err-put.ensures.contents; cause = c.in_err-put.ensures.cause }) c.from_residual.ensures.0

pub returns-in_err-put-2 : goal.returns-in_err-put-2
returns-in_err-put-2 g c =
    let contents = g.X.Sink.contents in
    let faults = g.X.Sink.faults in
    lost_escape (contents c.args.err.now) (contents c.loop-i.err) (faults c.args.err.now) (faults c.loop-i.err) c.args.text.now c.loop-i.start c.loop-i.i c.loop-i.invariant
    (contents c.put.new.self) (faults c.put.new.self) 0 c.loop-i-test.true c.in-Some.written.now c.in-Some.ensures
    (contents c.put-in-Some.new.self) (faults c.put-in-Some.new.self)
    c.in_err-put-2.field-0.0 c.from_residual-in_err-put-2.result
    (record { contents = c.in_ok-put.ensures.contents; cause = c.in_ok-put.ensures.cause })
    (record { contents = c.in_err-put-2.ensures.contents; cause = c.in_err-put-2.ensures.cause }) c.from_residual-in_err-put-2.ensures.0

pub loop-i-preserved : goal.loop-i-preserved
loop-i-preserved g c =
    let contents = g.X.Sink.contents in
    let faults = g.X.Sink.faults in
    elim c.match-escape_of.branch [
      | in-Some+in_ok-put+in_ok-put-2 w ↦ rw (w.start-is, w.err-is)
          (reached_escape (contents c.args.err.now) (contents c.loop-i.err) (faults c.args.err.now) (faults c.loop-i.err) c.args.text.now c.loop-i.start c.loop-i.i c.loop-i.invariant
          (contents w.put.new.self) (faults w.put.new.self) 0 c.loop-i-test.true w.in-Some.written.now w.in-Some.ensures
          (contents w.put-in-Some.new.self) (faults w.put-in-Some.new.self)
          (record { contents = w.in_ok-put.ensures.contents; cause = w.in_ok-put.ensures.cause })
          (record { contents = w.in_ok-put-2.ensures.contents; cause = w.in_ok-put-2.ensures.cause }))
      | in_default w ↦ rw (w.start-is, w.err-is)
          (reached_plain (contents c.args.err.now) (contents c.loop-i.err) (faults c.args.err.now) (faults c.loop-i.err) c.args.text.now c.loop-i.start c.loop-i.i c.loop-i.invariant
          0 c.loop-i-test.true w.in_default.ensures)
    ]

pub returns : goal.returns
returns g c =
    let contents = g.X.Sink.contents in
    let faults = g.X.Sink.faults in
    let text = c.args.text.now in
    finished (contents c.args.err.now) (contents c.loop-i.err) (faults c.args.err.now) (faults c.loop-i.err) text c.loop-i.start c.loop-i.i c.loop-i.invariant
    (contents c.put-2.new.self) (faults c.put-2.new.self) c.put-2.result c.loop-i-test.false
    (subst (λ (l : List ℕ). IsPut (contents c.loop-i.err) (contents c.put-2.new.self) (faults c.loop-i.err) (faults c.put-2.new.self) l c.put-2.result) (whole_rest c.loop-i.start text)
    (record { contents = c.put-2.ensures.contents; cause = c.put-2.ensures.cause }))
