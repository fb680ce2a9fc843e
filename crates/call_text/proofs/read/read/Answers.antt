use Rattle.std.proofs.Common.{◌≡◌, ◌∙◌, sym, ap, arith, length, Bor, List, ℕ, ◌-◌, rules, Some, refl}
use Rattle.std.specs.Option.{option_map}
use Rattle.call_text.specs.declared.state.State.{State}
use Rattle.call_text.specs.Steps.{token_step}
use Rattle.call_text.proofs.Reading.{begin_reached, step_reached, step_shorter, no_step, no_end, at_end}
use Rattle.call_text.proofs.Unambiguous.{bad_place}
use Rattle.call_text.proofs.read.read.Goals as goal

abbrev seen : State × Bor (List ℕ) → State × List ℕ
seen x = (x.0, x.1.now)

moved : (c : goal.In-Some) → token_step c.loop-rest.state c.loop-rest.rest.now ≡ Some (c.in-Some.next, c.in-Some.after.now)
moved c = sym c.in_ok-next.ensures ∙ ap (option_map seen) c.in-Some.is

pub loop-rest-init : goal.loop-rest-init
loop-rest-init c = begin_reached c.args.bytes.now c.past_blanks-rest.result.now c.past_blanks-rest.ensures.value

pub loop-rest-smaller : goal.loop-rest-smaller
loop-rest-smaller c = step_shorter c.loop-rest.state c.loop-rest.rest.now c.in-Some.next c.in-Some.after.now (moved c)

pub loop-rest-preserved : goal.loop-rest-preserved
loop-rest-preserved c = step_reached c.args.bytes.now c.loop-rest.state c.loop-rest.rest.now c.in-Some.next c.in-Some.after.now c.loop-rest.invariant (moved c)

pub returns-in-None-clause-bad : goal.returns-in-None-clause-bad
returns-in-None-clause-bad c = λ at e.
    bad_place (length c.args.bytes.now - length c.loop-rest.rest.now) at c.args.bytes.now e
    (no_step c.args.bytes.now c.loop-rest.state c.loop-rest.rest.now (length c.args.bytes.now - length c.loop-rest.rest.now) c.loop-rest.invariant (search rules) (omega (arith, c.loop-rest.invariant.within)) (sym c.in_ok-next.ensures ∙ ap (option_map seen) c.in-None.is))

pub returns-in-Some-finish-clause-ok : goal.returns-in-Some-finish-clause-ok
returns-in-Some-finish-clause-ok c = at_end c.args.bytes.now c.loop-rest.state c.loop-rest.rest.now c.in-Some-finish.call c.loop-rest.invariant (search rules) (sym c.finish.ensures ∙ c.in-Some-finish.is)

pub returns-in-None-finish-clause-bad : goal.returns-in-None-finish-clause-bad
returns-in-None-finish-clause-bad c = λ at e.
    bad_place (length c.args.bytes.now) at c.args.bytes.now e
    (no_end c.args.bytes.now c.loop-rest.state c.loop-rest.rest.now (length c.args.bytes.now) c.loop-rest.invariant (search rules) refl (sym c.finish.ensures ∙ c.in-None-finish.is))
