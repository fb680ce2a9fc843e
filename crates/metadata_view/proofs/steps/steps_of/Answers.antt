use Rattle.std.proofs.Common.{◌≡◌, ◌%◌, map, arith, ap, ◌∙◌, sym}
use Rattle.metadata_view.specs.Steps.{step_from, steps_from}
use Rattle.metadata_view.proofs.StepLaws.{step_even, step_odd, steps-zero}
use Rattle.metadata_view.proofs.steps.steps_of.Goals as goal
use Rattle.metadata_view.proofs.steps.steps_of.Goals.{then-left-eq1+in_ok-places-2, else-left-eq1}

pub loop-left-preserved : goal.loop-left-preserved
loop-left-preserved c =
    let steps = c.loop-left.steps.items in
    let two : c.in_ok-steps.steps.items ≡ map (step_from steps) steps =
    c.in_ok-steps.ensures ∙ ap (λ ts. map (step_from ts) c.deref-in-loop-left-2.result.now) c.deref-in-loop-left.ensures.value ∙ ap (map (step_from steps)) c.deref-in-loop-left-2.ensures.value in
    elim c.if-left-eq1.branch [
      | then-left-eq1+in_ok-places-2 w ↦ let more : c.if-left-eq1.places.items ≡ map (step_from steps) c.loop-left.places.items =
          ap (λ v. v.items) w.places-is ∙ w.in_ok-places-2.ensures ∙ ap (λ ts. map (step_from ts) w.deref-then-left-eq1-2.result.now) w.deref-then-left-eq1.ensures.value ∙ ap (map (step_from steps)) w.deref-then-left-eq1-2.ensures.value in
          step_odd _ _ _ _ _ c.loop-left.left two more w.if-left-eq1.true c.loop-left.invariant
      | else-left-eq1 w ↦ let even : c.loop-left.left % 2 ≡ 0 = omega arith in
          step_even _ _ _ _ c.loop-left.left two even (ap (λ v. map (steps_from steps c.loop-left.left) v.items) w.places-is ∙ c.loop-left.invariant)
    ]

pub returns : goal.returns
returns c =
    let none_left : c.loop-left.left ≡ 0 = omega arith in
    let steps = c.loop-left.steps.items in
    sym (steps-zero steps c.loop-left.places.items) ∙ ap (λ k. map (steps_from steps k) c.loop-left.places.items) (sym none_left) ∙ c.loop-left.invariant
