use Rattle.std.proofs.Common.{map, length, ap, ◌∙◌}
use Rattle.metadata_view.specs.Steps.{steps_from, first_some}
use Rattle.metadata_view.proofs.StepLaws.{first_return-steps}
use Rattle.metadata_view.proofs.steps.first_return.Goals as goal

pub returns : goal.returns
returns c =
    let ss = c.args.snapshots.now in
    c.first_some.ensures ∙ ap (first_some 0) (c.deref.ensures.value ∙ c.in_ok-ends.ensures ∙ ap (λ t. map (steps_from t (length ss)) t) c.in_ok-table.ensures) ∙ first_return-steps ss
