use Rattle.std.proofs.Common.{◌≡◌, ap, ◌∙◌}
use Rattle.std.proofs.lemmas.Result.{IfOk-weaker}
use Rattle.serde_json.specs.Find.{get}
use Rattle.serde_json.specs.View.{view}
use Rattle.table_metadata.proofs.EditLaws.{stays-without}
use Rattle.table_metadata.proofs.meta.Meta.without_snapshots.Goals as goal

pub returns-clause-stays : goal.returns-clause-stays
returns-clause-stays c =
    let d = view c.in_ok-copy.copy in
    let copy : d ≡ view c.args.self.now = c.in_ok-copy.ensures ∙ ap view c.self.view_is in
    IfOk-weaker c.without_snapshots.result _ _ (λ m e. λ q h. ap (get q) e ∙ stays-without c.args.ids.now c.args.refs.now d q h ∙ ap (get q) copy) c.without_snapshots.ensures
