use Rattle.std.proofs.Common.{◌≡◌, ap, ◌∙◌}
use Rattle.std.proofs.lemmas.Result.{IfOk-weaker}
use Rattle.serde_json.specs.View.{view}
use Rattle.serde_json.specs.Find.{get}
use Rattle.table_metadata.specs.Edits.{next_version, next_keeping, kept_versions, version_limit}
use Rattle.table_metadata.proofs.EditLaws.{stays-next}
use Rattle.table_metadata.proofs.meta.Meta.next_version.Goals as goal

pub returns-clause-ok : goal.returns-clause-ok
unfolding next_version
returns-clause-ok c =
    let file = c.args.previous.now in
    let ms = c.args.ms in
    let d = view c.args.self.now in
    let copy : view c.in_ok-copy.copy ≡ d = c.in_ok-copy.ensures ∙ ap view c.self.view_is in
    IfOk-weaker c.meta_of.result _ _ (λ m e. ap view e ∙ c.in_ok-tree.ensures.tree ∙ ap (λ n. next_keeping n file ms (view c.in_ok-copy.copy)) c.kept_versions-most.ensures.value
    ∙ ap (next_keeping (kept_versions (version_limit d)) file ms) copy) c.meta_of.ensures

pub returns-clause-stays : goal.returns-clause-stays
returns-clause-stays c =
    let copy : view c.in_ok-copy.copy ≡ view c.args.self.now = c.in_ok-copy.ensures ∙ ap view c.self.view_is in
    IfOk-weaker c.meta_of.result _ _ (λ m e. λ q u l. ap (λ x. get q (view x)) e ∙ ap (get q) c.in_ok-tree.ensures.tree ∙ stays-next c.args.previous.now _ c.args.ms (view c.in_ok-copy.copy) q u l ∙ ap (get q) copy) c.meta_of.ensures
