use Rattle.std.proofs.Common.{◌≡◌, ap, subst, ◌∙◌}
use Rattle.std.proofs.lemmas.Result.{IfOk-weaker}
use Rattle.serde_json.specs.View.{view}
use Rattle.serde_json.specs.Written.{compact_text}
use Rattle.table_metadata.specs.Edits.{next_version, next_keeping, kept_versions, version_limit}
use Rattle.table_metadata.specs.Spelling.{Spells}
use Rattle.table_metadata.proofs.meta.Meta.into_next_version_bytes.Goals as goal

pub returns-clause-text : goal.returns-clause-text
unfolding next_version
returns-clause-text c =
    let file = c.args.previous.now in
    let ms = c.args.ms in
    let next : view c.in_ok-tree.tree ≡ next_version file ms (view c.args.self) = c.in_ok-tree.ensures.tree ∙ ap (λ n. next_keeping n file ms (view c.into_tree.result)) c.kept_versions-most.ensures.value
    ∙ ap (next_keeping (kept_versions (version_limit (view c.args.self))) file ms) c.into_tree.ensures.tree in
    IfOk-weaker c.written.result _ _ (λ b e. e ∙ ap compact_text next) c.written.ensures.text

pub returns-clause-spells : goal.returns-clause-spells
unfolding next_version
returns-clause-spells c =
    let file = c.args.previous.now in
    let ms = c.args.ms in
    let next : view c.in_ok-tree.tree ≡ next_version file ms (view c.args.self) = c.in_ok-tree.ensures.tree ∙ ap (λ n. next_keeping n file ms (view c.into_tree.result)) c.kept_versions-most.ensures.value
    ∙ ap (next_keeping (kept_versions (version_limit (view c.args.self))) file ms) c.into_tree.ensures.tree in
    IfOk-weaker c.written.result _ _ (λ b s. subst (λ d. Spells b d) next s) c.written.ensures.spells
