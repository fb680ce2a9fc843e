use Rattle.std.proofs.Common.{codes, ap, ◌∙◌}
use Rattle.serde_json.specs.View.{view}
use Rattle.metadata_json.specs.Fields.{members_at}
use Rattle.metadata_view.specs.View.{value_in, property_of}
use Rattle.metadata_view.proofs.PropertyLaws.{value_in-members}
use Rattle.table_metadata.proofs.meta.Meta.property.Goals as goal

pub returns : goal.returns
unfolding property_of
returns c =
    let d = view c.self.inside.tree in
    let k = c.args.name.now in
    c.value_of.ensures ∙ ap (value_in k) (c.deref.ensures.value ∙ c.inner.ensures ∙ ap (λ t. t.properties) c.self.invariant.typed)
    ∙ value_in-members k (members_at (codes "properties") d) ∙ ap (λ m. property_of k (view m)) c.self.view_is
