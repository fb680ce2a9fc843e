use Rattle.std.proofs.Common.{is_some, ap, ◌∙◌}
use Rattle.serde_json.specs.View.{view}
use Rattle.metadata_form.proofs.FormLaws.{is_some-copied}
use Rattle.metadata_view.proofs.SoundLaws.{sound, has_specs_tree}
use Rattle.table_metadata.proofs.meta.Meta.specs_tree.Goals as goal

pub unwrap-requires : goal.unwrap-requires
unwrap-requires c =
    let d = view c.self.inside.tree in
    is_some-copied c.get.result ∙ ap is_some c.get.ensures ∙ has_specs_tree d (sound d c.self.invariant.sound)
