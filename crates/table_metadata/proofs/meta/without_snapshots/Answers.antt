use Rattle.std.proofs.Common.{◌≡◌, ap, ◌∙◌}
use Rattle.serde_json.specs.View.{view}
use Rattle.metadata_view.proofs.SoundLaws.{sound, no_fault}
use Rattle.metadata_snapshots.specs.Edits.{without_snapshots}
use Rattle.metadata_snapshots.proofs.TakenLaws.{sound-without, shallow-without}
use Rattle.table_metadata.proofs.meta.without_snapshots.Goals as goal

pub meta_of-requires-clause-sound : goal.meta_of-requires-clause-sound
meta_of-requires-clause-sound c =
    let d = view c.args.tree in
    let ids = c.as_slice.ensures.value ∙ c.inner.ensures in
    let refs = c.as_slice-2.ensures.value ∙ c.inner-2.ensures in
    let tree : view c.in_ok-tree.tree ≡ without_snapshots c.args.ids.now c.args.refs.now d =
    c.in_ok-tree.ensures ∙ ap (λ x. without_snapshots x c.as_slice-2.result.now d) ids ∙ ap (λ x. without_snapshots c.args.ids.now x d) refs in
    rw tree (no_fault _ (sound-without c.args.ids.now c.args.refs.now d c.requires.whole.main c.requires.whole.current c.requires.whole.whole (sound d c.requires.sound) c.requires.shallow))

pub meta_of-requires-clause-shallow : goal.meta_of-requires-clause-shallow
meta_of-requires-clause-shallow c =
    let d = view c.args.tree in
    let ids = c.as_slice.ensures.value ∙ c.inner.ensures in
    let refs = c.as_slice-2.ensures.value ∙ c.inner-2.ensures in
    let tree : view c.in_ok-tree.tree ≡ without_snapshots c.args.ids.now c.args.refs.now d =
    c.in_ok-tree.ensures ∙ ap (λ x. without_snapshots x c.as_slice-2.result.now d) ids ∙ ap (λ x. without_snapshots c.args.ids.now x d) refs in
    rw tree (shallow-without c.args.ids.now c.args.refs.now d c.requires.whole.main (sound d c.requires.sound) c.requires.shallow)
