use Rattle.std.proofs.Common.{◌≡◌, ap, ◌∙◌}
use Rattle.serde_json.specs.View.{view}
use Rattle.metadata_form.proofs.FormLaws.{fits_i64}
use Rattle.metadata_view.proofs.SoundLaws.{sound, no_fault}
use Rattle.metadata_snapshots.proofs.AddedLaws.{FitsFields}
use Rattle.table_metadata.specs.Edits.{with_snapshot}
use Rattle.table_metadata.proofs.EditLaws.{sound-with_snapshot, shallow-with_snapshot, fits-in}
use Rattle.table_metadata.proofs.meta.with_snapshot.Goals as goal

pub meta_of-requires-clause-sound : goal.meta_of-requires-clause-sound
meta_of-requires-clause-sound c =
    let d = view c.args.tree in
    let s = c.args.snapshot.now in
    let n = c.numbers_fit.ensures in
    let fits : FitsFields s =
    record { id = fits_i64 s.id n.id; sequence = fits_i64 s.sequence n.sequence; parent = fits-in s.parent n.parent; schema_fits = fits-in s.schema_id n.schema; schema_id = c.requires.schema; ms = c.requires.made } in
    let tree : view c.in_ok-tree.tree ≡ with_snapshot s c.args.summary.now c.args.ms d = c.in_ok-tree.ensures ∙ ap (λ t. with_snapshot s t c.args.ms d) (c.as_slice.ensures.value ∙ c.inner.ensures) in
    rw tree (no_fault _ (sound-with_snapshot s c.args.summary.now c.args.ms d fits c.requires.id c.requires.parent (sound d c.requires.sound) c.requires.shallow c.requires.moment))

pub meta_of-requires-clause-shallow : goal.meta_of-requires-clause-shallow
meta_of-requires-clause-shallow c =
    let d = view c.args.tree in
    let s = c.args.snapshot.now in
    let n = c.numbers_fit.ensures in
    let fits : FitsFields s =
    record { id = fits_i64 s.id n.id; sequence = fits_i64 s.sequence n.sequence; parent = fits-in s.parent n.parent; schema_fits = fits-in s.schema_id n.schema; schema_id = c.requires.schema; ms = c.requires.made } in
    let tree : view c.in_ok-tree.tree ≡ with_snapshot s c.args.summary.now c.args.ms d = c.in_ok-tree.ensures ∙ ap (λ t. with_snapshot s t c.args.ms d) (c.as_slice.ensures.value ∙ c.inner.ensures) in
    rw tree (shallow-with_snapshot s c.args.summary.now c.args.ms d fits c.requires.id c.requires.parent (sound d c.requires.sound) c.requires.shallow)
