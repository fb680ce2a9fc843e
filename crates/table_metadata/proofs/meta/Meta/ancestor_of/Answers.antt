use Rattle.std.proofs.Common.{◌≡◌, List, Some, length, ◌+◌, FitsSigned, w64, ap, ◌∙◌}
use Rattle.std.proofs.lemmas.Int.{to_z-of_z}
use Rattle.serde_json.specs.View.{view}
use Rattle.metadata_view.specs.View.{snapshots_of}
use Rattle.metadata_view.specs.Walk.{walk, has_id}
use Rattle.metadata_view.specs.declared.types.Snapshot.{Snapshot}
use Rattle.metadata_view.proofs.SoundLaws.{sound}
use Rattle.metadata_view.proofs.WalkLaws.{is_walk, ancestor-if}
use Rattle.table_metadata.proofs.meta.Meta.ancestor_of.Goals as goal

pub returns : goal.returns
returns c =
    let fits : FitsSigned w64 c.args.id = c.ranges.id in
    let fits_of : FitsSigned w64 c.args.of = c.ranges.of in
    let ss = snapshots_of (view c.self.inside.tree) in
    let same : c.deref.result.now ≡ ss = c.deref.ensures.value ∙ c.inner.ensures ∙ ap (λ t. t.snapshots) c.self.invariant.typed in
    let found : c.on_walk.result ≡ has_id c.args.id (walk ss (length ss + 1) (Some c.args.of)) = (simp to_z-of_z at c.on_walk.ensures) ∙ ap (λ (xs : List Snapshot). has_id c.args.id (walk xs (length xs + 1) (Some c.args.of))) same in
    rw (← c.self.view_is) (ancestor-if ss c.args.id c.args.of c.on_walk.result _ (is_walk ss c.args.of (sound _ c.self.invariant.sound).walks) found)
