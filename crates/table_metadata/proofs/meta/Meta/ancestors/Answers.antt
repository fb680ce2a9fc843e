use Rattle.std.proofs.Common.{◌≡◌, List, ℤ, Some, length, ◌+◌, FitsSigned, w64, sym, ap, ◌∙◌, subst}
use Rattle.std.proofs.lemmas.Int.{to_z-of_z}
use Rattle.serde_json.specs.View.{view}
use Rattle.metadata_view.specs.View.{snapshots_of}
use Rattle.metadata_view.specs.Walk.{IsWalk, walk}
use Rattle.metadata_view.specs.declared.types.Snapshot.{Snapshot}
use Rattle.metadata_view.proofs.SoundLaws.{sound}
use Rattle.metadata_view.proofs.WalkLaws.{is_walk}
use Rattle.table_metadata.proofs.meta.Meta.ancestors.Goals as goal

pub returns : goal.returns
returns c =
    let fits : FitsSigned w64 c.args.id = c.ranges.id in
    let ss = snapshots_of (view c.self.inside.tree) in
    let same : c.deref.result.now ≡ ss = c.deref.ensures.value ∙ c.inner.ensures ∙ ap (λ t. t.snapshots) c.self.invariant.typed in
    let found : c.new.result ≡ walk ss (length ss + 1) (Some c.args.id) = c.new.ensures ∙ (simp to_z-of_z at c.in_ok-ids.ensures) ∙ ap (λ (xs : List Snapshot). walk xs (length xs + 1) (Some c.args.id)) same in
    rw (← c.self.view_is) (subst (λ (ids : List ℤ). IsWalk ss (Some c.args.id) ids) (sym found) (is_walk ss c.args.id (sound _ c.self.invariant.sound).walks))
