use Rattle.std.proofs.Common.{◌≡◌, Some, None, ap, ◌∙◌, subst}
use Rattle.serde_json.specs.View.{view}
use Rattle.metadata_view.specs.Index.{IsIndexed, first_double}
use Rattle.metadata_view.specs.View.{snapshots_of}
use Rattle.metadata_view.proofs.SoundLaws.{sound}
use Rattle.table_metadata.proofs.meta.meta_of.Goals as goal

pub unreachable-requires : goal.unreachable-requires
unreachable-requires c =
    let d = view c.args.tree in
    let ss = c.deref.result.now in
    let same : ss ≡ snapshots_of d = c.deref.ensures.value ∙ c.inner.ensures ∙ ap (λ t. t.snapshots) c.in_ok-typed.ensures.typed in
    let none : first_double ss ≡ None = ap first_double same ∙ (sound d c.requires.sound).ids in
    let some : first_double ss ≡ Some c.in-Double.field-0 = subst (IsIndexed ss) c.in-Double.is c.in_ok-index.ensures in
    absurd (cc)
