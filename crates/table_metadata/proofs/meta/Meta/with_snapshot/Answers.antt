use Rattle.std.proofs.Common.{◌≡◌, ◌++◌, ◌∷◌, [], ap, ◌∙◌}
use Rattle.std.proofs.lemmas.Result.{IfOk-weaker}
use Rattle.serde_json.specs.Find.{get}
use Rattle.serde_json.specs.View.{view}
use Rattle.metadata_form.proofs.FormLaws.{fits_i64}
use Rattle.metadata_view.specs.View.{snapshots_of}
use Rattle.metadata_snapshots.proofs.AddedLaws.{FitsFields}
use Rattle.table_metadata.proofs.EditLaws.{stays-with_snapshot, snapshots-with_snapshot, fits-in}
use Rattle.table_metadata.proofs.meta.Meta.with_snapshot.Goals as goal

pub returns-clause-snapshots : goal.returns-clause-snapshots
returns-clause-snapshots c =
    let d = view c.in_ok-copy.copy in
    let s = c.args.snapshot.now in
    let n = c.numbers_fit.ensures in
    let fits : FitsFields s =
    record { id = fits_i64 s.id n.id; sequence = fits_i64 s.sequence n.sequence; parent = fits-in s.parent n.parent; schema_fits = fits-in s.schema_id n.schema; schema_id = c.requires.schema; ms = c.requires.made } in
    let copy : d ≡ view c.args.self.now = c.in_ok-copy.ensures ∙ ap view c.self.view_is in
    IfOk-weaker c.with_snapshot.result _ _ (λ m e. ap snapshots_of e ∙ snapshots-with_snapshot s c.args.summary.now c.args.ms d fits ∙ ap (λ x. snapshots_of x ++ s ∷ []) copy) c.with_snapshot.ensures

pub returns-clause-stays : goal.returns-clause-stays
returns-clause-stays c =
    let d = view c.in_ok-copy.copy in
    let copy : d ≡ view c.args.self.now = c.in_ok-copy.ensures ∙ ap view c.self.view_is in
    IfOk-weaker c.with_snapshot.result _ _ (λ m e. λ q h. ap (get q) e ∙ stays-with_snapshot c.args.snapshot.now c.args.summary.now c.args.ms d q h ∙ ap (get q) copy) c.with_snapshot.ensures
