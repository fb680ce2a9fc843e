use Rattle.std.proofs.Common.{◌≡◌, FitsSigned, w64, ap, ◌∙◌}
use Rattle.std.proofs.lemmas.Int.{to_z-of_z}
use Rattle.serde_json.specs.View.{view}
use Rattle.serde_json.specs.Find.{get}
use Rattle.table_metadata.proofs.EditLaws.{stays-with_ref}
use Rattle.table_metadata.proofs.meta.Meta.with_ref.Goals as goal

pub returns-clause-stays : goal.returns-clause-stays
returns-clause-stays c =
    let fits : FitsSigned w64 c.args.id = c.ranges.id in
    let copy : view c.in_ok-copy.copy ≡ view c.args.self.now = c.in_ok-copy.ensures ∙ ap view c.self.view_is in
    let moved = simp to_z-of_z at c.in_ok-with_ref.ensures in
    λ q r k l. ap (get q) moved ∙ stays-with_ref c.args.name.now c.args.id c.args.ms (view c.in_ok-copy.copy) q r k l ∙ ap (get q) copy
