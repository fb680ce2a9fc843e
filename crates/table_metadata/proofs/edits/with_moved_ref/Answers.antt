use Rattle.std.proofs.Common.{◌≡◌, Option, Some, None, unwrap_or, codes, FitsSigned, w64, refl, ap, ◌∙◌}
use Rattle.std.proofs.lemmas.Int.{to_z-of_z}
use Rattle.std.proofs.lemmas.Result.{IfOk-weaker}
use Rattle.serde_json.specs.Data.{Data, null, object}
use Rattle.serde_json.specs.Find.{get}
use Rattle.serde_json.specs.View.{view}
use Rattle.metadata_json.specs.Edits.{set, object_at}
use Rattle.metadata_json.specs.Fields.{members_in}
use Rattle.table_metadata.specs.Edits.{moved_ref, with_moved_ref}
use Rattle.table_metadata.proofs.edits.with_moved_ref.Goals as goal

members-taken : (o : Option Data) → members_in (Some (unwrap_or o null)) ≡ members_in o
members-taken None = refl
members-taken (Some d) = refl

pub returns : goal.returns
unfolding with_moved_ref object_at
returns c =
    let fits : FitsSigned w64 c.args.id = c.ranges.id in
    let d = view c.args.tree in
    let name = c.args.name.now in
    let moved = simp to_z-of_z at c.in_ok-refs.ensures in
    let refs : view c.object_or_empty.result ≡ object_at (codes "refs") d = c.object_or_empty.ensures ∙ ap (λ v. object (members_in (Some v))) c.in_ok-rest.ensures.value ∙ ap object (members-taken (get (codes "refs") d)) in
    IfOk-weaker c.set.result _ _ (λ v e. e ∙ c.in_ok-rest.ensures.rest _ ∙ ap (λ x. set (codes "refs") x d) (moved ∙ ap (λ r. set name (moved_ref c.args.id (get name r)) r) refs)) c.set.ensures
