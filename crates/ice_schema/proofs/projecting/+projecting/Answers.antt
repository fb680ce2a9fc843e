use Rattle.std.proofs.Common.{◌≡◌, Some, None, IfOk, sym, subst, ◌∙◌, w32}
use Rattle.std.proofs.lemmas.Int.{to_z-of_z}
use Rattle.std.specs.List.{position_or_len}
use Rattle.ice_schema.specs.Kinds.{has_id}
use Rattle.ice_schema.specs.Projections.{type_projection}
use Rattle.ice_schema.proofs.FieldLookup.{field_at}
use Rattle.ice_schema.proofs.projecting.+projecting.Goals as goal

pub project_field-returns-in-Some : goal.project_field-returns-in-Some
project_field-returns-in-Some t c =
    let xs = c.args.fields.now in
    let n = c.place_of-place.result in
    let place : n ≡ position_or_len (has_id c.args.id) xs = subst (λ id. n ≡ position_or_len (has_id id) xs) (to_z-of_z w32 c.args.id c.ranges.id) c.place_of-place.ensures in
    let found = field_at c.args.id c.args.required (type_projection c.args.ty.now) xs n (Some c.in-Some.field.now) place c.in-Some.ensures in
    subst (λ x. IfOk c.project_present.result (λ s. s ≡ x)) (sym found) c.project_present.ensures

pub project_field-returns-in-None : goal.project_field-returns-in-None
project_field-returns-in-None t c =
    let xs = c.args.fields.now in
    let n = c.place_of-place.result in
    let place : n ≡ position_or_len (has_id c.args.id) xs = subst (λ id. n ≡ position_or_len (has_id id) xs) (to_z-of_z w32 c.args.id c.ranges.id) c.place_of-place.ensures in
    c.absent.ensures ∙ sym (field_at c.args.id c.args.required (type_projection c.args.ty.now) xs n None place c.in-None.ensures)
