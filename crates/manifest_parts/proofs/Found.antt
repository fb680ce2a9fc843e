-- The fields that are written for a partition, each found first by its own id.
use Rattle.std.proofs.Common.{◌≡◌, ℕ, ℤ, zero, suc, ◌+◌, List, [], ◌∷◌, map, All, Bool, true, false, Option, Some, None, refl, sym, ap, ◌∙◌, subst, arith, if◌then◌else◌}
use Rattle.std.specs.List.{slice_get, AllByRecursion, IsDistinct}
use Rattle.std.specs.Ordering.{int_eq}
use Rattle.std.proofs.lemmas.Bool.Decides.{Decides-int_eq}
use Rattle.avro_schema.specs.declared.schema.Field.{Field}
use Rattle.avro_schema.specs.declared.schema.Schema.{Schema, out-Schema}
use Rattle.avro_schema.specs.declared.schema.Schema.TheOpen.{Schema-F}
use Rattle.avro_schema.specs.declared.schema.Schema.TheVariants.{Null, Union, outs-Null, outs-Union}
use Rattle.schema_types.specs.declared.types.ColType.{out-ColType}
use Rattle.schema_types.specs.declared.types.ColType.TheVariants.{Int}
use Rattle.schema_types.specs.declared.types.PartField.{PartField}
use Rattle.ice_schema.specs.Mapping.{avro_type}
use Rattle.manifest_columns.specs.Faults.{smaller}
use Rattle.manifest_columns.specs.Places.{place_from, place_of, schema_of}
use Rattle.manifest_columns.specs.Shapes.{is_null, in_union, type_of}
use Rattle.manifest_cells.proofs.Back.{conses}
use Rattle.manifest_cells.proofs.InOrder.{same_some}
use Rattle.manifest_files.specs.declared.partition.PartSlot.{PartSlot}
use Rattle.manifest_files.specs.Partitions.{written_parts}
use Rattle.manifest_parts.specs.Parts.{takes_int, fits_type, fits, own_fault, part_fault, is_void, is_long, part_slot, written_part_field}
use Rattle.manifest_parts.specs.Laws.{is_primitive, AreApart, WrittenPartsHaveNoFault, WrittenPartsAreInOrder}
use Rattle.manifest_parts.proofs.Types.{type_fits}

-- another id than that of each field
other : (id : ℤ) (ps : List PartField) (i : ℕ) (p : PartField) → AllByRecursion (λ (y : ℤ). int_eq id y ≡ false) (map (λ (q : PartField). q.field_id) ps) → slice_get ps i ≡ Some p → int_eq id p.field_id ≡ false
other id [] zero p h at = absurd cc
other id [] (suc i) p h at = absurd cc
other id (q ∷ qs) zero p h at = ap (λ (x : PartField). int_eq id x.field_id) (sym (same_some at)) ∙ h.0
other id (q ∷ qs) (suc i) p h at = other id qs i p h.1 at

own_id : (id : ℤ) → int_eq id id ≡ true
own_id id = (Decides-int_eq id id).1 refl

place_found : (n : ℕ) (ps : List PartField) (i : ℕ) (p : PartField) → AreApart ps → slice_get ps i ≡ Some p → place_from n p.field_id (map written_part_field ps) ≡ Some (n + i)
unfolding IsDistinct
place_found n [] zero p apart at = absurd cc
place_found n [] (suc i) p apart at = absurd cc
place_found n (q ∷ qs) zero p apart at =
    let here : n ≡ n + 0 = omega arith in
    ap (λ (x : PartField). place_from n x.field_id (map written_part_field (q ∷ qs))) (sym (same_some at))
    ∙ ap (λ (b : Bool). if b then Some n else place_from (n + 1) q.field_id (map written_part_field qs)) (own_id q.field_id)
    ∙ ap (λ (k : ℕ). Some k) here
place_found n (q ∷ qs) (suc i) p apart at =
    let there : n + 1 + i ≡ n + suc i = omega arith in
    ap (λ (b : Bool). if b then Some n else place_from (n + 1) p.field_id (map written_part_field qs)) (other q.field_id qs i p apart.0 at)
    ∙ place_found (n + 1) qs i p apart.1 at
    ∙ ap (λ (k : ℕ). Some k) there

schema_found : (ps : List PartField) (i : ℕ) (p : PartField) → AreApart ps → slice_get ps i ≡ Some p → schema_of p.field_id (map written_part_field ps) ≡ Some ((written_part_field p).schema)
unfolding IsDistinct
schema_found [] zero p apart at = absurd cc
schema_found [] (suc i) p apart at = absurd cc
schema_found (q ∷ qs) zero p apart at =
    ap (λ (x : PartField). schema_of x.field_id (map written_part_field (q ∷ qs))) (sym (same_some at))
    ∙ ap (λ (b : Bool). if b then Some ((written_part_field q).schema) else schema_of q.field_id (map written_part_field qs)) (own_id q.field_id)
    ∙ ap (λ (x : PartField). Some ((written_part_field x).schema)) (same_some at)
schema_found (q ∷ qs) (suc i) p apart at =
    ap (λ (b : Bool). if b then Some ((written_part_field q).schema) else schema_of p.field_id (map written_part_field qs)) (other q.field_id qs i p apart.0 at)
    ∙ schema_found qs i p apart.1 at

-- the slot of a field that is found there
slot_at : PartField → Option ℕ → PartSlot
slot_at p place = record { place = place; is_void = is_void p.transform; is_long = is_long (out-ColType p.ty) }

slots_in_order : (written fs : List Field) (n : ℕ) (ps : List PartField) → ((i : ℕ) (p : PartField) → slice_get ps i ≡ Some p → place_of p.field_id written ≡ Some (n + i)) → map (part_slot written) ps ≡ written_parts n (map (part_slot fs) ps)
unfolding slot_at
slots_in_order written fs n [] h = refl
slots_in_order written fs n (p ∷ ps) h =
    let here : n + 0 ≡ n = omega arith in
    conses (ap (slot_at p) (h 0 p refl ∙ ap (λ (k : ℕ). Some k) here)) (slots_in_order written fs (suc n) ps (λ i q at. let next : n + suc i ≡ suc n + i = omega arith in h (suc i) q at ∙ ap (λ (k : ℕ). Some k) next))

pub in_order : WrittenPartsAreInOrder
in_order ps fs apart = slots_in_order (map written_part_field ps) fs 0 ps (λ i p at. place_found 0 ps i p apart at)

-- the type beside null, where null is written first
beside : (s : Schema) → type_of true (Union (Null ∷ s ∷ [])) ≡ Some s
beside s =
    ap in_union (outs-Union (Null ∷ s ∷ []))
    ∙ ap (λ (t : Schema-F Schema Field). if is_null t then Some s else (if is_null (out-Schema s) then Some Null else None)) outs-Null

-- a field that is written has no fault
no_own : (p : PartField) → is_primitive (out-ColType p.ty) ≡ true → own_fault p (Some ((written_part_field p).schema)) ≡ None
no_own p primitive =
    let s : Schema = avro_type p.ty p.field_id in
    ap (λ (o : Option Schema). if fits p o then None else Some p.field_id) (beside s)
    ∙ ap (λ (b : Bool). if (if b then true else (if takes_int p.transform then fits_type Int s else false)) then None else Some p.field_id) (type_fits p.ty primitive p.field_id)

none_of_all : (written : List Field) (ps : List PartField) → ((i : ℕ) (p : PartField) → slice_get ps i ≡ Some p → own_fault p (schema_of p.field_id written) ≡ None) → part_fault None ps written ≡ None
none_of_all written [] h = refl
none_of_all written (p ∷ ps) h = ap (λ (o : Option ℤ). part_fault (smaller None o) ps written) (h 0 p refl) ∙ none_of_all written ps (λ i q at. h (suc i) q at)

each_holds : (Q : PartField → Type 0) (ps : List PartField) (i : ℕ) (p : PartField) → All Q ps → slice_get ps i ≡ Some p → Q p
each_holds Q [] zero p all at = absurd cc
each_holds Q [] (suc i) p all at = absurd cc
each_holds Q (q ∷ qs) zero p all at = subst Q (same_some at) (all 0 p (omega arith))
each_holds Q (q ∷ qs) (suc i) p all at = each_holds Q qs i p (λ k d within. all (suc k) d (omega arith)) at

pub no_fault : WrittenPartsHaveNoFault
no_fault ps apart primitive = none_of_all (map written_part_field ps) ps (λ i p at. ap (own_fault p) (schema_found ps i p apart at) ∙ no_own p (each_holds (λ (q : PartField). is_primitive (out-ColType q.ty) ≡ true) ps i p primitive at))
