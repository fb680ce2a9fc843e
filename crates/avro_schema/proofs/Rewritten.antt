-- The tree that is written for a schema spells that schema.
use Rattle.std.proofs.Common.{◌≡◌, ℕ, zero, suc, ◌<◌, ◌≤◌, List, [], ◌∷◌, ◌++◌, map, codes, ℤ, Bool, true, false, cond, Option, Some, None, is_some, inl, inr, refl, sym, ap, subst, ◌∙◌, arith, append_assoc, rules}
use Rattle.std.specs.Str.{bytes_eq}
use Rattle.serde_json.specs.Data.{Data, string, array, Items}
use Rattle.serde_json.specs.Data as json
use Rattle.serde_json.specs.View.{items_of}
use Rattle.avro_schema.specs.declared.known.Known.TheVariants.{Open, Defined}
use Rattle.avro_schema.specs.declared.schema.Field.{Field}
use Rattle.avro_schema.specs.declared.schema.Logical.{Logical}
use Rattle.avro_schema.specs.declared.schema.Schema.{Schema, the_lemmas}
use Rattle.avro_schema.specs.declared.schema.Schema.TheOpen.{Schema-F}
use Rattle.avro_schema.specs.declared.schema.Schema.TheVariants.{Null, Bool as Boolean, Int, Long, Float4, Float8, Blob, Str, Fix, Choice, List as Array, Pairs, Fields, Union, outs-Int, outs-Long, outs-Blob, outs-Str, outs-Fix, outs-Choice, outs-List, outs-Pairs, outs-Fields}
use Rattle.avro_schema.specs.Attribute.{text_at, id_at}
use Rattle.avro_schema.specs.Form as form
use Rattle.avro_schema.specs.Form.{Form, Forms, form_of, field_form, forms_of, depth, deepest, width}
use Rattle.avro_schema.specs.Logical.{int_logical, long_logical, bytes_logical, string_logical}
use Rattle.avro_schema.specs.Names.{Names, find, define}
use Rattle.avro_schema.specs.Primitive.{primitive, is_primitive}
use Rattle.avro_schema.specs.Spelling.{Tells, IsNewName, SpellsEach, SpellsField, SpellsLevel, a_primitive, a_reference, a_union, an_array, a_map, a_fixed, an_enum, a_record, SpellsWithin, SpellsSchema}
use Rattle.avro_schema.specs.Writable.{IsName, IsId, HaveIds, IsSoundLayer, IsSound, name_in, name_of, IsIn, itself, item, value, field, branch, IsWritable, GoesWithInt, GoesWithLong, GoesWithBytes, GoesWithString}
use Rattle.avro_schema.specs.Writing.{is_written, with_name, Writes, once, written_each, written_type, written_field, written_schema, primitive_tree, fixed_tree, choice_tree, array_tree, map_tree, record_tree, field_tree}
use Rattle.avro_schema.proofs.FormLaws.{form-Array, form-Pairs, form-Fields, form-Union, form-field}
use Rattle.avro_schema.proofs.KindLaws.{Kind, kind_of, is_null, is_boolean, is_int, is_long, is_float4, is_float8, is_blob, is_str, is_fixed, is_choice, is_array, is_pairs, is_fields, is_union}
use Rattle.avro_schema.proofs.NameLaws.{last_part-plain, find-define, find-define_other, is_written-with_name, is_written-other, text_cases}
use Rattle.avro_schema.proofs.ReadBack.{IsPrimitiveTree, int_tree, long_tree, bytes_tree, string_tree, fixed_again, choice_again, record_again, array_again, map_again, field_again}
use Rattle.avro_schema.proofs.WriteLists.{field-written}

-- What is written for each kind.

written-Null : (ns : List (List ℕ)) → written_type Null ns ≡ (string (codes "null"), ns)
written-Null ns = search (rules, the_lemmas)

written-Boolean : (ns : List (List ℕ)) → written_type Boolean ns ≡ (string (codes "boolean"), ns)
written-Boolean ns = search (rules, the_lemmas)

written-Int : (l : Logical) (ns : List (List ℕ)) → written_type (Int l) ns ≡ (primitive_tree (codes "int") l, ns)
written-Int l ns = search (rules, the_lemmas)

written-Long : (l : Logical) (ns : List (List ℕ)) → written_type (Long l) ns ≡ (primitive_tree (codes "long") l, ns)
written-Long l ns = search (rules, the_lemmas)

written-Float4 : (ns : List (List ℕ)) → written_type Float4 ns ≡ (string (codes "float"), ns)
written-Float4 ns = search (rules, the_lemmas)

written-Float8 : (ns : List (List ℕ)) → written_type Float8 ns ≡ (string (codes "double"), ns)
written-Float8 ns = search (rules, the_lemmas)

written-Blob : (l : Logical) (ns : List (List ℕ)) → written_type (Blob l) ns ≡ (primitive_tree (codes "bytes") l, ns)
written-Blob l ns = search (rules, the_lemmas)

written-Str : (l : Logical) (ns : List (List ℕ)) → written_type (Str l) ns ≡ (primitive_tree (codes "string") l, ns)
written-Str l ns = search (rules, the_lemmas)

written-Fix : (name : List ℕ) (size : ℕ) (l : Logical) (ns : List (List ℕ)) → written_type (Fix name size l) ns ≡ once name (λ ms. (fixed_tree name size l, ms)) ns
written-Fix name size l ns = search (rules, the_lemmas)

written-Choice : (name : List ℕ) (symbols : List (List ℕ)) (ns : List (List ℕ)) → written_type (Choice name symbols) ns ≡ once name (λ ms. (choice_tree name symbols, ms)) ns
written-Choice name symbols ns = search (rules, the_lemmas)

written-Array : (t : Schema) (id : Option ℤ) (m : Bool) (ns : List (List ℕ)) → written_type (Array t id m) ns ≡ (array_tree (written_type t ns).0 id m, (written_type t ns).1)
written-Array t id m ns = search (rules, the_lemmas)

written-Pairs : (t : Schema) (k v : Option ℤ) (ns : List (List ℕ)) → written_type (Pairs t k v) ns ≡ (map_tree (written_type t ns).0 k v, (written_type t ns).1)
written-Pairs t k v ns = search (rules, the_lemmas)

-- what is written for the fields of a record
abbrev record_writes : List ℕ → List Field → Writes Data
record_writes name fs ns = (record_tree name (written_each (map written_field fs) ns).0, (written_each (map written_field fs) ns).1)

written-Fields : (name : List ℕ) (fs : List Field) (ns : List (List ℕ)) → written_type (Fields name fs) ns ≡ once name (record_writes name fs) ns
written-Fields name fs ns = search (rules, the_lemmas)

written-Union : (bs : List Schema) (ns : List (List ℕ)) → written_type (Union bs) ns ≡ (array (items_of (written_each (map written_type bs) ns).0), (written_each (map written_type bs) ns).1)
written-Union bs ns = search (rules, the_lemmas)

-- No primitive type has the name, whatever its attributes.
no_primitive : (name : List ℕ) (d : Data) → is_primitive name ≡ false → primitive name d ≡ None
unfolding is_primitive primitive
no_primitive name d h =
    go (bytes_eq name (codes "null")) (bytes_eq name (codes "boolean")) (bytes_eq name (codes "int")) (bytes_eq name (codes "long"))
    (bytes_eq name (codes "float")) (bytes_eq name (codes "double")) (bytes_eq name (codes "bytes")) (bytes_eq name (codes "string"))
    (Int (int_logical d)) (Long (long_logical d)) (Blob (bytes_logical d)) (Str (string_logical d)) (Int (int_logical json.null)) (Long (long_logical json.null)) (Blob (bytes_logical json.null)) (Str (string_logical json.null)) h
  where
    go : (b1 b2 b3 b4 b5 b6 b7 b8 : Bool) (v3 v4 v7 v8 w3 w4 w7 w8 : Schema)
        → is_some (cond b1 (Some Null) (cond b2 (Some Boolean) (cond b3 (Some w3) (cond b4 (Some w4) (cond b5 (Some Float4) (cond b6 (Some Float8) (cond b7 (Some w7) (cond b8 (Some w8) None)))))))) ≡ false
        → cond b1 (Some Null) (cond b2 (Some Boolean) (cond b3 (Some v3) (cond b4 (Some v4) (cond b5 (Some Float4) (cond b6 (Some Float8) (cond b7 (Some v7) (cond b8 (Some v8) None))))))) ≡ None
    go true b2 b3 b4 b5 b6 b7 b8 v3 v4 v7 v8 w3 w4 w7 w8 e = absurd cc
    go false true b3 b4 b5 b6 b7 b8 v3 v4 v7 v8 w3 w4 w7 w8 e = absurd cc
    go false false true b4 b5 b6 b7 b8 v3 v4 v7 v8 w3 w4 w7 w8 e = absurd cc
    go false false false true b5 b6 b7 b8 v3 v4 v7 v8 w3 w4 w7 w8 e = absurd cc
    go false false false false true b6 b7 b8 v3 v4 v7 v8 w3 w4 w7 w8 e = absurd cc
    go false false false false false true b7 b8 v3 v4 v7 v8 w3 w4 w7 w8 e = absurd cc
    go false false false false false false true b8 v3 v4 v7 v8 w3 w4 w7 w8 e = absurd cc
    go false false false false false false false true v3 v4 v7 v8 w3 w4 w7 w8 e = absurd cc
    go false false false false false false false false v3 v4 v7 v8 w3 w4 w7 w8 e = refl

positive_depth : (f : Form) → 0 < depth f
positive_depth form.null = omega arith
positive_depth form.boolean = omega arith
positive_depth form.int = omega arith
positive_depth form.long = omega arith
positive_depth form.float4 = omega arith
positive_depth form.float8 = omega arith
positive_depth form.bytes = omega arith
positive_depth form.string = omega arith
positive_depth (form.fixed n) = omega arith
positive_depth (form.choice n) = omega arith
positive_depth (form.array f) = omega arith
positive_depth (form.pairs f) = omega arith
positive_depth (form.fields fs) = omega arith
positive_depth (form.union fs) = omega arith

abbrev depth_of : Schema → ℕ
depth_of s = depth (form_of s)

abbrev deepest_branch : List Schema → ℕ
deepest_branch bs = deepest (forms_of (map form_of bs))

abbrev deepest_field : List Field → ℕ
deepest_field fs = deepest (forms_of (map field_form fs))

module _ (root : Schema) (one : (t u : Schema) (name : List ℕ) → IsIn root t → IsIn root u → name_of t ≡ Some name → name_of u ≡ Some name → t ≡ u) where
  -- The names that reading knows are those that were written.
  record Ready (names : Names) (written : List (List ℕ)) : Type 0 where
    fresh : (q : List ℕ) → find q names ≡ None → is_written q written ≡ false
    defined : (q : List ℕ) (t : Schema) → find q names ≡ Some (Defined t) → (is_written q written ≡ true) × IsIn root t × (name_of t ≡ Some q)

  -- each record that is open is deeper than k
  abbrev AreDeep : ℕ → Names → Type 0
  AreDeep k names = (q : List ℕ) → find q names ≡ Some Open → (t : Schema) × IsIn root t × (name_of t ≡ Some q) × (k < depth_of t)

  less_deep : (j k : ℕ) (names : Names) → j ≤ k → AreDeep k names → AreDeep j names
  less_deep j k names h deep q e = let d = deep q e in let below : k < depth_of d.0 = d.3 in (d.0, d.1, d.2, omega (arith, h, below))

  abbrev NoMoreOpen : Names → Names → Type 0
  NoMoreOpen names after = (q : List ℕ) → find q after ≡ Some Open → find q names ≡ Some Open

  still_deep : (k : ℕ) (names after : Names) → NoMoreOpen names after → AreDeep k names → AreDeep k after
  still_deep k names after no_more deep q e = deep q (no_more q e)

  -- what was written is spelled so, and the names behind it agree again
  record Told (Q : Names → Type 0) (names : Names) (written : List (List ℕ)) : Type 0 where
    after : Names
    spells : Q after
    ready : Ready after written
    no_more : NoMoreOpen names after

  module _ (names : Names) (written : List (List ℕ)) (s : Schema) (name : List ℕ) (ready : Ready names written) (inside : IsIn root s) (named : name_of s ≡ Some name) where
    known : AreDeep (depth_of s) names → is_written name written ≡ true → find name names ≡ Some (Defined s)
    known deep w = elim (find name names) as (λ o. find name names ≡ o → o ≡ Some (Defined s)) [
      | None ↦ λ e. absurd (let no = ready.fresh name e in cc)
      | Some Open ↦ λ e. absurd (let d = deep name e in let same : d.0 ≡ s = one d.0 s name d.1 inside d.2 named in let below : depth_of s < depth_of d.0 = d.3 in omega (arith, below, ap depth_of same))
      | Some (Defined t) ↦ λ e. (let d = ready.defined name t e in ap (λ u. Some (Defined u)) (one t s name d.1 inside d.2 named))
    ] refl

    unknown : AreDeep (depth_of s) names → is_written name written ≡ false → find name names ≡ None
    unknown deep w = elim (find name names) as (λ o. find name names ≡ o → o ≡ None) [
      | None ↦ λ e. refl
      | Some Open ↦ λ e. absurd (let d = deep name e in let same : d.0 ≡ s = one d.0 s name d.1 inside d.2 named in let below : depth_of s < depth_of d.0 = d.3 in omega (arith, below, ap depth_of same))
      | Some (Defined t) ↦ λ e. absurd (let d = ready.defined name t e in let yes = d.0 in cc)
    ] refl

    -- after the definition
    ready_defined : Ready (define name (Defined s) names) (with_name name written)
    ready_defined = record {
      fresh = λ q e. (elim (text_cases q name) [
        | inl same ↦ absurd (let found = ap (λ k. find k (define name (Defined s) names)) same ∙ find-define name (Defined s) names in cc)
        | inr other ↦ is_written-other q name written other ∙ ready.fresh q (sym (find-define_other q name (Defined s) names other) ∙ e)
      ]);
      defined = λ q t e. (elim (text_cases q name) [
        | inl same ↦ (
            let found : find q (define name (Defined s) names) ≡ Some (Defined s) = ap (λ k. find k (define name (Defined s) names)) same ∙ find-define name (Defined s) names in
            let it : s ≡ t = (let both = sym found ∙ e in cc) in
            (ap (λ k. is_written k (with_name name written)) same ∙ is_written-with_name name written, subst (IsIn root) it inside, ap name_of (sym it) ∙ named ∙ ap (λ k. Some k) (sym same)))
        | inr other ↦ (let d = ready.defined q t (sym (find-define_other q name (Defined s) names other) ∙ e) in (is_written-other q name written other ∙ d.0, d.1, d.2))
      ]);
    }

    -- within the record
    ready_opened : find name names ≡ None → Ready (define name Open names) written
    ready_opened none = record {
      fresh = λ q e. (elim (text_cases q name) [
        | inl same ↦ absurd (let found = ap (λ k. find k (define name Open names)) same ∙ find-define name Open names in cc)
        | inr other ↦ ready.fresh q (sym (find-define_other q name Open names other) ∙ e)
      ]);
      defined = λ q t e. (elim (text_cases q name) [
        | inl same ↦ absurd (let found = ap (λ k. find k (define name Open names)) same ∙ find-define name Open names in cc)
        | inr other ↦ ready.defined q t (sym (find-define_other q name Open names other) ∙ e)
      ]);
    }

    deep_opened : (k : ℕ) → k < depth_of s → AreDeep (depth_of s) names → AreDeep k (define name Open names)
    deep_opened k h deep q e = elim (text_cases q name) [
      | inl same ↦ (s, inside, named ∙ ap (λ k. Some k) (sym same), h)
      | inr other ↦ (let d = deep q (sym (find-define_other q name Open names other) ∙ e) in let below : depth_of s < depth_of d.0 = d.3 in (d.0, d.1, d.2, omega (arith, h, below)))
    ]

  no_more_defined : (name : List ℕ) (s : Schema) (names : Names) → NoMoreOpen names (define name (Defined s) names)
  no_more_defined name s names q e = elim (text_cases q name) [
    | inl same ↦ absurd (let found = ap (λ k. find k (define name (Defined s) names)) same ∙ find-define name (Defined s) names in cc)
    | inr other ↦ sym (find-define_other q name (Defined s) names other) ∙ e
  ]

  no_more_closed : (name : List ℕ) (s : Schema) (names within : Names) → NoMoreOpen (define name Open names) within → NoMoreOpen names (define name (Defined s) within)
  no_more_closed name s names within no_more q e = elim (text_cases q name) [
    | inl same ↦ absurd (let found = ap (λ k. find k (define name (Defined s) within)) same ∙ find-define name (Defined s) within in cc)
    | inr other ↦ sym (find-define_other q name Open names other) ∙ no_more q (sym (find-define_other q name (Defined s) within other) ∙ e)
  ]

  module _ (sound : (t : Schema) → IsIn root t → IsSound t) (left : ℕ) where
    P : Tells Schema
    P = SpellsWithin left

    abbrev Level : Schema → Data × List (List ℕ) → Names → Type 0
    Level s x names = Told (λ after. SpellsLevel (SpellsWithin left) (suc left) x.0 names s after) names x.1

    abbrev IsTold : Type 0
    IsTold = (t : Schema) → IsIn root t → depth_of t ≤ left → (names : Names) (written : List (List ℕ)) → Ready names written → AreDeep (depth_of t) names
        → Told (λ after. SpellsWithin left (written_type t written).0 names t after) names (written_type t written).1

    primitive_told : (word : List ℕ) (d : Data) (s : Schema) (names : Names) (written : List (List ℕ)) → Ready names written → IsPrimitiveTree word d s → Level s (d, written) names
    primitive_told word d s names written ready p = record { after = names; spells = a_primitive word p.named p.is refl; ready = ready; no_more = λ q e. e }

    -- a definition, or its name where it was written before
    once_told : (s : Schema) (name : List ℕ) (definition : Writes Data) (names : Names) (written : List (List ℕ)) → IsIn root s → name_of s ≡ Some name → IsName name → depth_of s ≤ suc left → Ready names written → AreDeep (depth_of s) names
        → (find name names ≡ None → Level s ((definition written).0, with_name name (definition written).1) names) → Level s (once name definition written) names
    once_told s name definition names written inside named is_name fits ready deep new =
        elim (is_written name written) as (λ b. is_written name written ≡ b → Level s (cond b (string name, written) ((definition written).0, with_name name (definition written).1)) names) [
          | true ↦ λ w. record {
            after = names;
            spells = a_reference name (inl refl) (no_primitive name (string name) is_name.is_free) (ap (λ k. find k names) (last_part-plain name is_name.has_no_dot) ∙ known names written s name ready inside named deep w) fits refl;
            ready = ready;
            no_more = λ q e. e;
          }
          | false ↦ λ w. new (unknown names written s name ready inside named deep w)
        ] refl

    new_name : (d : Data) (name : List ℕ) (names : Names) → text_at (codes "name") d ≡ Some name → IsName name → find name names ≡ None → IsNewName names d name
    new_name d name names e is_name none = record { full = name; is_text = e; is_last_part = sym (last_part-plain name is_name.has_no_dot); is_free = is_name.is_free; is_new = none }

    module _ (told : IsTold) where
      branches_told : (before bs : List Schema) (names : Names) (written : List (List ℕ)) → IsIn root (Union (before ++ bs)) → deepest_branch bs ≤ left → Ready names written → AreDeep (deepest_branch bs) names
          → Told (λ after. SpellsEach (SpellsWithin left) (items_of (written_each (map written_type bs) written).0) names bs after) names (written_each (map written_type bs) written).1
      branches_told before [] names written inside fits ready deep = record { after = names; spells = refl; ready = ready; no_more = λ q e. e }
      branches_told before (b ∷ bs) names written inside fits ready deep =
          let first = told b (branch before b bs inside) (omega (arith, fits)) names written ready (less_deep (depth_of b) (deepest_branch (b ∷ bs)) names (omega arith) deep) in
          let w = (written_type b written).1 in
          let behind = less_deep (deepest_branch bs) (deepest_branch (b ∷ bs)) first.after (omega arith) (still_deep (deepest_branch (b ∷ bs)) names first.after first.no_more deep) in
          let rest = branches_told (before ++ b ∷ []) bs first.after w (subst (λ (xs : List Schema). IsIn root (Union xs)) (sym (append_assoc before (b ∷ []) bs)) inside) (omega (arith, fits)) first.ready behind in
          record { after = rest.after; spells = (first.after, first.spells, rest.spells); ready = rest.ready; no_more = λ q e. first.no_more q (rest.no_more q e) }

      fields_told : (name : List ℕ) (before fs : List Field) (names : Names) (written : List (List ℕ)) → IsIn root (Fields name (before ++ fs)) → HaveIds fs → deepest_field fs ≤ left → Ready names written → AreDeep (deepest_field fs) names
          → Told (λ after. SpellsEach (SpellsField (SpellsWithin left)) (items_of (written_each (map written_field fs) written).0) names fs after) names (written_each (map written_field fs) written).1
      fields_told name before [] names written inside ids fits ready deep = record { after = names; spells = refl; ready = ready; no_more = λ q e. e }
      fields_told name before (f ∷ fs) names written inside ids fits ready deep =
          let here : depth (field_form f) ≡ depth_of f.schema = ap depth (form-field f) in
          let first = told f.schema (field name before f fs inside) (omega (arith, fits, here)) names written ready (less_deep (depth_of f.schema) (deepest_field (f ∷ fs)) names (omega (arith, here)) deep) in
          let w = (written_type f.schema written).1 in
          let tree = (written_type f.schema written).0 in
          let behind = less_deep (deepest_field fs) (deepest_field (f ∷ fs)) first.after (omega arith) (still_deep (deepest_field (f ∷ fs)) names first.after first.no_more deep) in
          let rest = fields_told name (before ++ f ∷ []) fs first.after w (subst (λ (xs : List Field). IsIn root (Fields name xs)) (sym (append_assoc before (f ∷ []) fs)) inside) ids.1 (omega (arith, fits)) first.ready behind in
          let it = field_again f.name tree f.field_id ids.0 in
          let here_spelled : SpellsField (SpellsWithin left) (field_tree f.name tree f.field_id) names f first.after = record { type = tree; is_name = it.name_is; is_type = it.type_is; spells = first.spells; is_id = sym it.id_is } in
          let all : Told (λ after. SpellsEach (SpellsField (SpellsWithin left)) (items_of (field_tree f.name tree f.field_id ∷ (written_each (map written_field fs) w).0)) names (f ∷ fs) after) names (written_each (map written_field fs) w).1 =
          record { after = rest.after; spells = (first.after, here_spelled, rest.spells); ready = rest.ready; no_more = λ q e. first.no_more q (rest.no_more q e) } in
          subst (λ (x : Data × List (List ℕ)). Told (λ after. SpellsEach (SpellsField (SpellsWithin left)) (items_of (x.0 ∷ (written_each (map written_field fs) x.1).0)) names (f ∷ fs) after) names (written_each (map written_field fs) x.1).1)
          (sym (field-written f written)) all

      module _ (names : Names) (written : List (List ℕ)) (ready : Ready names written) where
        at : (s t : Schema) → s ≡ t → (x : Data × List (List ℕ)) → written_type t written ≡ x → Level t x names → Level s (written_type s written) names
        at s t e x w level = subst (λ u. Level u (written_type u written) names) (sym e) (subst (λ y. Level t y names) (sym w) level)

        -- what a type is, of which its kind is known
        layer : (s t : Schema) → s ≡ t → IsIn root s → IsSound t
        layer s t e inside = subst IsSound e (sound s inside)

        kind_told : (s : Schema) → IsIn root s → depth_of s ≤ suc left → AreDeep (depth_of s) names → Kind s → Level s (written_type s written) names
        unfolding primitive
        kind_told s inside fits deep (is_null e) = at s Null e _ (written-Null written) (primitive_told (codes "null") (string (codes "null")) Null names written ready (record { named = inl refl; is = refl }))
        kind_told s inside fits deep (is_boolean e) = at s Boolean e _ (written-Boolean written) (primitive_told (codes "boolean") (string (codes "boolean")) Boolean names written ready (record { named = inl refl; is = refl }))
        kind_told s inside fits deep (is_float4 e) = at s Float4 e _ (written-Float4 written) (primitive_told (codes "float") (string (codes "float")) Float4 names written ready (record { named = inl refl; is = refl }))
        kind_told s inside fits deep (is_float8 e) = at s Float8 e _ (written-Float8 written) (primitive_told (codes "double") (string (codes "double")) Float8 names written ready (record { named = inl refl; is = refl }))
        kind_told s inside fits deep (is_int l e) =
            let goes : GoesWithInt l = subst IsSoundLayer (outs-Int l) (layer s (Int l) e inside) in
            at s (Int l) e _ (written-Int l written) (primitive_told (codes "int") (primitive_tree (codes "int") l) (Int l) names written ready (int_tree l goes))
        kind_told s inside fits deep (is_long l e) =
            let goes : GoesWithLong l = subst IsSoundLayer (outs-Long l) (layer s (Long l) e inside) in
            at s (Long l) e _ (written-Long l written) (primitive_told (codes "long") (primitive_tree (codes "long") l) (Long l) names written ready (long_tree l goes))
        kind_told s inside fits deep (is_blob l e) =
            let goes : GoesWithBytes l = subst IsSoundLayer (outs-Blob l) (layer s (Blob l) e inside) in
            at s (Blob l) e _ (written-Blob l written) (primitive_told (codes "bytes") (primitive_tree (codes "bytes") l) (Blob l) names written ready (bytes_tree l goes))
        kind_told s inside fits deep (is_str l e) =
            let goes : GoesWithString l = subst IsSoundLayer (outs-Str l) (layer s (Str l) e inside) in
            at s (Str l) e _ (written-Str l written) (primitive_told (codes "string") (primitive_tree (codes "string") l) (Str l) names written ready (string_tree l goes))
        kind_told s inside fits deep (is_fixed name size l e) =
            let t = Fix name size l in
            let goes : IsSoundLayer (Schema-F.Fix name size l) = subst IsSoundLayer (outs-Fix name size l) (layer s t e inside) in
            let named : name_of t ≡ Some name = ap name_in (outs-Fix name size l) in
            let in_root : IsIn root t = subst (IsIn root) e inside in
            let it = fixed_again name size l goes.1 goes.2 in
            at s t e _ (written-Fix name size l written) (once_told t name (λ ms. (fixed_tree name size l, ms)) names written in_root named goes.0 (subst (λ u. depth_of u ≤ suc left) e fits) ready (subst (λ u. AreDeep (depth_of u) names) e deep) (λ none. record {
              after = define name (Defined t) names;
              spells = a_fixed name size it.type (new_name (fixed_tree name size l) name names it.name_is goes.0 none) it.size_is (ap (λ k. Fix name size k) (sym it.logical_is)) refl;
              ready = ready_defined names written t name ready in_root named;
              no_more = no_more_defined name t names;
            }))
        kind_told s inside fits deep (is_choice name symbols e) =
            let t = Choice name symbols in
            let goes : IsName name = subst IsSoundLayer (outs-Choice name symbols) (layer s t e inside) in
            let named : name_of t ≡ Some name = ap name_in (outs-Choice name symbols) in
            let in_root : IsIn root t = subst (IsIn root) e inside in
            let it = choice_again name symbols in
            at s t e _ (written-Choice name symbols written) (once_told t name (λ ms. (choice_tree name symbols, ms)) names written in_root named goes (subst (λ u. depth_of u ≤ suc left) e fits) ready (subst (λ u. AreDeep (depth_of u) names) e deep) (λ none. record {
              after = define name (Defined t) names;
              spells = an_enum name symbols it.type (new_name (choice_tree name symbols) name names it.name_is goes none) it.symbols_are refl refl;
              ready = ready_defined names written t name ready in_root named;
              no_more = no_more_defined name t names;
            }))
        kind_told s inside fits deep (is_array t id m e) =
            let goes : IsId id = subst IsSoundLayer (outs-List t id m) (layer s (Array t id m) e inside) in
            let deeper : depth_of (Array t id m) ≡ suc (depth_of t) = ap depth (form-Array t id m) in
            let whole : depth_of s ≡ suc (depth_of t) = ap depth_of e ∙ deeper in
            let inner = told t (item t id m (subst (IsIn root) e inside)) (omega (arith, fits, whole)) names written ready (less_deep (depth_of t) (depth_of s) names (omega (arith, whole)) deep) in
            let tree = (written_type t written).0 in
            let it = array_again tree id m goes in
            at s (Array t id m) e _ (written-Array t id m written) (record {
              after = inner.after;
              spells = an_array tree t it.type it.items_are inner.spells (ap (λ k. Array t k m) (sym it.id_is) ∙ ap (λ b. Array t (id_at (codes "element-id") (array_tree tree id m)) b) (sym it.map_is));
              ready = inner.ready;
              no_more = inner.no_more;
            })
        kind_told s inside fits deep (is_pairs t k v e) =
            let goes : IsId k × IsId v = subst IsSoundLayer (outs-Pairs t k v) (layer s (Pairs t k v) e inside) in
            let whole : depth_of s ≡ suc (depth_of t) = ap depth_of e ∙ ap depth (form-Pairs t k v) in
            let inner = told t (value t k v (subst (IsIn root) e inside)) (omega (arith, fits, whole)) names written ready (less_deep (depth_of t) (depth_of s) names (omega (arith, whole)) deep) in
            let tree = (written_type t written).0 in
            let it = map_again tree k v goes.0 goes.1 in
            at s (Pairs t k v) e _ (written-Pairs t k v written) (record {
              after = inner.after;
              spells = a_map tree t it.type it.values_are inner.spells (ap (λ i. Pairs t i v) (sym it.key_is) ∙ ap (λ i. Pairs t (id_at (codes "key-id") (map_tree tree k v)) i) (sym it.value_is));
              ready = inner.ready;
              no_more = inner.no_more;
            })
        kind_told s inside fits deep (is_fields name fs e) =
            let t = Fields name fs in
            let goes : IsName name × HaveIds fs = subst IsSoundLayer (outs-Fields name fs) (layer s t e inside) in
            let named : name_of t ≡ Some name = ap name_in (outs-Fields name fs) in
            let in_root : IsIn root t = subst (IsIn root) e inside in
            let deeper : depth_of t ≡ suc (deepest_field fs) = ap depth (form-Fields name fs) in
            let fits_too : depth_of t ≤ suc left = subst (λ u. depth_of u ≤ suc left) e fits in
            let deep_too : AreDeep (depth_of t) names = subst (λ u. AreDeep (depth_of u) names) e deep in
            at s t e _ (written-Fields name fs written) (once_told t name (record_writes name fs) names written in_root named goes.0 fits_too ready deep_too (λ none.
            let all = fields_told name [] fs (define name Open names) written in_root goes.1 (omega (arith, fits_too, deeper)) (ready_opened names written t name ready in_root named none) (deep_opened names written t name ready in_root named (deepest_field fs) (omega (arith, deeper)) deep_too) in
            let trees = written_each (map written_field fs) written in
            let it = record_again name trees.0 in
            record {
              after = define name (Defined t) all.after;
              spells = a_record name (items_of trees.0) fs all.after it.type (new_name (record_tree name trees.0) name names it.name_is goes.0 none) it.fields_are all.spells refl refl;
              ready = ready_defined all.after trees.1 t name all.ready in_root named;
              no_more = no_more_closed name t names all.after all.no_more;
            }))
        kind_told s inside fits deep (is_union bs e) =
            let deeper : depth_of (Union bs) ≡ suc (deepest_branch bs) = ap depth (form-Union bs) in
            let whole : depth_of s ≡ suc (deepest_branch bs) = ap depth_of e ∙ deeper in
            let all = branches_told [] bs names written (subst (IsIn root) e inside) (omega (arith, fits, whole)) ready (less_deep (deepest_branch bs) (depth_of s) names (omega (arith, whole)) deep) in
            let trees = written_each (map written_type bs) written in
            at s (Union bs) e _ (written-Union bs written) (record {
              after = all.after;
              spells = a_union (items_of trees.0) bs refl all.spells refl;
              ready = all.ready;
              no_more = all.no_more;
            })

  type_told : (sound : (t : Schema) → IsIn root t → IsSound t) (most : ℕ) (s : Schema) → IsIn root s → depth_of s ≤ most → (names : Names) (written : List (List ℕ)) → Ready names written → AreDeep (depth_of s) names
      → Told (λ after. SpellsWithin most (written_type s written).0 names s after) names (written_type s written).1
  unfolding SpellsWithin
  type_told sound zero s inside fits names written ready deep = absurd (omega (arith, fits, positive_depth (form_of s)))
  type_told sound (suc left) s inside fits names written ready deep = kind_told sound left (type_told sound left) names written ready s inside fits deep (kind_of s)

pub rewritten : (s : Schema) → IsWritable s → SpellsSchema (written_schema s) s
unfolding written_schema
rewritten s w =
    let ready : Ready s w.has_one_type_each [] [] = record { fresh = λ q e. refl; defined = λ q t e. absurd cc } in
    let none : AreDeep s w.has_one_type_each (depth_of s) [] = λ q e. absurd cc in
    let it = type_told s w.has_one_type_each w.is_sound 32 s itself w.is_shallow [] [] ready none in
    record { names = it.after; spells = it.spells; is_narrow = w.is_narrow }
