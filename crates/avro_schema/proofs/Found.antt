-- What is read is spelled so.
use Rattle.std.proofs.Common.{◌≡◌, ℕ, zero, suc, ◌-◌, ◌+◌, ◌≤◌, ◌<◌, ◌==◌, ◌||◌, List, ◌∷◌, codes, Result, Ok, Err, refl, sym, ap, ◌∙◌, arith, subst, Option, Some, None, is_some, option_and_then, cond, Bool, true, false, nat_lt, ltb-false, zero-add, ◌⊎◌, inl, inr}
use Rattle.std.proofs.lemmas.Slice.Eq.{bytes_eq-Decides}
use Rattle.std.specs.Str.{bytes_eq}
use Rattle.serde_json.specs.Data.{Data, null, boolean, number, string, array, object, Items, no_items, item}
use Rattle.serde_json.specs.Find.{get, as_str, as_array}
use Rattle.avro_schema.specs.declared.fault.SchemaCause.TheVariants.{BadForm, TooDeep, TooWide}
use Rattle.avro_schema.specs.declared.known.Known.TheVariants.{Open, Defined}
use Rattle.avro_schema.specs.declared.scope.Scope.{Scope}
use Rattle.avro_schema.specs.declared.schema.Field.{Field}
use Rattle.avro_schema.specs.declared.schema.Schema.{Schema}
use Rattle.avro_schema.specs.declared.schema.Schema.TheVariants.{Null, Bool as Boolean, Int, Long, Float4, Float8, Blob, Str, Fix, Choice, List as Array, Pairs, Fields, Union}
use Rattle.avro_schema.specs.Attribute.{text_at, u32_of, id_at}
use Rattle.avro_schema.specs.Form as form
use Rattle.avro_schema.specs.Form.{Form, form_of, depth, width, room_behind}
use Rattle.avro_schema.specs.Logical.{has_logical, fixed_logical, int_logical, long_logical, bytes_logical, string_logical}
use Rattle.avro_schema.specs.Names.{Names, find, define, last_part}
use Rattle.avro_schema.specs.Path.{key_path, index_path}
use Rattle.avro_schema.specs.Primitive.{primitive, is_primitive}
use Rattle.avro_schema.specs.Reading.{Fault, Read, Reader, ◌>>=◌, defining, fitting, referred, reference, primitive_or_reference, named, free_name, name_from, new_name, fixed_from, fixed_at, symbol_from, symbol_at, symbols_at, symbols_from, choice_at, with_first, each, inner_from, inner_at, array_at, map_at, field_from, field_at, fields_from, record_at, object_from, object_at, union_at, level, read}
use Rattle.avro_schema.specs.Spelling.{Tells, IsNamed, IsObjectOf, IsNewName, SpellsEach, strings, SpellsField, SpellsLevel, a_primitive, a_reference, a_union, an_array, a_map, a_fixed, an_enum, a_record, SpellsWithin}
use Rattle.avro_schema.proofs.FormLaws.{form-Null, form-Boolean, form-Int, form-Long, form-Float4, form-Float8, form-Blob, form-Str, form-Fix, form-Choice, form-Array, form-Pairs, field_width, schema_width, total, width-Fields, width-Union}

pub same_ok : {A : Type 0} {x y : A} → ◌≡◌ {A = Result A Fault} (Ok x) (Ok y) → x ≡ y
same_ok e = cc

pub same_value : {A B : Type 0} {x y : A × B} → ◌≡◌ {A = Result (A × B) Fault} (Ok x) (Ok y) → x.0 ≡ y.0
same_value e = ap (λ p. p.0) (same_ok e)

pub same_rest : {A B : Type 0} {x y : A × B} → ◌≡◌ {A = Result (A × B) Fault} (Ok x) (Ok y) → x.1 ≡ y.1
same_rest e = ap (λ p. p.1) (same_ok e)

pub bind_ok : {A B : Type 0} (r : Result A Fault) (f : A → Result B Fault) (y : B) → (r >>= f) ≡ Ok y → (x : A) × (r ≡ Ok x) × (f x ≡ Ok y)
bind_ok (Ok x) f y e = (x, refl, e)
bind_ok (Err d) f y e = absurd cc

pub chosen : {A : Type 0} (b : Bool) (x y z : A) → cond b x y ≡ z → ((b ≡ true) × (x ≡ z)) ⊎ ((b ≡ false) × (y ≡ z))
chosen true x y z e = inl (refl, e)
chosen false x y z e = inr (refl, e)

pub option_cases : {X : Type 0} (o : Option X) → (o ≡ None) ⊎ ((x : X) × (o ≡ Some x))
option_cases None = inl refl
option_cases (Some x) = inr (x, refl)

-- a value is spelled, and takes so much of the room for fields
pub record IsFoundAt {A : Type 0} (P : Names → A → Names → Type 0) (w : A → ℕ) (scope : Scope) (x : A) (after : Scope) : Type 0 where
  pub spells : P scope.names x after.names
  pub room : scope.room ≡ w x + after.room

abbrev pub IsFound : {A : Type 0} → Tells A → (A → ℕ) → Reader A → Type 0
IsFound {A} P w one = (path : List ℕ) (d : Data) (scope : Scope) (x : A) (after : Scope) → one path d scope ≡ Ok (x, after) → IsFoundAt (P d) w scope x after

-- Trees in a list.

first_found : {A : Type 0} (x : A) (r : Read (List A)) (xs : List A) (after : Scope) → with_first x r ≡ Ok (xs, after) → (ys : List A) × (r ≡ Ok (ys, after)) × (x ∷ ys ≡ xs)
first_found x (Ok ys) xs after e = (ys.0, ap (λ (s : Scope). Ok (ys.0, s)) (same_rest e), same_value e)
first_found x (Err d) xs after e = absurd cc

pub each_found : {A : Type 0} (P : Tells A) (w : A → ℕ) (one : Reader A) → IsFound P w one → (path : List ℕ) (i : ℕ) (ds : Items) (scope : Scope) (xs : List A) (after : Scope)
    → each one path i ds scope ≡ Ok (xs, after) → SpellsEach P ds scope.names xs after.names × (scope.room ≡ total w xs + after.room)
unfolding each
each_found {A} P w one h path i no_items scope xs after e =
    subst (λ (ys : List A). SpellsEach P no_items scope.names ys after.names × (scope.room ≡ total w ys + after.room)) (same_value e)
    (ap (λ (s : Scope). s.names) (sym (same_rest e)), ap (λ (s : Scope). s.room) (same_rest e) ∙ sym (zero-add after.room))
each_found {A} P w one h path i (item d ds) scope xs after e =
    let first = bind_ok (one (index_path path i) d scope) (λ x. with_first x.0 (each one path (suc i) ds x.1)) (xs, after) e in
    let x = first.0.0 in
    let between = first.0.1 in
    let behind = first_found x (each one path (suc i) ds between) xs after first.2 in
    let one_is = h (index_path path i) d scope x between first.1 in
    let more = each_found P w one h path (suc i) ds between behind.0 after behind.1 in
    subst (λ (ys : List A). SpellsEach P (item d ds) scope.names ys after.names × (scope.room ≡ total w ys + after.room)) behind.2
    ((between.names, one_is.spells, more.0), omega (arith, one_is.room, more.1))

-- Names of definitions.

pub name_found : (path : List ℕ) (d : Data) (names : Names) (name : List ℕ) → new_name path d names ≡ Ok name → IsNewName names d name
unfolding new_name
name_found path d names name e = elim (option_cases (text_at (codes "name") d)) [
  | inl none ↦ absurd (let no = ap (λ o. name_from path o names) (sym none) ∙ e in cc)
  | inr some ↦ (
      let full = some.0 in
      let got : free_name path (last_part full) names ≡ Ok name = ap (λ o. name_from path o names) (sym some.1) ∙ e in
      elim (chosen (is_primitive (last_part full) || is_some (find (last_part full) names)) (Err (key_path path (codes "name"), BadForm)) (Ok (last_part full)) (Ok name) got) [
        | inl bad ↦ absurd (let no = bad.1 in cc)
        | inr good ↦ (
            let same : last_part full ≡ name = same_ok good.1 in
            subst (λ n. IsNewName names d n) same (record {
              full = full;
              is_text = some.1;
              is_last_part = refl;
              is_free = or_left (is_primitive (last_part full)) _ good.0;
              is_new = none_of (find (last_part full) names) (or_right (is_primitive (last_part full)) _ good.0);
            }))
      ])
]
  where
    or_left : (a b : Bool) → (a || b) ≡ false → a ≡ false
    or_left true b e = e
    or_left false b e = refl

    or_right : (a b : Bool) → (a || b) ≡ false → b ≡ false
    or_right true b e = absurd cc
    or_right false b e = e

    none_of : {X : Type 0} (o : Option X) → is_some o ≡ false → o ≡ None
    none_of None e = refl
    none_of (Some x) e = absurd cc

-- Primitive types have no fields.

narrow : {b : Bool} (t : Schema) (f : Form) (s : Schema) → form_of t ≡ f → width f ≡ 0 → (b ≡ true) × ◌≡◌ {A = Option Schema} (Some t) (Some s) → width (form_of s) ≡ 0
narrow t f s is none e = let same : t ≡ s = (let k = e.1 in cc) in ap (λ u. width (form_of u)) (sym same) ∙ ap width is ∙ none

pub primitive_narrow : (word : List ℕ) (d : Data) (s : Schema) → primitive word d ≡ Some s → width (form_of s) ≡ 0
unfolding primitive
primitive_narrow word d s e = elim (chosen (bytes_eq word (codes "null")) (Some Null) _ (Some s) e) [ inl a ↦ narrow Null form.null s form-Null refl a | inr a ↦ elim (chosen (bytes_eq word (codes "boolean")) (Some Boolean) _ (Some s) a.1) [ inl b ↦ narrow Boolean form.boolean s form-Boolean refl b | inr b ↦ elim (chosen (bytes_eq word (codes "int")) (Some (Int (int_logical d))) _ (Some s) b.1) [ inl c ↦ narrow (Int (int_logical d)) form.int s (form-Int _) refl c | inr c ↦ elim (chosen (bytes_eq word (codes "long")) (Some (Long (long_logical d))) _ (Some s) c.1) [ inl f ↦ narrow (Long (long_logical d)) form.long s (form-Long _) refl f | inr f ↦ elim (chosen (bytes_eq word (codes "float")) (Some Float4) _ (Some s) f.1) [ inl g ↦ narrow Float4 form.float4 s form-Float4 refl g | inr g ↦ elim (chosen (bytes_eq word (codes "double")) (Some Float8) _ (Some s) g.1) [ inl h ↦ narrow Float8 form.float8 s form-Float8 refl h | inr h ↦ elim (chosen (bytes_eq word (codes "bytes")) (Some (Blob (bytes_logical d))) _ (Some s) h.1) [ inl i ↦ narrow (Blob (bytes_logical d)) form.bytes s (form-Blob _) refl i | inr i ↦ elim (chosen (bytes_eq word (codes "string")) (Some (Str (string_logical d))) _ (Some s) i.1) [ inl j ↦ narrow (Str (string_logical d)) form.string s (form-Str _) refl j | inr j ↦ absurd (let no = j.1 in cc) ] ] ] ] ] ] ] ]

-- References.

record IsReferred (most : ℕ) (name : List ℕ) (scope : Scope) (s : Schema) (after : Scope) : Type 0 where
  known : find name scope.names ≡ Some (Defined s)
  shallow : depth (form_of s) ≤ most
  names : after.names ≡ scope.names
  room : scope.room ≡ width (form_of s) + after.room

reference_found : (most : ℕ) (path name : List ℕ) (scope : Scope) (s : Schema) (after : Scope) → reference most path name scope ≡ Ok (s, after) → IsReferred most name scope s after
unfolding reference
reference_found most path name scope s after e =
    elim (find name scope.names) as (λ o. find name scope.names ≡ o → referred most path o scope ≡ Ok (s, after) → IsReferred most name scope s after) [
      | None ↦ λ is e. absurd cc
      | Some Open ↦ λ is e. absurd cc
      | Some (Defined t) ↦ λ is e. (elim (chosen (nat_lt most (depth (form_of t))) (Err (path, TooDeep)) (fitting path t (room_behind (width (form_of t)) scope.room) scope) (Ok (s, after)) e) [
        | inl deep ↦ absurd (let no = deep.1 in cc)
        | inr in_depth ↦ fits t is (ltb-false most (depth (form_of t)) in_depth.0) (nat_lt scope.room (width (form_of t))) refl in_depth.1
      ])
    ] refl e
  where
    fits : (t : Schema) → find name scope.names ≡ Some (Defined t) → depth (form_of t) ≤ most → (b : Bool) → nat_lt scope.room (width (form_of t)) ≡ b
        → fitting path t (cond b None (Some (scope.room - width (form_of t)))) scope ≡ Ok (s, after) → IsReferred most name scope s after
    fits t is shallow true b e = absurd cc
    fits t is shallow false b e =
        let same : t ≡ s = same_value e in
        let enough : width (form_of t) ≤ scope.room = ltb-false scope.room (width (form_of t)) b in
        let left : scope.room - width (form_of t) ≡ after.room = ap (λ (x : Scope). x.room) (same_rest e) in
        subst (λ u. IsReferred most name scope u after) same (record {
          known = is;
          shallow = shallow;
          names = ap (λ (x : Scope). x.names) (sym (same_rest e));
          room = omega (arith, enough, left);
        })

module _ (P : Tells Schema) (most : ℕ) where
  named_found : (path word : List ℕ) (d : Data) (scope : Scope) (s : Schema) (after : Scope) → IsNamed word d → named most path word d scope ≡ Ok (s, after) → IsFoundAt (SpellsLevel P most d) schema_width scope s after
  unfolding named
  named_found path word d scope s after is_named e = elim (option_cases (primitive word d)) [
    | inl none ↦ (
        let ref = reference_found most path (last_part word) scope s after (ap (λ o. primitive_or_reference most path word o scope) (sym none) ∙ e) in
        record { spells = a_reference word is_named none ref.known ref.shallow ref.names; room = ref.room })
    | inr some ↦ (
        let got : ◌≡◌ {A = Read Schema} (Ok (some.0, scope)) (Ok (s, after)) = ap (λ o. primitive_or_reference most path word o scope) (sym some.1) ∙ e in
        let is : primitive word d ≡ Some s = some.1 ∙ ap (λ t. Some t) (same_value got) in
        record { spells = a_primitive word is_named is (ap (λ (x : Scope). x.names) (sym (same_rest got))); room = ap (λ (x : Scope). x.room) (same_rest got) ∙ rw (primitive_narrow word d s is) (omega arith) })
  ]

-- Symbols of an enum.

string_of : (d : Data) (t : List ℕ) → as_str d ≡ Some t → d ≡ string t
string_of null t e = absurd cc
string_of (boolean b) t e = absurd cc
string_of (number n) t e = absurd cc
string_of (string s) t e = ap string (let same : s ≡ t = cc in same)
string_of (array ds) t e = absurd cc
string_of (object ms) t e = absurd cc

symbol_found : (path : List ℕ) (d : Data) (t : List ℕ) → symbol_at path d ≡ Ok t → d ≡ string t
unfolding symbol_at
symbol_found path d t e = elim (option_cases (as_str d)) [
  | inl none ↦ absurd (let no = ap (symbol_from path) (sym none) ∙ e in cc)
  | inr some ↦ string_of d t (some.1 ∙ ap (λ s. Some s) (same_ok (ap (symbol_from path) (sym some.1) ∙ e)))
]

symbols_found : (path : List ℕ) (i : ℕ) (ds : Items) (ts : List (List ℕ)) → symbols_at path i ds ≡ Ok ts → ds ≡ strings ts
unfolding symbols_at
symbols_found path i no_items ts e = ap strings (same_ok e)
symbols_found path i (item d ds) ts e =
    let first = bind_ok (symbol_at (index_path path i) d) (λ t. symbols_at path (suc i) ds >>= λ us. Ok (t ∷ us)) ts e in
    let rest = bind_ok (symbols_at path (suc i) ds) (λ us. Ok (first.0 ∷ us)) ts first.2 in
    ap (λ x. item x ds) (symbol_found (index_path path i) d first.0 first.1) ∙ ap (item (string first.0)) (symbols_found path (suc i) ds rest.0 rest.1) ∙ ap strings (same_ok rest.2)

module _ (P : Tells Schema) (type : Reader Schema) (h : IsFound P schema_width type) where
  -- A type in an attribute.
  record IsInner (key : List ℕ) (d : Data) (scope : Scope) (s : Schema) (after : Scope) : Type 0 where
    tree : Data
    is_there : get key d ≡ Some tree
    found : IsFoundAt (P tree) schema_width scope s after

  inner_found : (path key : List ℕ) (d : Data) (scope : Scope) (s : Schema) (after : Scope) → inner_at type path key d scope ≡ Ok (s, after) → IsInner key d scope s after
  unfolding inner_at
  inner_found path key d scope s after e = elim (option_cases (get key d)) [
    | inl none ↦ absurd (let no = ap (λ o. inner_from type (key_path path key) o scope) (sym none) ∙ e in cc)
    | inr some ↦ record { tree = some.0; is_there = some.1; found = h (key_path path key) some.0 scope s after (ap (λ o. inner_from type (key_path path key) o scope) (sym some.1) ∙ e) }
  ]

  -- Fields of a record.
  field_found : IsFound (SpellsField P) field_width (field_at type)
  unfolding field_at
  field_found path d scope f after e = elim (chosen (scope.room == 0) (Err (path, TooWide)) (field_from type path (text_at (codes "name") d) d scope) (Ok (f, after)) e) [
    | inl full ↦ absurd (let no = full.1 in cc)
    | inr more ↦ elim (option_cases (text_at (codes "name") d)) [
      | inl none ↦ absurd (let no = ap (λ o. field_from type path o d scope) (sym none) ∙ more.1 in cc)
      | inr some ↦ (
          let spent : Scope = record scope { room = scope.room - 1 } in
          let got = bind_ok (inner_at type path (codes "type") d spent) (λ x. Ok (record { name = some.0; schema = x.0; field_id = id_at (codes "field-id") d }, x.1)) (f, after) (ap (λ o. field_from type path o d scope) (sym some.1) ∙ more.1) in
          let t = got.0.0 in
          let inner = inner_found path (codes "type") d spent t got.0.1 got.1 in
          let made : Field = record { name = some.0; schema = t; field_id = id_at (codes "field-id") d } in
          let room : scope.room ≡ field_width made + got.0.1.room = omega (arith, inner.found.room, positive scope.room more.0) in
          let there : IsFoundAt (SpellsField P d) field_width scope made got.0.1 = record {
            spells = record { type = inner.tree; is_name = some.1; is_type = inner.is_there; spells = inner.found.spells; is_id = refl };
            room = room;
          } in
          subst (λ (y : Scope). IsFoundAt (SpellsField P d) field_width scope f y) (same_rest got.2) (subst (λ (g : Field). IsFoundAt (SpellsField P d) field_width scope g got.0.1) (same_value got.2) there))
    ]
  ]
    where
      positive : (n : ℕ) → (n == 0) ≡ false → 0 < n
      positive zero e = absurd cc
      positive (suc n) e = omega arith

  module _ (most : ℕ) where
    array_found : (path : List ℕ) (d : Data) (scope : Scope) (s : Schema) (after : Scope) → IsObjectOf (codes "array") d → array_at type path d scope ≡ Ok (s, after) → IsFoundAt (SpellsLevel P most d) schema_width scope s after
    unfolding array_at
    array_found path d scope s after is e =
        let got = bind_ok (inner_at type path (codes "items") d scope) (λ x. Ok (Array x.0 (id_at (codes "element-id") d) (has_logical (codes "map") d), x.1)) (s, after) e in
        let inner = inner_found path (codes "items") d scope got.0.0 got.0.1 got.1 in
        let same = sym (same_value got.2) in
        let wide : width (form_of s) ≡ width (form_of got.0.0) = ap schema_width same ∙ ap width (form-Array got.0.0 _ _) in
        subst (λ (y : Scope). IsFoundAt (SpellsLevel P most d) schema_width scope s y) (same_rest got.2) (record {
          spells = an_array inner.tree got.0.0 is inner.is_there inner.found.spells same;
          room = inner.found.room ∙ ap (λ n. n + got.0.1.room) (sym wide);
        })

    map_found : (path : List ℕ) (d : Data) (scope : Scope) (s : Schema) (after : Scope) → IsObjectOf (codes "map") d → map_at type path d scope ≡ Ok (s, after) → IsFoundAt (SpellsLevel P most d) schema_width scope s after
    unfolding map_at
    map_found path d scope s after is e =
        let got = bind_ok (inner_at type path (codes "values") d scope) (λ x. Ok (Pairs x.0 (id_at (codes "key-id") d) (id_at (codes "value-id") d), x.1)) (s, after) e in
        let inner = inner_found path (codes "values") d scope got.0.0 got.0.1 got.1 in
        let same = sym (same_value got.2) in
        let wide : width (form_of s) ≡ width (form_of got.0.0) = ap schema_width same ∙ ap width (form-Pairs got.0.0 _ _) in
        subst (λ (y : Scope). IsFoundAt (SpellsLevel P most d) schema_width scope s y) (same_rest got.2) (record {
          spells = a_map inner.tree got.0.0 is inner.is_there inner.found.spells same;
          room = inner.found.room ∙ ap (λ n. n + got.0.1.room) (sym wide);
        })

    union_found : (path : List ℕ) (ds : Items) (scope : Scope) (s : Schema) (after : Scope) → union_at type path ds scope ≡ Ok (s, after) → IsFoundAt (SpellsLevel P most (array ds)) schema_width scope s after
    unfolding union_at
    union_found path ds scope s after e =
        let got = bind_ok (each type path 0 ds scope) (λ x. Ok (Union x.0, x.1)) (s, after) e in
        let all = each_found P schema_width type h path 0 ds scope got.0.0 got.0.1 got.1 in
        let same = sym (same_value got.2) in
        subst (λ (y : Scope). IsFoundAt (SpellsLevel P most (array ds)) schema_width scope s y) (same_rest got.2) (record {
          spells = a_union ds got.0.0 refl all.0 same;
          room = all.1 ∙ ap (λ n. n + got.0.1.room) (sym (ap schema_width same ∙ width-Union got.0.0));
        })

    -- a definition without fields
    defined_found : (d : Data) (name : List ℕ) (scope : Scope) (t s : Schema) (after : Scope) → width (form_of t) ≡ 0 → ◌≡◌ {A = Read Schema} (Ok (t, defining name (Defined t) scope)) (Ok (s, after))
        → (s ≡ t → after.names ≡ define name (Defined s) scope.names → SpellsLevel P most d scope.names s after.names) → IsFoundAt (SpellsLevel P most d) schema_width scope s after
    defined_found d name scope t s after none e spelled =
        let same : s ≡ t = sym (same_value e) in
        let names : after.names ≡ define name (Defined s) scope.names = ap (λ (y : Scope). y.names) (sym (same_rest e)) ∙ ap (λ u. define name (Defined u) scope.names) (sym same) in
        let room : scope.room ≡ after.room = ap (λ (y : Scope). y.room) (same_rest e) in
        let narrow : width (form_of s) ≡ 0 = ap schema_width same ∙ none in
        record { spells = spelled same names; room = omega (arith, room, narrow) }

    fixed_found : (path : List ℕ) (d : Data) (scope : Scope) (s : Schema) (after : Scope) → IsObjectOf (codes "fixed") d → fixed_at path d scope ≡ Ok (s, after) → IsFoundAt (SpellsLevel P most d) schema_width scope s after
    unfolding fixed_at
    fixed_found path d scope s after is e =
        let got = bind_ok (new_name path d scope.names) (λ name. fixed_from path name (option_and_then u32_of (get (codes "size") d)) d scope) (s, after) e in
        let name = got.0 in
        let new = name_found path d scope.names name got.1 in
        elim (option_cases (option_and_then u32_of (get (codes "size") d))) [
          | inl none ↦ absurd (let no = ap (λ o. fixed_from path name o d scope) (sym none) ∙ got.2 in cc)
          | inr some ↦ defined_found d name scope (Fix name some.0 (fixed_logical some.0 d)) s after (ap width (form-Fix name some.0 _)) (ap (λ o. fixed_from path name o d scope) (sym some.1) ∙ got.2)
              (λ same names. a_fixed name some.0 is new some.1 same names)
        ]

    choice_found : (path : List ℕ) (d : Data) (scope : Scope) (s : Schema) (after : Scope) → IsObjectOf (codes "enum") d → choice_at path d scope ≡ Ok (s, after) → IsFoundAt (SpellsLevel P most d) schema_width scope s after
    unfolding choice_at
    choice_found path d scope s after is e =
        let place = key_path path (codes "symbols") in
        let list = option_and_then as_array (get (codes "symbols") d) in
        let got = bind_ok (new_name path d scope.names) (λ name. symbols_from place list >>= λ symbols. Ok (Choice name symbols, defining name (Defined (Choice name symbols)) scope)) (s, after) e in
        let name = got.0 in
        let new = name_found path d scope.names name got.1 in
        let read = bind_ok (symbols_from place list) (λ symbols. Ok (Choice name symbols, defining name (Defined (Choice name symbols)) scope)) (s, after) got.2 in
        let symbols = read.0 in
        elim (option_cases list) [
          | inl none ↦ absurd (let no = ap (symbols_from place) (sym none) ∙ read.1 in cc)
          | inr some ↦ defined_found d name scope (Choice name symbols) s after (ap width (form-Choice name symbols)) read.2
              (λ same names. an_enum name symbols is new (some.1 ∙ ap (λ x. Some x) (symbols_found place 0 some.0 symbols (ap (symbols_from place) (sym some.1) ∙ read.1))) same names)
        ]

    record_found : (path : List ℕ) (d : Data) (scope : Scope) (s : Schema) (after : Scope) → IsObjectOf (codes "record") d → record_at type path d scope ≡ Ok (s, after) → IsFoundAt (SpellsLevel P most d) schema_width scope s after
    unfolding record_at
    record_found path d scope s after is e =
        let place = key_path path (codes "fields") in
        let list = option_and_then as_array (get (codes "fields") d) in
        let got = bind_ok (new_name path d scope.names) (λ name. fields_from type place list (defining name Open scope) >>= λ x. Ok (Fields name x.0, defining name (Defined (Fields name x.0)) x.1)) (s, after) e in
        let name = got.0 in
        let new = name_found path d scope.names name got.1 in
        let read = bind_ok (fields_from type place list (defining name Open scope)) (λ x. Ok (Fields name x.0, defining name (Defined (Fields name x.0)) x.1)) (s, after) got.2 in
        let fields = read.0.0 in
        let within = read.0.1 in
        let same : s ≡ Fields name fields = sym (same_value read.2) in
        let names : after.names ≡ define name (Defined s) within.names = ap (λ (y : Scope). y.names) (sym (same_rest read.2)) ∙ ap (λ u. define name (Defined u) within.names) (sym same) in
        let room : within.room ≡ after.room = ap (λ (y : Scope). y.room) (same_rest read.2) in
        let wide : width (form_of s) ≡ total field_width fields = ap schema_width same ∙ width-Fields name fields in
        elim (option_cases list) [
          | inl none ↦ absurd (let no = ap (λ o. fields_from type place o (defining name Open scope)) (sym none) ∙ read.1 in cc)
          | inr some ↦ (
              let all = each_found (SpellsField P) field_width (field_at type) field_found place 0 some.0 (defining name Open scope) fields within (ap (λ o. fields_from type place o (defining name Open scope)) (sym some.1) ∙ read.1) in
              let all_room : scope.room ≡ total field_width fields + within.room = all.1 in
              record { spells = a_record name some.0 fields within.names is new some.1 all.0 same names; room = omega (arith, all_room, room, wide) })
        ]

    object_found : (path : List ℕ) (d : Data) (scope : Scope) (s : Schema) (after : Scope) → object_at type most path d scope ≡ Ok (s, after) → IsFoundAt (SpellsLevel P most d) schema_width scope s after
    unfolding object_at
    object_found path d scope s after e = elim (option_cases (text_at (codes "type") d)) [
      | inl none ↦ absurd (let no = ap (λ o. object_from type most path o d scope) (sym none) ∙ e in cc)
      | inr some ↦ (
          let word = some.0 in
          let is : text_at (codes "type") d ≡ Some word = some.1 in
          let from = ap (λ o. object_from type most path o d scope) (sym is) ∙ e in
          let told = λ (w : List ℕ) (t : bytes_eq word w ≡ true). is ∙ ap (λ x. Some x) ((bytes_eq-Decides word w).0 t) in
          elim (chosen (bytes_eq word (codes "array")) (array_at type path d scope) _ (Ok (s, after)) from) [
            | inl a ↦ array_found path d scope s after (told (codes "array") a.0) a.1
            | inr a ↦ elim (chosen (bytes_eq word (codes "map")) (map_at type path d scope) _ (Ok (s, after)) a.1) [
              | inl b ↦ map_found path d scope s after (told (codes "map") b.0) b.1
              | inr b ↦ elim (chosen (bytes_eq word (codes "record")) (record_at type path d scope) _ (Ok (s, after)) b.1) [
                | inl c ↦ record_found path d scope s after (told (codes "record") c.0) c.1
                | inr c ↦ elim (chosen (bytes_eq word (codes "enum")) (choice_at path d scope) _ (Ok (s, after)) c.1) [
                  | inl f ↦ choice_found path d scope s after (told (codes "enum") f.0) f.1
                  | inr f ↦ elim (chosen (bytes_eq word (codes "fixed")) (fixed_at path d scope) _ (Ok (s, after)) f.1) [
                    | inl g ↦ fixed_found path d scope s after (told (codes "fixed") g.0) g.1
                    | inr g ↦ named_found P most (key_path path (codes "type")) word d scope s after (inr (is, (a.0, b.0, c.0, f.0, g.0))) g.1
                  ]
                ]
              ]
            ]
          ])
    ]

    level_found : (path : List ℕ) (d : Data) (scope : Scope) (s : Schema) (after : Scope) → level type most path d scope ≡ Ok (s, after) → IsFoundAt (SpellsLevel P most d) schema_width scope s after
    unfolding level
    level_found path null scope s after e = absurd cc
    level_found path (boolean b) scope s after e = absurd cc
    level_found path (number n) scope s after e = absurd cc
    level_found path (string word) scope s after e = named_found P most path word (string word) scope s after (inl refl) e
    level_found path (array ds) scope s after e = union_found path ds scope s after e
    level_found path (object ms) scope s after e = object_found path (object ms) scope s after e

pub found : (most : ℕ) → IsFound (SpellsWithin most) schema_width (read most)
unfolding read SpellsWithin
found zero path d scope s after e = absurd cc
found (suc left) path d scope s after e = level_found (SpellsWithin left) (read left) (found left) (suc left) path d scope s after e
