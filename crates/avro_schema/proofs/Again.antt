-- What is spelled within the limits is read.
use Rattle.std.proofs.Common.{◌≡◌, ℕ, zero, suc, ◌-◌, ◌+◌, ◌≤◌, ◌<◌, ◌==◌, List, [], ◌∷◌, codes, Ok, refl, sym, ap, ◌∙◌, arith, Option, Some, None, option_and_then, false, le-ltb, inl, inr, ℤ}
use Rattle.std.proofs.Math.Dec.{eqb-suc-zero}
use Rattle.serde_json.specs.Data.{Data, null, boolean, number, string, array, object, Items, no_items, item}
use Rattle.serde_json.specs.Find.{get, as_array}
use Rattle.avro_schema.specs.declared.known.Known.TheVariants.{Open, Defined}
use Rattle.avro_schema.specs.declared.scope.Scope.{Scope}
use Rattle.avro_schema.specs.declared.schema.Field.{Field}
use Rattle.avro_schema.specs.declared.schema.Schema.{Schema}
use Rattle.avro_schema.specs.declared.schema.Schema.TheVariants.{Fix, Choice, List as Array, Pairs, Fields, Union}
use Rattle.avro_schema.specs.Attribute.{text_at, u32_of, id_at}
use Rattle.avro_schema.specs.Form.{form_of, depth, width}
use Rattle.avro_schema.specs.Logical.{has_logical, fixed_logical}
use Rattle.avro_schema.specs.Names.{Names, find, define, last_part}
use Rattle.avro_schema.specs.Path.{key_path, index_path}
use Rattle.avro_schema.specs.Primitive.{primitive, is_primitive}
use Rattle.avro_schema.specs.Reading.{Read, Reader, ◌>>=◌, defining, referred, reference, primitive_or_reference, named, name_from, new_name, fixed_from, fixed_at, symbol_at, symbols_at, symbols_from, choice_at, with_first, each, inner_from, inner_at, array_at, map_at, field_from, field_at, fields_from, record_at, object_from, object_at, union_at, level, read}
use Rattle.avro_schema.specs.Spelling.{Tells, IsNamed, IsObjectOf, IsNewName, SpellsEach, strings, SpellsField, SpellsLevel, a_primitive, a_reference, a_union, an_array, a_map, a_fixed, an_enum, a_record, SpellsWithin}
use Rattle.avro_schema.proofs.FormLaws.{form-Fix, form-Choice, form-Array, form-Pairs, field_width, schema_width, total, width-Fields, width-Union}
use Rattle.avro_schema.proofs.Found.{primitive_narrow}

abbrev pub scope_of : Names → ℕ → Scope
scope_of names room = record { names = names; room = room }

abbrev pub IsRead : {A : Type 0} → Tells A → (A → ℕ) → Reader A → Type 0
IsRead {A} P w one = (path : List ℕ) (d : Data) (names : Names) (x : A) (after : Names) (room : ℕ) → P d names x after → w x ≤ room → one path d (scope_of names room) ≡ Ok (x, scope_of after (room - w x))

-- Trees in a list.

pub each_again : {A : Type 0} (P : Tells A) (w : A → ℕ) (one : Reader A) → IsRead P w one → (path : List ℕ) (i : ℕ) (ds : Items) (names : Names) (xs : List A) (after : Names) (room : ℕ)
    → SpellsEach P ds names xs after → total w xs ≤ room → each one path i ds (scope_of names room) ≡ Ok (xs, scope_of after (room - total w xs))
unfolding each
each_again {A} P w one h path i no_items names [] after room s fits =
    let left : room ≡ room - 0 = omega arith in
    ap (λ (n : Names). Ok ([], scope_of n room)) (sym s) ∙ ap (λ (k : ℕ). Ok ([], scope_of after k)) left
each_again {A} P w one h path i no_items names (x ∷ xs) after room s fits = absurd s
each_again {A} P w one h path i (item d ds) names [] after room s fits = absurd s
each_again {A} P w one h path i (item d ds) names (x ∷ xs) after room s fits =
    let first : one (index_path path i) d (scope_of names room) ≡ Ok (x, scope_of s.0 (room - w x)) = h (index_path path i) d names x s.0 room s.1 (omega arith) in
    let more : each one path (suc i) ds (scope_of s.0 (room - w x)) ≡ Ok (xs, scope_of after (room - w x - total w xs)) = each_again P w one h path (suc i) ds s.0 xs after (room - w x) s.2 (omega arith) in
    let left : room - w x - total w xs ≡ room - (w x + total w xs) = omega arith in
    ap (λ r. r >>= λ y. with_first y.0 (each one path (suc i) ds y.1)) first ∙ ap (with_first x) more ∙ ap (λ (k : ℕ). Ok (x ∷ xs, scope_of after k)) left

-- Names of definitions.

pub name_again : (path : List ℕ) (d : Data) (names : Names) (name : List ℕ) → IsNewName names d name → new_name path d names ≡ Ok name
unfolding new_name
name_again path d names name s =
    let free : is_primitive (last_part s.full) ≡ false = ap is_primitive (sym s.is_last_part) ∙ s.is_free in
    let new : find (last_part s.full) names ≡ None = ap (λ n. find n names) (sym s.is_last_part) ∙ s.is_new in
    ap (λ o. name_from path o names) s.is_text ∙ rw (free, new) (ap (λ (n : List ℕ). Ok n) (sym s.is_last_part))

-- Primitive types and references.

unchanged : (s : Schema) (names after : Names) (room : ℕ) → after ≡ names → width (form_of s) ≡ 0 → ◌≡◌ {A = Read Schema} (Ok (s, scope_of names room)) (Ok (s, scope_of after (room - width (form_of s))))
unchanged s names after room same none =
    let left : room ≡ room - width (form_of s) = omega (arith, none) in
    ap (λ (n : Names). Ok (s, scope_of n room)) (sym same) ∙ ap (λ (k : ℕ). Ok (s, scope_of after k)) left

primitive_again : (most : ℕ) (path word : List ℕ) (d : Data) (names : Names) (s : Schema) (after : Names) (room : ℕ) → primitive word d ≡ Some s → after ≡ names
    → named most path word d (scope_of names room) ≡ Ok (s, scope_of after (room - schema_width s))
unfolding named
primitive_again most path word d names s after room is same =
    ap (λ o. primitive_or_reference most path word o (scope_of names room)) is ∙ unchanged s names after room same (primitive_narrow word d s is)

reference_again : (most : ℕ) (path word : List ℕ) (d : Data) (names : Names) (s : Schema) (after : Names) (room : ℕ) → primitive word d ≡ None → find (last_part word) names ≡ Some (Defined s)
    → depth (form_of s) ≤ most → after ≡ names → schema_width s ≤ room → named most path word d (scope_of names room) ≡ Ok (s, scope_of after (room - schema_width s))
unfolding named reference
reference_again most path word d names s after room none known shallow same fits =
    ap (λ o. primitive_or_reference most path word o (scope_of names room)) none
    ∙ ap (λ o. referred most path o (scope_of names room)) known
    ∙ rw (le-ltb most (depth (form_of s)) shallow, le-ltb room (width (form_of s)) fits) (ap (λ (n : Names). Ok (s, scope_of n (room - width (form_of s)))) (sym same))

-- Symbols of an enum.

symbols_again : (path : List ℕ) (i : ℕ) (ts : List (List ℕ)) → symbols_at path i (strings ts) ≡ Ok ts
unfolding symbols_at symbol_at
symbols_again path i [] = refl
symbols_again path i (t ∷ ts) = ap (λ r. r >>= λ us. Ok (t ∷ us)) (symbols_again path (suc i) ts)

module _ (P : Tells Schema) (type : Reader Schema) (h : IsRead P schema_width type) where
  inner_again : (path key : List ℕ) (d t : Data) (names : Names) (s : Schema) (after : Names) (room : ℕ) → get key d ≡ Some t → P t names s after → schema_width s ≤ room
      → inner_at type path key d (scope_of names room) ≡ Ok (s, scope_of after (room - schema_width s))
  unfolding inner_at
  inner_again path key d t names s after room is s_is fits =
      ap (λ o. inner_from type (key_path path key) o (scope_of names room)) is ∙ h (key_path path key) t names s after room s_is fits

  field_again : IsRead (SpellsField P) field_width (field_at type)
  unfolding field_at
  field_again path d names f after room s fits =
      let some : (room == 0) ≡ false = positive room (omega arith) in
      let made : Field → Read Field = λ (g : Field). Ok (g, scope_of after (room - 1 - schema_width f.schema)) in
      let same : ◌≡◌ {A = Field} (record { name = f.name; schema = f.schema; field_id = id_at (codes "field-id") d }) f = ap (λ (id : Option ℤ). record { name = f.name; schema = f.schema; field_id = id }) (sym s.is_id) in
      let left : room - 1 - schema_width f.schema ≡ room - field_width f = omega arith in
      rw some (ap (λ o. field_from type path o d (scope_of names room)) s.is_name
      ∙ ap (λ r. r >>= λ x. Ok (record { name = f.name; schema = x.0; field_id = id_at (codes "field-id") d }, x.1)) (inner_again path (codes "type") d s.type names f.schema after (room - 1) s.is_type s.spells (omega arith))
      ∙ ap made same ∙ ap (λ (k : ℕ). Ok (f, scope_of after k)) left)
    where
      positive : (n : ℕ) → 0 < n → (n == 0) ≡ false
      positive zero e = absurd (omega arith)
      positive (suc n) e = eqb-suc-zero n

  module _ (most : ℕ) (path : List ℕ) (d : Data) (names : Names) (s : Schema) (after : Names) (room : ℕ) where
    abbrev IsReadHere : Type 0
    IsReadHere = level type most path d (scope_of names room) ≡ Ok (s, scope_of after (room - schema_width s))

    object_level : (word : List ℕ) → text_at (codes "type") d ≡ Some word → level type most path d (scope_of names room) ≡ object_from type most path (Some word) d (scope_of names room)
    unfolding level object_at
    object_level word is = go d is
      where
        go : (e : Data) → text_at (codes "type") e ≡ Some word → level type most path e (scope_of names room) ≡ object_from type most path (Some word) e (scope_of names room)
        go null is = absurd cc
        go (boolean b) is = absurd cc
        go (number n) is = absurd cc
        go (string t) is = absurd cc
        go (array ds) is = absurd cc
        go (object ms) is = ap (λ o. object_from type most path o (object ms) (scope_of names room)) is

    named_level : (word : List ℕ) → IsNamed word d → ((place : List ℕ) → named most place word d (scope_of names room) ≡ Ok (s, scope_of after (room - schema_width s))) → IsReadHere
    unfolding level
    named_level word (inl is) e = ap (λ t. level type most path t (scope_of names room)) is ∙ ap (λ t. named most path word t (scope_of names room)) (sym is) ∙ e path
    named_level word (inr is) e = object_level word is.0 ∙ rw (is.1.0, is.1.1, is.1.2, is.1.3, is.1.4) (e (key_path path (codes "type")))

    array_again : (t : Data) (inner : Schema) → IsObjectOf (codes "array") d → get (codes "items") d ≡ Some t → P t names inner after → s ≡ Array inner (id_at (codes "element-id") d) (has_logical (codes "map") d) → schema_width s ≤ room → IsReadHere
    unfolding array_at
    array_again t inner is there spelled same fits =
        let wide : schema_width s ≡ schema_width inner = ap schema_width same ∙ ap width (form-Array inner _ _) in
        object_level (codes "array") is
        ∙ ap (λ r. r >>= λ x. Ok (Array x.0 (id_at (codes "element-id") d) (has_logical (codes "map") d), x.1)) (inner_again path (codes "items") d t names inner after room there spelled (omega (arith, wide)))
        ∙ ap (λ (k : ℕ). Ok (Array inner (id_at (codes "element-id") d) (has_logical (codes "map") d), scope_of after (room - k))) (sym wide)
        ∙ ap (λ (u : Schema). Ok (u, scope_of after (room - schema_width s))) (sym same)

    map_again : (t : Data) (inner : Schema) → IsObjectOf (codes "map") d → get (codes "values") d ≡ Some t → P t names inner after → s ≡ Pairs inner (id_at (codes "key-id") d) (id_at (codes "value-id") d) → schema_width s ≤ room → IsReadHere
    unfolding map_at
    map_again t inner is there spelled same fits =
        let wide : schema_width s ≡ schema_width inner = ap schema_width same ∙ ap width (form-Pairs inner _ _) in
        object_level (codes "map") is
        ∙ ap (λ r. r >>= λ x. Ok (Pairs x.0 (id_at (codes "key-id") d) (id_at (codes "value-id") d), x.1)) (inner_again path (codes "values") d t names inner after room there spelled (omega (arith, wide)))
        ∙ ap (λ (k : ℕ). Ok (Pairs inner (id_at (codes "key-id") d) (id_at (codes "value-id") d), scope_of after (room - k))) (sym wide)
        ∙ ap (λ (u : Schema). Ok (u, scope_of after (room - schema_width s))) (sym same)

    union_again : (ds : Items) (branches : List Schema) → d ≡ array ds → SpellsEach P ds names branches after → s ≡ Union branches → schema_width s ≤ room → IsReadHere
    unfolding level union_at
    union_again ds branches is spelled same fits =
        let wide : schema_width s ≡ total schema_width branches = ap schema_width same ∙ width-Union branches in
        ap (λ t. level type most path t (scope_of names room)) is
        ∙ ap (λ r. r >>= λ x. Ok (Union x.0, x.1)) (each_again P schema_width type h path 0 ds names branches after room spelled (omega (arith, wide)))
        ∙ ap (λ (k : ℕ). Ok (Union branches, scope_of after (room - k))) (sym wide)
        ∙ ap (λ (u : Schema). Ok (u, scope_of after (room - schema_width s))) (sym same)

    -- a definition without fields
    defined_again : (name : List ℕ) (t : Schema) → s ≡ t → width (form_of t) ≡ 0 → after ≡ define name (Defined s) names
        → ◌≡◌ {A = Read Schema} (Ok (t, defining name (Defined t) (scope_of names room))) (Ok (s, scope_of after (room - schema_width s)))
    defined_again name t same none names_is =
        let left : room ≡ room - schema_width s = omega (arith, ap schema_width same ∙ none) in
        ap (λ (u : Schema). Ok (u, scope_of (define name (Defined u) names) room)) (sym same) ∙ ap (λ (n : Names). Ok (s, scope_of n room)) (sym names_is) ∙ ap (λ (k : ℕ). Ok (s, scope_of after k)) left

    fixed_again : (name : List ℕ) (size : ℕ) → IsObjectOf (codes "fixed") d → IsNewName names d name → option_and_then u32_of (get (codes "size") d) ≡ Some size → s ≡ Fix name size (fixed_logical size d) → after ≡ define name (Defined s) names → IsReadHere
    unfolding fixed_at
    fixed_again name size is new sized same names_is =
        object_level (codes "fixed") is
        ∙ ap (λ r. r >>= λ n. fixed_from path n (option_and_then u32_of (get (codes "size") d)) d (scope_of names room)) (name_again path d names name new)
        ∙ ap (λ o. fixed_from path name o d (scope_of names room)) sized
        ∙ defined_again name (Fix name size (fixed_logical size d)) same (ap width (form-Fix name size _)) names_is

    choice_again : (name : List ℕ) (symbols : List (List ℕ)) → IsObjectOf (codes "enum") d → IsNewName names d name → option_and_then as_array (get (codes "symbols") d) ≡ Some (strings symbols) → s ≡ Choice name symbols → after ≡ define name (Defined s) names → IsReadHere
    unfolding choice_at
    choice_again name symbols is new listed same names_is =
        let place = key_path path (codes "symbols") in
        object_level (codes "enum") is
        ∙ ap (λ r. r >>= λ n. symbols_from place (option_and_then as_array (get (codes "symbols") d)) >>= λ ts. Ok (Choice n ts, defining n (Defined (Choice n ts)) (scope_of names room))) (name_again path d names name new)
        ∙ ap (λ r. r >>= λ ts. Ok (Choice name ts, defining name (Defined (Choice name ts)) (scope_of names room))) (ap (symbols_from place) listed ∙ symbols_again place 0 symbols)
        ∙ defined_again name (Choice name symbols) same (ap width (form-Choice name symbols)) names_is

    record_again : (name : List ℕ) (ds : Items) (fields : List Field) (within : Names) → IsObjectOf (codes "record") d → IsNewName names d name → option_and_then as_array (get (codes "fields") d) ≡ Some ds
        → SpellsEach (SpellsField P) ds (define name Open names) fields within → s ≡ Fields name fields → after ≡ define name (Defined s) within → schema_width s ≤ room → IsReadHere
    unfolding record_at
    record_again name ds fields within is new listed spelled same names_is fits =
        let place = key_path path (codes "fields") in
        let wide : schema_width s ≡ total field_width fields = ap schema_width same ∙ width-Fields name fields in
        let opened = scope_of (define name Open names) room in
        object_level (codes "record") is
        ∙ ap (λ r. r >>= λ n. fields_from type place (option_and_then as_array (get (codes "fields") d)) (defining n Open (scope_of names room)) >>= λ x. Ok (Fields n x.0, defining n (Defined (Fields n x.0)) x.1)) (name_again path d names name new)
        ∙ ap (λ r. r >>= λ x. Ok (Fields name x.0, defining name (Defined (Fields name x.0)) x.1))
        (ap (λ o. fields_from type place o opened) listed ∙ each_again (SpellsField P) field_width (field_at type) field_again place 0 ds (define name Open names) fields within room spelled (omega (arith, wide)))
        ∙ ap (λ (u : Schema). Ok (u, scope_of (define name (Defined u) within) (room - total field_width fields))) (sym same)
        ∙ ap (λ (n : Names). Ok (s, scope_of n (room - total field_width fields))) (sym names_is)
        ∙ ap (λ (k : ℕ). Ok (s, scope_of after (room - k))) (sym wide)

    level_again : SpellsLevel P most d names s after → schema_width s ≤ room → IsReadHere
    level_again (a_primitive word is_named is same) fits = named_level word is_named (λ place. primitive_again most place word d names s after room is same)
    level_again (a_reference word is_named none known shallow same) fits = named_level word is_named (λ place. reference_again most place word d names s after room none known shallow same fits)
    level_again (a_union ds branches is spelled same) fits = union_again ds branches is spelled same fits
    level_again (an_array t inner is there spelled same) fits = array_again t inner is there spelled same fits
    level_again (a_map t inner is there spelled same) fits = map_again t inner is there spelled same fits
    level_again (a_fixed name size is new sized same names_is) fits = fixed_again name size is new sized same names_is
    level_again (an_enum name symbols is new listed same names_is) fits = choice_again name symbols is new listed same names_is
    level_again (a_record name ds fields within is new listed spelled same names_is) fits = record_again name ds fields within is new listed spelled same names_is fits

pub again : (most : ℕ) → IsRead (SpellsWithin most) schema_width (read most)
unfolding read SpellsWithin
again zero path d names s after room spelled fits = absurd spelled
again (suc left) path d names s after room spelled fits = level_again (SpellsWithin left) (read left) (again left) (suc left) path d names s after room spelled fits
