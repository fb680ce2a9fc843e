-- A schema that is read is spelled so.
use Rattle.std.proofs.Common.{◌≡◌, ℕ, ℤ, zero, suc, ◌++◌, List, [], ◌∷◌, codes, Bool, true, false, Ok, Err, refl, sym, ap, ◌∙◌, subst, Option, Some, None, option_and_then, ◌⊎◌, inl, inr, cond}
use Rattle.std.proofs.lemmas.Slice.Eq.{bytes_eq-Decides}
use Rattle.std.specs.Str.{bytes_eq}
use Rattle.serde_json.specs.Data.{Data, null, boolean, number, string, array, object}
use Rattle.serde_json.specs.Find.{get, as_array, as_bool}
use Rattle.avro_schema.specs.Attribute.{text_at, id_at, is_text}
use Rattle.avro_schema.specs.Path.{key_path}
use Rattle.schema_types.specs.declared.types.ColType.{ColType}
use Rattle.schema_types.specs.declared.types.ColType.TheVariants.{Struct, List as ListOf, Map}
use Rattle.schema_types.specs.declared.types.Column.{Column}
use Rattle.schema_types.specs.declared.types.Schema.{Schema}
use Rattle.schema_types.specs.Ids.{type_ids, column_ids}
use Rattle.schema_trees.specs.Ids.{AreNew}
use Rattle.schema_trees.specs.Reading.{Read, Reader, wanted, int_in, text_in, new_id, each}
use Rattle.schema_trees.specs.TypeReading.{flag_in, inner_from, inner_at, list_at, map_at, column_at, struct_at, object_from, object_at, word_at, level, read, schema_of}
use Rattle.schema_trees.specs.TypeSpelling.{SpellsColumn, SpellsLevel, a_primitive, a_list, a_map, a_struct, SpellsWithin, SpellsSchema}
use Rattle.schema_trees.specs.TypeWords.{primitive}
use Rattle.schema_trees.proofs.Found.{same_ok, same_value, same_rest, bind_ok, wanted_ok, object_ok, new_found, IsFoundAt, IsFound, ids_of, with_ids, with_ids-append, new-append, each_found}
use Rattle.schema_trees.proofs.TypeIds.{ids-List, ids-Map, ids-Struct, ids-column, ids-columns, ids-primitive}

chosen : {A : Type 0} (b : Bool) (x y z : A) → cond b x y ≡ z → ((b ≡ true) × (x ≡ z)) ⊎ ((b ≡ false) × (y ≡ z))
chosen true x y z e = inl (refl, e)
chosen false x y z e = inr (refl, e)

option_cases : {X : Type 0} (o : Option X) → (o ≡ None) ⊎ ((x : X) × (o ≡ Some x))
option_cases None = inl refl
option_cases (Some x) = inr (x, refl)

-- ids behind others: those of a part, and those that follow
behind : (seen xs ys between after : List ℤ) → between ≡ with_ids seen xs → after ≡ with_ids between ys → after ≡ with_ids seen (xs ++ ys)
behind seen xs ys between after a b = b ∙ ap (λ s. with_ids s ys) a ∙ with_ids-append seen xs ys

-- both are new
new-behind : (seen xs ys between : List ℤ) → between ≡ with_ids seen xs → AreNew seen xs → AreNew between ys → AreNew seen (xs ++ ys)
new-behind seen xs ys between a new more = new-append seen xs ys new (subst (λ s. AreNew s ys) a more)

word_found : (P : Data → ColType → Type 0) (path word : List ℕ) (seen : List ℤ) (t : ColType) (after : List ℤ) → word_at path word seen ≡ Ok (t, after) → IsFoundAt (SpellsLevel P (string word)) type_ids seen t after
unfolding word_at
word_found P path word seen t after e =
    let got = bind_ok (wanted path (primitive word)) (λ ty. Ok (ty, seen)) (t, after) e in
    let is : primitive word ≡ Some t = wanted_ok path (primitive word) got.0 got.1 ∙ ap (λ u. Some u) (same_value got.2) in
    let none : type_ids t ≡ [] = ids-primitive word t is in
    record {
      spells = a_primitive word refl is;
      met = sym (same_rest got.2) ∙ ap (λ ids. with_ids seen ids) (sym none);
      are_new = subst (AreNew seen) (sym none) tt;
    }

module _ (P : Data → ColType → Type 0) (type : Reader ColType) (h : IsFound P type_ids type) where
  -- a type under a key
  record IsInner (key : List ℕ) (d : Data) (seen : List ℤ) (t : ColType) (after : List ℤ) : Type 0 where
    tree : Data
    is_there : get key d ≡ Some tree
    found : IsFoundAt (P tree) type_ids seen t after

  inner_found : (path key : List ℕ) (d : Data) (seen : List ℤ) (t : ColType) (after : List ℤ) → inner_at type path key d seen ≡ Ok (t, after) → IsInner key d seen t after
  unfolding inner_at
  inner_found path key d seen t after e = elim (option_cases (get key d)) [
    | inl none ↦ absurd (let no = ap (λ o. inner_from type (key_path path key) o seen) (sym none) ∙ e in cc)
    | inr some ↦ record { tree = some.0; is_there = some.1; found = h (key_path path key) some.0 seen t after (ap (λ o. inner_from type (key_path path key) o seen) (sym some.1) ∙ e) }
  ]

  column_found : IsFound (SpellsColumn P) column_ids (column_at type)
  unfolding column_at text_in flag_in
  column_found path d seen c after e =
      let whole = object_ok path d _ (c, after) e in
      let id = bind_ok (new_id path (codes "id") d seen) _ (c, after) whole in
      let name = bind_ok (wanted (key_path path (codes "name")) (text_at (codes "name") d)) _ (c, after) id.2 in
      let required = bind_ok (wanted (key_path path (codes "required")) (option_and_then as_bool (get (codes "required") d))) _ (c, after) name.2 in
      let ty = bind_ok (inner_at type path (codes "type") d id.0.1) _ (c, after) required.2 in
      let met = new_found path (codes "id") d seen id.0.0 id.0.1 id.1 in
      let inner = inner_found path (codes "type") d id.0.1 ty.0.0 ty.0.1 ty.1 in
      let made : Column = record { id = id.0.0; name = name.0; required = required.0; ty = ty.0.0 } in
      let ids : column_ids made ≡ (id.0.0 ∷ []) ++ type_ids ty.0.0 = ids-column made in
      let it : IsFoundAt (SpellsColumn P d) column_ids seen made ty.0.1 = record {
        spells = record {
          is_id = met.0;
          is_name = wanted_ok (key_path path (codes "name")) (text_at (codes "name") d) name.0 name.1;
          is_required = wanted_ok (key_path path (codes "required")) (option_and_then as_bool (get (codes "required") d)) required.0 required.1;
          type = inner.tree;
          is_type = inner.is_there;
          spells = inner.found.spells;
        };
        met = behind seen (id.0.0 ∷ []) (type_ids ty.0.0) id.0.1 ty.0.1 met.2 inner.found.met ∙ ap (λ k. with_ids seen k) (sym ids);
        are_new = subst (AreNew seen) (sym ids) (new-behind seen (id.0.0 ∷ []) (type_ids ty.0.0) id.0.1 met.2 (met.1, tt) inner.found.are_new);
      } in
      let last : ◌≡◌ {A = Read Column} (Ok (made, ty.0.1)) (Ok (c, after)) = ty.2 in
      subst (λ (s : List ℤ). IsFoundAt (SpellsColumn P d) column_ids seen c s) (same_rest last) (subst (λ (g : Column). IsFoundAt (SpellsColumn P d) column_ids seen g ty.0.1) (same_value last) it)

  list_found : (path : List ℕ) (d : Data) (seen : List ℤ) (t : ColType) (after : List ℤ) → text_at (codes "type") d ≡ Some (codes "list") → list_at type path d seen ≡ Ok (t, after) → IsFoundAt (SpellsLevel P d) type_ids seen t after
  unfolding list_at flag_in
  list_found path d seen t after is e =
      let element = bind_ok (inner_at type path (codes "element") d seen) _ (t, after) e in
      let id = bind_ok (new_id path (codes "element-id") d element.0.1) _ (t, after) element.2 in
      let required = bind_ok (wanted (key_path path (codes "element-required")) (option_and_then as_bool (get (codes "element-required") d))) _ (t, after) id.2 in
      let inner = inner_found path (codes "element") d seen element.0.0 element.0.1 element.1 in
      let met = new_found path (codes "element-id") d element.0.1 id.0.0 id.0.1 id.1 in
      let made : ColType = ListOf id.0.0 required.0 element.0.0 in
      let ids : type_ids made ≡ type_ids element.0.0 ++ (id.0.0 ∷ []) = ids-List id.0.0 required.0 element.0.0 in
      let it : IsFoundAt (SpellsLevel P d) type_ids seen made id.0.1 = record {
        spells = a_list inner.tree element.0.0 id.0.0 required.0 is inner.is_there inner.found.spells met.0 (wanted_ok (key_path path (codes "element-required")) (option_and_then as_bool (get (codes "element-required") d)) required.0 required.1) refl;
        met = behind seen (type_ids element.0.0) (id.0.0 ∷ []) element.0.1 id.0.1 inner.found.met met.2 ∙ ap (λ k. with_ids seen k) (sym ids);
        are_new = subst (AreNew seen) (sym ids) (new-behind seen (type_ids element.0.0) (id.0.0 ∷ []) element.0.1 inner.found.met inner.found.are_new (met.1, tt));
      } in
      let last : ◌≡◌ {A = Read ColType} (Ok (made, id.0.1)) (Ok (t, after)) = required.2 in
      subst (λ (s : List ℤ). IsFoundAt (SpellsLevel P d) type_ids seen t s) (same_rest last) (subst (λ (u : ColType). IsFoundAt (SpellsLevel P d) type_ids seen u id.0.1) (same_value last) it)

  map_found : (path : List ℕ) (d : Data) (seen : List ℤ) (t : ColType) (after : List ℤ) → text_at (codes "type") d ≡ Some (codes "map") → map_at type path d seen ≡ Ok (t, after) → IsFoundAt (SpellsLevel P d) type_ids seen t after
  unfolding map_at flag_in
  map_found path d seen t after is e =
      let key = bind_ok (inner_at type path (codes "key") d seen) _ (t, after) e in
      let key_id = bind_ok (new_id path (codes "key-id") d key.0.1) _ (t, after) key.2 in
      let value = bind_ok (inner_at type path (codes "value") d key_id.0.1) _ (t, after) key_id.2 in
      let value_id = bind_ok (new_id path (codes "value-id") d value.0.1) _ (t, after) value.2 in
      let required = bind_ok (wanted (key_path path (codes "value-required")) (option_and_then as_bool (get (codes "value-required") d))) _ (t, after) value_id.2 in
      let keys = inner_found path (codes "key") d seen key.0.0 key.0.1 key.1 in
      let key_met = new_found path (codes "key-id") d key.0.1 key_id.0.0 key_id.0.1 key_id.1 in
      let values = inner_found path (codes "value") d key_id.0.1 value.0.0 value.0.1 value.1 in
      let value_met = new_found path (codes "value-id") d value.0.1 value_id.0.0 value_id.0.1 value_id.1 in
      let made : ColType = Map key_id.0.0 key.0.0 value_id.0.0 required.0 value.0.0 in
      let last_ids : List ℤ = type_ids value.0.0 ++ (value_id.0.0 ∷ []) in
      let ids : type_ids made ≡ type_ids key.0.0 ++ ((key_id.0.0 ∷ []) ++ last_ids) = ids-Map key_id.0.0 key.0.0 value_id.0.0 required.0 value.0.0 in
      let met_values : value_id.0.1 ≡ with_ids key_id.0.1 last_ids = behind key_id.0.1 (type_ids value.0.0) (value_id.0.0 ∷ []) value.0.1 value_id.0.1 values.found.met value_met.2 in
      let new_values : AreNew key_id.0.1 last_ids = new-behind key_id.0.1 (type_ids value.0.0) (value_id.0.0 ∷ []) value.0.1 values.found.met values.found.are_new (value_met.1, tt) in
      let met_rest : value_id.0.1 ≡ with_ids key.0.1 ((key_id.0.0 ∷ []) ++ last_ids) = behind key.0.1 (key_id.0.0 ∷ []) last_ids key_id.0.1 value_id.0.1 key_met.2 met_values in
      let new_rest : AreNew key.0.1 ((key_id.0.0 ∷ []) ++ last_ids) = new-behind key.0.1 (key_id.0.0 ∷ []) last_ids key_id.0.1 key_met.2 (key_met.1, tt) new_values in
      let it : IsFoundAt (SpellsLevel P d) type_ids seen made value_id.0.1 = record {
        spells = a_map keys.tree values.tree key.0.0 value.0.0 key_id.0.0 value_id.0.0 required.0 is keys.is_there keys.found.spells key_met.0 values.is_there values.found.spells value_met.0
            (wanted_ok (key_path path (codes "value-required")) (option_and_then as_bool (get (codes "value-required") d)) required.0 required.1) refl;
        met = behind seen (type_ids key.0.0) ((key_id.0.0 ∷ []) ++ last_ids) key.0.1 value_id.0.1 keys.found.met met_rest ∙ ap (λ k. with_ids seen k) (sym ids);
        are_new = subst (AreNew seen) (sym ids) (new-behind seen (type_ids key.0.0) ((key_id.0.0 ∷ []) ++ last_ids) key.0.1 keys.found.met keys.found.are_new new_rest);
      } in
      let last : ◌≡◌ {A = Read ColType} (Ok (made, value_id.0.1)) (Ok (t, after)) = required.2 in
      subst (λ (s : List ℤ). IsFoundAt (SpellsLevel P d) type_ids seen t s) (same_rest last) (subst (λ (u : ColType). IsFoundAt (SpellsLevel P d) type_ids seen u value_id.0.1) (same_value last) it)

  struct_found : (path : List ℕ) (d : Data) (seen : List ℤ) (t : ColType) (after : List ℤ) → text_at (codes "type") d ≡ Some (codes "struct") → struct_at type path d seen ≡ Ok (t, after) → IsFoundAt (SpellsLevel P d) type_ids seen t after
  unfolding struct_at
  struct_found path d seen t after is e =
      let items = bind_ok (wanted (key_path path (codes "fields")) (option_and_then as_array (get (codes "fields") d))) _ (t, after) e in
      let columns = bind_ok (each (column_at type) (key_path path (codes "fields")) 0 items.0 seen) _ (t, after) items.2 in
      let all = each_found (SpellsColumn P) column_ids (column_at type) column_found (key_path path (codes "fields")) 0 items.0 seen columns.0.0 columns.0.1 columns.1 in
      let made : ColType = Struct columns.0.0 in
      let ids : type_ids made ≡ ids_of column_ids columns.0.0 = ids-Struct columns.0.0 ∙ sym (ids-columns columns.0.0) in
      let it : IsFoundAt (SpellsLevel P d) type_ids seen made columns.0.1 = record {
        spells = a_struct items.0 columns.0.0 is (wanted_ok (key_path path (codes "fields")) (option_and_then as_array (get (codes "fields") d)) items.0 items.1) all.spells refl;
        met = all.met ∙ ap (λ k. with_ids seen k) (sym ids);
        are_new = subst (AreNew seen) (sym ids) all.are_new;
      } in
      let last : ◌≡◌ {A = Read ColType} (Ok (made, columns.0.1)) (Ok (t, after)) = columns.2 in
      subst (λ (s : List ℤ). IsFoundAt (SpellsLevel P d) type_ids seen t s) (same_rest last) (subst (λ (u : ColType). IsFoundAt (SpellsLevel P d) type_ids seen u columns.0.1) (same_value last) it)

  object_found : (path : List ℕ) (d : Data) (seen : List ℤ) (t : ColType) (after : List ℤ) → object_at type path d seen ≡ Ok (t, after) → IsFoundAt (SpellsLevel P d) type_ids seen t after
  unfolding object_at
  object_found path d seen t after e = elim (option_cases (text_at (codes "type") d)) [
    | inl none ↦ absurd (let no = ap (λ o. object_from type path o d seen) (sym none) ∙ e in cc)
    | inr some ↦ (
        let word = some.0 in
        let is : text_at (codes "type") d ≡ Some word = some.1 in
        let from = ap (λ o. object_from type path o d seen) (sym is) ∙ e in
        let told = λ (w : List ℕ) (b : bytes_eq word w ≡ true). is ∙ ap (λ x. Some x) ((bytes_eq-Decides word w).0 b) in
        elim (chosen (bytes_eq word (codes "list")) (list_at type path d seen) _ (Ok (t, after)) from) [
          | inl a ↦ list_found path d seen t after (told (codes "list") a.0) a.1
          | inr a ↦ elim (chosen (bytes_eq word (codes "map")) (map_at type path d seen) _ (Ok (t, after)) a.1) [
            | inl b ↦ map_found path d seen t after (told (codes "map") b.0) b.1
            | inr b ↦ elim (chosen (bytes_eq word (codes "struct")) (struct_at type path d seen) _ (Ok (t, after)) b.1) [
              | inl c ↦ struct_found path d seen t after (told (codes "struct") c.0) c.1
              | inr c ↦ absurd (let no = c.1 in cc)
            ]
          ]
        ])
  ]

  level_found : IsFound (SpellsLevel P) type_ids (level type)
  unfolding level
  level_found path null seen t after e = absurd cc
  level_found path (boolean b) seen t after e = absurd cc
  level_found path (number n) seen t after e = absurd cc
  level_found path (string word) seen t after e = word_found P path word seen t after e
  level_found path (array ds) seen t after e = absurd cc
  level_found path (object ms) seen t after e = object_found path (object ms) seen t after e

found : (most : ℕ) → IsFound (SpellsWithin most) type_ids (read most)
unfolding read SpellsWithin
found zero path d seen t after e = absurd cc
found (suc left) path d seen t after e = level_found (SpellsWithin left) (read left) (found left) path d seen t after e

text_is : (wanted_text : List ℕ) (o : Option (List ℕ)) → is_text wanted_text o ≡ true → o ≡ Some wanted_text
text_is w None e = absurd cc
text_is w (Some t) e = ap (λ x. Some x) ((bytes_eq-Decides t w).0 e)

pub schema_found : (d : Data) (s : Schema) → schema_of d ≡ Ok s → SpellsSchema d s
unfolding schema_of int_in
schema_found d s e =
    let whole = object_ok [] d _ s e in
    let items = bind_ok (wanted (key_path [] (codes "fields")) (option_and_then as_array (get (codes "fields") d))) _ s whole in
    let columns = bind_ok (each (column_at (read 128)) (codes "fields") 0 items.0 []) _ s items.2 in
    let id = bind_ok (wanted (key_path [] (codes "schema-id")) (id_at (codes "schema-id") d)) _ s columns.2 in
    let all = each_found (SpellsColumn (SpellsWithin 128)) column_ids (column_at (read 128)) (column_found (SpellsWithin 128) (read 128) (found 128)) (codes "fields") 0 items.0 [] columns.0.0 columns.0.1 columns.1 in
    let made : Schema = record { id = id.0; columns = columns.0.0 } in
    elim (chosen (is_text (codes "struct") (text_at (codes "type") d)) (Ok made) (Err (codes "type")) (Ok s) id.2) [
      | inl good ↦ (
          let it : SpellsSchema d made = record {
            is_struct = text_is (codes "struct") (text_at (codes "type") d) good.0;
            is_schema_id = wanted_ok (key_path [] (codes "schema-id")) (id_at (codes "schema-id") d) id.0 id.1;
            items = items.0;
            are_fields = wanted_ok (key_path [] (codes "fields")) (option_and_then as_array (get (codes "fields") d)) items.0 items.1;
            spelled = all.spells;
            are_new = subst (AreNew []) (ids-columns columns.0.0) all.are_new;
          } in
          subst (SpellsSchema d) (same_ok good.1) it)
      | inr bad ↦ absurd (let no = bad.1 in cc)
    ]
