-- A schema that is spelled is read.
use Rattle.std.proofs.Common.{◌≡◌, ℕ, ℤ, zero, suc, ◌++◌, List, [], ◌∷◌, codes, Bool, Result, Ok, Err, sym, ap, ◌∙◌, subst, Option, Some, option_and_then, cond}
use Rattle.serde_json.specs.Data.{Data, null, boolean, number, string, array, object, Items}
use Rattle.serde_json.specs.Find.{get, as_str, as_array, as_bool}
use Rattle.avro_schema.specs.Attribute.{text_at, id_at, is_text}
use Rattle.avro_schema.specs.Path.{key_path}
use Rattle.schema_types.specs.declared.types.ColType.{ColType}
use Rattle.schema_types.specs.declared.types.ColType.TheVariants.{Struct, List as ListOf, Map}
use Rattle.schema_types.specs.declared.types.Column.{Column}
use Rattle.schema_types.specs.declared.types.Schema.{Schema}
use Rattle.schema_types.specs.Ids.{type_ids, column_ids}
use Rattle.schema_trees.specs.Ids.{with_id, AreNew}
use Rattle.schema_trees.specs.Reading.{Fault, Read, Reader, ◌>>=◌, wanted, int_in, text_in, new_id, each}
use Rattle.schema_trees.specs.Spelling.{SpellsEach}
use Rattle.schema_trees.specs.TypeReading.{flag_in, inner_from, inner_at, list_at, map_at, column_at, struct_at, object_from, object_at, word_at, level, read, schema_of}
use Rattle.schema_trees.specs.TypeSpelling.{SpellsColumn, SpellsLevel, a_primitive, a_list, a_map, a_struct, SpellsWithin, SpellsSchema}
use Rattle.schema_trees.specs.TypeWords.{primitive}
use Rattle.schema_trees.proofs.Found.{ids_of, with_ids, with_ids-append}
use Rattle.schema_trees.proofs.Again.{IsRead, new-front, new-back, each_again, object_is, there, new_again}
use Rattle.schema_trees.proofs.TypeIds.{ids-List, ids-Map, ids-Struct, ids-column, ids-columns, ids-primitive}

word_again : (path word : List ℕ) (seen : List ℤ) (t : ColType) → primitive word ≡ Some t → word_at path word seen ≡ Ok (t, with_ids seen (type_ids t))
unfolding word_at
word_again path word seen t is =
    ap (λ o. wanted path o >>= λ ty. Ok (ty, seen)) is ∙ ap (λ (k : List ℤ). Ok (t, k)) (ap (λ ids. with_ids seen ids) (sym (ids-primitive word t is)))

flag_again : (path key : List ℕ) (d : Data) (b : Bool) → option_and_then as_bool (get key d) ≡ Some b → flag_in path key d ≡ Ok b
unfolding flag_in
flag_again path key d b is = ap (wanted (key_path path key)) is

text_again : (path key : List ℕ) (d : Data) (t : List ℕ) → text_at key d ≡ Some t → text_in path key d ≡ Ok t
unfolding text_in
text_again path key d t is = ap (wanted (key_path path key)) is

module _ (P : Data → ColType → Type 0) (type : Reader ColType) (h : IsRead P type_ids type) where
  inner_again : (path key : List ℕ) (d e : Data) (seen : List ℤ) (t : ColType) → get key d ≡ Some e → P e t → AreNew seen (type_ids t) → inner_at type path key d seen ≡ Ok (t, with_ids seen (type_ids t))
  unfolding inner_at
  inner_again path key d e seen t is spelled new = ap (λ o. inner_from type (key_path path key) o seen) is ∙ h (key_path path key) e seen t spelled new

  column_again : IsRead (SpellsColumn P) column_ids (column_at type)
  unfolding column_at
  column_again path d seen c s new =
      let object_there = there (codes "name") d as_str c.name s.is_name in
      let own : List ℤ = with_id c.id seen in
      let ids : column_ids c ≡ c.id ∷ type_ids c.ty = ids-column c in
      let news : AreNew seen (c.id ∷ type_ids c.ty) = subst (AreNew seen) ids new in
      let last : ℤ × List ℤ → List ℕ → Bool → ColType × List ℤ → Read Column = λ id name required ty. Ok (record { id = id.0; name = name; required = required; ty = ty.0 }, ty.1) in
      let behind_id : ℤ × List ℤ → Read Column = λ id.
      text_in path (codes "name") d >>= λ name.
      flag_in path (codes "required") d >>= λ required.
      inner_at type path (codes "type") d id.1 >>= λ ty.
      last id name required ty in
      let id : ℤ × List ℤ = (c.id, own) in
      object_is path d (codes "name") object_there.0 (new_id path (codes "id") d seen >>= behind_id) object_there.1
      ∙ ap (λ r. r >>= behind_id) (new_again path (codes "id") d seen c.id s.is_id news.0)
      ∙ ap (λ r. r >>= λ name. flag_in path (codes "required") d >>= λ required. inner_at type path (codes "type") d own >>= λ ty. last id name required ty) (text_again path (codes "name") d c.name s.is_name)
      ∙ ap (λ r. r >>= λ required. inner_at type path (codes "type") d own >>= λ ty. last id c.name required ty) (flag_again path (codes "required") d c.required s.is_required)
      ∙ ap (λ r. r >>= λ ty. last id c.name c.required ty) (inner_again path (codes "type") d s.type own c.ty s.is_type s.spells news.1)
      ∙ ap (λ (k : List ℤ). Ok (c, k)) (ap (λ k. with_ids seen k) (sym ids))

  module _ (path : List ℕ) (d : Data) (seen : List ℤ) (t : ColType) where
    abbrev IsReadHere : Type 0
    IsReadHere = level type path d seen ≡ Ok (t, with_ids seen (type_ids t))

    object_level : (word : List ℕ) → text_at (codes "type") d ≡ Some word → level type path d seen ≡ object_from type path (Some word) d seen
    unfolding level object_at
    object_level word is = go d is
      where
        go : (e : Data) → text_at (codes "type") e ≡ Some word → level type path e seen ≡ object_from type path (Some word) e seen
        go null is = absurd cc
        go (boolean b) is = absurd cc
        go (number n) is = absurd cc
        go (string t) is = absurd cc
        go (array ds) is = absurd cc
        go (object ms) is = ap (λ o. object_from type path o (object ms) seen) is

    list_again : (e : Data) (element : ColType) (id : ℤ) (required : Bool) → text_at (codes "type") d ≡ Some (codes "list") → get (codes "element") d ≡ Some e → P e element
        → id_at (codes "element-id") d ≡ Some id → option_and_then as_bool (get (codes "element-required") d) ≡ Some required → t ≡ ListOf id required element → AreNew seen (type_ids t) → IsReadHere
    unfolding list_at
    list_again e element id required is is_there spelled is_id is_required same new =
        let ids : type_ids t ≡ type_ids element ++ (id ∷ []) = ap type_ids same ∙ ids-List id required element in
        let news : AreNew seen (type_ids element ++ (id ∷ [])) = subst (AreNew seen) ids new in
        let between : List ℤ = with_ids seen (type_ids element) in
        let last : ColType × List ℤ → ℤ × List ℤ → Bool → Read ColType = λ element id required. Ok (ListOf id.0 required element.0, id.1) in
        object_level (codes "list") is
        ∙ ap (λ r. r >>= λ element. new_id path (codes "element-id") d element.1 >>= λ id. flag_in path (codes "element-required") d >>= λ required. last element id required)
        (inner_again path (codes "element") d e seen element is_there spelled (new-front seen (type_ids element) (id ∷ []) news))
        ∙ ap (λ r. r >>= λ id. flag_in path (codes "element-required") d >>= λ required. last (element, between) id required)
        (new_again path (codes "element-id") d between id is_id (new-back seen (type_ids element) (id ∷ []) news).0)
        ∙ ap (λ r. r >>= λ required. last (element, between) (id, with_id id between) required) (flag_again path (codes "element-required") d required is_required)
        ∙ ap (λ (k : List ℤ). Ok (ListOf id required element, k)) (with_ids-append seen (type_ids element) (id ∷ []) ∙ ap (λ k. with_ids seen k) (sym ids))
        ∙ ap (λ (u : ColType). Ok (u, with_ids seen (type_ids t))) (sym same)

    map_again : (k v : Data) (key value : ColType) (key_id value_id : ℤ) (required : Bool) → text_at (codes "type") d ≡ Some (codes "map") → get (codes "key") d ≡ Some k → P k key
        → id_at (codes "key-id") d ≡ Some key_id → get (codes "value") d ≡ Some v → P v value → id_at (codes "value-id") d ≡ Some value_id
        → option_and_then as_bool (get (codes "value-required") d) ≡ Some required → t ≡ Map key_id key value_id required value → AreNew seen (type_ids t) → IsReadHere
    unfolding map_at
    map_again k v key value key_id value_id required is is_key key_spelled is_key_id is_value value_spelled is_value_id is_required same new =
        let ends : List ℤ = value_id ∷ [] in
        let lasts : List ℤ = type_ids value ++ ends in
        let ids : type_ids t ≡ type_ids key ++ (key_id ∷ lasts) = ap type_ids same ∙ ids-Map key_id key value_id required value in
        let news : AreNew seen (type_ids key ++ (key_id ∷ lasts)) = subst (AreNew seen) ids new in
        let one : List ℤ = with_ids seen (type_ids key) in
        let two : List ℤ = with_id key_id one in
        let three : List ℤ = with_ids two (type_ids value) in
        let rest : AreNew one (key_id ∷ lasts) = new-back seen (type_ids key) (key_id ∷ lasts) news in
        let last : ColType × List ℤ → ℤ × List ℤ → ColType × List ℤ → ℤ × List ℤ → Bool → Read ColType = λ key key_id value value_id required. Ok (Map key_id.0 key.0 value_id.0 required value.0, value_id.1) in
        object_level (codes "map") is
        ∙ ap (λ r. r >>= λ key. new_id path (codes "key-id") d key.1 >>= λ key_id. inner_at type path (codes "value") d key_id.1 >>= λ value. new_id path (codes "value-id") d value.1 >>= λ value_id. flag_in path (codes "value-required") d >>= λ required. last key key_id value value_id required)
        (inner_again path (codes "key") d k seen key is_key key_spelled (new-front seen (type_ids key) (key_id ∷ lasts) news))
        ∙ ap (λ r. r >>= λ key_id. inner_at type path (codes "value") d key_id.1 >>= λ value. new_id path (codes "value-id") d value.1 >>= λ value_id. flag_in path (codes "value-required") d >>= λ required. last (key, one) key_id value value_id required)
        (new_again path (codes "key-id") d one key_id is_key_id rest.0)
        ∙ ap (λ r. r >>= λ value. new_id path (codes "value-id") d value.1 >>= λ value_id. flag_in path (codes "value-required") d >>= λ required. last (key, one) (key_id, two) value value_id required)
        (inner_again path (codes "value") d v two value is_value value_spelled (new-front two (type_ids value) ends rest.1))
        ∙ ap (λ r. r >>= λ value_id. flag_in path (codes "value-required") d >>= λ required. last (key, one) (key_id, two) (value, three) value_id required)
        (new_again path (codes "value-id") d three value_id is_value_id (new-back two (type_ids value) ends rest.1).0)
        ∙ ap (λ r. r >>= λ required. last (key, one) (key_id, two) (value, three) (value_id, with_ids three ends) required) (flag_again path (codes "value-required") d required is_required)
        ∙ ap (λ (s : List ℤ). Ok (Map key_id key value_id required value, s))
        (with_ids-append two (type_ids value) ends ∙ with_ids-append seen (type_ids key) (key_id ∷ lasts) ∙ ap (λ s. with_ids seen s) (sym ids))
        ∙ ap (λ (u : ColType). Ok (u, with_ids seen (type_ids t))) (sym same)

    struct_again : (ds : Items) (columns : List Column) → text_at (codes "type") d ≡ Some (codes "struct") → option_and_then as_array (get (codes "fields") d) ≡ Some ds
        → SpellsEach (SpellsColumn P) ds columns → t ≡ Struct columns → AreNew seen (type_ids t) → IsReadHere
    unfolding struct_at
    struct_again ds columns is listed spelled same new =
        let ids : type_ids t ≡ ids_of column_ids columns = ap type_ids same ∙ ids-Struct columns ∙ sym (ids-columns columns) in
        let place : List ℕ = key_path path (codes "fields") in
        let last : List Column × List ℤ → Read ColType = λ columns. Ok (Struct columns.0, columns.1) in
        object_level (codes "struct") is
        ∙ ap (λ o. wanted place o >>= λ ds. each (column_at type) place 0 ds seen >>= last) listed
        ∙ ap (λ r. r >>= last) (each_again (SpellsColumn P) column_ids (column_at type) column_again place 0 ds seen columns spelled (subst (AreNew seen) ids new))
        ∙ ap (λ (k : List ℤ). Ok (Struct columns, k)) (ap (λ k. with_ids seen k) (sym ids))
        ∙ ap (λ (u : ColType). Ok (u, with_ids seen (type_ids t))) (sym same)

    primitive_again : (word : List ℕ) → d ≡ string word → primitive word ≡ Some t → IsReadHere
    unfolding level
    primitive_again word is names = ap (λ e. level type path e seen) is ∙ word_again path word seen t names

    level_again : SpellsLevel P d t → AreNew seen (type_ids t) → IsReadHere
    level_again (a_primitive word is names) new = primitive_again word is names
    level_again (a_list e element id required is is_there spelled is_id is_required same) new = list_again e element id required is is_there spelled is_id is_required same new
    level_again (a_map k v key value key_id value_id required is is_key key_spelled is_key_id is_value value_spelled is_value_id is_required same) new =
        map_again k v key value key_id value_id required is is_key key_spelled is_key_id is_value value_spelled is_value_id is_required same new
    level_again (a_struct ds columns is listed spelled same) new = struct_again ds columns is listed spelled same new

again : (most : ℕ) → IsRead (SpellsWithin most) type_ids (read most)
unfolding read SpellsWithin
again zero path d seen t spelled new = absurd spelled
again (suc left) path d seen t spelled new = level_again (SpellsWithin left) (read left) (again left) path d seen t spelled new

pub schema_again : (d : Data) (s : Schema) → SpellsSchema d s → schema_of d ≡ Ok s
unfolding schema_of int_in
schema_again d s spelled =
    let listed = there (codes "fields") d as_array spelled.items spelled.are_fields in
    let made : List Column → ℤ → Result Schema Fault = λ columns id. Ok (record { id = id; columns = columns }) in
    let checked : List Column → ℤ → Option (List ℕ) → Result Schema Fault = λ columns id word. cond (is_text (codes "struct") word) (made columns id) (Err (codes "type")) in
    let ending : List Column × List ℤ → Result Schema Fault = λ columns. wanted (key_path [] (codes "schema-id")) (id_at (codes "schema-id") d) >>= λ id. checked columns.0 id (text_at (codes "type") d) in
    let whole : Option Items → Result Schema Fault = λ o. wanted (key_path [] (codes "fields")) o >>= λ ds. each (column_at (read 128)) (codes "fields") 0 ds [] >>= ending in
    object_is [] d (codes "fields") listed.0 (whole (option_and_then as_array (get (codes "fields") d))) listed.1
    ∙ ap whole spelled.are_fields
    ∙ ap (λ r. r >>= ending) (each_again (SpellsColumn (SpellsWithin 128)) column_ids (column_at (read 128)) (column_again (SpellsWithin 128) (read 128) (again 128)) (codes "fields") 0 spelled.items [] s.columns spelled.spelled (subst (AreNew []) (sym (ids-columns s.columns)) spelled.are_new))
    ∙ ap (λ o. wanted (key_path [] (codes "schema-id")) o >>= λ id. checked s.columns id (text_at (codes "type") d)) spelled.is_schema_id
    ∙ ap (checked s.columns s.id) spelled.is_struct
