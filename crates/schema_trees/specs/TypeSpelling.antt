-- Which JSON trees spell which schema (Iceberg table specification, Appendix C, "Data Types" and "Schemas").
use Rattle.std.specs.Prelude.{◌≡◌, ℕ, zero, suc, ℤ, List, [], codes, map, Bool, Some, option_and_then}
use Rattle.serde_json.specs.Data.{Data, string, Items}
use Rattle.serde_json.specs.Find.{get, as_array, as_bool}
use Rattle.avro_schema.specs.Attribute.{text_at, id_at}
use Rattle.schema_types.specs.declared.types.ColType.{ColType}
use Rattle.schema_types.specs.declared.types.ColType.TheVariants.{Struct, List as ListOf, Map}
use Rattle.schema_types.specs.declared.types.Column.{Column}
use Rattle.schema_types.specs.declared.types.Schema.{Schema}
use Rattle.schema_types.specs.Ids.{joined, column_ids}
use Rattle.schema_trees.specs.Ids.{AreNew}
use Rattle.schema_trees.specs.Spelling.{SpellsEach}
use Rattle.schema_trees.specs.TypeWords.{primitive}

-- a column or a field of a struct; P tells which tree spells which type. Its other members count for nothing.
pub record SpellsColumn (P : Data → ColType → Type 0) (d : Data) (c : Column) : Type 0 where
  pub is_id : id_at (codes "id") d ≡ Some c.id
  pub is_name : text_at (codes "name") d ≡ Some c.name
  pub is_required : option_and_then as_bool (get (codes "required") d) ≡ Some c.required
  pub type : Data
  pub is_type : get (codes "type") d ≡ Some type
  pub spells : P type c.ty

-- a type; P tells which tree spells which type within it
pub data SpellsLevel (P : Data → ColType → Type 0) (d : Data) (t : ColType) : Type 0 where
  a_primitive : (word : List ℕ) → d ≡ string word → primitive word ≡ Some t → SpellsLevel P d t
  a_list : (e : Data) (element : ColType) (id : ℤ) (required : Bool) → text_at (codes "type") d ≡ Some (codes "list") → get (codes "element") d ≡ Some e → P e element
      → id_at (codes "element-id") d ≡ Some id → option_and_then as_bool (get (codes "element-required") d) ≡ Some required
      → t ≡ ListOf id required element → SpellsLevel P d t
  a_map : (k v : Data) (key value : ColType) (key_id value_id : ℤ) (required : Bool) → text_at (codes "type") d ≡ Some (codes "map")
      → get (codes "key") d ≡ Some k → P k key → id_at (codes "key-id") d ≡ Some key_id
      → get (codes "value") d ≡ Some v → P v value → id_at (codes "value-id") d ≡ Some value_id
      → option_and_then as_bool (get (codes "value-required") d) ≡ Some required
      → t ≡ Map key_id key value_id required value → SpellsLevel P d t
  a_struct : (ds : Items) (columns : List Column) → text_at (codes "type") d ≡ Some (codes "struct") → option_and_then as_array (get (codes "fields") d) ≡ Some ds
      → SpellsEach (SpellsColumn P) ds columns → t ≡ Struct columns → SpellsLevel P d t

-- the tree spells the type, in which at most so many types lie within one another
unfoldable pub SpellsWithin : ℕ → Data → ColType → Type 0
SpellsWithin zero d t = ⊥
SpellsWithin (suc left) d t = SpellsLevel (SpellsWithin left) d t

-- the ids of columns, elements, keys and values, in the order of the tree
abbrev pub schema_ids : List Column → List ℤ
schema_ids cs = joined (map column_ids cs)

-- a schema, no two of whose ids are equal, and in which at most 128 types lie within one another
pub record SpellsSchema (d : Data) (s : Schema) : Type 0 where
  pub is_struct : text_at (codes "type") d ≡ Some (codes "struct")
  pub is_schema_id : id_at (codes "schema-id") d ≡ Some s.id
  pub items : Items
  pub are_fields : option_and_then as_array (get (codes "fields") d) ≡ Some items
  pub spelled : SpellsEach (SpellsColumn (SpellsWithin 128)) items s.columns
  pub are_new : AreNew [] (schema_ids s.columns)

-- the tree spells no schema
abbrev pub SpellsNoSchema : Data → Type 0
SpellsNoSchema d = (s : Schema) → SpellsSchema d s → ⊥
