-- The written spelling of a schema. An object's members are put into the order of their keys, and a type whose name was written before is that name alone.
use Rattle.std.specs.Prelude.{ℕ, ℤ, List, [], ◌∷◌, codes, Bool, Option, Some, None, option_and_then, if◌then◌else◌}
use Rattle.std.specs.List.{list_any}
use Rattle.std.specs.Ordering.{nat_cmp}
use Rattle.std.specs.Cmp.Lexicographic.{slice_cmp}
use Rattle.std.specs.BTreeMap.{is_at}
use Rattle.std.specs.BTreeSet.{insert_key}
use Rattle.serde_json.specs.Data.{Data, null, boolean, number, string, array, object, unsigned, Members, no_members, put}
use Rattle.serde_json.specs.Find.{as_str, at, of_integer}
use Rattle.serde_json.specs.View.{items_of}
use Rattle.avro_schema.specs.Attribute.{is_text}
use Rattle.avro_schema.specs.Spelling.{strings}
use Rattle.avro_schema.specs.declared.schema.Field.{Field, fold-Field}
use Rattle.avro_schema.specs.declared.schema.Logical.{Logical}
use Rattle.avro_schema.specs.declared.schema.Logical.TheVariants.{Plain, Date, TimeMicros, TimestampMicros, Decimal, Uuid}
use Rattle.avro_schema.specs.declared.schema.Schema.{Schema, fold-Schema}
use Rattle.avro_schema.specs.declared.schema.Schema.TheOpen.{Schema-F, Field-F}

-- Names that were written, in their order.

-- a type of this name was written before
abbrev pub is_written : List ℕ → List (List ℕ) → Bool
is_written name names = list_any (is_at (slice_cmp nat_cmp name)) names

-- the written names with one more
abbrev pub with_name : List ℕ → List (List ℕ) → List (List ℕ)
with_name name names = insert_key (slice_cmp nat_cmp) names name

-- Members.

-- an object with an id, where there is one
unfoldable pub put_id : List ℕ → Option ℤ → Members → Members
put_id key None ms = ms
put_id key (Some id) ms = put key (number (of_integer id)) ms

-- an object with a logical type's word
abbrev pub put_word : List ℕ → Members → Members
put_word word ms = put (codes "logicalType") (string word) ms

-- an object with what is written for a logical type
unfoldable pub put_logical : Logical → Members → Members
put_logical Plain ms = ms
put_logical Date ms = put_word (codes "date") ms
put_logical TimeMicros ms = put_word (codes "time-micros") ms
put_logical (TimestampMicros adjust_to_utc) ms = put (codes "adjust-to-utc") (boolean adjust_to_utc) (put_word (codes "timestamp-micros") ms)
put_logical (Decimal precision scale) ms = put (codes "scale") (number (unsigned scale)) (put (codes "precision") (number (unsigned precision)) (put_word (codes "decimal") ms))
put_logical Uuid ms = put_word (codes "uuid") ms

-- an object of this type
abbrev pub typed : List ℕ → Members
typed word = put (codes "type") (string word) no_members

-- Types.

-- a primitive type: its word, or an object where it has a logical type
unfoldable pub primitive_tree : List ℕ → Logical → Data
primitive_tree word Plain = string word
primitive_tree word Date = object (put_logical Date (typed word))
primitive_tree word TimeMicros = object (put_logical TimeMicros (typed word))
primitive_tree word (TimestampMicros adjust_to_utc) = object (put_logical (TimestampMicros adjust_to_utc) (typed word))
primitive_tree word (Decimal precision scale) = object (put_logical (Decimal precision scale) (typed word))
primitive_tree word Uuid = object (put_logical Uuid (typed word))

-- a fixed type
unfoldable pub fixed_tree : List ℕ → ℕ → Logical → Data
fixed_tree name size logical = object (put_logical logical (put (codes "size") (number (unsigned size)) (put (codes "name") (string name) (typed (codes "fixed")))))

-- an enum
unfoldable pub choice_tree : List ℕ → List (List ℕ) → Data
choice_tree name symbols = object (put (codes "symbols") (array (strings symbols)) (put (codes "name") (string name) (typed (codes "enum"))))

-- an object that says that an array stands for a map, where it does
unfoldable pub put_map : Bool → Members → Members
put_map is_map ms = if is_map then put_word (codes "map") ms else ms

-- an array
unfoldable pub array_tree : Data → Option ℤ → Bool → Data
array_tree item element_id is_map = object (put_id (codes "element-id") element_id (put_map is_map (put (codes "items") item (typed (codes "array")))))

-- a map
unfoldable pub map_tree : Data → Option ℤ → Option ℤ → Data
map_tree value key_id value_id = object (put_id (codes "value-id") value_id (put_id (codes "key-id") key_id (put (codes "values") value (typed (codes "map")))))

-- a record
unfoldable pub record_tree : List ℕ → List Data → Data
record_tree name fields = object (put (codes "fields") (array (items_of fields)) (put (codes "name") (string name) (typed (codes "record"))))

-- the tree is of a union that begins with null
unfoldable pub begins_with_null : Data → Bool
begins_with_null d = is_text (codes "null") (option_and_then as_str (at 0 d))

-- a field whose type begins with null has the default null
unfoldable pub put_default : Data → Members → Members
put_default type ms = if begins_with_null type then put (codes "default") null ms else ms

-- a record's field
unfoldable pub field_tree : List ℕ → Data → Option ℤ → Data
field_tree name type field_id = object (put_default type (put_id (codes "field-id") field_id (put (codes "name") (string name) (put (codes "type") type no_members))))

-- what is written where these names were written before, and the names that were written behind it
abbrev pub Writes : Type 0 → Type 0
Writes A = List (List ℕ) → A × List (List ℕ)

-- a definition, or its name where that was written before
abbrev pub once : List ℕ → Writes Data → Writes Data
once name definition names = if is_written name names then (string name, names) else ((definition names).0, with_name name (definition names).1)

-- one after the other
abbrev pub written_each : List (Writes Data) → Writes (List Data)
written_each [] names = ([], names)
written_each (w ∷ ws) names = ((w names).0 ∷ (written_each ws (w names).1).0, (written_each ws (w names).1).1)

-- what is written for a field, once its schema is written
abbrev pub field_step : Field-F (Writes Data) (Writes Data) → Writes Data
field_step f names = (field_tree f.name (f.schema names).0 f.field_id, (f.schema names).1)

-- what is written for a schema, once those within it are written
abbrev pub schema_step : Schema-F (Writes Data) (Writes Data) → Writes Data
schema_step Schema-F.Null names = (string (codes "null"), names)
schema_step Schema-F.Bool names = (string (codes "boolean"), names)
schema_step (Schema-F.Int logical) names = (primitive_tree (codes "int") logical, names)
schema_step (Schema-F.Long logical) names = (primitive_tree (codes "long") logical, names)
schema_step Schema-F.Float4 names = (string (codes "float"), names)
schema_step Schema-F.Float8 names = (string (codes "double"), names)
schema_step (Schema-F.Blob logical) names = (primitive_tree (codes "bytes") logical, names)
schema_step (Schema-F.Str logical) names = (primitive_tree (codes "string") logical, names)
schema_step (Schema-F.Fix name size logical) names = once name (λ ns. (fixed_tree name size logical, ns)) names
schema_step (Schema-F.Choice name symbols) names = once name (λ ns. (choice_tree name symbols, ns)) names
schema_step (Schema-F.List item element_id is_map) names = (array_tree (item names).0 element_id is_map, (item names).1)
schema_step (Schema-F.Pairs value key_id value_id) names = (map_tree (value names).0 key_id value_id, (value names).1)
schema_step (Schema-F.Fields name fields) names = once name (λ ns. (record_tree name (written_each fields ns).0, (written_each fields ns).1)) names
schema_step (Schema-F.Union branches) names = (array (items_of (written_each branches names).0), (written_each branches names).1)

-- what is written for a schema where these names were written before
abbrev pub written_type : Schema → Writes Data
written_type = fold-Schema (Writes Data) (Writes Data) schema_step field_step

-- the same of a field
abbrev pub written_field : Field → Writes Data
written_field = fold-Field (Writes Data) (Writes Data) schema_step field_step

-- the tree that is written for a schema
unfoldable pub written_schema : Schema → Data
written_schema s = (written_type s []).0
