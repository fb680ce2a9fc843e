-- The Avro schema of a table's rows (Iceberg table specification, Appendix A, "Avro").
use Rattle.std.specs.Prelude.{◌≡◌, ◌<◌, ◌≤◌, ℕ, ℤ, ◌-◌, ◌*◌, ◌^◌, List, [], ◌∷◌, codes, Bool, true, false, find, nat_lt, if◌then◌else◌, Some, None, unwrap_or, map}
use Rattle.avro_schema.specs.declared.schema.Field.{Field}
use Rattle.avro_schema.specs.declared.schema.Logical.TheVariants.{Plain, Date, TimeMicros, TimestampMicros, Decimal, Uuid}
use Rattle.avro_schema.specs.declared.schema.Schema.{Schema, out-Schema}
use Rattle.avro_schema.specs.declared.schema.Schema.TheOpen.{Schema-F}
use Rattle.avro_schema.specs.declared.schema.Schema.TheVariants.{Null, Bool as Boolean, Int, Long, Float4, Float8, Blob, Str, Fix, List as Array, Pairs, Fields, Union}
use Rattle.schema_types.specs.declared.types.ColType.{ColType, fold-ColType}
use Rattle.schema_types.specs.declared.types.ColType.TheOpen.{ColType-F, Column-F}
use Rattle.schema_types.specs.declared.types.Column.{Column, fold-Column}
use Rattle.schema_types.specs.declared.types.Schema.{Schema as Table}
use Rattle.ice_schema.specs.Names.{record_name, fixed_name, entry_name, field_name}

-- so many bytes hold each number of so many digits, with its sign: 2^(8n - 1) is above 10^P - 1
abbrev pub holds_digits : ℕ → ℕ → Bool
holds_digits digits bytes = nat_lt (10 ^ digits - 1) (2 ^ (8 * bytes - 1))

-- the sizes of a decimal of at most 38 digits, in bytes
abbrev pub decimal_sizes : List ℕ
decimal_sizes = 0 ∷ (1 ∷ (2 ∷ (3 ∷ (4 ∷ (5 ∷ (6 ∷ (7 ∷ (8 ∷ (9 ∷ (10 ∷ (11 ∷ (12 ∷ (13 ∷ (14 ∷ (15 ∷ (16 ∷ []))))))))))))))))

-- how many bytes a decimal of so many digits, at most 38, has: the least that hold them
unfoldable pub decimal_size : ℕ → ℕ
decimal_size digits = unwrap_or (find (holds_digits digits) decimal_sizes) 16

-- so many bytes are the least that hold each number of so many digits
pub record IsLeastSize (digits bytes : ℕ) : Type 0 where
  pub holds : holds_digits digits bytes ≡ true
  pub least : (fewer : ℕ) → fewer < bytes → holds_digits digits fewer ≡ false

-- the size of each decimal of at most 38 digits is the least
abbrev pub DecimalSizesAreLeast : Type 0
DecimalSizesAreLeast = (digits : ℕ) → digits ≤ 38 → IsLeastSize digits (decimal_size digits)

-- what may be null is a union that begins with null
abbrev pub optional : Bool → Schema → Schema
optional required s = if required then s else Union (Null ∷ (s ∷ []))

-- a record's field with an id
abbrev pub field_of : List ℕ → ℤ → Schema → Field
field_of name id s = record { name = name; schema = s; field_id = Some id }

-- a string, from its outermost layer
abbrev pub is_string_layer : Schema-F Schema Field → Bool
is_string_layer Schema-F.Null = false
is_string_layer Schema-F.Bool = false
is_string_layer (Schema-F.Int logical) = false
is_string_layer (Schema-F.Long logical) = false
is_string_layer Schema-F.Float4 = false
is_string_layer Schema-F.Float8 = false
is_string_layer (Schema-F.Blob logical) = false
is_string_layer (Schema-F.Str logical) = true
is_string_layer (Schema-F.Fix name size logical) = false
is_string_layer (Schema-F.Choice name symbols) = false
is_string_layer (Schema-F.List item element_id is_map) = false
is_string_layer (Schema-F.Pairs value key_id value_id) = false
is_string_layer (Schema-F.Fields name fields) = false
is_string_layer (Schema-F.Union branches) = false

-- the schema is of strings
abbrev pub is_string : Schema → Bool
is_string s = is_string_layer (out-Schema s)

-- an array of records of a key and a value
abbrev pub entries_of : ℤ → Schema → ℤ → Schema → Schema
entries_of key_id key value_id value = Array (Fields (entry_name key_id value_id) (field_of (codes "key") key_id key ∷ (field_of (codes "value") value_id value ∷ []))) None true

-- a map: an Avro map where its keys are strings, else an array of records of a key and a value
abbrev pub map_of : ℤ → Schema → ℤ → Schema → Schema
map_of key_id key value_id value = if is_string key then Pairs value (Some key_id) (Some value_id) else entries_of key_id key value_id value

-- a column's field, once its type is mapped
abbrev pub column_step : Column-F (ℤ → Schema) Field → Field
column_step c = field_of (field_name c.id c.name) c.id (optional c.required (c.ty c.id))

-- what a type maps to under the id of what has the type, once those within it are mapped
abbrev pub type_step : ColType-F (ℤ → Schema) Field → ℤ → Schema
type_step ColType-F.Boolean id = Boolean
type_step ColType-F.Int id = Int Plain
type_step ColType-F.Long id = Long Plain
type_step ColType-F.Float id = Float4
type_step ColType-F.Double id = Float8
type_step (ColType-F.Decimal precision scale) id = Fix (fixed_name id) (decimal_size precision) (Decimal precision scale)
type_step ColType-F.Date id = Int Date
type_step ColType-F.Time id = Long TimeMicros
type_step ColType-F.Timestamp id = Long (TimestampMicros false)
type_step ColType-F.Timestamptz id = Long (TimestampMicros true)
type_step ColType-F.Str id = Str Plain
type_step ColType-F.Uuid id = Fix (fixed_name id) 16 Uuid
type_step (ColType-F.Fixed length) id = Fix (fixed_name id) length Plain
type_step ColType-F.Binary id = Blob Plain
type_step (ColType-F.Struct columns) id = Fields (record_name id) columns
type_step (ColType-F.List element_id required element) id = Array (optional required (element element_id)) (Some element_id) false
type_step (ColType-F.Map key_id key value_id required value) id = map_of key_id (key key_id) value_id (optional required (value value_id))

-- the Avro schema of a type, under the id of the column, element, key or value that has it
abbrev pub avro_type : ColType → ℤ → Schema
avro_type = fold-ColType (ℤ → Schema) Field type_step column_step

-- the field of a column
abbrev pub avro_field : Column → Field
avro_field = fold-Column (ℤ → Schema) Field type_step column_step

-- the field of values of a type that may be null, under an id, and named as a column of this id and name is
abbrev pub optional_field : ℤ → List ℕ → ColType → Field
optional_field id name ty = field_of (field_name id name) id (optional false (avro_type ty id))

-- the Avro schema of a table's rows: a record, named table, of the columns' fields in order
abbrev pub rows_schema : Table → Schema
rows_schema t = Fields (codes "table") (map avro_field t.columns)
