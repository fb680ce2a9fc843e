-- What an Avro schema of a file is (Iceberg table specification, Appendix A, "Avro").
use Rattle.std.specs.Prelude.{ℕ, ℤ, List, [], ◌∷◌, Bool, true, false, ◌==◌, ◌&&◌, if◌then◌else◌, Option, Some, None}
use Rattle.std.specs.Ordering.{int_eq}
use Rattle.avro_schema.specs.declared.schema.Field.{Field}
use Rattle.avro_schema.specs.declared.schema.Logical.{Logical}
use Rattle.avro_schema.specs.declared.schema.Logical.TheVariants.{Plain, Date, TimeMicros, TimestampMicros, Decimal, Uuid}
use Rattle.avro_schema.specs.declared.schema.Schema.{Schema, out-Schema}
use Rattle.avro_schema.specs.declared.schema.Schema.TheOpen.{Schema-F}
use Rattle.ice_schema.specs.declared.kinds.NullBranch.{NullBranch}
use Rattle.ice_schema.specs.declared.kinds.NullBranch.TheVariants as places

-- Kinds, by the outermost layer.

-- null, by its outermost layer
abbrev pub is_null_layer : Schema-F Schema Field → Bool
is_null_layer Schema-F.Null = true
is_null_layer _ = false

-- null
abbrev pub is_null : Schema → Bool
is_null s = is_null_layer (out-Schema s)

-- a boolean, by its outermost layer
abbrev pub is_boolean_layer : Schema-F Schema Field → Bool
is_boolean_layer Schema-F.Bool = true
is_boolean_layer _ = false

-- a boolean
abbrev pub is_boolean : Schema → Bool
is_boolean s = is_boolean_layer (out-Schema s)

-- a float, by its outermost layer
abbrev pub is_float_layer : Schema-F Schema Field → Bool
is_float_layer Schema-F.Float4 = true
is_float_layer _ = false

-- a float
abbrev pub is_float : Schema → Bool
is_float s = is_float_layer (out-Schema s)

-- a double, by its outermost layer
abbrev pub is_double_layer : Schema-F Schema Field → Bool
is_double_layer Schema-F.Float8 = true
is_double_layer _ = false

-- a double
abbrev pub is_double : Schema → Bool
is_double s = is_double_layer (out-Schema s)

-- the logical type of an int, by its outermost layer
abbrev pub int_of_layer : Schema-F Schema Field → Option Logical
int_of_layer (Schema-F.Int logical) = Some logical
int_of_layer _ = None

-- the logical type of an int
abbrev pub int_of : Schema → Option Logical
int_of s = int_of_layer (out-Schema s)

-- the logical type of a long, by its outermost layer
abbrev pub long_of_layer : Schema-F Schema Field → Option Logical
long_of_layer (Schema-F.Long logical) = Some logical
long_of_layer _ = None

-- the logical type of a long
abbrev pub long_of : Schema → Option Logical
long_of s = long_of_layer (out-Schema s)

-- the logical type of bytes, by its outermost layer
abbrev pub bytes_of_layer : Schema-F Schema Field → Option Logical
bytes_of_layer (Schema-F.Blob logical) = Some logical
bytes_of_layer _ = None

-- the logical type of bytes
abbrev pub bytes_of : Schema → Option Logical
bytes_of s = bytes_of_layer (out-Schema s)

-- the logical type of a string, by its outermost layer
abbrev pub string_of_layer : Schema-F Schema Field → Option Logical
string_of_layer (Schema-F.Str logical) = Some logical
string_of_layer _ = None

-- the logical type of a string
abbrev pub string_of : Schema → Option Logical
string_of s = string_of_layer (out-Schema s)

-- the logical type of a fixed, by its outermost layer
abbrev pub fixed_of_layer : Schema-F Schema Field → Option Logical
fixed_of_layer (Schema-F.Fix name size logical) = Some logical
fixed_of_layer _ = None

-- the logical type of a fixed
abbrev pub fixed_of : Schema → Option Logical
fixed_of s = fixed_of_layer (out-Schema s)

-- how many bytes a fixed has, and 0 of another, by its outermost layer
abbrev pub size_of_layer : Schema-F Schema Field → ℕ
size_of_layer (Schema-F.Fix name size logical) = size
size_of_layer _ = 0

-- how many bytes a fixed has, and 0 of another
abbrev pub size_of : Schema → ℕ
size_of s = size_of_layer (out-Schema s)

-- the fields of a record, by its outermost layer
abbrev pub fields_of_layer : Schema-F Schema Field → Option (List Field)
fields_of_layer (Schema-F.Fields name fields) = Some fields
fields_of_layer _ = None

-- the fields of a record
abbrev pub fields_of : Schema → Option (List Field)
fields_of s = fields_of_layer (out-Schema s)

-- the items of an array that stands for no map, by its outermost layer
abbrev pub item_of_layer : Schema-F Schema Field → Option Schema
item_of_layer (Schema-F.List item element_id is_map) = if is_map then None else Some item
item_of_layer _ = None

-- the items of an array that stands for no map
abbrev pub item_of : Schema → Option Schema
item_of s = item_of_layer (out-Schema s)

-- the id of an array's items, by its outermost layer
abbrev pub element_id_of_layer : Schema-F Schema Field → Option ℤ
element_id_of_layer (Schema-F.List item element_id is_map) = element_id
element_id_of_layer _ = None

-- the id of an array's items
abbrev pub element_id_of : Schema → Option ℤ
element_id_of s = element_id_of_layer (out-Schema s)

-- the fields of the records of a key and a value, of an array that stands for a map, by its outermost layer
abbrev pub entries_of_layer : Schema-F Schema Field → Option (List Field)
entries_of_layer (Schema-F.List item element_id is_map) = if is_map then fields_of item else None
entries_of_layer _ = None

-- the fields of the records of a key and a value, of an array that stands for a map
abbrev pub entries_of : Schema → Option (List Field)
entries_of s = entries_of_layer (out-Schema s)

-- the values of a map with string keys, by its outermost layer
abbrev pub value_of_layer : Schema-F Schema Field → Option Schema
value_of_layer (Schema-F.Pairs value key_id value_id) = Some value
value_of_layer _ = None

-- the values of a map with string keys
abbrev pub value_of : Schema → Option Schema
value_of s = value_of_layer (out-Schema s)

-- the id of such a map's keys, by its outermost layer
abbrev pub key_id_of_layer : Schema-F Schema Field → Option ℤ
key_id_of_layer (Schema-F.Pairs value key_id value_id) = key_id
key_id_of_layer _ = None

-- the id of such a map's keys
abbrev pub key_id_of : Schema → Option ℤ
key_id_of s = key_id_of_layer (out-Schema s)

-- the id of its values, by its outermost layer
abbrev pub value_id_of_layer : Schema-F Schema Field → Option ℤ
value_id_of_layer (Schema-F.Pairs value key_id value_id) = value_id
value_id_of_layer _ = None

-- the id of its values
abbrev pub value_id_of : Schema → Option ℤ
value_id_of s = value_id_of_layer (out-Schema s)

-- Logical types.

-- none
abbrev pub is_plain : Option Logical → Bool
is_plain (Some Plain) = true
is_plain _ = false

-- a date
abbrev pub is_date : Option Logical → Bool
is_date (Some Date) = true
is_date _ = false

-- a time of day in microseconds
abbrev pub is_time : Option Logical → Bool
is_time (Some TimeMicros) = true
is_time _ = false

-- a moment in microseconds without a time zone
abbrev pub is_timestamp : Option Logical → Bool
is_timestamp (Some (TimestampMicros false)) = true
is_timestamp _ = false

-- a moment in microseconds in UTC
abbrev pub is_timestamptz : Option Logical → Bool
is_timestamptz (Some (TimestampMicros true)) = true
is_timestamptz _ = false

-- a decimal of this precision and scale
abbrev pub is_decimal : ℕ → ℕ → Option Logical → Bool
is_decimal precision scale (Some (Decimal p s)) = p == precision && s == scale
is_decimal precision scale _ = false

-- a UUID
abbrev pub is_uuid : Option Logical → Bool
is_uuid (Some Uuid) = true
is_uuid _ = false

-- Unions with null.

-- where null stands in a union of null and another type
abbrev pub null_in : List Schema → NullBranch
null_in (a ∷ (b ∷ [])) = if is_null a then places.First else (if is_null b then places.Second else places.Nowhere)
null_in _ = places.Nowhere

-- the type beside null in a union of null and another type; else the union itself
abbrev pub beside_null : Schema → List Schema → Schema
beside_null whole (a ∷ (b ∷ [])) = if is_null a then b else (if is_null b then a else whole)
beside_null whole _ = whole

-- whether and where a schema has null beside its type, by its outermost layer
abbrev pub null_layer : Schema-F Schema Field → NullBranch
null_layer (Schema-F.Union branches) = null_in branches
null_layer _ = places.Nowhere

-- whether and where a schema has null beside its type
abbrev pub null_branch : Schema → NullBranch
null_branch s = null_layer (out-Schema s)

-- the type, apart from null, by its outermost layer
abbrev pub type_layer : Schema → Schema-F Schema Field → Schema
type_layer whole (Schema-F.Union branches) = beside_null whole branches
type_layer whole _ = whole

-- the type, apart from null
abbrev pub type_within : Schema → Schema
type_within s = type_layer s (out-Schema s)

-- Ids.

-- it is this id
abbrev pub is_id : ℤ → Option ℤ → Bool
is_id id None = false
is_id id (Some own) = int_eq own id

-- the field has this id
abbrev pub has_id : ℤ → Field → Bool
has_id id f = is_id id f.field_id
