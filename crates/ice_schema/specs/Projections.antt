-- How the rows of a file become rows of a schema (Iceberg table specification, "Column Projection" and "Schema Evolution"). What is wanted is found by its id alone.
use Rattle.std.specs.Prelude.{ℕ, ℤ, List, [], ◌∷◌, Bool, true, false, ◌==◌, ◌&&◌, if◌then◌else◌, map, slice_get, Option, Some, None, is_some, option_map, unwrap_or}
use Rattle.std.specs.List.{position_or_len}
use Rattle.avro_schema.specs.declared.schema.Field.{Field}
use Rattle.avro_schema.specs.declared.schema.Logical.TheVariants.{Plain}
use Rattle.avro_schema.specs.declared.schema.Schema.{Schema}
use Rattle.avro_schema.specs.declared.schema.Schema.TheVariants.{Str}
use Rattle.schema_types.specs.declared.types.ColType.{ColType, fold-ColType}
use Rattle.schema_types.specs.declared.types.ColType.TheOpen.{ColType-F, Column-F}
use Rattle.schema_types.specs.declared.types.Column.{Column, fold-Column}
use Rattle.schema_types.specs.declared.types.Schema.{Schema as Table}
use Rattle.ice_schema.specs.declared.kinds.NullBranch.{NullBranch}
use Rattle.ice_schema.specs.declared.kinds.NullBranch.TheVariants as places
use Rattle.ice_schema.specs.declared.projection.Nullness.{Nullness}
use Rattle.ice_schema.specs.declared.projection.Nullness.TheVariants as nulls
use Rattle.ice_schema.specs.declared.projection.Projection.{Projection}
use Rattle.ice_schema.specs.declared.projection.Projection.TheVariants.{Kept, Widened, Record, Array, Map}
use Rattle.ice_schema.specs.declared.projection.Source.{Source}
use Rattle.ice_schema.specs.declared.projection.Source.TheVariants.{Absent, Present}
use Rattle.ice_schema.specs.Kinds.{is_boolean, is_float, is_double, int_of, long_of, bytes_of, string_of, fixed_of, size_of, fields_of, item_of, element_id_of, entries_of, value_of, key_id_of, value_id_of, is_plain, is_date, is_time, is_timestamp, is_timestamptz, is_decimal, is_uuid, null_branch, type_within, is_id, has_id}
use Rattle.ice_schema.specs.Mapping.{decimal_size}

-- Primitive types.

-- it stays as it is, where the file has the type that is wanted
abbrev pub kept : Bool → Option Projection
kept is_same = if is_same then Some Kept else None

-- a long: a long stays, and an int is widened
abbrev pub long_projection : Schema → Option Projection
long_projection s = if is_plain (long_of s) then Some Kept else (if is_plain (int_of s) then Some Widened else None)

-- a decimal of the same precision, scale and size
abbrev pub decimal_projection : ℕ → ℕ → Schema → Option Projection
decimal_projection precision scale s = kept (is_decimal precision scale (fixed_of s) && size_of s == decimal_size precision)

-- a UUID, which has 16 bytes
abbrev pub uuid_projection : Schema → Option Projection
uuid_projection s = kept (is_uuid (fixed_of s) && size_of s == 16)

-- a fixed of the same size
abbrev pub fixed_projection : ℕ → Schema → Option Projection
fixed_projection size s = kept (is_plain (fixed_of s) && size_of s == size)

-- What is there by its id, or lacks.

-- how null is taken over, where it may be: what is required may not be null in the file
abbrev pub nullness : Bool → NullBranch → Option Nullness
nullness true places.Nowhere = Some nulls.Required
nullness true places.First = None
nullness true places.Second = None
nullness false places.Nowhere = Some nulls.Wrapped
nullness false places.First = Some nulls.NullFirst
nullness false places.Second = Some nulls.NullSecond

-- a value that is at a place of the file
abbrev pub present : ℕ → Option Nullness → Option Projection → Option Source
present place None p = None
present place (Some n) None = None
present place (Some n) (Some p) = Some (Present place n p)

-- what is wanted lacks: it is null, where it isn't required
abbrev pub absent : Bool → Option Source
absent required = if required then None else Some Absent

-- where a value comes from, by what of the file has its id
abbrev pub source_of : Bool → (Schema → Option Projection) → ℕ → Option Schema → Option Source
source_of required type place None = absent required
source_of required type place (Some s) = present place (nullness required (null_branch s)) (type (type_within s))

-- the schema of the first field with this id
abbrev pub found_in : ℤ → List Field → Option Schema
found_in id fields = option_map (λ f. f.schema) (slice_get fields (position_or_len (has_id id) fields))

-- where a value comes from among the fields of a record
abbrev pub field_source : ℤ → Bool → (Schema → Option Projection) → List Field → Option Source
field_source id required type fields = source_of required type (position_or_len (has_id id) fields) (found_in id fields)

-- where a value comes from that stands alone in an array or a map, if it has the id
abbrev pub lone_source : ℤ → Bool → (Schema → Option Projection) → Option ℤ → Schema → Option Source
lone_source id required type own s = source_of required type 0 (if is_id id own then Some s else None)

-- Records, arrays and maps.

-- one more, before others
abbrev pub with_first : Option Source → Option (List Source) → Option (List Source)
with_first None more = None
with_first (Some s) None = None
with_first (Some s) (Some more) = Some (s ∷ more)

-- where each value comes from among the fields of a record
abbrev pub each_source : List Field → List (List Field → Option Source) → Option (List Source)
each_source fields [] = Some []
each_source fields (c ∷ cs) = with_first (c fields) (each_source fields cs)

-- a record, from the fields that the file's has
abbrev pub record_projection : List (List Field → Option Source) → Option (List Field) → Option Projection
record_projection columns None = None
record_projection columns (Some fields) = option_map Record (each_source fields columns)

-- an array, from the items that the file's has
abbrev pub array_projection : ℤ → Bool → (Schema → Option Projection) → Option ℤ → Option Schema → Option Projection
array_projection id required type own None = None
array_projection id required type own (Some item) = option_map Array (lone_source id required type own item)

-- an Avro map, whose keys are strings: the key must be there by its id
abbrev pub map_projection : ℤ → ℤ → Bool → (Schema → Option Projection) → Schema → Option Schema → Option Projection
map_projection key_id value_id required value s None = None
map_projection key_id value_id required value s (Some v) =
    if is_id key_id (key_id_of s) then option_map Map (lone_source value_id required value (value_id_of s) v) else None

-- an array of records, from where their keys and their values come from
abbrev pub entries_from : Option Source → Option Source → Option Projection
entries_from None value = None
entries_from (Some k) None = None
entries_from (Some k) (Some v) = Some (Array (Present 0 nulls.Required (Record (k ∷ (v ∷ [])))))

-- an array of records of a key, which is required, and a value
abbrev pub entries_projection : ℤ → (Schema → Option Projection) → ℤ → Bool → (Schema → Option Projection) → Option (List Field) → Option Projection
entries_projection key_id key value_id required value None = None
entries_projection key_id key value_id required value (Some fields) = entries_from (field_source key_id true key fields) (field_source value_id required value fields)

-- the schema of string keys
abbrev pub strings : Schema
strings = Str Plain

-- a map: with string keys from an Avro map, else from an array of records
abbrev pub any_map_projection : ℤ → (Schema → Option Projection) → ℤ → Bool → (Schema → Option Projection) → Schema → Option Projection
any_map_projection key_id key value_id required value s =
    if is_some (key strings) then map_projection key_id value_id required value s (value_of s)
    else entries_projection key_id key value_id required value (entries_of s)

-- Types.

-- a column, once its type has its projection
abbrev pub column_step : Column-F (Schema → Option Projection) (List Field → Option Source) → List Field → Option Source
column_step c fields = field_source c.id c.required c.ty fields

-- how a value of a file's schema becomes one of a type, once that is known of those within it; none where it doesn't
abbrev pub type_step : ColType-F (Schema → Option Projection) (List Field → Option Source) → Schema → Option Projection
type_step ColType-F.Boolean s = kept (is_boolean s)
type_step ColType-F.Int s = kept (is_plain (int_of s))
type_step ColType-F.Long s = long_projection s
type_step ColType-F.Float s = kept (is_float s)
type_step ColType-F.Double s = kept (is_double s)
type_step (ColType-F.Decimal precision scale) s = decimal_projection precision scale s
type_step ColType-F.Date s = kept (is_date (int_of s))
type_step ColType-F.Time s = kept (is_time (long_of s))
type_step ColType-F.Timestamp s = kept (is_timestamp (long_of s))
type_step ColType-F.Timestamptz s = kept (is_timestamptz (long_of s))
type_step ColType-F.Str s = kept (is_plain (string_of s))
type_step ColType-F.Uuid s = uuid_projection s
type_step (ColType-F.Fixed length) s = fixed_projection length s
type_step ColType-F.Binary s = kept (is_plain (bytes_of s))
type_step (ColType-F.Struct columns) s = record_projection columns (fields_of s)
type_step (ColType-F.List element_id required element) s = array_projection element_id required element (element_id_of s) (item_of s)
type_step (ColType-F.Map key_id key value_id required value) s = any_map_projection key_id key value_id required value s

-- how a value of a file's schema becomes one of a type
abbrev pub type_projection : ColType → Schema → Option Projection
type_projection = fold-ColType (Schema → Option Projection) (List Field → Option Source) type_step column_step

-- where a column's value comes from among the fields of a file's record
abbrev pub column_source : Column → List Field → Option Source
column_source = fold-Column (Schema → Option Projection) (List Field → Option Source) type_step column_step

-- the fields of a file's rows; rows that are no records have none
abbrev pub row_fields : Schema → List Field
row_fields s = unwrap_or (fields_of s) []

-- how the rows of a file become rows of a schema
abbrev pub projection_of : Schema → Table → Option Projection
projection_of file t = option_map Record (each_source (row_fields file) (map column_source t.columns))
