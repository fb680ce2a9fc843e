-- Which types of a file's schema are those of a column's kind (Apache Iceberg specification, Appendix A, "Avro").
use Rattle.std.specs.Prelude.{ℕ, ℤ, List, [], ◌∷◌, Option, Some, None, Bool, true, false, if◌then◌else◌}
use Rattle.avro_schema.specs.declared.schema.Field.{Field}
use Rattle.avro_schema.specs.declared.schema.Logical.{Logical}
use Rattle.avro_schema.specs.declared.schema.Logical.TheVariants.{Plain, Date, TimeMicros, TimestampMicros, Decimal, Uuid}
use Rattle.avro_schema.specs.declared.schema.Schema.{Schema, out-Schema}
use Rattle.avro_schema.specs.declared.schema.Schema.TheOpen.{Schema-F}
use Rattle.manifest_columns.specs.declared.column.Kind.{Kind}
use Rattle.manifest_columns.specs.declared.column.Kind.TheVariants.{Bool as Truth, Int, Long, Text, Bytes, Longs, Ints, IntLongs, IntBytes, Summaries, Record}
use Rattle.manifest_columns.specs.Places.{is_id}

-- no logical type
abbrev pub is_plain : Logical → Bool
is_plain Plain = true
is_plain _ = false

-- null
abbrev pub is_null : Schema-F Schema Field → Bool
is_null Schema-F.Null = true
is_null _ = false

-- of two branches, one of which is null, the other one
abbrev pub other_branch : Schema → Schema → Option Schema
other_branch a b = if is_null (out-Schema a) then Some b else (if is_null (out-Schema b) then Some a else None)

-- of the branches of a union with null, the other one, in either order
abbrev pub beside_null : List Schema → Option Schema
beside_null (a ∷ b ∷ []) = other_branch a b
beside_null _ = None

-- of a union with null, the other branch
abbrev pub in_union : Schema-F Schema Field → Option Schema
in_union (Schema-F.Union branches) = beside_null branches
in_union _ = None

-- The type of a field's values that aren't null: a field that may lack is a union with null.
abbrev pub type_of : Bool → Schema → Option Schema
type_of false s = Some s
type_of true s = in_union (out-Schema s)

-- the items of an array
abbrev pub item_of : Schema-F Schema Field → Option Schema
item_of (Schema-F.List item element_id is_map) = Some item
item_of _ = None

-- the items of an array, where they have the id
abbrev pub item_under : ℤ → Schema-F Schema Field → Option Schema
item_under id (Schema-F.List item element_id is_map) = if is_id id element_id then Some item else None
item_under id _ = None

-- the fields of a record
abbrev pub fields_of : Schema-F Schema Field → Option (List Field)
fields_of (Schema-F.Fields name fields) = Some fields
fields_of _ = None

-- the fields of an array's items, where these are records
abbrev pub item_fields : Schema-F Schema Field → Option (List Field)
item_fields (Schema-F.List item element_id is_map) = fields_of (out-Schema item)
item_fields _ = None

-- a boolean
abbrev pub is_bool : Schema-F Schema Field → Bool
is_bool Schema-F.Bool = true
is_bool _ = false

-- an int
abbrev pub is_int : Schema-F Schema Field → Bool
is_int (Schema-F.Int logical) = is_plain logical
is_int _ = false

-- a long
abbrev pub is_long : Schema-F Schema Field → Bool
is_long (Schema-F.Long logical) = is_plain logical
is_long _ = false

-- a string
abbrev pub is_text : Schema-F Schema Field → Bool
is_text (Schema-F.Str logical) = is_plain logical
is_text _ = false

-- bytes
abbrev pub is_bytes : Schema-F Schema Field → Bool
is_bytes (Schema-F.Blob logical) = is_plain logical
is_bytes _ = false

-- something is there
abbrev pub is_there : {A : Type 0} → Option A → Bool
is_there None = false
is_there (Some x) = true

-- The type is of the kind, apart from what lies within it.
abbrev pub has_kind : Kind → Schema-F Schema Field → Bool
has_kind Truth t = is_bool t
has_kind Int t = is_int t
has_kind Long t = is_long t
has_kind Text t = is_text t
has_kind Bytes t = is_bytes t
has_kind (Longs element) t = is_there (item_of t)
has_kind (Ints element) t = is_there (item_of t)
has_kind (IntLongs key value record_name) t = is_there (item_fields t)
has_kind (IntBytes key value record_name) t = is_there (item_fields t)
has_kind (Summaries element record_name) t = is_there (item_of t)
has_kind (Record record_name) t = is_there (fields_of t)
