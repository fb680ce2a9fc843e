-- Schemas that have a written spelling.
use Rattle.std.specs.Prelude.{◌≡◌, ◌≢◌, ℕ, ℤ, pos, negsuc, ◌<◌, ◌≤◌, ◌^◌, List, [], ◌∷◌, ◌++◌, length, slice_index, Bool, false, Option, Some, None}
use Rattle.avro_schema.specs.declared.schema.Field.{Field}
use Rattle.avro_schema.specs.declared.schema.Logical.{Logical}
use Rattle.avro_schema.specs.declared.schema.Logical.TheVariants.{Plain, Date, TimeMicros, TimestampMicros, Decimal, Uuid}
use Rattle.avro_schema.specs.declared.schema.Schema.{Schema, out-Schema}
use Rattle.avro_schema.specs.declared.schema.Schema.TheOpen.{Schema-F}
use Rattle.avro_schema.specs.declared.schema.Schema.TheVariants.{List as Array, Pairs, Fields, Union}
use Rattle.avro_schema.specs.Form.{form_of, depth, width}
use Rattle.avro_schema.specs.Primitive.{is_primitive}
use Rattle.avro_schema.specs.Spelling.{most_types, most_fields}

-- Which logical type goes with which type. The bounds are those of the Rust types.

-- a logical type that goes with an int
abbrev pub GoesWithInt : Logical → Type 0
GoesWithInt Plain = Unit {0}
GoesWithInt Date = Unit {0}
GoesWithInt TimeMicros = ⊥
GoesWithInt (TimestampMicros adjust_to_utc) = ⊥
GoesWithInt (Decimal precision scale) = ⊥
GoesWithInt Uuid = ⊥

-- one that goes with a long
abbrev pub GoesWithLong : Logical → Type 0
GoesWithLong Plain = Unit {0}
GoesWithLong Date = ⊥
GoesWithLong TimeMicros = Unit {0}
GoesWithLong (TimestampMicros adjust_to_utc) = Unit {0}
GoesWithLong (Decimal precision scale) = ⊥
GoesWithLong Uuid = ⊥

-- one that goes with bytes
abbrev pub GoesWithBytes : Logical → Type 0
GoesWithBytes Plain = Unit {0}
GoesWithBytes Date = ⊥
GoesWithBytes TimeMicros = ⊥
GoesWithBytes (TimestampMicros adjust_to_utc) = ⊥
GoesWithBytes (Decimal precision scale) = (precision < 2 ^ 32) × (scale < 2 ^ 32)
GoesWithBytes Uuid = ⊥

-- one that goes with a string
abbrev pub GoesWithString : Logical → Type 0
GoesWithString Plain = Unit {0}
GoesWithString Date = ⊥
GoesWithString TimeMicros = ⊥
GoesWithString (TimestampMicros adjust_to_utc) = ⊥
GoesWithString (Decimal precision scale) = ⊥
GoesWithString Uuid = Unit {0}

-- with a fixed of so many bytes
abbrev pub GoesWithFixed : ℕ → Logical → Type 0
GoesWithFixed size Plain = Unit {0}
GoesWithFixed size Date = ⊥
GoesWithFixed size TimeMicros = ⊥
GoesWithFixed size (TimestampMicros adjust_to_utc) = ⊥
GoesWithFixed size (Decimal precision scale) = (precision < 2 ^ 32) × (scale < 2 ^ 32)
GoesWithFixed size Uuid = size ≡ 16

-- a name without a dot, which is no primitive type's
pub record IsName (name : List ℕ) : Type 0 where
  pub has_no_dot : (i : ℕ) → i < length name → slice_index name i ≢ 46
  pub is_free : is_primitive name ≡ false

-- an id of 32 bits, or none
abbrev pub IsId : Option ℤ → Type 0
IsId None = Unit {0}
IsId (Some (pos n)) = n < 2 ^ 31
IsId (Some (negsuc n)) = n < 2 ^ 31

-- each field's id is a number of 32 bits, where it has one
abbrev pub HaveIds : List Field → Type 0
HaveIds [] = Unit {0}
HaveIds (f ∷ fs) = IsId f.field_id × HaveIds fs

-- a type, apart from those within it
abbrev pub IsSoundLayer : Schema-F Schema Field → Type 0
IsSoundLayer Schema-F.Null = Unit {0}
IsSoundLayer Schema-F.Bool = Unit {0}
IsSoundLayer (Schema-F.Int logical) = GoesWithInt logical
IsSoundLayer (Schema-F.Long logical) = GoesWithLong logical
IsSoundLayer Schema-F.Float4 = Unit {0}
IsSoundLayer Schema-F.Float8 = Unit {0}
IsSoundLayer (Schema-F.Blob logical) = GoesWithBytes logical
IsSoundLayer (Schema-F.Str logical) = GoesWithString logical
IsSoundLayer (Schema-F.Fix name size logical) = IsName name × (size < 2 ^ 32) × GoesWithFixed size logical
IsSoundLayer (Schema-F.Choice name symbols) = IsName name
IsSoundLayer (Schema-F.List item element_id is_map) = IsId element_id
IsSoundLayer (Schema-F.Pairs value key_id value_id) = IsId key_id × IsId value_id
IsSoundLayer (Schema-F.Fields name fields) = IsName name × HaveIds fields
IsSoundLayer (Schema-F.Union branches) = Unit {0}

-- a type, apart from those within it, has a right name and right ids, and a logical type that goes with it
abbrev pub IsSound : Schema → Type 0
IsSound s = IsSoundLayer (out-Schema s)

-- the name of a record, fixed or enum
abbrev pub name_in : Schema-F Schema Field → Option (List ℕ)
name_in Schema-F.Null = None
name_in Schema-F.Bool = None
name_in (Schema-F.Int logical) = None
name_in (Schema-F.Long logical) = None
name_in Schema-F.Float4 = None
name_in Schema-F.Float8 = None
name_in (Schema-F.Blob logical) = None
name_in (Schema-F.Str logical) = None
name_in (Schema-F.Fix name size logical) = Some name
name_in (Schema-F.Choice name symbols) = Some name
name_in (Schema-F.List item element_id is_map) = None
name_in (Schema-F.Pairs value key_id value_id) = None
name_in (Schema-F.Fields name fields) = Some name
name_in (Schema-F.Union branches) = None

-- the name that a schema defines, where it defines one
abbrev pub name_of : Schema → Option (List ℕ)
name_of s = name_in (out-Schema s)

-- the types of a schema: itself and those within it
pub data IsIn (root : Schema) : Schema → Type 0 where
  itself : IsIn root root
  item : (t : Schema) (element_id : Option ℤ) (is_map : Bool) → IsIn root (Array t element_id is_map) → IsIn root t
  value : (t : Schema) (key_id value_id : Option ℤ) → IsIn root (Pairs t key_id value_id) → IsIn root t
  field : (name : List ℕ) (before : List Field) (f : Field) (after : List Field) → IsIn root (Fields name (before ++ f ∷ after)) → IsIn root f.schema
  branch : (before : List Schema) (t : Schema) (after : List Schema) → IsIn root (Union (before ++ t ∷ after)) → IsIn root t

-- A schema with a written spelling: names have no dot and are no primitive type's, equal names have equal types, each logical
-- type goes with its type, and the limits hold.
pub record IsWritable (s : Schema) : Type 0 where
  pub is_sound : (t : Schema) → IsIn s t → IsSound t
  pub has_one_type_each : (t u : Schema) (name : List ℕ) → IsIn s t → IsIn s u → name_of t ≡ Some name → name_of u ≡ Some name → t ≡ u
  pub is_shallow : depth (form_of s) ≤ most_types
  pub is_narrow : width (form_of s) ≤ most_fields
