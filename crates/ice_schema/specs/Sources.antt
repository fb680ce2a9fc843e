-- The columns that partition values are made from (Iceberg table specification, "Partitioning").
use Rattle.std.specs.Prelude.{ℤ, List, [], ◌∷◌, Bool, map, filter, if◌then◌else◌, int_lt, Option, Some, None, is_some, option_and_then}
use Rattle.std.specs.Ordering.{int_eq}
use Rattle.schema_types.specs.declared.types.ColType.{ColType, fold-ColType}
use Rattle.schema_types.specs.declared.types.ColType.TheVariants as types
use Rattle.schema_types.specs.declared.types.ColType.TheOpen.{ColType-F, Column-F}
use Rattle.schema_types.specs.declared.types.Column.{Column, fold-Column}
use Rattle.schema_types.specs.declared.types.Schema.{Schema}

-- a type, beside the type of the first column within it that is looked for
abbrev pub Looked : Type 0
Looked = ColType × Option ColType

-- the first of two that is there
abbrev pub either : Option ColType → Option ColType → Option ColType
either None later = later
either (Some ty) later = Some ty

-- what was found in the first column in which it was
abbrev pub first_of : List (Column × Option ColType) → Option ColType
first_of [] = None
first_of (c ∷ cs) = either c.1 (first_of cs)

-- a column whose type was looked through: it is looked for where it has this id
abbrev pub column_step : ℤ → Column-F Looked (Column × Option ColType) → Column × Option ColType
column_step id c = (record { id = c.id; name = c.name; required = c.required; ty = c.ty.0 }, if int_eq c.id id then Some c.ty.0 else c.ty.1)

-- a type, once those within it were looked through
abbrev pub type_step : ColType-F Looked (Column × Option ColType) → Looked
type_step ColType-F.Boolean = (types.Boolean, None)
type_step ColType-F.Int = (types.Int, None)
type_step ColType-F.Long = (types.Long, None)
type_step ColType-F.Float = (types.Float, None)
type_step ColType-F.Double = (types.Double, None)
type_step (ColType-F.Decimal precision scale) = (types.Decimal precision scale, None)
type_step ColType-F.Date = (types.Date, None)
type_step ColType-F.Time = (types.Time, None)
type_step ColType-F.Timestamp = (types.Timestamp, None)
type_step ColType-F.Timestamptz = (types.Timestamptz, None)
type_step ColType-F.Str = (types.Str, None)
type_step ColType-F.Uuid = (types.Uuid, None)
type_step (ColType-F.Fixed length) = (types.Fixed length, None)
type_step ColType-F.Binary = (types.Binary, None)
type_step (ColType-F.Struct columns) = (types.Struct (map (λ c. c.0) columns), first_of columns)
type_step (ColType-F.List element_id required element) = (types.List element_id required element.0, element.1)
type_step (ColType-F.Map key_id key value_id required value) = (types.Map key_id key.0 value_id required value.0, either key.1 value.1)

-- a type looked through for a column with this id
abbrev pub looked_type : ℤ → ColType → Looked
looked_type id = fold-ColType Looked (Column × Option ColType) type_step (column_step id)

-- a column looked through, itself first
abbrev pub looked_column : ℤ → Column → Column × Option ColType
looked_column id = fold-Column Looked (Column × Option ColType) type_step (column_step id)

-- the type of the first column with this id among these and those within them, at any depth
abbrev pub type_in : ℤ → List Column → Option ColType
type_in id columns = first_of (map (looked_column id) columns)

-- the schema has a column with this id, at any depth
abbrev pub has_column : ℤ → Schema → Bool
has_column id s = is_some (type_in id s.columns)

-- the schema with the greater id; of two with one id the first
abbrev pub later_of : Option Schema → Schema → Schema
later_of None s = s
later_of (Some best) s = if int_lt best.id s.id then s else best

-- the schema with the greatest id among the best so far and these
abbrev pub greatest_from : Option Schema → List Schema → Option Schema
greatest_from best [] = best
greatest_from best (s ∷ ss) = greatest_from (Some (later_of best s)) ss

-- the type of a source column: from the schema with the greatest id that has a column with the source's id
abbrev pub source_type : ℤ → List Schema → Option ColType
source_type id schemas = option_and_then (λ s. type_in id s.columns) (greatest_from None (filter (has_column id) schemas))
