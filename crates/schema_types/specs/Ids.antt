-- The ids of a schema, in the order of its JSON form: members of an object in byte order of their keys (Iceberg table specification, "Schemas and Data Types").
use Rattle.std.specs.Prelude.{ℕ, ℤ, List, [], ◌∷◌, ◌++◌}
use Rattle.schema_types.specs.declared.types.ColType.{ColType, fold-ColType}
use Rattle.schema_types.specs.declared.types.Column.{Column, fold-Column}
use Rattle.schema_types.specs.declared.types.ColType.TheOpen.{ColType-F, Column-F}
use Rattle.schema_types.specs.declared.types.Schema.{Schema}

-- the ids of each in turn
abbrev pub joined : List (List ℤ) → List ℤ
joined [] = []
joined (ids ∷ more) = ids ++ joined more

-- the ids of a column, once its type has its own
abbrev pub column_step : Column-F (List ℤ) (List ℤ) → List ℤ
column_step c = c.id ∷ c.ty

-- the ids of a type, once those within it have theirs
abbrev pub type_step : ColType-F (List ℤ) (List ℤ) → List ℤ
type_step ColType-F.Boolean = []
type_step ColType-F.Int = []
type_step ColType-F.Long = []
type_step ColType-F.Float = []
type_step ColType-F.Double = []
type_step (ColType-F.Decimal precision scale) = []
type_step ColType-F.Date = []
type_step ColType-F.Time = []
type_step ColType-F.Timestamp = []
type_step ColType-F.Timestamptz = []
type_step ColType-F.Str = []
type_step ColType-F.Uuid = []
type_step (ColType-F.Fixed length) = []
type_step ColType-F.Binary = []
type_step (ColType-F.Struct columns) = joined columns
type_step (ColType-F.List element_id required element) = element ++ (element_id ∷ [])
type_step (ColType-F.Map key_id key value_id required value) = key ++ (key_id ∷ (value ++ (value_id ∷ [])))

-- the ids of columns, elements, keys and values within a type
abbrev pub type_ids : ColType → List ℤ
type_ids = fold-ColType (List ℤ) (List ℤ) type_step column_step

-- the id of a column, and those within its type
abbrev pub column_ids : Column → List ℤ
column_ids = fold-Column (List ℤ) (List ℤ) type_step column_step
