-- How deep types lie within one another.
use Rattle.std.specs.Prelude.{ℕ, suc, max, List, [], ◌∷◌}
use Rattle.schema_types.specs.declared.types.ColType.{ColType, fold-ColType}
use Rattle.schema_types.specs.declared.types.Column.{Column, fold-Column}
use Rattle.schema_types.specs.declared.types.ColType.TheOpen.{ColType-F, Column-F}

-- the greatest of some depths
abbrev pub deepest : List ℕ → ℕ
deepest [] = 0
deepest (n ∷ ns) = max n (deepest ns)

-- the depth of a column, once its type has one
abbrev pub column_step : Column-F ℕ ℕ → ℕ
column_step c = c.ty

-- the depth of a type, once those within it have theirs
abbrev pub type_step : ColType-F ℕ ℕ → ℕ
type_step ColType-F.Boolean = 1
type_step ColType-F.Int = 1
type_step ColType-F.Long = 1
type_step ColType-F.Float = 1
type_step ColType-F.Double = 1
type_step (ColType-F.Decimal precision scale) = 1
type_step ColType-F.Date = 1
type_step ColType-F.Time = 1
type_step ColType-F.Timestamp = 1
type_step ColType-F.Timestamptz = 1
type_step ColType-F.Str = 1
type_step ColType-F.Uuid = 1
type_step (ColType-F.Fixed length) = 1
type_step ColType-F.Binary = 1
type_step (ColType-F.Struct columns) = suc (deepest columns)
type_step (ColType-F.List element_id required element) = suc element
type_step (ColType-F.Map key_id key value_id required value) = suc (max key value)

-- how many types lie within one another
abbrev pub type_depth : ColType → ℕ
type_depth = fold-ColType ℕ ℕ type_step column_step

-- how many types lie within one another in a column
abbrev pub column_depth : Column → ℕ
column_depth = fold-Column ℕ ℕ type_step column_step
