-- The tree that is written for a schema, with the members of the Rust types alone, and the schemas that it is written for.
use Rattle.std.specs.Prelude.{◌≡◌, ℕ, ℤ, pos, negsuc, ◌≤◌, ◌^◌, ◌&&◌, ◌++◌, List, [], ◌∷◌, codes, map, Bool, true, not, nat_lt}
use Rattle.std.specs.Fmt.{decimal}
use Rattle.serde_json.specs.Data.{Data, boolean, string, array, object, no_members, put}
use Rattle.serde_json.specs.View.{items_of}
use Rattle.schema_types.specs.declared.types.ColType.{ColType, fold-ColType}
use Rattle.schema_types.specs.declared.types.ColType.TheOpen.{ColType-F, Column-F}
use Rattle.schema_types.specs.declared.types.Column.{Column, fold-Column}
use Rattle.schema_types.specs.declared.types.Schema.{Schema}
use Rattle.schema_types.specs.Depth.{column_depth, deepest}
use Rattle.schema_trees.specs.Ids.{AreNew}
use Rattle.schema_trees.specs.TypeSpelling.{schema_ids}
use Rattle.schema_trees.specs.Writing.{int_tree, IsInt}

-- the text of a fixed type
unfoldable pub fixed_text : ℕ → List ℕ
fixed_text length = codes "fixed[" ++ (decimal length ++ codes "]")

-- the text of a decimal type
unfoldable pub decimal_text : ℕ → ℕ → List ℕ
decimal_text precision scale = codes "decimal(" ++ (decimal precision ++ (codes "," ++ (decimal scale ++ codes ")")))

-- a struct, from the trees of its fields
unfoldable pub struct_tree : List Data → Data
struct_tree fields = object (put (codes "fields") (array (items_of fields)) (put (codes "type") (string (codes "struct")) no_members))

-- a list, from the tree of its elements
unfoldable pub list_tree : ℤ → Bool → Data → Data
list_tree id required element = object (put (codes "element-required") (boolean required) (put (codes "element-id") (int_tree id) (put (codes "element") element (put (codes "type") (string (codes "list")) no_members))))

-- a map, from the trees of its keys and values
unfoldable pub map_tree : ℤ → Data → ℤ → Bool → Data → Data
map_tree key_id key value_id required value =
    object (put (codes "value-required") (boolean required) (put (codes "value-id") (int_tree value_id) (put (codes "value") value
    (put (codes "key-id") (int_tree key_id) (put (codes "key") key (put (codes "type") (string (codes "map")) no_members))))))

-- a column, from the tree of its type
unfoldable pub column_object : ℤ → List ℕ → Bool → Data → Data
column_object id name required type = object (put (codes "type") type (put (codes "required") (boolean required) (put (codes "name") (string name) (put (codes "id") (int_tree id) no_members))))

-- the tree of a column, once its type has one
abbrev pub column_step : Column-F Data Data → Data
column_step c = column_object c.id c.name c.required c.ty

-- the tree of a type, once those within it have theirs
abbrev pub type_step : ColType-F Data Data → Data
type_step ColType-F.Boolean = string (codes "boolean")
type_step ColType-F.Int = string (codes "int")
type_step ColType-F.Long = string (codes "long")
type_step ColType-F.Float = string (codes "float")
type_step ColType-F.Double = string (codes "double")
type_step (ColType-F.Decimal precision scale) = string (decimal_text precision scale)
type_step ColType-F.Date = string (codes "date")
type_step ColType-F.Time = string (codes "time")
type_step ColType-F.Timestamp = string (codes "timestamp")
type_step ColType-F.Timestamptz = string (codes "timestamptz")
type_step ColType-F.Str = string (codes "string")
type_step ColType-F.Uuid = string (codes "uuid")
type_step (ColType-F.Fixed length) = string (fixed_text length)
type_step ColType-F.Binary = string (codes "binary")
type_step (ColType-F.Struct columns) = struct_tree columns
type_step (ColType-F.List element_id required element) = list_tree element_id required element
type_step (ColType-F.Map key_id key value_id required value) = map_tree key_id key value_id required value

-- the tree of a type
abbrev pub type_tree : ColType → Data
type_tree = fold-ColType Data Data type_step column_step

-- the tree of a column
abbrev pub column_tree : Column → Data
column_tree = fold-Column Data Data type_step column_step

-- the tree of a schema
unfoldable pub written_schema : Schema → Data
written_schema s = object (put (codes "type") (string (codes "struct")) (put (codes "schema-id") (int_tree s.id) (put (codes "fields") (array (items_of (map column_tree s.columns))) no_members)))

-- Schemas as they are read: the numbers are within their Rust types, and no decimal has more than 38 digits.

-- a whole number of 32 bits
abbrev pub is_int : ℤ → Bool
is_int (pos n) = nat_lt n (2 ^ 31)
is_int (negsuc n) = nat_lt n (2 ^ 31)

-- all of them hold
abbrev pub all_hold : List Bool → Bool
all_hold [] = true
all_hold (b ∷ bs) = b && all_hold bs

-- the numbers of a column fit, once it is known of its type
abbrev pub column_fit_step : Column-F Bool Bool → Bool
column_fit_step c = is_int c.id && c.ty

-- the numbers of a type fit, once it is known of those within it
abbrev pub type_fit_step : ColType-F Bool Bool → Bool
type_fit_step ColType-F.Boolean = true
type_fit_step ColType-F.Int = true
type_fit_step ColType-F.Long = true
type_fit_step ColType-F.Float = true
type_fit_step ColType-F.Double = true
type_fit_step (ColType-F.Decimal precision scale) = not (nat_lt 38 precision) && nat_lt scale (2 ^ 32)
type_fit_step ColType-F.Date = true
type_fit_step ColType-F.Time = true
type_fit_step ColType-F.Timestamp = true
type_fit_step ColType-F.Timestamptz = true
type_fit_step ColType-F.Str = true
type_fit_step ColType-F.Uuid = true
type_fit_step (ColType-F.Fixed length) = nat_lt length (2 ^ 32)
type_fit_step ColType-F.Binary = true
type_fit_step (ColType-F.Struct columns) = all_hold columns
type_fit_step (ColType-F.List element_id required element) = is_int element_id && element
type_fit_step (ColType-F.Map key_id key value_id required value) = (is_int key_id && key) && (is_int value_id && value)

-- the numbers of a type fit
abbrev pub type_fits : ColType → Bool
type_fits = fold-ColType Bool Bool type_fit_step column_fit_step

-- the numbers of a column fit
abbrev pub column_fits : Column → Bool
column_fits = fold-Column Bool Bool type_fit_step column_fit_step

-- a schema such as is read
pub record IsSchema (s : Schema) : Type 0 where
  pub id : IsInt s.id
  pub fit : all_hold (map column_fits s.columns) ≡ true
  pub is_shallow : deepest (map column_depth s.columns) ≤ 128
  pub are_new : AreNew [] (schema_ids s.columns)
