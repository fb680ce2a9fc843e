-- Reading a schema from its tree, with its first fault: the members of an object in byte order of their keys, but the `type` of a list,
-- a map or a struct first, since it says which members there are.
use Rattle.std.specs.Prelude.{ℕ, zero, suc, ℤ, List, [], codes, Bool, if◌then◌else◌, Option, Some, None, option_and_then, Result, Ok, Err}
use Rattle.std.specs.Str.{bytes_eq}
use Rattle.serde_json.specs.Data.{Data, null, boolean, number, string, array, object, Items}
use Rattle.serde_json.specs.Find.{get, as_array, as_bool}
use Rattle.avro_schema.specs.Attribute.{text_at, is_text}
use Rattle.avro_schema.specs.Path.{key_path}
use Rattle.schema_types.specs.declared.types.ColType.{ColType}
use Rattle.schema_types.specs.declared.types.ColType.TheVariants.{Struct, List as ListOf, Map}
use Rattle.schema_types.specs.declared.types.Column.{Column}
use Rattle.schema_types.specs.declared.types.Schema.{Schema}
use Rattle.schema_trees.specs.Reading.{Fault, Read, Reader, ◌>>=◌, wanted, in_object, int_in, text_in, new_id, each}
use Rattle.schema_trees.specs.TypeWords.{primitive}

-- a truth under a key
unfoldable pub flag_in : List ℕ → List ℕ → Data → Result Bool Fault
flag_in path key d = wanted (key_path path key) (option_and_then as_bool (get key d))

-- the items of an array under a key
abbrev pub items_in : List ℕ → List ℕ → Data → Result Items Fault
items_in path key d = wanted (key_path path key) (option_and_then as_array (get key d))

-- a type under a key that must be there
abbrev pub inner_from : Reader ColType → List ℕ → Option Data → List ℤ → Read ColType
inner_from type path None seen = Err path
inner_from type path (Some d) seen = type path d seen

-- the type under a key
unfoldable pub inner_at : Reader ColType → List ℕ → List ℕ → Data → List ℤ → Read ColType
inner_at type path key d seen = inner_from type (key_path path key) (get key d) seen

-- a list
unfoldable pub list_at : Reader ColType → List ℕ → Data → List ℤ → Read ColType
list_at type path d seen =
    inner_at type path (codes "element") d seen >>= λ element.
    new_id path (codes "element-id") d element.1 >>= λ id.
    flag_in path (codes "element-required") d >>= λ required.
    Ok (ListOf id.0 required element.0, id.1)

-- a map
unfoldable pub map_at : Reader ColType → List ℕ → Data → List ℤ → Read ColType
map_at type path d seen =
    inner_at type path (codes "key") d seen >>= λ key.
    new_id path (codes "key-id") d key.1 >>= λ key_id.
    inner_at type path (codes "value") d key_id.1 >>= λ value.
    new_id path (codes "value-id") d value.1 >>= λ value_id.
    flag_in path (codes "value-required") d >>= λ required.
    Ok (Map key_id.0 key.0 value_id.0 required value.0, value_id.1)

-- a column, or a field of a struct
unfoldable pub column_at : Reader ColType → List ℕ → Data → List ℤ → Read Column
column_at type path d seen = in_object path d (
    new_id path (codes "id") d seen >>= λ id.
    text_in path (codes "name") d >>= λ name.
    flag_in path (codes "required") d >>= λ required.
    inner_at type path (codes "type") d id.1 >>= λ ty.
    Ok (record { id = id.0; name = name; required = required; ty = ty.0 }, ty.1))

-- a struct
unfoldable pub struct_at : Reader ColType → List ℕ → Data → List ℤ → Read ColType
struct_at type path d seen =
    items_in path (codes "fields") d >>= λ ds.
    each (column_at type) (key_path path (codes "fields")) 0 ds seen >>= λ columns.
    Ok (Struct columns.0, columns.1)

-- the type that an object's word tells
abbrev pub object_from : Reader ColType → List ℕ → Option (List ℕ) → Data → List ℤ → Read ColType
object_from type path None d seen = Err (key_path path (codes "type"))
object_from type path (Some word) d seen =
    if bytes_eq word (codes "list") then list_at type path d seen
    else (if bytes_eq word (codes "map") then map_at type path d seen
    else (if bytes_eq word (codes "struct") then struct_at type path d seen
    else Err (key_path path (codes "type"))))

-- a type that an object spells
unfoldable pub object_at : Reader ColType → List ℕ → Data → List ℤ → Read ColType
object_at type path d seen = object_from type path (text_at (codes "type") d) d seen

-- a type that a text names
unfoldable pub word_at : List ℕ → List ℕ → List ℤ → Read ColType
word_at path word seen = wanted path (primitive word) >>= λ ty. Ok (ty, seen)

-- a type within which lie types that type reads
unfoldable pub level : Reader ColType → List ℕ → Data → List ℤ → Read ColType
level type path null seen = Err path
level type path (boolean b) seen = Err path
level type path (number n) seen = Err path
level type path (string word) seen = word_at path word seen
level type path (array ds) seen = Err path
level type path (object ms) seen = object_at type path (object ms) seen

-- a type in which at most so many lie within one another
unfoldable pub read : ℕ → List ℕ → Data → List ℤ → Read ColType
read zero path d seen = Err path
read (suc left) path d seen = level (read left) path d seen

-- the schema that a tree spells, in which at most 128 types lie within one another
unfoldable pub schema_of : Data → Result Schema Fault
schema_of d = in_object [] d (
    items_in [] (codes "fields") d >>= λ ds.
    each (column_at (read 128)) (codes "fields") 0 ds [] >>= λ columns.
    int_in [] (codes "schema-id") d >>= λ id.
    (if is_text (codes "struct") (text_at (codes "type") d) then Ok (record { id = id; columns = columns.0 }) else Err (codes "type")))
