-- Reading a schema from its tree, with the first fault that is met (Apache Avro specification, "Schema Declaration").
-- The order is: the type's word or name, the name that is defined, then what lies within, in its order.
use Rattle.std.specs.Prelude.{◌≡◌, ℕ, zero, suc, ◌-◌, ◌==◌, ◌||◌, List, [], ◌∷◌, codes, nat_lt, if◌then◌else◌, Option, Some, None, is_some, option_and_then, Result, Ok, Err}
use Rattle.std.specs.Str.{bytes_eq}
use Rattle.serde_json.specs.Data.{Data, null, boolean, number, string, array, object, Items, no_items, item}
use Rattle.serde_json.specs.Find.{get, as_str, as_array}
use Rattle.avro_schema.specs.declared.fault.SchemaCause.{SchemaCause}
use Rattle.avro_schema.specs.declared.fault.SchemaCause.TheVariants.{BadForm, UnknownName, Recursive, TooDeep, TooWide}
use Rattle.avro_schema.specs.declared.fault.SchemaErr.{SchemaErr}
use Rattle.avro_schema.specs.declared.fault.SchemaErr.TheVariants as errors
use Rattle.avro_schema.specs.declared.known.Known.{Known}
use Rattle.avro_schema.specs.declared.known.Known.TheVariants.{Open, Defined}
use Rattle.avro_schema.specs.declared.scope.Scope.{Scope}
use Rattle.avro_schema.specs.declared.schema.Field.{Field}
use Rattle.avro_schema.specs.declared.schema.Schema.{Schema}
use Rattle.avro_schema.specs.declared.schema.Schema.TheVariants.{Fix, Choice, List as Array, Pairs, Fields, Union}
use Rattle.avro_schema.specs.Attribute.{text_at, u32_of, id_at}
use Rattle.avro_schema.specs.Form.{form_of, depth, width, room_behind}
use Rattle.avro_schema.specs.Logical.{has_logical, fixed_logical}
use Rattle.avro_schema.specs.Names.{Names, find, define, last_part}
use Rattle.avro_schema.specs.Path.{key_path, index_path}
use Rattle.avro_schema.specs.Primitive.{primitive, is_primitive}

-- a path and a cause
abbrev pub Fault : Type 0
Fault = List ℕ × SchemaCause

-- what is read, and the names and the room for fields behind it
abbrev pub Read : Type 0 → Type 0
Read A = Result (A × Scope) Fault

infixl 10 ◌>>=◌
-- the second reading goes on with what the first one gave; the first fault is the fault
abbrev pub ◌>>=◌ : {A B : Type 0} → Result A Fault → (A → Result B Fault) → Result B Fault
(Ok x) >>= f = f x
(Err e) >>= f = Err e

-- how a tree at a path is read in a scope
abbrev pub Reader : Type 0 → Type 0
Reader A = List ℕ → Data → Scope → Read A

-- a scope with one name more
abbrev pub defining : List ℕ → Known → Scope → Scope
defining name known scope = record scope { names = define name known scope.names }

-- a type that was defined before counts as it stands there
abbrev pub fitting : List ℕ → Schema → Option ℕ → Scope → Read Schema
fitting path s None scope = Err (path, TooWide)
fitting path s (Some room) scope = Ok (s, record scope { room = room })

-- the schema that a known name stands for, and a fault where it is unknown or still open
abbrev pub referred : ℕ → List ℕ → Option Known → Scope → Read Schema
referred most path None scope = Err (path, UnknownName)
referred most path (Some Open) scope = Err (path, Recursive)
referred most path (Some (Defined s)) scope = if nat_lt most (depth (form_of s)) then Err (path, TooDeep) else fitting path s (room_behind (width (form_of s)) scope.room) scope

-- the schema that a name stands for
unfoldable pub reference : ℕ → List ℕ → List ℕ → Scope → Read Schema
reference most path name scope = referred most path (find name scope.names) scope

-- a primitive type with the attributes of the tree d, or a type that was defined before
abbrev pub primitive_or_reference : ℕ → List ℕ → List ℕ → Option Schema → Scope → Read Schema
primitive_or_reference most path name (Some s) scope = Ok (s, scope)
primitive_or_reference most path name None scope = reference most path (last_part name) scope

-- the schema of a type's name: a primitive type, or a reference
unfoldable pub named : ℕ → List ℕ → List ℕ → Data → Scope → Read Schema
named most path name d scope = primitive_or_reference most path name (primitive name d) scope

-- the name of a definition, which is no primitive type's and was not defined before
abbrev pub free_name : List ℕ → List ℕ → Names → Result (List ℕ) Fault
free_name path name names = if is_primitive name || is_some (find name names) then Err (key_path path (codes "name"), BadForm) else Ok name

-- the name that a type defines: the last part of the text, which isn't taken
abbrev pub name_from : List ℕ → Option (List ℕ) → Names → Result (List ℕ) Fault
name_from path None names = Err (key_path path (codes "name"), BadForm)
name_from path (Some name) names = free_name path (last_part name) names

-- the name that a tree defines
unfoldable pub new_name : List ℕ → Data → Names → Result (List ℕ) Fault
new_name path d names = name_from path (text_at (codes "name") d) names

-- a fixed
abbrev pub fixed_from : List ℕ → List ℕ → Option ℕ → Data → Scope → Read Schema
fixed_from path name None d scope = Err (key_path path (codes "size"), BadForm)
fixed_from path name (Some size) d scope = let s = Fix name size (fixed_logical size d) in Ok (s, defining name (Defined s) scope)

-- a fixed type: its name and its size
unfoldable pub fixed_at : List ℕ → Data → Scope → Read Schema
fixed_at path d scope = new_name path d scope.names >>= λ name. fixed_from path name (option_and_then u32_of (get (codes "size") d)) d scope

-- an enum
abbrev pub symbol_from : List ℕ → Option (List ℕ) → Result (List ℕ) Fault
symbol_from path None = Err (path, BadForm)
symbol_from path (Some t) = Ok t

-- a symbol of an enum
unfoldable pub symbol_at : List ℕ → Data → Result (List ℕ) Fault
symbol_at path d = symbol_from path (as_str d)

-- the symbols from the index i on
unfoldable pub symbols_at : List ℕ → ℕ → Items → Result (List (List ℕ)) Fault
symbols_at path i no_items = Ok []
symbols_at path i (item d ds) = symbol_at (index_path path i) d >>= λ t. symbols_at path (suc i) ds >>= λ ts. Ok (t ∷ ts)

-- the symbols of an enum, where they are an array
abbrev pub symbols_from : List ℕ → Option Items → Result (List (List ℕ)) Fault
symbols_from path None = Err (path, BadForm)
symbols_from path (Some ds) = symbols_at path 0 ds

-- an enum: its name and its symbols
unfoldable pub choice_at : List ℕ → Data → Scope → Read Schema
choice_at path d scope = new_name path d scope.names >>= λ name. symbols_from (key_path path (codes "symbols")) (option_and_then as_array (get (codes "symbols") d))
    >>= λ symbols. let s = Choice name symbols in Ok (s, defining name (Defined s) scope)

-- trees in a list, one after the other, from the one with this number on
abbrev pub with_first : {A : Type 0} → A → Read (List A) → Read (List A)
with_first x read = read >>= λ xs. Ok (x ∷ xs.0, xs.1)

-- the items from the index i on, each read in the scope that the one before it left
unfoldable pub each : {A : Type 0} → Reader A → List ℕ → ℕ → Items → Scope → Read (List A)
each one path i no_items scope = Ok ([], scope)
each one path i (item d ds) scope = one (index_path path i) d scope >>= λ x. with_first x.0 (each one path (suc i) ds x.1)

-- a type in an attribute that must be there
abbrev pub inner_from : Reader Schema → List ℕ → Option Data → Scope → Read Schema
inner_from type path None scope = Err (path, BadForm)
inner_from type path (Some d) scope = type path d scope

-- the schema under a key
unfoldable pub inner_at : Reader Schema → List ℕ → List ℕ → Data → Scope → Read Schema
inner_at type path key d scope = inner_from type (key_path path key) (get key d) scope

-- an array: its items' schema, its id, and whether it stands for a map
unfoldable pub array_at : Reader Schema → List ℕ → Data → Scope → Read Schema
array_at type path d scope = inner_at type path (codes "items") d scope >>= λ x. Ok (Array x.0 (id_at (codes "element-id") d) (has_logical (codes "map") d), x.1)

-- a map: its values' schema, and its ids
unfoldable pub map_at : Reader Schema → List ℕ → Data → Scope → Read Schema
map_at type path d scope = inner_at type path (codes "values") d scope >>= λ x. Ok (Pairs x.0 (id_at (codes "key-id") d) (id_at (codes "value-id") d), x.1)

-- a field of a record
abbrev pub field_from : Reader Schema → List ℕ → Option (List ℕ) → Data → Scope → Read Field
field_from type path None d scope = Err (key_path path (codes "name"), BadForm)
field_from type path (Some name) d scope = inner_at type path (codes "type") d (record scope { room = scope.room - 1 }) >>= λ x. Ok (record { name = name; schema = x.0; field_id = id_at (codes "field-id") d }, x.1)

-- a record's field, where there is room for one more
unfoldable pub field_at : Reader Schema → List ℕ → Data → Scope → Read Field
field_at type path d scope = if scope.room == 0 then Err (path, TooWide) else field_from type path (text_at (codes "name") d) d scope

-- a record's fields, where they are an array
abbrev pub fields_from : Reader Schema → List ℕ → Option Items → Scope → Read (List Field)
fields_from type path None scope = Err (path, BadForm)
fields_from type path (Some ds) scope = each (field_at type) path 0 ds scope

-- a record: its name, which is open within it, and its fields
unfoldable pub record_at : Reader Schema → List ℕ → Data → Scope → Read Schema
record_at type path d scope = new_name path d scope.names
    >>= λ name. fields_from type (key_path path (codes "fields")) (option_and_then as_array (get (codes "fields") d)) (defining name Open scope)
    >>= λ x. let s = Fields name x.0 in Ok (s, defining name (Defined s) x.1)

-- the type that an object's word tells
abbrev pub object_from : Reader Schema → ℕ → List ℕ → Option (List ℕ) → Data → Scope → Read Schema
object_from type most path None d scope = Err (key_path path (codes "type"), BadForm)
object_from type most path (Some word) d scope =
    if bytes_eq word (codes "array") then array_at type path d scope
    else (if bytes_eq word (codes "map") then map_at type path d scope
    else (if bytes_eq word (codes "record") then record_at type path d scope
    else (if bytes_eq word (codes "enum") then choice_at path d scope
    else (if bytes_eq word (codes "fixed") then fixed_at path d scope
    else named most (key_path path (codes "type")) word d scope))))

-- the schema of an object, by its type
unfoldable pub object_at : Reader Schema → ℕ → List ℕ → Data → Scope → Read Schema
object_at type most path d scope = object_from type most path (text_at (codes "type") d) d scope

-- a union: the schemas of its branches
unfoldable pub union_at : Reader Schema → List ℕ → Items → Scope → Read Schema
union_at type path ds scope = each type path 0 ds scope >>= λ x. Ok (Union x.0, x.1)

-- a type within which lie types that type reads
unfoldable pub level : Reader Schema → ℕ → List ℕ → Data → Scope → Read Schema
level type most path null scope = Err (path, BadForm)
level type most path (boolean b) scope = Err (path, BadForm)
level type most path (number n) scope = Err (path, BadForm)
level type most path (string name) scope = named most path name (string name) scope
level type most path (array ds) scope = union_at type path ds scope
level type most path (object ms) scope = object_at type most path (object ms) scope

-- a type in which at most so many lie within one another
unfoldable pub read : ℕ → List ℕ → Data → Scope → Read Schema
read zero path d scope = Err (path, TooDeep)
read (suc left) path d scope = level (read left) (suc left) path d scope

-- the schema that a tree spells, within the limits of 32 types within one another and 4,096 record fields in all
unfoldable pub schema_of : Data → Result Schema Fault
schema_of d = read 32 [] d (record { names = []; room = 4096 }) >>= λ x. Ok x.0

-- What a function returned is what reading gives, unless memory ran out.
abbrev pub Fails : {A : Type 0} → SchemaErr → Result A Fault → Type 0
Fails errors.Memory read = Unit {0}
Fails (errors.Bad path cause) read = read ≡ Err (path, cause)

-- what a function returned is what reading gives, unless memory lacks
abbrev pub Gives : {A : Type 0} → Result A SchemaErr → Result A Fault → Type 0
Gives (Ok x) read = read ≡ Ok x
Gives (Err e) read = Fails e read

-- the same, with the scope behind it
abbrev pub Reads : {A : Type 0} → Result A SchemaErr → Scope → Read A → Type 0
Reads (Ok x) scope read = read ≡ Ok (x, scope)
Reads (Err e) scope read = Fails e read

-- the error is this fault, or want of memory
abbrev pub IsFault : List ℕ → SchemaCause → SchemaErr → Type 0
IsFault path cause errors.Memory = Unit {0}
IsFault path cause (errors.Bad p c) = (p ≡ path) × (c ≡ cause)
