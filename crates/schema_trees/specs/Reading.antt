-- Reading a tree, with its first fault: the members of an object in byte order of their keys, the items of an array in their order.
use Rattle.std.specs.Prelude.{◌≡◌, ℕ, suc, ℤ, List, [], ◌∷◌, codes, if◌then◌else◌, Option, Some, None, is_some, option_and_then, Result, Ok, Err}
use Rattle.serde_json.specs.Data.{Data, Items, no_items, item}
use Rattle.serde_json.specs.Find.{get, as_array, as_object}
use Rattle.avro_schema.specs.Attribute.{text_at, id_at}
use Rattle.avro_schema.specs.Path.{key_path, index_path}
use Rattle.schema_types.specs.declared.types.SpecField.{SpecField}
use Rattle.schema_types.specs.declared.types.Spec.{Spec}
use Rattle.schema_trees.specs.declared.fault.JsonErr.{JsonErr}
use Rattle.schema_trees.specs.declared.fault.JsonErr.TheVariants as errors
use Rattle.schema_trees.specs.Ids.{is_seen, with_id}
use Rattle.schema_trees.specs.Words.{transform_of}

-- the path of a fault
abbrev pub Fault : Type 0
Fault = List ℕ

-- what is read, and the set of the ids that were met so far
abbrev pub Read : Type 0 → Type 0
Read A = Result (A × List ℤ) Fault

infixl 10 ◌>>=◌
-- the second reading goes on with what the first one gave; the first fault is the fault
abbrev pub ◌>>=◌ : {A B : Type 0} → Result A Fault → (A → Result B Fault) → Result B Fault
(Ok x) >>= f = f x
(Err e) >>= f = Err e

-- how a tree at a path is read behind these ids
abbrev pub Reader : Type 0 → Type 0
Reader A = List ℕ → Data → List ℤ → Read A

-- what must be there
abbrev pub wanted : {A : Type 0} → List ℕ → Option A → Result A Fault
wanted path None = Err path
wanted path (Some x) = Ok x

-- what is read where the tree is an object
abbrev pub in_object : {A : Type 0} → List ℕ → Data → Result A Fault → Result A Fault
in_object path d read = if is_some (as_object d) then read else Err path

-- a whole number of 32 bits under a key
unfoldable pub int_in : List ℕ → List ℕ → Data → Result ℤ Fault
int_in path key d = wanted (key_path path key) (id_at key d)

-- a text under a key
unfoldable pub text_in : List ℕ → List ℕ → Data → Result (List ℕ) Fault
text_in path key d = wanted (key_path path key) (text_at key d)

-- an id that is none of those before it
unfoldable pub new_id : List ℕ → List ℕ → Data → List ℤ → Read ℤ
new_id path key d seen = int_in path key d >>= λ id. if is_seen id seen then Err (key_path path key) else Ok (id, with_id id seen)

-- trees in a list, one after the other, from the one with this number on
abbrev pub with_first : {A : Type 0} → A → Read (List A) → Read (List A)
with_first x read = read >>= λ xs. Ok (x ∷ xs.0, xs.1)

-- the items from the index i on, each read behind the ids that were met before it
unfoldable pub each : {A : Type 0} → Reader A → List ℕ → ℕ → Items → List ℤ → Read (List A)
each one path i no_items seen = Ok ([], seen)
each one path i (item d ds) seen = one (index_path path i) d seen >>= λ x. with_first x.0 (each one path (suc i) ds x.1)

-- Partition specs.

-- a field of a spec
unfoldable pub field_at : List ℕ → Data → List ℤ → Read SpecField
field_at path d seen = in_object path d (
    new_id path (codes "field-id") d seen >>= λ id.
    text_in path (codes "name") d >>= λ name.
    int_in path (codes "source-id") d >>= λ source.
    wanted (key_path path (codes "transform")) (text_at (codes "transform") d) >>= λ word.
    Ok (record { field_id = id.0; source_id = source; name = name; transform = transform_of word }, id.1))

-- the spec that a tree spells
unfoldable pub spec_of : Data → Result Spec Fault
spec_of d = in_object [] d (
    wanted (key_path [] (codes "fields")) (option_and_then as_array (get (codes "fields") d)) >>= λ ds.
    each field_at (codes "fields") 0 ds [] >>= λ fields.
    int_in [] (codes "spec-id") d >>= λ id.
    Ok (record { id = id; fields = fields.0 }))

-- What a function returned is what reading gives, unless memory ran out.
abbrev pub Fails : {A : Type 0} → JsonErr → Result A Fault → Type 0
Fails errors.Memory read = Unit {0}
Fails (errors.Bad path) read = read ≡ Err path

-- what a function returned is what reading gives, unless memory lacks
abbrev pub Gives : {A : Type 0} → Result A JsonErr → Result A Fault → Type 0
Gives (Ok x) read = read ≡ Ok x
Gives (Err e) read = Fails e read

-- the same, with the ids behind it
abbrev pub Reads : {A : Type 0} → Result A JsonErr → List ℤ → Read A → Type 0
Reads (Ok x) seen read = read ≡ Ok (x, seen)
Reads (Err e) seen read = Fails e read

-- the error is this fault, or want of memory
abbrev pub IsFault : List ℕ → JsonErr → Type 0
IsFault path errors.Memory = Unit {0}
IsFault path (errors.Bad p) = p ≡ path
