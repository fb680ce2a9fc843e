-- Which JSON trees spell which schema (Apache Avro specification, "Schema Declaration").
use Rattle.std.specs.Prelude.{◌≡◌, ℕ, zero, suc, ◌≤◌, List, [], ◌∷◌, codes, false, Some, None, option_and_then, ◌⊎◌, Result, Ok, Err}
use Rattle.std.specs.Str.{bytes_eq}
use Rattle.serde_json.specs.Data.{Data, string, array, Items, no_items, item}
use Rattle.serde_json.specs.Find.{get, as_array}
use Rattle.avro_schema.specs.declared.fault.SchemaErr.{SchemaErr}
use Rattle.avro_schema.specs.declared.fault.SchemaErr.TheVariants as errors
use Rattle.avro_schema.specs.declared.known.Known.TheVariants.{Open, Defined}
use Rattle.avro_schema.specs.declared.schema.Field.{Field}
use Rattle.avro_schema.specs.declared.schema.Schema.{Schema}
use Rattle.avro_schema.specs.declared.schema.Schema.TheVariants.{Fix, Choice, List as Array, Pairs, Fields, Union}
use Rattle.avro_schema.specs.Attribute.{text_at, u32_of, id_at}
use Rattle.avro_schema.specs.Form.{form_of, depth, width}
use Rattle.avro_schema.specs.Logical.{has_logical, fixed_logical}
use Rattle.avro_schema.specs.Names.{Names, find, define, last_part}
use Rattle.avro_schema.specs.Primitive.{primitive, is_primitive}

-- a tree spells a value where these names are known, and leaves those known
abbrev pub Tells : Type 0 → Type 1
Tells A = Data → Names → A → Names → Type 0

-- the word is none of a complex type
abbrev pub IsOther : List ℕ → Type 0
IsOther word = (bytes_eq word (codes "array") ≡ false) × (bytes_eq word (codes "map") ≡ false) × (bytes_eq word (codes "record") ≡ false) × (bytes_eq word (codes "enum") ≡ false) × (bytes_eq word (codes "fixed") ≡ false)

-- the tree names its type by the word: it is the word, or an object of that type
abbrev pub IsNamed : List ℕ → Data → Type 0
IsNamed word d = (d ≡ string word) ⊎ ((text_at (codes "type") d ≡ Some word) × IsOther word)

-- the object is of this complex type
abbrev pub IsObjectOf : List ℕ → Data → Type 0
IsObjectOf word d = text_at (codes "type") d ≡ Some word

-- the name that an object defines, which is no primitive type's and was not defined before
pub record IsNewName (names : Names) (d : Data) (name : List ℕ) : Type 0 where
  pub full : List ℕ
  pub is_text : text_at (codes "name") d ≡ Some full
  pub is_last_part : name ≡ last_part full
  pub is_free : is_primitive name ≡ false
  pub is_new : find name names ≡ None

-- the trees spell the values, one after the other
abbrev pub SpellsEach : {A : Type 0} → Tells A → Items → Names → List A → Names → Type 0
SpellsEach P no_items names [] after = after ≡ names
SpellsEach P no_items names (x ∷ xs) after = ⊥
SpellsEach P (item d ds) names [] after = ⊥
SpellsEach P (item d ds) names (x ∷ xs) after = (between : Names) × P d names x between × SpellsEach P ds between xs after

-- the symbols of an enum
abbrev pub strings : List (List ℕ) → Items
strings [] = no_items
strings (t ∷ ts) = item (string t) (strings ts)

-- a field of a record; P tells which tree spells which type
pub record SpellsField (P : Tells Schema) (d : Data) (names : Names) (f : Field) (after : Names) : Type 0 where
  pub type : Data
  pub is_name : text_at (codes "name") d ≡ Some f.name
  pub is_type : get (codes "type") d ≡ Some type
  pub spells : P type names f.schema after
  pub is_id : f.field_id ≡ id_at (codes "field-id") d

-- a type in which at most so many lie within one another; P tells which tree spells which type within it
pub data SpellsLevel (P : Tells Schema) (most : ℕ) (d : Data) (names : Names) (s : Schema) (after : Names) : Type 0 where
  a_primitive : (word : List ℕ) → IsNamed word d → primitive word d ≡ Some s → after ≡ names → SpellsLevel P most d names s after
  -- a type that was defined before, which counts as it stands there
  a_reference : (word : List ℕ) → IsNamed word d → primitive word d ≡ None → find (last_part word) names ≡ Some (Defined s) → depth (form_of s) ≤ most → after ≡ names
      → SpellsLevel P most d names s after
  a_union : (ds : Items) (branches : List Schema) → d ≡ array ds → SpellsEach P ds names branches after → s ≡ Union branches → SpellsLevel P most d names s after
  an_array : (t : Data) (inner : Schema) → IsObjectOf (codes "array") d → get (codes "items") d ≡ Some t → P t names inner after
      → s ≡ Array inner (id_at (codes "element-id") d) (has_logical (codes "map") d) → SpellsLevel P most d names s after
  a_map : (t : Data) (inner : Schema) → IsObjectOf (codes "map") d → get (codes "values") d ≡ Some t → P t names inner after
      → s ≡ Pairs inner (id_at (codes "key-id") d) (id_at (codes "value-id") d) → SpellsLevel P most d names s after
  a_fixed : (name : List ℕ) (size : ℕ) → IsObjectOf (codes "fixed") d → IsNewName names d name → option_and_then u32_of (get (codes "size") d) ≡ Some size
      → s ≡ Fix name size (fixed_logical size d) → after ≡ define name (Defined s) names → SpellsLevel P most d names s after
  an_enum : (name : List ℕ) (symbols : List (List ℕ)) → IsObjectOf (codes "enum") d → IsNewName names d name → option_and_then as_array (get (codes "symbols") d) ≡ Some (strings symbols)
      → s ≡ Choice name symbols → after ≡ define name (Defined s) names → SpellsLevel P most d names s after
  -- within the record its own name is known, and stands for no type yet
  a_record : (name : List ℕ) (ds : Items) (fields : List Field) (within : Names) → IsObjectOf (codes "record") d → IsNewName names d name
      → option_and_then as_array (get (codes "fields") d) ≡ Some ds → SpellsEach (SpellsField P) ds (define name Open names) fields within
      → s ≡ Fields name fields → after ≡ define name (Defined s) within → SpellsLevel P most d names s after

-- the tree spells the schema, in which at most so many types lie within one another
unfoldable pub SpellsWithin : ℕ → Tells Schema
SpellsWithin zero d names s after = ⊥
SpellsWithin (suc left) d names s after = SpellsLevel (SpellsWithin left) (suc left) d names s after

-- The limits.

-- how many types may lie within one another
abbrev pub most_types : ℕ
most_types = 32

-- how many record fields a schema may have in all
abbrev pub most_fields : ℕ
most_fields = 4096

-- the tree spells the schema, within the limits
pub record SpellsSchema (d : Data) (s : Schema) : Type 0 where
  pub names : Names
  pub spells : SpellsWithin most_types d [] s names
  pub is_narrow : width (form_of s) ≤ most_fields

-- the tree spells no schema, or none within the limits
abbrev pub SpellsNone : Data → Type 0
SpellsNone d = (s : Schema) → SpellsSchema d s → ⊥

-- what holds of a refusal that isn't want of memory
abbrev pub OnFault : {A : Type 0} → Result A SchemaErr → Type 0 → Type 0
OnFault (Ok x) P = Unit {0}
OnFault (Err errors.Memory) P = Unit {0}
OnFault (Err (errors.Bad path cause)) P = P
