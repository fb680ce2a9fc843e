-- Which bytes spell which value under a schema (Apache Avro 1.11, "Binary Encoding").
use Rattle.std.specs.Prelude.{◌≡◌, ℕ, zero, suc, ℤ, pos, negsuc, ◌≤◌, ◌<◌, ◌^◌, List, [], ◌∷◌, ◌++◌, length, drop, Bool, true, false}
use Rattle.std.specs.Str.{IsUtf8}
use Rattle.avro_schema.specs.Form.{Form, null, boolean, int, long, float4, float8, bytes as blob, string, fixed, choice, array, pairs, fields, union, Forms, no_forms, form}
use Rattle.avro_container.specs.Long.{SpellsLong}
use Rattle.avro_container.specs.Spelling.{Joins, SpellsText, SpellsBlocks}
use Rattle.avro_datum.specs.declared.datum.Datum.{Datum}
use Rattle.avro_datum.specs.declared.datum.Datum.TheVariants.{Null, Bool as Truth, Int, Long, Float4, Float8, Blob, Str, Fix, Choice, List as Array, Pairs, Fields, Branch}

-- Items of an array or a map.
abbrev pub most_items : ℕ
most_items = 16777216

-- A number of 32 bits.
abbrev pub IsInt : ℤ → Type 0
IsInt (pos n) = n < 2 ^ 31
IsInt (negsuc n) = n < 2 ^ 31

-- The byte of a truth: 0 or 1.
abbrev pub truth_byte : Bool → ℕ
truth_byte false = 0
truth_byte true = 1

-- A key in UTF-8, and its value.
unfoldable pub SpellsEntry : (Datum → List ℕ → Type 0) → List ℕ × Datum → List ℕ → Type 0
SpellsEntry P e b = IsUtf8 e.0 × Joins (SpellsText e.0) (P e.1) b

unfoldable mutual
  -- The bytes spell the value under the form.
  pub Spells : Form → Datum → List ℕ → Type 0
  Spells null d b = (d ≡ Null) × (b ≡ [])
  Spells boolean d b = (t : Bool) × (d ≡ Truth t) × (b ≡ truth_byte t ∷ [])
  Spells int d b = (n : ℤ) × (d ≡ Int n) × IsInt n × SpellsLong b n
  Spells long d b = (n : ℤ) × (d ≡ Long n) × SpellsLong b n
  -- four and eight bytes, the lowest first
  Spells float4 d b = (d ≡ Float4 b) × (length b ≡ 4)
  Spells float8 d b = (d ≡ Float8 b) × (length b ≡ 8)
  Spells blob d b = (t : List ℕ) × (d ≡ Blob t) × SpellsText t b
  Spells string d b = (t : List ℕ) × (d ≡ Str t) × IsUtf8 t × SpellsText t b
  Spells (fixed n) d b = (d ≡ Fix b) × (length b ≡ n)
  -- the position of a symbol
  Spells (choice n) d b = (k : ℕ) × (d ≡ Choice k) × (k < n) × (k < 2 ^ 32) × SpellsLong b (pos k)
  Spells (array f) d b = (ds : List Datum) × (d ≡ Array ds) × SpellsBlocks (Spells f) most_items ds b
  Spells (pairs f) d b = (ds : List (List ℕ × Datum)) × (d ≡ Pairs ds) × SpellsBlocks (SpellsEntry (Spells f)) most_items ds b
  Spells (fields fs) d b = (ds : List Datum) × (d ≡ Fields ds) × SpellsAll fs ds b
  -- the position of a branch, and a value of it
  Spells (union fs) d b = (n : ℕ) × (inner : Datum) × (d ≡ Branch n inner) × (n < 2 ^ 32) × Joins (λ x. SpellsLong x (pos n)) (SpellsNth fs n inner) b

  -- a record's fields in their order
  pub SpellsAll : Forms → List Datum → List ℕ → Type 0
  SpellsAll no_forms [] b = b ≡ []
  SpellsAll no_forms (d ∷ ds) b = ⊥
  SpellsAll (form f fs) [] b = ⊥
  SpellsAll (form f fs) (d ∷ ds) b = Joins (Spells f d) (SpellsAll fs ds) b

  -- The bytes spell the value under the form at a position.
  pub SpellsNth : Forms → ℕ → Datum → List ℕ → Type 0
  SpellsNth no_forms n d b = ⊥
  SpellsNth (form f fs) zero d b = Spells f d b
  SpellsNth (form f fs) (suc n) d b = SpellsNth fs n d b

-- Some front of the bytes from `at` spells the value, and it ends at `end`.
abbrev pub IsSpelledAt : Form → Datum → List ℕ → ℕ → ℕ → Type 0
IsSpelledAt f d bytes at end = (front : List ℕ) × Spells f d front × (drop at bytes ≡ front ++ drop end bytes) × (end ≤ length bytes)

-- No front of the bytes from `at` spells a value.
abbrev pub NoneAt : Form → List ℕ → ℕ → Type 0
NoneAt f bytes at = (d : Datum) (front rest : List ℕ) → Spells f d front → drop at bytes ≡ front ++ rest → ⊥

-- No spelling of a value under a schema begins another, and each stands for one value.
abbrev pub ValuesAreApart : Type 0
ValuesAreApart = (f : Form) (d e : Datum) (a b x y : List ℕ) → Spells f d a → Spells f e b → a ++ x ≡ b ++ y → (a ≡ b) × (d ≡ e)
