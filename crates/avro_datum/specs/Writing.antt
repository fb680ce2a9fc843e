-- Values of a schema, and the written spelling of each.
use Rattle.std.specs.Prelude.{◌≡◌, ℕ, zero, suc, ℤ, pos, ◌≤◌, ◌<◌, ◌^◌, List, [], ◌∷◌, ◌++◌, length, Bool, false}
use Rattle.std.specs.List.{AllByRecursion}
use Rattle.std.specs.Str.{IsUtf8}
use Rattle.avro_schema.specs.Form.{Form, null, boolean, int, long, float4, float8, bytes as blob, string, fixed, choice, array, pairs, fields, union, Forms, no_forms, form}
use Rattle.avro_container.specs.Long.{written_long, zigzag}
use Rattle.avro_container.specs.Writing.{written_text, written_blocks}
use Rattle.avro_datum.specs.declared.datum.Datum.{Datum, out-Datum}
use Rattle.avro_datum.specs.declared.datum.Datum.TheOpen.{Datum-F}
use Rattle.avro_datum.specs.declared.datum.Datum.TheVariants.{Null, Bool as Truth, Int, Long, Float4, Float8, Blob, Str, Fix, Choice, List as Array, Pairs, Fields, Branch}
use Rattle.avro_datum.specs.Spelling.{IsInt, truth_byte, most_items}

-- A key in UTF-8, and a value.
unfoldable pub IsEntry : (Datum → Type 0) → List ℕ × Datum → Type 0
IsEntry P e = IsUtf8 e.0 × P e.1

unfoldable mutual
  -- The value is of the schema.
  pub IsOf : Form → Datum → Type 0
  IsOf null d = d ≡ Null
  IsOf boolean d = (t : Bool) × (d ≡ Truth t)
  IsOf int d = (n : ℤ) × (d ≡ Int n) × IsInt n
  IsOf long d = (n : ℤ) × (d ≡ Long n) × (zigzag n < 2 ^ 64)
  IsOf float4 d = (b : List ℕ) × (d ≡ Float4 b) × (length b ≡ 4)
  IsOf float8 d = (b : List ℕ) × (d ≡ Float8 b) × (length b ≡ 8)
  IsOf blob d = (t : List ℕ) × (d ≡ Blob t)
  IsOf string d = (t : List ℕ) × (d ≡ Str t) × IsUtf8 t
  IsOf (fixed n) d = (b : List ℕ) × (d ≡ Fix b) × (length b ≡ n)
  IsOf (choice n) d = (k : ℕ) × (d ≡ Choice k) × (k < n) × (k < 2 ^ 32)
  IsOf (array f) d = (ds : List Datum) × (d ≡ Array ds) × AllByRecursion (IsOf f) ds × (length ds ≤ most_items)
  IsOf (pairs f) d = (ds : List (List ℕ × Datum)) × (d ≡ Pairs ds) × AllByRecursion (IsEntry (IsOf f)) ds × (length ds ≤ most_items)
  IsOf (fields fs) d = (ds : List Datum) × (d ≡ Fields ds) × AreOf fs ds
  IsOf (union fs) d = (n : ℕ) × (inner : Datum) × (d ≡ Branch n inner) × (n < 2 ^ 32) × IsOfNth fs n inner

  -- As many values as fields, each of its field's schema.
  pub AreOf : Forms → List Datum → Type 0
  AreOf no_forms [] = Unit {0}
  AreOf no_forms (d ∷ ds) = ⊥
  AreOf (form f fs) [] = ⊥
  AreOf (form f fs) (d ∷ ds) = IsOf f d × AreOf fs ds

  -- The value is of the form at a position.
  pub IsOfNth : Forms → ℕ → Datum → Type 0
  IsOfNth no_forms n d = ⊥
  IsOfNth (form f fs) zero d = IsOf f d
  IsOfNth (form f fs) (suc n) d = IsOfNth fs n d

-- What a value holds, one level down.

-- The number of a value, 0 where it is none.
abbrev pub number_in : Datum-F Datum → ℤ
number_in (Datum-F.Int n) = n
number_in (Datum-F.Long n) = n
number_in _ = pos 0

-- The bytes of a value, none where it has none.
abbrev pub bytes_in : Datum-F Datum → List ℕ
bytes_in (Datum-F.Float4 b) = b
bytes_in (Datum-F.Float8 b) = b
bytes_in (Datum-F.Blob t) = t
bytes_in (Datum-F.Str t) = t
bytes_in (Datum-F.Fix b) = b
bytes_in _ = []

-- The truth of a value, false where it is none.
abbrev pub truth_in : Datum-F Datum → Bool
truth_in (Datum-F.Bool t) = t
truth_in _ = false

-- The items or fields of a value, none where it has none.
abbrev pub items_in : Datum-F Datum → List Datum
items_in (Datum-F.List ds) = ds
items_in (Datum-F.Fields ds) = ds
items_in _ = []

-- The entries of a map, none where it is none.
abbrev pub entries_in : Datum-F Datum → List (List ℕ × Datum)
entries_in (Datum-F.Pairs ds) = ds
entries_in _ = []

-- The position of a choice or a branch, 0 where it is none.
abbrev pub position_in : Datum-F Datum → ℕ
position_in (Datum-F.Choice n) = n
position_in (Datum-F.Branch n d) = n
position_in _ = 0

-- The value of a branch, null where it is none.
abbrev pub inner_in : Datum-F Datum → Datum
inner_in (Datum-F.Branch n d) = d
inner_in _ = Null

-- An entry of a map: its key, and its value as w writes it.
unfoldable pub written_entry : (Datum → List ℕ) → List ℕ × Datum → List ℕ
written_entry w e = written_text e.0 ++ w e.1

unfoldable mutual
  -- The written spelling of a value under a form.
  pub written : Form → Datum → List ℕ
  written null d = []
  written boolean d = truth_byte (truth_in (out-Datum d)) ∷ []
  written int d = written_long (number_in (out-Datum d))
  written long d = written_long (number_in (out-Datum d))
  written float4 d = bytes_in (out-Datum d)
  written float8 d = bytes_in (out-Datum d)
  written blob d = written_text (bytes_in (out-Datum d))
  written string d = written_text (bytes_in (out-Datum d))
  written (fixed n) d = bytes_in (out-Datum d)
  written (choice n) d = written_long (pos (position_in (out-Datum d)))
  written (array f) d = written_blocks (written f) (items_in (out-Datum d))
  written (pairs f) d = written_blocks (written_entry (written f)) (entries_in (out-Datum d))
  written (fields fs) d = written_all fs (items_in (out-Datum d))
  written (union fs) d = written_long (pos (position_in (out-Datum d))) ++ written_nth fs (position_in (out-Datum d)) (inner_in (out-Datum d))

  -- The values in order, each under its form.
  pub written_all : Forms → List Datum → List ℕ
  written_all no_forms ds = []
  written_all (form f fs) [] = []
  written_all (form f fs) (d ∷ ds) = written f d ++ written_all fs ds

  -- The value under the form at a position.
  pub written_nth : Forms → ℕ → Datum → List ℕ
  written_nth no_forms n d = []
  written_nth (form f fs) zero d = written f d
  written_nth (form f fs) (suc n) d = written_nth fs n d
