-- What a record of a file holds for columns, whatever the file's schema is.
use Rattle.std.specs.Prelude.{◌≡◌, ℕ, ℤ, pos, List, [], ◌∷◌, map, Option, Some, None, Bool, true, false}
use Rattle.std.specs.Option.{option_map}
use Rattle.std.specs.List.{slice_get}
use Rattle.avro_datum.specs.declared.datum.Datum.{Datum, out-Datum}
use Rattle.avro_datum.specs.declared.datum.Datum.TheOpen.{Datum-F}
use Rattle.avro_datum.specs.declared.datum.Datum.TheVariants.{Int, Long, Blob, List as Array}
use Rattle.manifest_columns.specs.declared.column.Kind.{Kind}
use Rattle.manifest_columns.specs.declared.column.Kind.TheVariants.{IntLongs, IntBytes, Summaries}
use Rattle.manifest_columns.specs.declared.slots.Slot.{Slot}

-- What is held for a column: a value, or a list of records, each with what it holds for its own columns. None is null, or no field.
pub data Cell : Type 0 where
  single : Option Datum → Cell
  records : Option (List (List (Option Datum))) → Cell

-- a value, none where it is null
abbrev pub not_null : Datum → Datum-F Datum → Option Datum
not_null d Datum-F.Null = None
not_null d _ = Some d

-- a value without a union around it, none where it is null
abbrev pub inside : Datum → Datum-F Datum → Option Datum
inside d (Datum-F.Branch n inner) = not_null inner (out-Datum inner)
inside d Datum-F.Null = None
inside d _ = Some d

-- what was found, without a union around it, and none where it is null
unfoldable pub plain : Option Datum → Option Datum
plain None = None
plain (Some d) = inside d (out-Datum d)

-- what stands in a place, if there is one
abbrev pub found_at : List Datum → Option ℕ → Option Datum
found_at ds None = None
found_at ds (Some place) = slice_get ds place

-- What a record of the file holds in a place, or in none.
abbrev pub held : List Datum → Option ℕ → Option Datum
held ds place = plain (found_at ds place)

-- the fields of a record
abbrev pub fields_in : Datum-F Datum → List Datum
fields_in (Datum-F.Fields ds) = ds
fields_in _ = []

-- what a record within a list holds in these places
abbrev pub record_cells : List (Option ℕ) → Datum → List (Option Datum)
record_cells places d = map (held (fields_in (out-Datum d))) places

-- the items of an array
abbrev pub items_in : Datum-F Datum → Option (List Datum)
items_in (Datum-F.List ds) = Some ds
items_in _ = None

-- the items of a value, as records of which each is what it holds in these places
abbrev pub listed : List (Option ℕ) → Datum → Option (List Datum) → Cell
listed places d None = single (Some d)
listed places d (Some ds) = records (Some (map (record_cells places) ds))

-- the same of what was found
abbrev pub records_in : List (Option ℕ) → Option Datum → Cell
records_in places None = records None
records_in places (Some d) = listed places d (items_in (out-Datum d))

-- what was found for a column of the kind
abbrev pub cell_of : Kind → List (Option ℕ) → Option Datum → Cell
cell_of (IntLongs key value name) places found = records_in places found
cell_of (IntBytes key value name) places found = records_in places found
cell_of (Summaries element name) places found = records_in places found
cell_of _ places found = single found

-- What a record of the file holds for a column of the kind.
abbrev pub cell : Kind → Slot → List Datum → Cell
cell kind slot ds = cell_of kind slot.within (held ds slot.place)

-- The same of several columns, each with its slot.
abbrev pub cells_of : List Kind → List Slot → List Datum → List Cell
cells_of (k ∷ ks) (s ∷ ss) ds = cell k s ds ∷ cells_of ks ss ds
cells_of _ _ ds = []

-- What was read is what the cell says, or nothing of its kind is.
abbrev pub Reads : {A B : Type 0} → (A → B) → B → Option A → Type 0
Reads said cell (Some x) = said x ≡ cell
Reads {A = A} said cell None = (x : A) → said x ≡ cell → ⊥

-- A field that was set is what the cell says, or no field is.
abbrev pub Sets : {A B : Type 0} → (A → B) → B → Bool → A → Type 0
Sets said cell true now = said now ≡ cell
Sets {A = A} said cell false now = (x : A) → said x ≡ cell → ⊥

-- The same of a column that is one value.
abbrev pub SetsValue : {A : Type 0} → (A → Option Datum) → Option Datum → Bool → A → Type 0
SetsValue said found fits now = Sets (λ x. single (said x)) (single found) fits now

-- What is told of values.

-- 0 data, 1 deletes
abbrev pub content_number : Bool → ℤ
content_number false = pos 0
content_number true = pos 1

-- an int and a long, as what a record of the two holds
abbrev pub int_long_cells : ℤ × ℤ → List (Option Datum)
int_long_cells p = Some (Int p.0) ∷ Some (Long p.1) ∷ []

-- an int and bytes, in the same way
abbrev pub int_bytes_cells : ℤ × List ℕ → List (Option Datum)
int_bytes_cells p = Some (Int p.0) ∷ Some (Blob p.1) ∷ []

-- longs as an array
abbrev pub long_array : List ℤ → Datum
long_array ns = Array (map Long ns)

-- ints as an array
abbrev pub int_array : List ℤ → Datum
int_array ns = Array (map Int ns)

-- items as records, each as what it holds
abbrev pub listed_as : {A : Type 0} → (A → List (Option Datum)) → Option (List A) → Cell
listed_as said xs = records (option_map (map said) xs)
