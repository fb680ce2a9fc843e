-- Which rows a manifest list has (Apache Iceberg specification, "Manifest Lists").
use Rattle.std.specs.Prelude.{◌≡◌, ℕ, List, ℤ, Result, Ok, Err}
use Rattle.avro_container.specs.Container.{Pair}
use Rattle.avro_schema.specs.declared.schema.Field.{Field}
use Rattle.avro_datum.specs.declared.datum.Datum.{Datum, out-Datum}
use Rattle.manifest_cells.specs.Cells.{fields_in}
use Rattle.manifest_columns.specs.declared.slots.Slot.{Slot}
use Rattle.manifest_columns.specs.Tables.{row_columns}
use Rattle.manifest_rows.specs.declared.row.ManifestRow.{ManifestRow}
use Rattle.manifest_rows.specs.Rows.{IsRow, IsBadAt, row_slots}
use Rattle.manifest_codec.specs.declared.fault.ManifestErr.{ManifestErr}
use Rattle.manifest_codec.specs.Faults.{Fault, Fails}
use Rattle.manifest_codec.specs.Objects.{Objects}
use Rattle.manifest_codec.specs.Records.{AreEach, GivesOne, GivesEach}
use Rattle.manifest_codec.specs.Schemas.{checked, file_at}

-- The object is a record that stands for the row, which begins there.
abbrev pub IsRowAt : List Slot → ℕ → Datum → ManifestRow → Type 0
IsRowAt slots at d row = IsRow slots (fields_in (out-Datum d)) row × (row.at ≡ at)

-- The object is a record that stands for no row, as the column of this id doesn't fit.
abbrev pub IsBadRow : List Slot → Datum → ℤ → Type 0
IsBadRow slots d id = IsBadAt slots (fields_in (out-Datum d)) id

-- The objects are records that stand for the rows, one for each.
abbrev pub AreRows : List Slot → Objects → List ManifestRow → Type 0
AreRows slots = AreEach (IsRowAt slots)

-- The row of an object, or its fault.
abbrev pub GivesRow : List Slot → ℕ → Datum → Result ManifestRow ManifestErr → Type 0
GivesRow slots = GivesOne (IsRowAt slots) (IsBadRow slots)

-- The rows of the objects, or the first fault.
abbrev pub GivesRows : List Slot → Objects → Result (List ManifestRow) ManifestErr → Type 0
GivesRows slots = GivesEach (IsRowAt slots) (IsBadRow slots)

-- The same of a file that may have no objects.
abbrev pub GivesList : Result (List Field × List Pair × Objects) Fault → Result (List ManifestRow) ManifestErr → Type 0
GivesList (Ok (fs, meta, objects)) result = GivesRows (row_slots fs) objects result
GivesList (Err fault) (Ok rows) = ⊥
GivesList (Err fault) (Err e) = Fails {A = List ManifestRow} e (Err fault)

-- The bytes are a manifest list of the rows, each with the place where it begins.
abbrev pub IsList : List ℕ → List ManifestRow → Type 0
IsList bytes rows = GivesList (file_at (checked row_columns) bytes) (Ok rows)

-- The bytes are no manifest list, whichever the rows.
abbrev pub NoList : List ℕ → Type 0
NoList bytes = (rows : List ManifestRow) → IsList bytes rows → ⊥
