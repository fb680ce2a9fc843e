-- Which entry a record of a manifest stands for (Apache Iceberg specification, "Manifests").
use Rattle.std.specs.Prelude.{◌≡◌, ℕ, ℤ, pos, List, [], ◌∷◌, map, take, Result, Ok, Err, Option, Some, None}
use Rattle.std.specs.Option.{option_map}
use Rattle.std.specs.List.{slice_get}
use Rattle.avro_datum.specs.declared.datum.Datum.{Datum, out-Datum}
use Rattle.avro_datum.specs.declared.datum.Datum.TheVariants.{Int, Long}
use Rattle.avro_schema.specs.declared.schema.Field.{Field}
use Rattle.manifest_columns.specs.Places.{place_of}
use Rattle.manifest_columns.specs.Slots.{slot_of}
use Rattle.manifest_columns.specs.Tables.{data_file_columns}
use Rattle.manifest_cells.specs.Cells.{Cell, single, held, fields_in}
use Rattle.manifest_cells.specs.declared.field_err.FieldErr.{FieldErr}
use Rattle.manifest_cells.specs.declared.field_err.FieldErr.TheVariants as errors
use Rattle.manifest_files.specs.declared.partition.PartSlot.{PartSlot}
use Rattle.manifest_files.specs.Files.{file_cells, file_ids, held_file_cells}
use Rattle.manifest_entries.specs.declared.entry.Entry.{Entry}
use Rattle.manifest_entries.specs.declared.entry.EntrySlots.{EntrySlots}
use Rattle.manifest_entries.specs.declared.entry.EntryStatus.{EntryStatus}
use Rattle.manifest_entries.specs.declared.entry.EntryStatus.TheVariants.{Existing, Added, Deleted}

-- 0 existing, 1 added, 2 deleted
abbrev pub status_number : EntryStatus → ℤ
status_number Existing = pos 0
status_number Added = pos 1
status_number Deleted = pos 2

-- Where records with these fields have those of an entry, their data file the columns of one, and its partition these.
abbrev pub entry_slots : List Field → List Field → List PartSlot → EntrySlots
entry_slots fields file_fields parts = record {
  status = place_of (pos 0) fields;
  snapshot_id = place_of (pos 1) fields;
  sequence_number = place_of (pos 3) fields;
  file_sequence_number = place_of (pos 4) fields;
  data_file = place_of (pos 2) fields;
  file = map (slot_of file_fields) data_file_columns;
  parts = parts;
}

-- The fields of an entry and of its data file in the order of their ids. Where it begins in its file is none of them.
abbrev pub entry_cells : Entry → List Cell
entry_cells entry =
    single (Some (Int (status_number entry.status)))
    ∷ single (option_map Long entry.snapshot_id)
    ∷ single (option_map Long entry.sequence_number)
    ∷ single (option_map Long entry.file_sequence_number)
    ∷ file_cells entry.data_file

-- the ids of these fields
abbrev pub entry_ids : List ℤ
entry_ids = pos 0 ∷ pos 1 ∷ pos 3 ∷ pos 4 ∷ file_ids

-- the fields of the record that was found, none where none was
abbrev pub found_fields : Option Datum → List Datum
found_fields None = []
found_fields (Some d) = fields_in (out-Datum d)

-- what a record of the file holds for an entry and its data file
abbrev pub held_entry_cells : EntrySlots → List Datum → List Cell
held_entry_cells slots ds =
    single (held ds slots.status)
    ∷ single (held ds slots.snapshot_id)
    ∷ single (held ds slots.sequence_number)
    ∷ single (held ds slots.file_sequence_number)
    ∷ held_file_cells slots.file slots.parts (found_fields (held ds slots.data_file))

-- The record of the file stands for the entry.
abbrev pub IsEntry : EntrySlots → List Datum → Entry → Type 0
IsEntry slots ds entry = entry_cells entry ≡ held_entry_cells slots ds

-- The record stands for no entry: the field of this id is the first one that holds no value of an entry's field.
pub record IsBadEntryAt (slots : EntrySlots) (ds : List Datum) (id : ℤ) : Type 0 where
  pub place : ℕ
  pub has_id : slice_get entry_ids place ≡ Some id
  pub fits_before : (entry : Entry) × (take place (entry_cells entry) ≡ take place (held_entry_cells slots ds))
  pub fits_not : (entry : Entry) → slice_get (entry_cells entry) place ≡ slice_get (held_entry_cells slots ds) place → ⊥

-- The record stands for no entry.
abbrev pub NoEntry : EntrySlots → List Datum → Type 0
NoEntry slots ds = (entry : Entry) → IsEntry slots ds entry → ⊥

-- An entry, or the id of the first field that doesn't fit.
abbrev pub ReadsEntry : EntrySlots → List Datum → Result Entry FieldErr → Type 0
ReadsEntry slots ds (Ok entry) = IsEntry slots ds entry
ReadsEntry slots ds (Err errors.Memory) = Unit {0}
ReadsEntry slots ds (Err (errors.BadField id)) = IsBadEntryAt slots ds id
