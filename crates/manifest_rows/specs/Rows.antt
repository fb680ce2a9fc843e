-- Which row a record of the file stands for (Apache Iceberg specification, "Manifest Lists").
use Rattle.std.specs.Prelude.{◌≡◌, ℕ, ℤ, pos, List, [], ◌∷◌, map, take, set, Result, Ok, Err, Option, Some, None, Bool, true, false}
use Rattle.std.specs.Option.{option_map}
use Rattle.std.specs.List.{slice_get}
use Rattle.avro_datum.specs.declared.datum.Datum.{Datum}
use Rattle.avro_datum.specs.declared.datum.Datum.TheVariants.{Bool as Truth, Int, Long, Blob, Str}
use Rattle.manifest_columns.specs.declared.column.Column.{Column}
use Rattle.manifest_columns.specs.declared.column.Kind.{Kind}
use Rattle.manifest_columns.specs.declared.slots.Slot.{Slot}
use Rattle.avro_schema.specs.declared.schema.Field.{Field}
use Rattle.manifest_columns.specs.Slots.{slot_of}
use Rattle.manifest_columns.specs.Tables.{row_columns}
use Rattle.manifest_cells.specs.Cells.{Cell, single, cells_of, content_number, listed_as}
use Rattle.manifest_cells.specs.declared.field_err.FieldErr.{FieldErr}
use Rattle.manifest_cells.specs.declared.field_err.FieldErr.TheVariants as errors
use Rattle.manifest_rows.specs.declared.row.FieldSummary.{FieldSummary}
use Rattle.manifest_rows.specs.declared.row.ManifestRow.{ManifestRow}

-- The fields of a summary in the order of their ids.
abbrev pub summary_cells : FieldSummary → List (Option Datum)
summary_cells s =
    Some (Truth s.contains_null)
    ∷ option_map Blob s.lower_bound
    ∷ option_map Blob s.upper_bound
    ∷ option_map Truth s.contains_nan
    ∷ []

-- The fields of a row in the order of their ids. Where it begins in its file is none of them.
unfoldable pub cells : ManifestRow → List Cell
cells row =
    single (Some (Str row.manifest_path))
    ∷ single (Some (Long (pos row.manifest_length)))
    ∷ single (Some (Int row.partition_spec_id))
    ∷ single (Some (Long row.added_snapshot_id))
    ∷ single (Some (Int row.added_files_count))
    ∷ single (Some (Int row.existing_files_count))
    ∷ single (Some (Int row.deleted_files_count))
    ∷ listed_as summary_cells row.partitions
    ∷ single (Some (Long row.added_rows_count))
    ∷ single (Some (Long row.existing_rows_count))
    ∷ single (Some (Long row.deleted_rows_count))
    ∷ single (Some (Long row.sequence_number))
    ∷ single (Some (Long row.min_sequence_number))
    ∷ single (Some (Int (content_number row.is_deletes)))
    ∷ single (option_map Blob row.key_metadata)
    ∷ []

-- the kinds of the columns, in the order of their ids
abbrev pub row_kinds : List Kind
row_kinds = map (λ (c : Column). c.kind) row_columns

-- the ids of the columns
abbrev pub row_ids : List ℤ
row_ids = map (λ (c : Column). c.id) row_columns

-- Where records with these fields have the columns of a row.
abbrev pub row_slots : List Field → List Slot
row_slots fs = map (slot_of fs) row_columns

-- what a record of the file holds for the columns of a row
abbrev pub held_cells : List Slot → List Datum → List Cell
held_cells slots ds = cells_of row_kinds slots ds

-- The record of the file stands for the row.
abbrev pub IsRow : List Slot → List Datum → ManifestRow → Type 0
IsRow slots ds row = cells row ≡ held_cells slots ds

-- The record stands for no row: the column of this id is the first one that holds no value of a row's field.
pub record IsBadAt (slots : List Slot) (ds : List Datum) (id : ℤ) : Type 0 where
  pub place : ℕ
  pub has_id : slice_get row_ids place ≡ Some id
  pub fits_before : (row : ManifestRow) × (take place (cells row) ≡ take place (held_cells slots ds))
  pub fits_not : (row : ManifestRow) → slice_get (cells row) place ≡ slice_get (held_cells slots ds) place → ⊥

-- The record stands for no row.
abbrev pub NoRow : List Slot → List Datum → Type 0
NoRow slots ds = (row : ManifestRow) → IsRow slots ds row → ⊥

-- A row, or the id of the first column that doesn't fit.
abbrev pub Reads : List Slot → List Datum → Result ManifestRow FieldErr → Type 0
Reads slots ds (Ok row) = IsRow slots ds row
Reads slots ds (Err errors.Memory) = Unit {0}
Reads slots ds (Err (errors.BadField id)) = IsBadAt slots ds id

-- The field of a row with this number was set to what the cell says, or no row's is.
abbrev pub Fills : ℕ → Cell → ManifestRow → Bool → ManifestRow → Type 0
Fills place cell old true now = cells now ≡ set (cells old) place cell
Fills place cell old false now = (row : ManifestRow) → slice_get (cells row) place ≡ Some cell → ⊥
