-- The record that is written for a row.
use Rattle.std.specs.Prelude.{◌≡◌, ℕ, ℤ, pos, ◌<◌, ◌^◌, List, [], ◌∷◌, map, Option, Some, None}
use Rattle.std.specs.Option.{option_map}
use Rattle.avro_datum.specs.declared.datum.Datum.{Datum}
use Rattle.avro_datum.specs.declared.datum.Datum.TheVariants.{Bool as Truth, Int, Long, Blob, Str, Fields}
use Rattle.manifest_columns.specs.declared.slots.Slot.{Slot}
use Rattle.manifest_columns.specs.Tables.{written_row_columns}
use Rattle.manifest_columns.specs.Written.{written_field}
use Rattle.manifest_cells.specs.Cells.{content_number}
use Rattle.manifest_cells.specs.Written.{optional, array_of}
use Rattle.manifest_rows.specs.declared.row.FieldSummary.{FieldSummary}
use Rattle.manifest_rows.specs.declared.row.ManifestRow.{ManifestRow}
use Rattle.manifest_rows.specs.Rows.{IsRow, row_slots}

-- A summary as a record, its fields in the order in which they are written.
abbrev pub summary_record : FieldSummary → Datum
summary_record s = Fields (Truth s.contains_null ∷ optional (option_map Truth s.contains_nan) ∷ optional (option_map Blob s.lower_bound) ∷ optional (option_map Blob s.upper_bound) ∷ [])

-- The fields of a row's record, in the order in which they are written.
unfoldable pub row_fields : ManifestRow → List Datum
row_fields row =
    Str row.manifest_path
    ∷ Long (pos row.manifest_length)
    ∷ Int row.partition_spec_id
    ∷ Int (content_number row.is_deletes)
    ∷ Long row.sequence_number
    ∷ Long row.min_sequence_number
    ∷ Long row.added_snapshot_id
    ∷ Int row.added_files_count
    ∷ Int row.existing_files_count
    ∷ Int row.deleted_files_count
    ∷ Long row.added_rows_count
    ∷ Long row.existing_rows_count
    ∷ Long row.deleted_rows_count
    ∷ optional (option_map (array_of summary_record) row.partitions)
    ∷ optional (option_map Blob row.key_metadata)
    ∷ []

-- Where the written schema has the columns.
abbrev pub written_slots : List Slot
written_slots = row_slots (map written_field written_row_columns)

-- A row's record, under the written schema, stands for that row.
abbrev pub RowsAreReadBack : Type 0
RowsAreReadBack = (row : ManifestRow) → IsRow written_slots (row_fields row) row
