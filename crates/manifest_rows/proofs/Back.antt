-- Written rows are read as themselves.
use Rattle.std.proofs.Common.{◌≡◌, ℕ, ℤ, pos, List, [], ◌∷◌, map, Option, Some, None, Bool, true, false, refl, sym, ap, ◌∙◌}
use Rattle.std.specs.Option.{option_map}
use Rattle.avro_schema.specs.declared.schema.Field.{Field}
use Rattle.avro_datum.specs.declared.datum.Datum.{Datum, out-Datum}
use Rattle.avro_datum.specs.declared.datum.Datum.TheOpen.{Datum-F}
use Rattle.avro_datum.specs.declared.datum.Datum.TheVariants.{Bool as Truth, Int, Long, Blob, Str, Fields, outs-Fields}
use Rattle.manifest_columns.specs.declared.slots.Slot.{Slot}
use Rattle.manifest_columns.specs.Slots.{places_of, inner_ids}
use Rattle.manifest_columns.specs.Tables.{summary_columns, written_summary_columns}
use Rattle.manifest_columns.specs.Written.{plain_field}
use Rattle.manifest_columns.specs.declared.column.Column.{Column}
use Rattle.manifest_columns.specs.declared.name.RecordName.TheVariants as names
use Rattle.manifest_columns.specs.Name.{record_name_of}
use Rattle.manifest_columns.proofs.Lists.{fields_in_list}
use Rattle.manifest_cells.specs.Cells.{fields_in, held, record_cells, cells_of}
use Rattle.manifest_cells.specs.Written.{optional}
use Rattle.manifest_cells.proofs.Back.{plain_bool, plain_int, plain_long, plain_blob, plain_text, held_needed, held_optional, needed, maybe, maybe_list, conses}
use Rattle.manifest_rows.specs.declared.row.FieldSummary.{FieldSummary}
use Rattle.manifest_rows.specs.declared.row.ManifestRow.{ManifestRow}
use Rattle.manifest_rows.specs.Rows.{cells, summary_cells, row_kinds}
use Rattle.manifest_rows.specs.Written.{summary_record, row_fields, written_slots, RowsAreReadBack}

-- a column without records, in this place
slot_at : ℕ → Slot
slot_at n = record { place = Some n; within = [] }

-- where a written summary has 509, 510, 511 and 518
summary_places : List (Option ℕ)
summary_places = Some 0 ∷ Some 2 ∷ Some 3 ∷ Some 1 ∷ []

summary_back : (s : FieldSummary) → summary_cells s ≡ record_cells summary_places (summary_record s)
unfolding summary_places
summary_back s =
    conses (held_needed (Truth s.contains_null) (plain_bool s.contains_null))
    (conses (held_optional Blob plain_blob s.lower_bound)
    (conses (held_optional Blob plain_blob s.upper_bound)
    (conses (held_optional Truth plain_bool s.contains_nan) refl)))
    ∙ sym (ap (λ (t : Datum-F Datum). map (held (fields_in t)) summary_places) (outs-Fields (Truth s.contains_null ∷ optional (option_map Truth s.contains_nan) ∷ optional (option_map Blob s.lower_bound) ∷ optional (option_map Blob s.upper_bound) ∷ [])))

-- the slots of the written schema, where its summaries have these fields
slots_with : List Field → List Slot
slots_with fs =
    slot_at 0 ∷ slot_at 1 ∷ slot_at 2 ∷ slot_at 6 ∷ slot_at 7 ∷ slot_at 8 ∷ slot_at 9
    ∷ record { place = Some 13; within = places_of (map (λ (c : Column). c.id) summary_columns) fs }
    ∷ slot_at 10 ∷ slot_at 11 ∷ slot_at 12 ∷ slot_at 4 ∷ slot_at 5 ∷ slot_at 3 ∷ slot_at 14 ∷ []

slots_are : slots_with (map plain_field written_summary_columns) ≡ written_slots
unfolding slots_with slot_at
slots_are = sym (ap slots_with (fields_in_list (record_name_of names.FieldSummary) (map plain_field written_summary_columns) (Some (pos 508)) false))

back_at : (row : ManifestRow) → cells row ≡ cells_of row_kinds (slots_with (map plain_field written_summary_columns)) (row_fields row)
unfolding cells row_fields slots_with slot_at summary_places
back_at row =
    conses (needed (Str row.manifest_path) (plain_text row.manifest_path))
    (conses (needed (Long (pos row.manifest_length)) (plain_long (pos row.manifest_length)))
    (conses (needed (Int row.partition_spec_id) (plain_int row.partition_spec_id))
    (conses (needed (Long row.added_snapshot_id) (plain_long row.added_snapshot_id))
    (conses (needed (Int row.added_files_count) (plain_int row.added_files_count))
    (conses (needed (Int row.existing_files_count) (plain_int row.existing_files_count))
    (conses (needed (Int row.deleted_files_count) (plain_int row.deleted_files_count))
    (conses (maybe_list summary_cells summary_record summary_places summary_back row.partitions)
    (conses (needed (Long row.added_rows_count) (plain_long row.added_rows_count))
    (conses (needed (Long row.existing_rows_count) (plain_long row.existing_rows_count))
    (conses (needed (Long row.deleted_rows_count) (plain_long row.deleted_rows_count))
    (conses (needed (Long row.sequence_number) (plain_long row.sequence_number))
    (conses (needed (Long row.min_sequence_number) (plain_long row.min_sequence_number))
    (conses (needed _ (plain_int _))
    (conses (maybe Blob plain_blob row.key_metadata) refl))))))))))))))

pub read_back : RowsAreReadBack
read_back row = back_at row ∙ ap (λ (slots : List Slot). cells_of row_kinds slots (row_fields row)) slots_are
