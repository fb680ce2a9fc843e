-- Written data files are read as themselves.
use Rattle.std.proofs.Common.{◌≡◌, ℕ, ℤ, pos, List, [], ◌∷◌, map, Option, Some, None, true, refl, sym, ap, ◌∙◌}
use Rattle.std.specs.Option.{option_and_then}
use Rattle.std.specs.List.{slice_get}
use Rattle.avro_schema.specs.declared.schema.Field.{Field}
use Rattle.avro_schema.specs.declared.schema.Logical.TheVariants.{Plain}
use Rattle.avro_schema.specs.declared.schema.Schema.TheVariants as types
use Rattle.avro_datum.specs.declared.datum.Datum.{Datum}
use Rattle.avro_datum.specs.declared.datum.Datum.TheOpen.{Datum-F}
use Rattle.avro_datum.specs.declared.datum.Datum.TheVariants.{Int, Long, Blob, Str, outs-Fields}
use Rattle.manifest_columns.specs.declared.column.Kind.{Kind}
use Rattle.manifest_columns.specs.declared.column.Kind.TheVariants as kinds
use Rattle.manifest_columns.specs.declared.name.RecordName.{RecordName}
use Rattle.manifest_columns.specs.declared.name.RecordName.TheVariants as records
use Rattle.manifest_columns.specs.declared.name.Name.TheVariants as names
use Rattle.manifest_columns.specs.declared.slots.Slot.{Slot}
use Rattle.manifest_columns.specs.Name.{record_name_of}
use Rattle.manifest_columns.specs.Shapes.{type_of}
use Rattle.manifest_columns.specs.Slots.{places_of, inner_fields}
use Rattle.manifest_columns.specs.Written.{field, nullable, pair_type, plain_type}
use Rattle.manifest_columns.proofs.Lists.{fields_in_list}
use Rattle.manifest_cells.specs.Cells.{Cell, single, records as listed, fields_in, held, record_cells, int_long_cells, int_bytes_cells, long_array, int_array}
use Rattle.manifest_cells.specs.Written.{int_long_record, int_bytes_record}
use Rattle.manifest_cells.proofs.Back.{IsPlain, plain_int, plain_long, plain_blob, plain_text, plain_array, held_needed, needed, maybe, maybe_list, conses, both, int_long_back, int_bytes_back}
use Rattle.manifest_files.specs.declared.file.DataFile.{DataFile}
use Rattle.manifest_files.specs.declared.partition.PartSlot.{PartSlot}
use Rattle.manifest_files.specs.Files.{file_cells, file_kinds, file_cells_of, IsFile}
use Rattle.manifest_files.specs.Partitions.{partition_in, written_parts}
use Rattle.manifest_files.specs.Written.{file_fields, written_file_slots, FilesAreReadBack}
use Rattle.manifest_files.proofs.PartBack.{partition_back}

-- a column without records, in this place
slot_at : ℕ → Slot
slot_at n = record { place = Some n; within = [] }

-- a column of pairs, in this place, whose records have these fields
pairs_at : ℕ → ℤ → ℤ → List Field → Slot
pairs_at n key value fs = record { place = Some n; within = places_of (key ∷ value ∷ []) fs }

-- the fields of a written pair
pair_fields : ℤ → ℤ → Kind → List Field
pair_fields key value kind = field names.Key key (types.Int Plain) ∷ field names.Value value (plain_type kind) ∷ []

slot_is : (n : ℕ) (key value : ℤ) (kind : Kind) (name : RecordName) → pairs_at n key value (pair_fields key value kind) ≡ pairs_at n key value (inner_fields (option_and_then (type_of true) (Some (nullable true (pair_type key value kind name)))))
unfolding pair_fields
slot_is n key value kind name = sym (ap (pairs_at n key value) (fields_in_list (record_name_of name) (pair_fields key value kind) None true))

-- where the written schema has the columns
slots : List Slot
slots =
    slot_at 1 ∷ slot_at 2 ∷ slot_at 3 ∷ slot_at 4 ∷ slot_at 5
    ∷ pairs_at 6 (pos 117) (pos 118) (pair_fields (pos 117) (pos 118) kinds.Long)
    ∷ pairs_at 7 (pos 119) (pos 120) (pair_fields (pos 119) (pos 120) kinds.Long)
    ∷ pairs_at 8 (pos 121) (pos 122) (pair_fields (pos 121) (pos 122) kinds.Long)
    ∷ pairs_at 10 (pos 126) (pos 127) (pair_fields (pos 126) (pos 127) kinds.Bytes)
    ∷ pairs_at 11 (pos 129) (pos 130) (pair_fields (pos 129) (pos 130) kinds.Bytes)
    ∷ slot_at 12 ∷ slot_at 13 ∷ slot_at 0 ∷ slot_at 14
    ∷ pairs_at 9 (pos 138) (pos 139) (pair_fields (pos 138) (pos 139) kinds.Long)
    ∷ slot_at 15 ∷ slot_at 16 ∷ []

slots_are : slots ≡ written_file_slots
unfolding slots slot_at pairs_at
slots_are =
    conses refl (conses refl (conses refl (conses refl (conses refl
    (conses (slot_is 6 (pos 117) (pos 118) kinds.Long records.ColumnSizes)
    (conses (slot_is 7 (pos 119) (pos 120) kinds.Long records.ValueCounts)
    (conses (slot_is 8 (pos 121) (pos 122) kinds.Long records.NullValueCounts)
    (conses (slot_is 10 (pos 126) (pos 127) kinds.Bytes records.LowerBounds)
    (conses (slot_is 11 (pos 129) (pos 130) kinds.Bytes records.UpperBounds)
    (conses refl (conses refl (conses refl (conses refl
    (conses (slot_is 9 (pos 138) (pos 139) kinds.Long records.NanValueCounts)
    (conses refl (conses refl refl))))))))))))))))

plain_longs : (ns : List ℤ) → IsPlain (long_array ns)
plain_longs ns = plain_array (map Long ns)

plain_ints : (ns : List ℤ) → IsPlain (int_array ns)
plain_ints ns = plain_array (map Int ns)

value_in : Option Cell → Option Datum
value_in None = None
value_in (Some (single o)) = o
value_in (Some (listed cs)) = None

-- the partition was read of something
partition_read : (ss : List Slot) (parts : List PartSlot) (ds : List Datum) (file : DataFile) → IsFile ss parts ds file → (o : Option Datum) × (Some file.partition ≡ partition_in parts o)
unfolding file_cells value_in
partition_read [] parts ds file h = absurd cc
partition_read (a ∷ []) parts ds file h = let p : Some file.partition ≡ None = ap (λ cs. value_in (slice_get cs 2)) h in absurd cc
partition_read (a ∷ b ∷ []) parts ds file h = let p : Some file.partition ≡ None = ap (λ cs. value_in (slice_get cs 2)) h in absurd cc
partition_read (a ∷ b ∷ c ∷ ss) parts ds file h = (held ds c.place, ap (λ cs. value_in (slice_get cs 2)) h)

back_at : (parts : List PartSlot) (file : DataFile) (o : Option Datum) → Some file.partition ≡ partition_in parts o → file_cells file ≡ file_cells_of (written_parts 0 parts) (file_fields file) file_kinds slots
unfolding file_cells file_fields slots slot_at pairs_at pair_fields both
back_at parts file o was =
    conses (needed (Str file.path) (plain_text file.path))
    (conses (needed (Str file.format) (plain_text file.format))
    (conses (ap single (partition_back parts file.partition o was))
    (conses (needed (Long (pos file.record_count)) (plain_long (pos file.record_count)))
    (conses (needed (Long (pos file.file_size_in_bytes)) (plain_long (pos file.file_size_in_bytes)))
    (conses (maybe_list int_long_cells int_long_record both int_long_back file.column_sizes)
    (conses (maybe_list int_long_cells int_long_record both int_long_back file.value_counts)
    (conses (maybe_list int_long_cells int_long_record both int_long_back file.null_value_counts)
    (conses (maybe_list int_bytes_cells int_bytes_record both int_bytes_back file.lower_bounds)
    (conses (maybe_list int_bytes_cells int_bytes_record both int_bytes_back file.upper_bounds)
    (conses (maybe Blob plain_blob file.key_metadata)
    (conses (maybe long_array plain_longs file.split_offsets)
    (conses (needed _ (plain_int _))
    (conses (maybe int_array plain_ints file.equality_ids)
    (conses (maybe_list int_long_cells int_long_record both int_long_back file.nan_value_counts)
    (conses (maybe Int plain_int file.sort_order_id)
    (conses (maybe Str plain_text file.referenced_data_file) refl))))))))))))))))

pub read_back : FilesAreReadBack
read_back ss parts ds file h =
    let was : (o : Option Datum) × (Some file.partition ≡ partition_in parts o) = partition_read ss parts ds file h in
    back_at parts file was.0 was.1 ∙ ap (file_cells_of (written_parts 0 parts) (file_fields file) file_kinds) slots_are
