-- The record that is written for a data file.
use Rattle.std.specs.Prelude.{pos, List, [], ◌∷◌, map}
use Rattle.std.specs.Option.{option_map}
use Rattle.avro_datum.specs.declared.datum.Datum.{Datum}
use Rattle.avro_datum.specs.declared.datum.Datum.TheVariants.{Int, Long, Blob, Str}
use Rattle.manifest_columns.specs.declared.slots.Slot.{Slot}
use Rattle.manifest_columns.specs.Slots.{slot_of}
use Rattle.manifest_columns.specs.Tables.{data_file_columns, written_data_file_columns}
use Rattle.manifest_columns.specs.Written.{written_field}
use Rattle.manifest_cells.specs.Cells.{long_array, int_array}
use Rattle.manifest_cells.specs.Written.{optional, array_of, int_long_record, int_bytes_record}
use Rattle.manifest_files.specs.declared.file.DataFile.{DataFile}
use Rattle.manifest_files.specs.declared.partition.PartSlot.{PartSlot}
use Rattle.manifest_files.specs.Files.{IsFile, file_content_number}
use Rattle.manifest_files.specs.Partitions.{written_partition, written_parts}

-- The fields of a data file's record, in the order in which they are written.
unfoldable pub file_fields : DataFile → List Datum
file_fields file =
    Int (file_content_number file.content)
    ∷ Str file.path
    ∷ Str file.format
    ∷ written_partition file.partition
    ∷ Long (pos file.record_count)
    ∷ Long (pos file.file_size_in_bytes)
    ∷ optional (option_map (array_of int_long_record) file.column_sizes)
    ∷ optional (option_map (array_of int_long_record) file.value_counts)
    ∷ optional (option_map (array_of int_long_record) file.null_value_counts)
    ∷ optional (option_map (array_of int_long_record) file.nan_value_counts)
    ∷ optional (option_map (array_of int_bytes_record) file.lower_bounds)
    ∷ optional (option_map (array_of int_bytes_record) file.upper_bounds)
    ∷ optional (option_map Blob file.key_metadata)
    ∷ optional (option_map long_array file.split_offsets)
    ∷ optional (option_map int_array file.equality_ids)
    ∷ optional (option_map Int file.sort_order_id)
    ∷ optional (option_map Str file.referenced_data_file)
    ∷ []

-- Where the written schema has the columns.
abbrev pub written_file_slots : List Slot
written_file_slots = map (slot_of (map written_field written_data_file_columns)) data_file_columns

-- The record of a data file that was read, under the written schema, stands for that data file.
abbrev pub FilesAreReadBack : Type 0
FilesAreReadBack = (slots : List Slot) (parts : List PartSlot) (ds : List Datum) (file : DataFile) → IsFile slots parts ds file → IsFile written_file_slots (written_parts 0 parts) (file_fields file) file
