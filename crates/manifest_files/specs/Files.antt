-- Which data file a record of a manifest stands for (Apache Iceberg specification, "Manifests").
use Rattle.std.specs.Prelude.{◌≡◌, ◌<◌, ◌^◌, ℕ, ℤ, pos, List, [], ◌∷◌, map, take, set, Result, Ok, Err, Some, Bool, true, false}
use Rattle.std.specs.Option.{option_map}
use Rattle.std.specs.List.{slice_get}
use Rattle.avro_datum.specs.declared.datum.Datum.{Datum}
use Rattle.avro_datum.specs.declared.datum.Datum.TheVariants.{Int, Long, Blob, Str}
use Rattle.manifest_columns.specs.declared.column.Column.{Column}
use Rattle.manifest_columns.specs.declared.column.Kind.{Kind}
use Rattle.manifest_columns.specs.declared.column.Kind.TheVariants.{Record}
use Rattle.manifest_columns.specs.declared.slots.Slot.{Slot}
use Rattle.manifest_columns.specs.Tables.{data_file_columns}
use Rattle.manifest_cells.specs.Cells.{Cell, single, cell, held, listed_as, int_long_cells, int_bytes_cells, long_array, int_array}
use Rattle.manifest_cells.specs.declared.field_err.FieldErr.{FieldErr}
use Rattle.manifest_cells.specs.declared.field_err.FieldErr.TheVariants as errors
use Rattle.manifest_files.specs.declared.file.Content.{Content}
use Rattle.manifest_files.specs.declared.file.Content.TheVariants.{Rows, Positions, Equalities}
use Rattle.manifest_files.specs.declared.file.DataFile.{DataFile}
use Rattle.manifest_files.specs.declared.partition.PartSlot.{PartSlot}
use Rattle.manifest_files.specs.Partitions.{partition_in}

-- 0 rows, 1 position deletes, 2 equality deletes
abbrev pub file_content_number : Content → ℤ
file_content_number Rows = pos 0
file_content_number Positions = pos 1
file_content_number Equalities = pos 2

-- The fields of a data file in the order of their ids.
unfoldable pub file_cells : DataFile → List Cell
file_cells file =
    single (Some (Str file.path))
    ∷ single (Some (Str file.format))
    ∷ single (Some file.partition)
    ∷ single (Some (Long (pos file.record_count)))
    ∷ single (Some (Long (pos file.file_size_in_bytes)))
    ∷ listed_as int_long_cells file.column_sizes
    ∷ listed_as int_long_cells file.value_counts
    ∷ listed_as int_long_cells file.null_value_counts
    ∷ listed_as int_bytes_cells file.lower_bounds
    ∷ listed_as int_bytes_cells file.upper_bounds
    ∷ single (option_map Blob file.key_metadata)
    ∷ single (option_map long_array file.split_offsets)
    ∷ single (Some (Int (file_content_number file.content)))
    ∷ single (option_map int_array file.equality_ids)
    ∷ listed_as int_long_cells file.nan_value_counts
    ∷ single (option_map Int file.sort_order_id)
    ∷ single (option_map Str file.referenced_data_file)
    ∷ []

-- the kinds of the columns, in the order of their ids
abbrev pub file_kinds : List Kind
file_kinds = map (λ (c : Column). c.kind) data_file_columns

-- the ids of the columns
abbrev pub file_ids : List ℤ
file_ids = map (λ (c : Column). c.id) data_file_columns

-- What a record of the file holds for a column of the kind: for the partition, which is a record, what it counts as.
abbrev pub file_cell : List PartSlot → List Datum → Kind → Slot → Cell
file_cell parts ds (Record name) slot = single (partition_in parts (held ds slot.place))
file_cell parts ds kind slot = cell kind slot ds

-- the same of several columns, each with its slot
abbrev pub file_cells_of : List PartSlot → List Datum → List Kind → List Slot → List Cell
file_cells_of parts ds (k ∷ ks) (s ∷ ss) = file_cell parts ds k s ∷ file_cells_of parts ds ks ss
file_cells_of parts ds _ _ = []

-- what a record of the file holds for the columns of a data file
abbrev pub held_file_cells : List Slot → List PartSlot → List Datum → List Cell
held_file_cells slots parts ds = file_cells_of parts ds file_kinds slots

-- The record of the file stands for the data file.
abbrev pub IsFile : List Slot → List PartSlot → List Datum → DataFile → Type 0
IsFile slots parts ds file = file_cells file ≡ held_file_cells slots parts ds

-- The record stands for no data file: the column of this id is the first one that holds no value of a data file's field.
pub record IsBadFileAt (slots : List Slot) (parts : List PartSlot) (ds : List Datum) (id : ℤ) : Type 0 where
  pub place : ℕ
  pub has_id : slice_get file_ids place ≡ Some id
  pub fits_before : (file : DataFile) × (take place (file_cells file) ≡ take place (held_file_cells slots parts ds))
  pub fits_not : (file : DataFile) → slice_get (file_cells file) place ≡ slice_get (held_file_cells slots parts ds) place → ⊥

-- The record stands for no data file.
abbrev pub NoFile : List Slot → List PartSlot → List Datum → Type 0
NoFile slots parts ds = (file : DataFile) → IsFile slots parts ds file → ⊥

-- A data file, or the id of the first column that doesn't fit.
abbrev pub ReadsFile : List Slot → List PartSlot → List Datum → Result DataFile FieldErr → Type 0
ReadsFile slots parts ds (Ok file) = IsFile slots parts ds file
ReadsFile slots parts ds (Err errors.Memory) = Unit {0}
ReadsFile slots parts ds (Err (errors.BadField id)) = IsBadFileAt slots parts ds id

-- The counts of the data file are such as a long has.
abbrev pub CountsFit : DataFile → Type 0
CountsFit file = (file.record_count < 2 ^ 63) × (file.file_size_in_bytes < 2 ^ 63)

-- The field of a data file with this number was set to what the cell says, or no data file's is.
abbrev pub FillsFile : ℕ → Cell → DataFile → Bool → DataFile → Type 0
FillsFile place cell old true now = file_cells now ≡ set (file_cells old) place cell
FillsFile place cell old false now = (file : DataFile) → slice_get (file_cells file) place ≡ Some cell → ⊥
