-- The names in a written schema: of columns as the Iceberg specification has them ("Manifests", "Manifest Lists"), and of records.
use Rattle.std.specs.Prelude.{ℕ, List, codes}
use Rattle.manifest_columns.specs.declared.name.Name.{Name}
use Rattle.manifest_columns.specs.declared.name.Name.TheVariants as names
use Rattle.manifest_columns.specs.declared.name.RecordName.{RecordName}
use Rattle.manifest_columns.specs.declared.name.RecordName.TheVariants as records

-- The name of a field as it is written.
abbrev pub name_of : Name → List ℕ
name_of names.ManifestPath = codes "manifest_path"
name_of names.ManifestLength = codes "manifest_length"
name_of names.PartitionSpecId = codes "partition_spec_id"
name_of names.AddedSnapshotId = codes "added_snapshot_id"
name_of names.AddedFilesCount = codes "added_files_count"
name_of names.ExistingFilesCount = codes "existing_files_count"
name_of names.DeletedFilesCount = codes "deleted_files_count"
name_of names.Partitions = codes "partitions"
name_of names.AddedRowsCount = codes "added_rows_count"
name_of names.ExistingRowsCount = codes "existing_rows_count"
name_of names.DeletedRowsCount = codes "deleted_rows_count"
name_of names.SequenceNumber = codes "sequence_number"
name_of names.MinSequenceNumber = codes "min_sequence_number"
name_of names.Content = codes "content"
name_of names.KeyMetadata = codes "key_metadata"
name_of names.ContainsNull = codes "contains_null"
name_of names.LowerBound = codes "lower_bound"
name_of names.UpperBound = codes "upper_bound"
name_of names.ContainsNan = codes "contains_nan"
name_of names.Status = codes "status"
name_of names.SnapshotId = codes "snapshot_id"
name_of names.DataFile = codes "data_file"
name_of names.FileSequenceNumber = codes "file_sequence_number"
name_of names.FilePath = codes "file_path"
name_of names.FileFormat = codes "file_format"
name_of names.Partition = codes "partition"
name_of names.RecordCount = codes "record_count"
name_of names.FileSizeInBytes = codes "file_size_in_bytes"
name_of names.ColumnSizes = codes "column_sizes"
name_of names.ValueCounts = codes "value_counts"
name_of names.NullValueCounts = codes "null_value_counts"
name_of names.LowerBounds = codes "lower_bounds"
name_of names.UpperBounds = codes "upper_bounds"
name_of names.SplitOffsets = codes "split_offsets"
name_of names.EqualityIds = codes "equality_ids"
name_of names.NanValueCounts = codes "nan_value_counts"
name_of names.SortOrderId = codes "sort_order_id"
name_of names.ReferencedDataFile = codes "referenced_data_file"
name_of names.Key = codes "key"
name_of names.Value = codes "value"

-- The name of a record as it is written.
abbrev pub record_name_of : RecordName → List ℕ
record_name_of records.ColumnSizes = codes "k117_v118"
record_name_of records.ValueCounts = codes "k119_v120"
record_name_of records.NullValueCounts = codes "k121_v122"
record_name_of records.LowerBounds = codes "k126_v127"
record_name_of records.UpperBounds = codes "k129_v130"
record_name_of records.NanValueCounts = codes "k138_v139"
record_name_of records.FieldSummary = codes "r508"
record_name_of records.DataFile = codes "r2"
record_name_of records.Partition = codes "r102"
record_name_of records.ManifestFile = codes "manifest_file"
record_name_of records.ManifestEntry = codes "manifest_entry"
