-- The columns of manifest lists and manifests (Apache Iceberg specification, "Manifests" and "Manifest Lists"), each table in the order of the ids.
use Rattle.std.specs.Prelude.{ℤ, pos, ℕ, List, [], ◌∷◌, Bool, true, false, Option, Some, None}
use Rattle.std.specs.List.{slice_get}
use Rattle.manifest_columns.specs.declared.column.Column.{Column}
use Rattle.manifest_columns.specs.declared.column.Kind.{Kind}
use Rattle.manifest_columns.specs.declared.column.Kind.TheVariants.{Bool as Truth, Int, Long, Text, Bytes, Longs, Ints, IntLongs, IntBytes, Summaries, Record}
use Rattle.manifest_columns.specs.declared.name.Name.TheVariants as names
use Rattle.manifest_columns.specs.declared.name.RecordName.TheVariants as record_names

-- one more column, where there is one
abbrev pub put_column : Option Column → List Column → List Column
put_column None cs = cs
put_column (Some c) cs = c ∷ cs

-- the columns in these places of a table
abbrev pub picked : List Column → List ℕ → List Column
picked cs [] = []
picked cs (n ∷ ns) = put_column (slice_get cs n) (picked cs ns)

-- The columns of a row of a manifest list.
abbrev pub row_columns : List Column
row_columns =
    record { id = pos 500; name = names.ManifestPath; kind = Text; may_lack = false }
    ∷ record { id = pos 501; name = names.ManifestLength; kind = Long; may_lack = false }
    ∷ record { id = pos 502; name = names.PartitionSpecId; kind = Int; may_lack = false }
    ∷ record { id = pos 503; name = names.AddedSnapshotId; kind = Long; may_lack = false }
    ∷ record { id = pos 504; name = names.AddedFilesCount; kind = Int; may_lack = false }
    ∷ record { id = pos 505; name = names.ExistingFilesCount; kind = Int; may_lack = false }
    ∷ record { id = pos 506; name = names.DeletedFilesCount; kind = Int; may_lack = false }
    ∷ record { id = pos 507; name = names.Partitions; kind = Summaries (pos 508) record_names.FieldSummary; may_lack = true }
    ∷ record { id = pos 512; name = names.AddedRowsCount; kind = Long; may_lack = false }
    ∷ record { id = pos 513; name = names.ExistingRowsCount; kind = Long; may_lack = false }
    ∷ record { id = pos 514; name = names.DeletedRowsCount; kind = Long; may_lack = false }
    ∷ record { id = pos 515; name = names.SequenceNumber; kind = Long; may_lack = false }
    ∷ record { id = pos 516; name = names.MinSequenceNumber; kind = Long; may_lack = false }
    ∷ record { id = pos 517; name = names.Content; kind = Int; may_lack = false }
    ∷ record { id = pos 519; name = names.KeyMetadata; kind = Bytes; may_lack = true }
    ∷ []

-- The same in the order in which they are written.
abbrev pub written_row_columns : List Column
written_row_columns = picked row_columns (0 ∷ 1 ∷ 2 ∷ 13 ∷ 11 ∷ 12 ∷ 3 ∷ 4 ∷ 5 ∷ 6 ∷ 8 ∷ 9 ∷ 10 ∷ 7 ∷ 14 ∷ [])

-- The columns of the summary of a partition field in such a row.
abbrev pub summary_columns : List Column
summary_columns =
    record { id = pos 509; name = names.ContainsNull; kind = Truth; may_lack = false }
    ∷ record { id = pos 510; name = names.LowerBound; kind = Bytes; may_lack = true }
    ∷ record { id = pos 511; name = names.UpperBound; kind = Bytes; may_lack = true }
    ∷ record { id = pos 518; name = names.ContainsNan; kind = Truth; may_lack = true }
    ∷ []

-- The same in the order in which they are written.
abbrev pub written_summary_columns : List Column
written_summary_columns = picked summary_columns (0 ∷ 3 ∷ 1 ∷ 2 ∷ [])

-- The columns of an entry of a manifest.
abbrev pub entry_columns : List Column
entry_columns =
    record { id = pos 0; name = names.Status; kind = Int; may_lack = false }
    ∷ record { id = pos 1; name = names.SnapshotId; kind = Long; may_lack = true }
    ∷ record { id = pos 2; name = names.DataFile; kind = Record record_names.DataFile; may_lack = false }
    ∷ record { id = pos 3; name = names.SequenceNumber; kind = Long; may_lack = true }
    ∷ record { id = pos 4; name = names.FileSequenceNumber; kind = Long; may_lack = true }
    ∷ []

-- The same in the order in which they are written.
abbrev pub written_entry_columns : List Column
written_entry_columns = picked entry_columns (0 ∷ 1 ∷ 3 ∷ 4 ∷ 2 ∷ [])

-- The columns of a data file in an entry.
abbrev pub data_file_columns : List Column
data_file_columns =
    record { id = pos 100; name = names.FilePath; kind = Text; may_lack = false }
    ∷ record { id = pos 101; name = names.FileFormat; kind = Text; may_lack = false }
    ∷ record { id = pos 102; name = names.Partition; kind = Record record_names.Partition; may_lack = false }
    ∷ record { id = pos 103; name = names.RecordCount; kind = Long; may_lack = false }
    ∷ record { id = pos 104; name = names.FileSizeInBytes; kind = Long; may_lack = false }
    ∷ record { id = pos 108; name = names.ColumnSizes; kind = IntLongs (pos 117) (pos 118) record_names.ColumnSizes; may_lack = true }
    ∷ record { id = pos 109; name = names.ValueCounts; kind = IntLongs (pos 119) (pos 120) record_names.ValueCounts; may_lack = true }
    ∷ record { id = pos 110; name = names.NullValueCounts; kind = IntLongs (pos 121) (pos 122) record_names.NullValueCounts; may_lack = true }
    ∷ record { id = pos 125; name = names.LowerBounds; kind = IntBytes (pos 126) (pos 127) record_names.LowerBounds; may_lack = true }
    ∷ record { id = pos 128; name = names.UpperBounds; kind = IntBytes (pos 129) (pos 130) record_names.UpperBounds; may_lack = true }
    ∷ record { id = pos 131; name = names.KeyMetadata; kind = Bytes; may_lack = true }
    ∷ record { id = pos 132; name = names.SplitOffsets; kind = Longs (pos 133); may_lack = true }
    ∷ record { id = pos 134; name = names.Content; kind = Int; may_lack = false }
    ∷ record { id = pos 135; name = names.EqualityIds; kind = Ints (pos 136); may_lack = true }
    ∷ record { id = pos 137; name = names.NanValueCounts; kind = IntLongs (pos 138) (pos 139) record_names.NanValueCounts; may_lack = true }
    ∷ record { id = pos 140; name = names.SortOrderId; kind = Int; may_lack = true }
    ∷ record { id = pos 143; name = names.ReferencedDataFile; kind = Text; may_lack = true }
    ∷ []

-- The same in the order in which they are written.
abbrev pub written_data_file_columns : List Column
written_data_file_columns = picked data_file_columns (12 ∷ 0 ∷ 1 ∷ 2 ∷ 3 ∷ 4 ∷ 5 ∷ 6 ∷ 7 ∷ 14 ∷ 8 ∷ 9 ∷ 10 ∷ 11 ∷ 13 ∷ 15 ∷ 16 ∷ [])
