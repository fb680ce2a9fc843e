-- The written spelling of a manifest list (Apache Iceberg specification, "Manifest Lists").
use Rattle.std.specs.Prelude.{ℕ, ◌<◌, ◌≤◌, ◌^◌, List, [], ◌∷◌, map, length, codes, IfSome, IsUtf8, Result, FitsSigned}
use Rattle.std.specs.Int.{w32, w64}
use Rattle.avro_container.specs.Container.{Pair}
use Rattle.avro_schema.specs.declared.schema.Schema.{Schema}
use Rattle.avro_schema.specs.Form.{form_of}
use Rattle.avro_datum.specs.Writing.{written}
use Rattle.avro_datum.specs.declared.datum.Datum.TheVariants.{Fields}
use Rattle.manifest_columns.specs.declared.name.RecordName.TheVariants.{ManifestFile}
use Rattle.manifest_columns.specs.Tables.{written_row_columns}
use Rattle.manifest_columns.specs.Written.{written_record}
use Rattle.manifest_rows.specs.declared.row.ManifestRow.{ManifestRow}
use Rattle.manifest_rows.specs.Written.{row_fields}
use Rattle.manifest_blocks.specs.declared.fault.WriteErr.{WriteErr}
use Rattle.manifest_blocks.specs.Blocks.{Writes}
use Rattle.manifest_writing.specs.Files.{schema_text}

-- The row is one that a file may have: its path is UTF-8, its length is one of a long, and its summaries are no more than an array has items.
pub record IsWritable (row : ManifestRow) : Type 0 where
  pub path : IsUtf8 row.manifest_path
  pub size : row.manifest_length < 2 ^ 63
  pub summaries : IfSome row.partitions (λ ss. length ss ≤ 16777216)

-- The schema of the list: the record of a row's columns.
abbrev pub list_schema : Schema
list_schema = written_record ManifestFile written_row_columns

-- A row as an object: the written spelling of its record.
unfoldable pub row_bytes : ManifestRow → List ℕ
row_bytes row = written (form_of list_schema) (Fields (row_fields row))

-- The metadata of the list: its schema alone.
abbrev pub list_meta : List Pair
list_meta = (codes "avro.schema", schema_text list_schema) ∷ []

-- The list of the rows was written, or one of its blocks would be too large.
abbrev pub WritesList : List ManifestRow → List ℕ → Result (List ℕ) WriteErr → Type 0
WritesList rows sync result = Writes list_meta sync (map row_bytes rows) result

-- The ints of a row are in the range of their type.
abbrev pub IntsFit : ManifestRow → Type 0
IntsFit row = FitsSigned w32 row.partition_spec_id × FitsSigned w32 row.added_files_count × FitsSigned w32 row.existing_files_count × FitsSigned w32 row.deleted_files_count

-- The longs of a row are in the range of their type.
abbrev pub LongsFit : ManifestRow → Type 0
LongsFit row = FitsSigned w64 row.sequence_number × FitsSigned w64 row.min_sequence_number × FitsSigned w64 row.added_snapshot_id
    × FitsSigned w64 row.added_rows_count × FitsSigned w64 row.existing_rows_count × FitsSigned w64 row.deleted_rows_count
