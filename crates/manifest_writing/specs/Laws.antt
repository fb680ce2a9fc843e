-- What written lists are read as, and which rows may be written.
use Rattle.std.specs.Prelude.{ℕ, List, All}
use Rattle.avro_schema.specs.Form.{form_of}
use Rattle.avro_datum.specs.declared.datum.Datum.TheVariants.{Fields}
use Rattle.avro_datum.specs.Spelling.{Spells}
use Rattle.manifest_rows.specs.declared.row.ManifestRow.{ManifestRow}
use Rattle.manifest_rows.specs.Written.{row_fields}
use Rattle.manifest_codec.specs.Lists.{IsList}
use Rattle.manifest_codec.specs.Whole.{ArePlaced, row_at}
use Rattle.manifest_writing.specs.Lists.{IsWritable, list_schema, row_bytes}

-- Rows that were read may be written.
abbrev pub ReadRowsAreWritable : Type 0
ReadRowsAreWritable = (bytes : List ℕ) (rows : List ManifestRow) → IsList bytes rows → All IsWritable rows

-- The bytes of the row spell its record.
abbrev pub IsSpelled : ManifestRow → Type 0
IsSpelled row = Spells (form_of list_schema) (Fields (row_fields row)) (row_bytes row)

-- The bytes are a list of the rows, each with the place where it begins.
abbrev pub ReadsBack : List ManifestRow → List ℕ → Type 0
ReadsBack rows bytes = (placed : List ManifestRow) × IsList bytes placed × ArePlaced row_at rows placed
