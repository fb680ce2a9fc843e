-- What the schema of a file must have, and its first fault (Apache Iceberg specification, "Manifests" and "Manifest Lists").
use Rattle.std.specs.Prelude.{◌≡◌, ◌≤◌, ℕ, ℤ, List, length, drop, Result, Ok, Err, Option, Some, None}
use Rattle.std.specs.Borrow.{Bor}
use Rattle.serde_json.specs.Data.{Data}
use Rattle.serde_json.specs.Read.{read as read_text}
use Rattle.avro_schema.specs.declared.fault.SchemaCause.{SchemaCause}
use Rattle.avro_schema.specs.declared.fault.SchemaCause.TheVariants.{BadForm, UnknownName, Recursive, TooDeep, TooWide}
use Rattle.avro_schema.specs.declared.schema.Field.{Field}
use Rattle.avro_schema.specs.declared.schema.Schema.{Schema, out-Schema}
use Rattle.avro_schema.specs.Reading.{schema_of, Fault as TreeFault}
use Rattle.avro_schema.specs.Form.{form_of}
use Rattle.avro_container.specs.Container.{Pair}
use Rattle.avro_container.specs.ContainerReading.{header_at}
use Rattle.manifest_columns.specs.declared.column.Column.{Column}
use Rattle.manifest_columns.specs.declared.faults.Fault.TheVariants.{Lacks, Bad}
use Rattle.manifest_columns.specs.Faults.{schema_fault}
use Rattle.manifest_columns.specs.Shapes.{fields_of}
use Rattle.manifest_codec.specs.declared.container.Container.{Container}
use Rattle.manifest_codec.specs.declared.fault.ManifestCause.{ManifestCause}
use Rattle.manifest_codec.specs.declared.fault.ManifestCause.TheVariants.{BadSchema, SchemaSize, LacksField, BadField}
use Rattle.manifest_codec.specs.declared.fault.ManifestErr.{ManifestErr}
use Rattle.manifest_codec.specs.Faults.{Fault, ◌>>=◌, placed, at_schema, Fails}
use Rattle.manifest_codec.specs.Objects.{Objects, in_blocks}

-- A schema that goes past a limit is too large; any other fault makes it none.
abbrev pub cause_of : SchemaCause → ManifestCause
cause_of TooDeep = SchemaSize
cause_of TooWide = SchemaSize
cause_of BadForm = BadSchema
cause_of UnknownName = BadSchema
cause_of Recursive = BadSchema

-- The schema that a tree spells.
abbrev pub tree_schema : Result Schema TreeFault → Result Schema ManifestCause
tree_schema (Ok s) = Ok s
tree_schema (Err (path, cause)) = Err (cause_of cause)

-- The same of a text that may be no tree.
abbrev pub text_schema : Option Data → Result Schema ManifestCause
text_schema None = Err BadSchema
text_schema (Some d) = tree_schema (schema_of d)

-- What is wrong with the fields: first one that lacks, then one that has another type.
abbrev pub fields_fault : Option ℤ → Option ℤ → Option ManifestCause
fields_fault (Some id) bad = Some (LacksField id)
fields_fault None (Some id) = Some (BadField id)
fields_fault None None = None

-- The fields where nothing is wrong with them.
abbrev pub unless : List Field → Option ManifestCause → Result (List Field) ManifestCause
unless fs None = Ok fs
unless fs (Some cause) = Err cause

-- The fields of a record that has these columns.
abbrev pub checked : List Column → Option (List Field) → Result (List Field) ManifestCause
checked columns None = Err BadSchema
checked columns (Some fs) = unless fs (fields_fault (schema_fault Lacks None columns fs) (schema_fault Bad None columns fs))

-- what the front of a file says: its schema, its metadata, its marker, and the bytes behind it
abbrev pub Head : Type 0
Head = Schema × List Pair × List ℕ × List ℕ

-- The header, and its schema.
unfoldable pub head_at : List ℕ → Result Head Fault
head_at bytes = placed (length bytes) (header_at bytes) >>= λ h. at_schema (text_schema (read_text h.0.0)) >>= λ s. Ok (s, h.0.1, h.0.2, h.1)

-- The fields of a file's records, which are checked, its metadata, and its objects, in at most as many blocks as there are bytes behind the header.
unfoldable pub file_at : (Option (List Field) → Result (List Field) ManifestCause) → List ℕ → Result (List Field × List Pair × Objects) Fault
file_at check bytes = head_at bytes
    >>= λ h. at_schema (check (fields_of (out-Schema h.0)))
    >>= λ fs. Ok (fs, h.1, in_blocks (form_of h.0) h.2 (length bytes) (length h.3) h.3)

-- A file that was opened is the head of the bytes.
abbrev pub Opens : List ℕ → Result Container ManifestErr → Type 0
Opens bytes (Ok file) = (head_at bytes ≡ Ok (file.schema, file.header.meta, file.header.sync, drop file.header.end bytes)) × (file.header.end ≤ length bytes)
Opens bytes (Err e) = Fails e (head_at bytes)

-- A schema is what the text spells, or its fault has the place 4.
abbrev pub SchemaIs : Result Schema ManifestCause → Result Schema ManifestErr → Type 0
SchemaIs read (Ok s) = read ≡ Ok s
SchemaIs read (Err e) = Fails e (at_schema read)

-- The fields are those that were checked, or their fault has the place 4.
abbrev pub FieldsAre : Result (List Field) ManifestCause → Result (Bor (List Field)) ManifestErr → Type 0
FieldsAre read (Ok fs) = read ≡ Ok fs.now
FieldsAre read (Err e) = Fails e (at_schema read)
