-- The schema that is written for a table of columns (Apache Iceberg specification, Appendix A, "Avro").
use Rattle.std.specs.Prelude.{ℕ, ℤ, List, [], ◌∷◌, map, Option, Some, None, Bool, true, false}
use Rattle.avro_schema.specs.declared.schema.Field.{Field}
use Rattle.avro_schema.specs.declared.schema.Logical.TheVariants.{Plain}
use Rattle.avro_schema.specs.declared.schema.Schema.{Schema}
use Rattle.avro_schema.specs.declared.schema.Schema.TheVariants as types
use Rattle.manifest_columns.specs.declared.column.Column.{Column}
use Rattle.manifest_columns.specs.declared.column.Kind.{Kind}
use Rattle.manifest_columns.specs.declared.column.Kind.TheVariants.{Bool as Truth, Int, Long, Text, Bytes, Longs, Ints, IntLongs, IntBytes, Summaries, Record}
use Rattle.manifest_columns.specs.declared.name.Name.{Name}
use Rattle.manifest_columns.specs.declared.name.Name.TheVariants as names
use Rattle.manifest_columns.specs.declared.name.RecordName.{RecordName}
use Rattle.manifest_columns.specs.Name.{name_of, record_name_of}
use Rattle.manifest_columns.specs.Tables.{written_summary_columns}

-- the type of a kind that has nothing within it
abbrev pub plain_type : Kind → Schema
plain_type Truth = types.Bool
plain_type Int = types.Int Plain
plain_type Long = types.Long Plain
plain_type Text = types.Str Plain
plain_type Bytes = types.Blob Plain
plain_type _ = types.Null

-- the same, in a union behind null where it may lack
abbrev pub nullable : Bool → Schema → Schema
nullable false s = s
nullable true s = types.Union (types.Null ∷ s ∷ [])

-- a field of this id
abbrev pub field : Name → ℤ → Schema → Field
field name id s = record { name = name_of name; schema = s; field_id = Some id }

-- a column that has nothing within it
abbrev pub plain_field : Column → Field
plain_field c = field c.name c.id (nullable c.may_lack (plain_type c.kind))

-- pairs of an int and of values of this kind, as an array of records that stands for a map
abbrev pub pair_type : ℤ → ℤ → Kind → RecordName → Schema
pair_type key value kind name = types.List (types.Fields (record_name_of name) (field names.Key key (types.Int Plain) ∷ field names.Value value (plain_type kind) ∷ [])) None true

-- The type of a kind. A record has no fields here: those who write one put them in.
abbrev pub written_type : Kind → Schema
written_type (Longs element) = types.List (types.Long Plain) (Some element) false
written_type (Ints element) = types.List (types.Int Plain) (Some element) false
written_type (IntLongs key value name) = pair_type key value Long name
written_type (IntBytes key value name) = pair_type key value Bytes name
written_type (Summaries element name) = types.List (types.Fields (record_name_of name) (map plain_field written_summary_columns)) (Some element) false
written_type (Record name) = types.Fields (record_name_of name) []
written_type kind = plain_type kind

-- The field of a column, with null first where it may lack.
abbrev pub written_field : Column → Field
written_field c = field c.name c.id (nullable c.may_lack (written_type c.kind))

-- The record of these columns.
abbrev pub written_record : RecordName → List Column → Schema
written_record name cs = types.Fields (record_name_of name) (map written_field cs)
