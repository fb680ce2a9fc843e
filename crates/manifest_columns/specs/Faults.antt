-- What is wrong with the schema of a file, by the ids of the columns.
use Rattle.std.specs.Prelude.{ℕ, ℤ, List, [], ◌∷◌, Option, Some, None, option_and_then, Bool, true, false, not, if◌then◌else◌, int_lt}
use Rattle.avro_schema.specs.declared.schema.Field.{Field}
use Rattle.avro_schema.specs.declared.schema.Schema.{Schema, out-Schema}
use Rattle.avro_schema.specs.declared.schema.Schema.TheOpen.{Schema-F}
use Rattle.manifest_columns.specs.declared.column.Column.{Column}
use Rattle.manifest_columns.specs.declared.column.Kind.{Kind}
use Rattle.manifest_columns.specs.declared.column.Kind.TheVariants.{Bool as Truth, Int, Long, Text, Bytes, Longs, Ints, IntLongs, IntBytes, Summaries, Record}
use Rattle.manifest_columns.specs.declared.faults.Fault.{Fault}
use Rattle.manifest_columns.specs.declared.faults.Fault.TheVariants.{Lacks, Bad}
use Rattle.manifest_columns.specs.Places.{schema_of}
use Rattle.manifest_columns.specs.Shapes.{type_of, has_kind, item_of, item_under, fields_of, item_fields}
use Rattle.manifest_columns.specs.Tables.{summary_columns}

-- the values are of the kind
abbrev pub is_of : Kind → Option Schema → Bool
is_of kind None = false
is_of kind (Some s) = has_kind kind (out-Schema s)

-- A field has the fault: it lacks where it may not, or it has another type than its column's.
abbrev pub is_faulty : Fault → Kind → Bool → Option Schema → Bool
is_faulty Lacks kind may_lack None = not may_lack
is_faulty Lacks kind may_lack (Some s) = false
is_faulty Bad kind may_lack None = false
is_faulty Bad kind may_lack (Some s) = not (is_of kind (type_of may_lack s))

-- a field's id, where it has the fault
abbrev pub own_fault : Fault → ℤ → Kind → Bool → Option Schema → Option ℤ
own_fault fault id kind may_lack found = if is_faulty fault kind may_lack found then Some id else None

-- the smaller of two ids, where there are any
abbrev pub smaller : Option ℤ → Option ℤ → Option ℤ
smaller None b = b
smaller (Some a) None = Some a
smaller (Some a) (Some b) = if int_lt b a then Some b else Some a

-- the smallest of `least` and the ids of a record's fields that have the fault
abbrev pub flat_fault : Fault → Option ℤ → List Column → List Field → Option ℤ
flat_fault fault least [] fs = least
flat_fault fault least (c ∷ cs) fs = flat_fault fault (smaller least (own_fault fault c.id c.kind c.may_lack (schema_of c.id fs))) cs fs

-- the same of the two fields of a pair
abbrev pub pair_fault : Fault → ℤ → ℤ → Kind → Option (List Field) → Option ℤ
pair_fault fault key value kind None = None
pair_fault fault key value kind (Some fs) = smaller (own_fault fault key Int false (schema_of key fs)) (own_fault fault value kind false (schema_of value fs))

-- the id of a list's items, where they have the fault
abbrev pub item_fault : Fault → ℤ → Kind → Schema-F Schema Field → Option ℤ
item_fault fault id kind (Schema-F.List item element_id is_map) = own_fault fault id kind false (item_under id (Schema-F.List item element_id is_map))
item_fault fault id kind _ = None

-- the fields of a list's items, where these have the id and are records
abbrev pub record_under : Option Schema → Option (List Field)
record_under None = None
record_under (Some s) = fields_of (out-Schema s)

-- the smallest id of a field summary's fields that have the fault
abbrev pub summary_fault : Fault → Option (List Field) → Option ℤ
summary_fault fault None = None
summary_fault fault (Some fs) = flat_fault fault None summary_columns fs

-- the smallest id of what lies within a type of the kind and has the fault
abbrev pub type_fault : Fault → Kind → Schema-F Schema Field → Option ℤ
type_fault fault (Longs element) t = item_fault fault element Long t
type_fault fault (Ints element) t = item_fault fault element Int t
type_fault fault (IntLongs key value record_name) t = pair_fault fault key value Long (item_fields t)
type_fault fault (IntBytes key value record_name) t = pair_fault fault key value Bytes (item_fields t)
type_fault fault (Summaries element record_name) t = smaller (item_fault fault element (Record record_name) t) (summary_fault fault (record_under (item_under element t)))
type_fault fault _ t = None

-- the same of the values of a field
abbrev pub inner_fault : Fault → Kind → Option Schema → Option ℤ
inner_fault fault kind None = None
inner_fault fault kind (Some s) = type_fault fault kind (out-Schema s)

-- the smallest id of a field and of what lies within it that has the fault
abbrev pub field_fault : Fault → Column → Option Schema → Option ℤ
field_fault fault c found = smaller (own_fault fault c.id c.kind c.may_lack found) (inner_fault fault c.kind (option_and_then (type_of c.may_lack) found))

-- The smallest of `least` and the ids of the columns, and of what lies within them, that have the fault in a record of the file.
abbrev pub schema_fault : Fault → Option ℤ → List Column → List Field → Option ℤ
schema_fault fault least [] fs = least
schema_fault fault least (c ∷ cs) fs = schema_fault fault (smaller least (field_fault fault c (schema_of c.id fs))) cs fs
