-- Where the records of a file have the columns.
use Rattle.std.specs.Prelude.{ℕ, ℤ, pos, List, [], ◌∷◌, map, Option, Some, None, option_and_then, option_map}
use Rattle.avro_schema.specs.declared.schema.Field.{Field}
use Rattle.avro_schema.specs.declared.schema.Schema.{Schema, out-Schema}
use Rattle.manifest_columns.specs.declared.column.Column.{Column}
use Rattle.manifest_columns.specs.declared.column.Kind.{Kind}
use Rattle.manifest_columns.specs.declared.column.Kind.TheVariants.{IntLongs, IntBytes, Summaries}
use Rattle.manifest_columns.specs.declared.slots.Slot.{Slot}
use Rattle.manifest_columns.specs.Places.{place_of, schema_of}
use Rattle.manifest_columns.specs.Shapes.{type_of, item_fields}
use Rattle.manifest_columns.specs.Tables.{summary_columns}

-- the ids of the fields in the records of a column's list, none where it has none
abbrev pub inner_ids : Kind → List ℤ
inner_ids (IntLongs key value record_name) = key ∷ value ∷ []
inner_ids (IntBytes key value record_name) = key ∷ value ∷ []
inner_ids (Summaries element record_name) = map (λ (c : Column). c.id) summary_columns
inner_ids _ = []

-- the fields, none where there are none
abbrev pub known_fields : Option (List Field) → List Field
known_fields None = []
known_fields (Some fs) = fs

-- the fields of the records in a list, none where it has none
abbrev pub inner_fields : Option Schema → List Field
inner_fields None = []
inner_fields (Some s) = known_fields (item_fields (out-Schema s))

-- The places of fields by their ids.
abbrev pub places_of : List ℤ → List Field → List (Option ℕ)
places_of ids fs = map (λ id. place_of id fs) ids

-- Where the records of the file have a column, and the records in its list their fields.
abbrev pub slot_of : List Field → Column → Slot
slot_of fs c = record { place = place_of c.id fs; within = places_of (inner_ids c.kind) (inner_fields (option_and_then (type_of c.may_lack) (schema_of c.id fs))) }
