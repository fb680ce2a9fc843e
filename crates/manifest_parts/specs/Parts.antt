-- What a file's schema has of a partition (Apache Iceberg specification, "Manifests" and "Partition Transforms").
use Rattle.std.specs.Prelude.{ℤ, List, [], ◌∷◌, Option, Some, None, is_some, Bool, true, false, ◌||◌, ◌&&◌, if◌then◌else◌}
use Rattle.avro_schema.specs.declared.schema.Field.{Field}
use Rattle.avro_schema.specs.declared.schema.Schema.{Schema}
use Rattle.schema_types.specs.declared.types.ColType.{ColType, out-ColType}
use Rattle.schema_types.specs.declared.types.ColType.TheOpen.{ColType-F}
use Rattle.schema_types.specs.declared.types.ColType.TheVariants as types
use Rattle.schema_types.specs.declared.types.Column.{Column}
use Rattle.schema_types.specs.declared.types.PartField.{PartField}
use Rattle.schema_types.specs.declared.types.Transform.{Transform}
use Rattle.schema_types.specs.declared.types.Transform.TheVariants.{Identity, Bucket, Truncate, Year, Month, Day, Hour, Void, Unknown}
use Rattle.ice_schema.specs.Mapping.{optional_field}
use Rattle.ice_schema.specs.Projections.{type_projection}
use Rattle.manifest_columns.specs.Faults.{smaller}
use Rattle.manifest_columns.specs.Places.{place_of, schema_of}
use Rattle.manifest_columns.specs.Shapes.{type_of}
use Rattle.manifest_files.specs.declared.partition.PartSlot.{PartSlot}

-- an int is taken whatever the type is: a day is one, and in place of what is always null there may be one
abbrev pub takes_int : Transform → Bool
takes_int Day = true
takes_int Void = true
takes_int _ = false

-- values of the schema are values of the type; an int is one where a long is wanted
abbrev pub fits_type : ColType → Schema → Bool
fits_type ty s = is_some (type_projection ty s)

-- The schema is one that values of the partition field may have.
abbrev pub fits : PartField → Option Schema → Bool
fits p None = false
fits p (Some s) = if fits_type p.ty s then true else (if takes_int p.transform then fits_type types.Int s else false)

-- a field's id, where a record has the field without null, or with another type; one that it lacks is null
abbrev pub own_fault : PartField → Option Schema → Option ℤ
own_fault p None = None
own_fault p (Some s) = if fits p (type_of true s) then None else Some p.field_id

-- The smallest of `least` and the ids of the fields that have another type in a record with these fields.
abbrev pub part_fault : Option ℤ → List PartField → List Field → Option ℤ
part_fault least [] fs = least
part_fault least (p ∷ ps) fs = part_fault (smaller least (own_fault p (schema_of p.field_id fs))) ps fs

-- always null
abbrev pub is_void : Transform → Bool
is_void Void = true
is_void _ = false

-- a long
abbrev pub is_long : ColType-F ColType Column → Bool
is_long ColType-F.Long = true
is_long _ = false

-- Where records with these fields have the partition field, and how its values count.
abbrev pub part_slot : List Field → PartField → PartSlot
part_slot fs p = record { place = place_of p.field_id fs; is_void = is_void p.transform; is_long = is_long (out-ColType p.ty) }

-- The field that is written for the partition field: it may be null, and is named as a column of its id and name is.
abbrev pub written_part_field : PartField → Field
written_part_field p = optional_field p.field_id p.name p.ty
