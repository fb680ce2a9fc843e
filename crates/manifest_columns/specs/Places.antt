-- Where a record of a file's schema has a field: fields are found by id alone (Apache Iceberg specification, "Column Projection").
use Rattle.std.specs.Prelude.{ℕ, ℤ, ◌+◌, List, [], ◌∷◌, Option, Some, None, Bool, false, if◌then◌else◌}
use Rattle.std.specs.Ordering.{int_eq}
use Rattle.avro_schema.specs.declared.schema.Schema.{Schema}
use Rattle.avro_schema.specs.declared.schema.Field.{Field}

-- it is this id
abbrev pub is_id : ℤ → Option ℤ → Bool
is_id id None = false
is_id id (Some x) = int_eq x id

-- the place of the first field with the id, counted from `n`
abbrev pub place_from : ℕ → ℤ → List Field → Option ℕ
place_from n id [] = None
place_from n id (f ∷ fs) = if is_id id f.field_id then Some n else place_from (n + 1) id fs

-- The place of the first field with the id.
abbrev pub place_of : ℤ → List Field → Option ℕ
place_of = place_from 0

-- The schema of the first field with the id.
abbrev pub schema_of : ℤ → List Field → Option Schema
schema_of id [] = None
schema_of id (f ∷ fs) = if is_id id f.field_id then Some f.schema else schema_of id fs
