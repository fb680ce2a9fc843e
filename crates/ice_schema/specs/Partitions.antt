-- The types of partition values (Iceberg table specification, "Partition Transforms").
use Rattle.std.specs.Prelude.{◌≡◌, List, ◌⊎◌, Contains, Option, Some, None, Result, Ok, Err}
use Rattle.std.specs.List.{AllZip}
use Rattle.schema_types.specs.declared.types.ColType.{ColType}
use Rattle.schema_types.specs.declared.types.ColType.TheVariants as types
use Rattle.schema_types.specs.declared.types.PartField.{PartField}
use Rattle.schema_types.specs.declared.types.Schema.{Schema}
use Rattle.schema_types.specs.declared.types.SpecField.{SpecField}
use Rattle.schema_types.specs.declared.types.Transform.{Transform}
use Rattle.schema_types.specs.declared.types.Transform.TheVariants.{Identity, Bucket, Truncate, Year, Month, Day, Hour, Void, Unknown}
use Rattle.ice_schema.specs.declared.fault.PartErr.{PartErr}
use Rattle.ice_schema.specs.declared.fault.PartErr.TheVariants as errors
use Rattle.ice_schema.specs.Sources.{source_type}

-- the type that a transform gives of a source's type
abbrev pub result_type : Transform → ColType → Option ColType
result_type Identity source = Some source
result_type (Bucket buckets) source = Some types.Int
result_type (Truncate width) source = Some source
result_type Year source = Some types.Int
result_type Month source = Some types.Int
result_type Day source = Some types.Date
result_type Hour source = Some types.Int
result_type Void source = Some source
result_type Unknown source = None

-- the field of a partition type that a field of a spec stands for
pub record IsPartField (schemas : List Schema) (f : SpecField) (p : PartField) : Type 0 where
  pub source : ColType
  pub is_source : source_type f.source_id schemas ≡ Some source
  pub is_result : result_type f.transform source ≡ Some p.ty
  pub same_id : p.field_id ≡ f.field_id
  pub same_name : p.name ≡ f.name
  pub same_transform : p.transform ≡ f.transform

-- the fields of the partition type are those of the spec, in order
abbrev pub ArePartFields : List Schema → List SpecField → List PartField → Type 0
ArePartFields schemas fields typed = AllZip (IsPartField schemas) fields typed

-- a field whose transform is unknown, or whose source column is in no schema
abbrev pub IsUntyped : List Schema → SpecField → Type 0
IsUntyped schemas f = (f.transform ≡ Unknown) ⊎ (source_type f.source_id schemas ≡ None)

-- some field of the spec is so
abbrev pub SomeUntyped : List Schema → List SpecField → Type 0
SomeUntyped schemas fields = (f : SpecField) × Contains fields f × IsUntyped schemas f

-- what holds of a refusal that isn't want of memory
abbrev pub OnTransform : {A : Type 0} → Result A PartErr → Type 0 → Type 0
OnTransform (Ok x) P = Unit {0}
OnTransform (Err errors.Memory) P = Unit {0}
OnTransform (Err errors.Transform) P = P
