-- Laws on the fields that are written for a partition.
use Rattle.std.specs.Prelude.{◌≡◌, ℤ, List, map, All, Bool, true, false, Some, None}
use Rattle.std.specs.Ordering.{int_eq}
use Rattle.std.specs.List.{IsDistinct}
use Rattle.avro_schema.specs.declared.schema.Field.{Field}
use Rattle.schema_types.specs.declared.types.ColType.{ColType, out-ColType}
use Rattle.schema_types.specs.declared.types.ColType.TheOpen.{ColType-F}
use Rattle.schema_types.specs.declared.types.Column.{Column}
use Rattle.schema_types.specs.declared.types.PartField.{PartField}
use Rattle.manifest_files.specs.Partitions.{written_parts}
use Rattle.manifest_parts.specs.Parts.{part_fault, part_slot, written_part_field}

-- a type that has no types within it
abbrev pub is_primitive : ColType-F ColType Column → Bool
is_primitive (ColType-F.Struct columns) = false
is_primitive (ColType-F.List element_id required element) = false
is_primitive (ColType-F.Map key_id key value_id required value) = false
is_primitive _ = true

-- no two of the fields have one id
abbrev pub AreApart : List PartField → Type 0
AreApart ps = IsDistinct int_eq (map (λ (p : PartField). p.field_id) ps)

-- The fields that are written have no fault.
abbrev pub WrittenPartsHaveNoFault : Type 0
WrittenPartsHaveNoFault = (ps : List PartField) → AreApart ps → All (λ (p : PartField). is_primitive (out-ColType p.ty) ≡ true) ps → part_fault None ps (map written_part_field ps) ≡ None

-- The fields that are written are found in their order.
abbrev pub WrittenPartsAreInOrder : Type 0
WrittenPartsAreInOrder = (ps : List PartField) (fs : List Field) → AreApart ps → map (part_slot (map written_part_field ps)) ps ≡ written_parts 0 (map (part_slot fs) ps)
