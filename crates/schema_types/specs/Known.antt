-- Which transforms are known (Iceberg table specification, "Partition Transforms").
use Rattle.std.specs.Prelude.{Bool, true, false}
use Rattle.std.specs.List.{list_all}
use Rattle.schema_types.specs.declared.types.Spec.{Spec}
use Rattle.schema_types.specs.declared.types.Transform.{Transform}
use Rattle.schema_types.specs.declared.types.Transform.TheVariants.{Unknown}

-- the transform is one that this program knows
abbrev pub is_known : Transform → Bool
is_known Unknown = false
is_known _ = true

-- the spec has no unknown transform
abbrev pub has_known_transforms : Spec → Bool
has_known_transforms s = list_all (λ f. is_known f.transform) s.fields
