-- Which partition a record of a manifest holds (Apache Iceberg specification, "Partitioning").
use Rattle.std.specs.Prelude.{ℕ, suc, List, [], ◌∷◌, map, Option, Some, None, Bool, false, if◌then◌else◌}
use Rattle.std.specs.Option.{option_map}
use Rattle.avro_datum.specs.declared.datum.Datum.{Datum, out-Datum}
use Rattle.avro_datum.specs.declared.datum.Datum.TheOpen.{Datum-F}
use Rattle.avro_datum.specs.declared.datum.Datum.TheVariants.{Null, Int, Long, Fields}
use Rattle.manifest_cells.specs.Cells.{held, not_null, fields_in}
use Rattle.manifest_cells.specs.Written.{optional}
use Rattle.manifest_files.specs.declared.partition.PartSlot.{PartSlot}

-- one more, where it and the others are there
abbrev pub consed : {A : Type 0} → Option A → Option (List A) → Option (List A)
consed None xs = None
consed (Some x) xs = option_map (λ ys. x ∷ ys) xs

-- all of them, where each is there
abbrev pub all_there : {A : Type 0} → List (Option A) → Option (List A)
all_there [] = Some []
all_there (o ∷ os) = consed o (all_there os)

-- a value that may be one of a partition, an int as a long where longs are wanted: it is no list, map, record or union
abbrev pub scalar : Bool → Datum → Datum-F Datum → Option Datum
scalar is_long d Datum-F.Null = Some Null
scalar is_long d (Datum-F.Int n) = Some (if is_long then Long n else Int n)
scalar is_long d (Datum-F.List ds) = None
scalar is_long d (Datum-F.Pairs ps) = None
scalar is_long d (Datum-F.Fields ds) = None
scalar is_long d (Datum-F.Branch n inner) = None
scalar is_long d _ = Some d

-- What the value of a partition field counts as: null where the field lacks or its transform is void. None is no such value.
abbrev pub part_value : PartSlot → Option Datum → Option Datum
part_value slot None = Some Null
part_value slot (Some d) = if slot.is_void then Some Null else scalar slot.is_long d (out-Datum d)

-- the same of what a partition's record holds
abbrev pub part_in : List Datum → PartSlot → Option Datum
part_in ds slot = part_value slot (held ds slot.place)

-- The partition that a record holds: the values of the partition type's fields, in the type's order.
abbrev pub partition_of : List PartSlot → Datum-F Datum → Option Datum
partition_of slots (Datum-F.Fields ds) = option_map (λ values. Fields values) (all_there (map (part_in ds) slots))
partition_of slots _ = None

-- the same of what was found
abbrev pub partition_in : List PartSlot → Option Datum → Option Datum
partition_in slots None = None
partition_in slots (Some d) = partition_of slots (out-Datum d)

-- a value of a partition as it is written, none where it is null or is no such value
abbrev pub written_scalar : Option Datum → Option Datum
written_scalar None = None
written_scalar (Some d) = not_null d (out-Datum d)

-- the same in a union with null
abbrev pub written_value : Datum → Datum
written_value d = optional (written_scalar (scalar false d (out-Datum d)))

-- The record that is written for a partition.
abbrev pub written_partition : Datum → Datum
written_partition d = Fields (map written_value (fields_in (out-Datum d)))

-- Where a written partition has the fields of these: in their order, from this place on.
abbrev pub written_parts : ℕ → List PartSlot → List PartSlot
written_parts n [] = []
written_parts n (slot ∷ slots) = record { place = Some n; is_void = slot.is_void; is_long = slot.is_long } ∷ written_parts (suc n) slots
