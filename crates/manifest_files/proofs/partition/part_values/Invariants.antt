use Rattle.std.proofs.Common.{◌≡◌, map, take, Some}
use Rattle.manifest_files.specs.Partitions.{part_in}
use Rattle.manifest_files.proofs.partition.part_values.Given as goal

abbrev pub invariant-loop-slot : goal.invariant-loop-slot
invariant-loop-slot l = map Some l.values ≡ map (part_in l.fields) (take l.slot-index l.slots)
