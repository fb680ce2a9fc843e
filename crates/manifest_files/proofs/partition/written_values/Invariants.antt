use Rattle.std.proofs.Common.{◌≡◌, map, take}
use Rattle.manifest_files.specs.Partitions.{written_value}
use Rattle.manifest_files.proofs.partition.written_values.Given as goal

abbrev pub invariant-loop-value : goal.invariant-loop-value
invariant-loop-value l = l.items ≡ map written_value (take l.value-index l.values)
