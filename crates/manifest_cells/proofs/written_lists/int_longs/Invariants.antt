use Rattle.std.proofs.Common.{◌≡◌, map, take}
use Rattle.manifest_cells.specs.Written.{int_long_record}
use Rattle.manifest_cells.proofs.written_lists.int_longs.Given as goal

abbrev pub invariant-loop-pair : goal.invariant-loop-pair
invariant-loop-pair l = l.items ≡ map int_long_record (take l.pair-index l.pairs)
