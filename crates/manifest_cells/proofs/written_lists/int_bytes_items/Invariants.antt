use Rattle.std.proofs.Common.{◌≡◌, map, take}
use Rattle.manifest_cells.specs.Written.{int_bytes_record}
use Rattle.manifest_cells.proofs.written_lists.int_bytes_items.Given as goal

abbrev pub invariant-loop-pair : goal.invariant-loop-pair
invariant-loop-pair l = l.items ≡ map int_bytes_record (take l.pair-index l.pairs)
