use Rattle.std.proofs.Common.{◌≡◌, map, take}
use Rattle.manifest_cells.specs.Cells.{int_long_cells, record_cells}
use Rattle.manifest_cells.proofs.pairs.int_longs_of.Given as goal

abbrev pub invariant-loop-item : goal.invariant-loop-item
invariant-loop-item l = map int_long_cells l.pairs ≡ map (record_cells l.places) (take l.item-index l.items)
