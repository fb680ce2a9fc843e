use Rattle.std.proofs.Common.{◌≡◌, map, take}
use Rattle.avro_datum.specs.declared.datum.Datum.TheVariants.{Int}
use Rattle.manifest_cells.proofs.lists.ints_of.Given as goal

abbrev pub invariant-loop-item : goal.invariant-loop-item
invariant-loop-item l = map Int l.ints ≡ take l.item-index l.items
