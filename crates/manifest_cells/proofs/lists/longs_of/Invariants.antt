use Rattle.std.proofs.Common.{◌≡◌, map, take}
use Rattle.avro_datum.specs.declared.datum.Datum.TheVariants.{Long}
use Rattle.manifest_cells.proofs.lists.longs_of.Given as goal

abbrev pub invariant-loop-item : goal.invariant-loop-item
invariant-loop-item l = map Long l.longs ≡ take l.item-index l.items
