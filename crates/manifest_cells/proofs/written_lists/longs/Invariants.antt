use Rattle.std.proofs.Common.{◌≡◌, map, take}
use Rattle.avro_datum.specs.declared.datum.Datum.TheVariants.{Long}
use Rattle.manifest_cells.proofs.written_lists.longs.Given as goal

abbrev pub invariant-loop-n : goal.invariant-loop-n
invariant-loop-n l = l.items ≡ map Long (take l.n-index l.numbers)
