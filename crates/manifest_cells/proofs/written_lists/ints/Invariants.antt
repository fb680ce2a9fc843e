use Rattle.std.proofs.Common.{◌≡◌, map, take}
use Rattle.avro_datum.specs.declared.datum.Datum.TheVariants.{Int}
use Rattle.manifest_cells.proofs.written_lists.ints.Given as goal

abbrev pub invariant-loop-n : goal.invariant-loop-n
invariant-loop-n l = l.items ≡ map Int (take l.n-index l.numbers)
