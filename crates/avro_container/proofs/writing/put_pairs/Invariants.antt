use Rattle.std.proofs.Common.{◌≡◌, ◌++◌, drop, map}
use Rattle.avro_container.specs.Growth.{Grows}
use Rattle.avro_container.specs.Writing.{written_each}
use Rattle.avro_container.specs.ContainerWriting.{written_pair}
use Rattle.avro_container.specs.Lent.{pair_seen}
use Rattle.avro_container.proofs.writing.put_pairs.Given as goal

abbrev pub invariant-loop-pair : goal.invariant-loop-pair
invariant-loop-pair l = record {
  grows : Grows l.initial.to.items l.to.items;
  so_far : l.to.items ++ written_each written_pair (map pair_seen (drop l.pair-index l.pairs)) ≡ l.initial.to.items ++ written_each written_pair (map pair_seen l.pairs);
}
