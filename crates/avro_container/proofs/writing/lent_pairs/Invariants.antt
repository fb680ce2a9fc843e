use Rattle.std.proofs.Common.{◌≡◌, ◌+◌, ◌++◌, take, map, vec_len}
use Rattle.avro_container.specs.Lent.{pair_seen}
use Rattle.avro_container.proofs.writing.lent_pairs.Given as goal

abbrev pub invariant-loop-pair : goal.invariant-loop-pair
invariant-loop-pair l = record {
  count : vec_len l.pairs ≡ vec_len l.initial.pairs + l.pair-index;
  so_far : map pair_seen l.pairs.items ≡ map pair_seen l.initial.pairs.items ++ take l.pair-index l.pair-items;
}
