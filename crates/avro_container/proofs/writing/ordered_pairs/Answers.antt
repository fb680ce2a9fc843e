use Rattle.std.proofs.Common.{rules, map, subst}
use Rattle.std.specs.List.Sorted.{IsPermutation}
use Rattle.std.proofs.lemmas.List.Sorted.{IsPermutation-map, answers_always}
use Rattle.avro_container.specs.Lent.{pair_seen}
use Rattle.avro_container.proofs.HeaderWritten.{seen_in_order}
use Rattle.avro_container.proofs.writing.ordered_pairs.Goals as goal

pub returns-clause-order : goal.returns-clause-order
returns-clause-order c = record {
  same = subst (λ ps. IsPermutation ps (map pair_seen c.sort_by_key.new.self.items)) c.in_ok-pairs.ensures.pairs (IsPermutation-map pair_seen _ _ c.in_ok-sort_by_key.ensures.permutation);
  ordered = seen_in_order _ (c.in_ok-sort_by_key.ensures.sorted (λ p. p.key) (answers_always _ _ _ (λ f a r g called. search rules)));
}
