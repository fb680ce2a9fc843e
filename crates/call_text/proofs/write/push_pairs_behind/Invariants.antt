use Rattle.std.proofs.Common.{◌≡◌, ◌++◌, take}
use Rattle.std.specs.List.{flat_map}
use Rattle.call_text.specs.Writing.{pair_text}
use Rattle.call_text.proofs.write.push_pairs_behind.Given as goal

abbrev pub invariant-loop-pair : goal.invariant-loop-pair
invariant-loop-pair l = l.out.items ≡ l.fn.out.items ++ flat_map pair_text (take l.pair-index l.pairs)
