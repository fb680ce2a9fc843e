use Rattle.std.proofs.Common.{drop, take, length, ◌++◌, ◌-◌, ◌∙◌, ap, sym}
use Rattle.std.specs.List.{flat_map}
use Rattle.call_text.specs.Writing.{piece_text, pair_pieces, pair_text}
use Rattle.call_text.proofs.Written.{grown, behind_first, pairs_whole}
use Rattle.call_text.proofs.write.push_pairs.Goals as goal

pub returns-in_ok-push_pairs_behind-in-len1-up : goal.returns-in_ok-push_pairs_behind-in-len1-up
returns-in_ok-push_pairs_behind-in-len1-up c =
    grown c.args.out.now.items (flat_map piece_text (drop 1 (pair_pieces c.first-item.result))) c.push_first_pair.new.out.items c.push_pairs_behind.new.out.items (flat_map pair_text (take (length c.args.pairs.now - 1) (drop 1 c.args.pairs.now)))
    c.in_ok-push_first_pair-in-len1-up.ensures c.in_ok-push_pairs_behind-in-len1-up.ensures
    (flat_map piece_text (drop 1 (flat_map pair_pieces c.args.pairs.now)))
    (pairs_whole c.args.pairs.now c.first-item.result c.in-len1-up.len_at_least c.first-item.is ∙ ap (λ xs. (flat_map piece_text (drop 1 (pair_pieces c.first-item.result))) ++ flat_map pair_text xs) (sym (behind_first c.args.pairs.now)))
