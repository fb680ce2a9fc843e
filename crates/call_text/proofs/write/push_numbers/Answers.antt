use Rattle.std.proofs.Common.{drop, take, length, ◌++◌, ◌-◌, ◌∙◌, ap, sym}
use Rattle.std.specs.List.{flat_map}
use Rattle.call_text.specs.Writing.{piece_text, number_pieces, number_text}
use Rattle.call_text.proofs.Written.{grown, behind_first, numbers_whole}
use Rattle.call_text.proofs.write.push_numbers.Goals as goal

pub returns-in_ok-push_numbers_behind-in-len1-up : goal.returns-in_ok-push_numbers_behind-in-len1-up
returns-in_ok-push_numbers_behind-in-len1-up c =
    grown c.args.out.now.items (flat_map piece_text (drop 1 (number_pieces c.first-item.result))) c.push_first_number.new.out.items c.push_numbers_behind.new.out.items (flat_map number_text (take (length c.args.numbers.now - 1) (drop 1 c.args.numbers.now)))
    c.in_ok-push_first_number-in-len1-up.ensures c.in_ok-push_numbers_behind-in-len1-up.ensures
    (flat_map piece_text (drop 1 (flat_map number_pieces c.args.numbers.now)))
    (numbers_whole c.args.numbers.now c.first-item.result c.in-len1-up.len_at_least c.first-item.is ∙ ap (λ xs. (flat_map piece_text (drop 1 (number_pieces c.first-item.result))) ++ flat_map number_text xs) (sym (behind_first c.args.numbers.now)))
