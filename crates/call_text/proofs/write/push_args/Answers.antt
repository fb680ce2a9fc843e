use Rattle.std.proofs.Common.{drop, take, length, ◌++◌, ◌-◌, ◌∙◌, ap, sym}
use Rattle.std.specs.List.{flat_map}
use Rattle.call_text.specs.Writing.{piece_text, lead_pieces, value_pieces, arg_text, arg_pieces}
use Rattle.call_text.proofs.Written.{grown, behind_first, args_whole}
use Rattle.call_text.proofs.write.push_args.Goals as goal

pub returns-in_ok-push_args_behind-in-len1-up : goal.returns-in_ok-push_args_behind-in-len1-up
returns-in_ok-push_args_behind-in-len1-up c =
    grown c.args.out.now.items (flat_map piece_text (lead_pieces c.first-item.result.name ++ value_pieces c.first-item.result.value)) c.push_arg.new.out.items c.push_args_behind.new.out.items (flat_map arg_text (take (length c.args.args.now - 1) (drop 1 c.args.args.now)))
    c.in_ok-push_arg-in-len1-up.ensures c.in_ok-push_args_behind-in-len1-up.ensures
    (flat_map piece_text (drop 1 (flat_map arg_pieces c.args.args.now)))
    (args_whole c.args.args.now c.first-item.result c.in-len1-up.len_at_least c.first-item.is ∙ ap (λ xs. (flat_map piece_text (lead_pieces c.first-item.result.name ++ value_pieces c.first-item.result.value)) ++ flat_map arg_text xs) (sym (behind_first c.args.args.now)))
