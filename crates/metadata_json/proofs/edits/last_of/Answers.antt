use Rattle.std.proofs.Common.{◌≡◌, ◌-◌, ◌++◌, [], ◌∷◌, length, drop, map, ap, ◌∙◌, arith}
use Rattle.serde_json.specs.View.{view}
use Rattle.metadata_json.proofs.Trees.{last-push}
use Rattle.metadata_json.proofs.edits.last_of.Goals as goal

pub returns : goal.returns
returns c =
    let vs = c.args.items.items in
    let from : c.saturating_sub-left_out.result ≡ length vs - (c.args.most - 1) = omega (arith, c.len.ensures, c.saturating_sub-left_out.ensures) in
    ap (map view) (c.in_ok-push.ensures.items ∙ ap (λ xs. xs ++ c.args.item ∷ []) (c.in_ok-list.ensures.tail ∙ ap (λ i. drop i vs) from)) ∙ last-push vs c.args.item c.args.most c.requires
