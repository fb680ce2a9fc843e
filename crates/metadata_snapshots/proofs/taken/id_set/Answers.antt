use Rattle.std.proofs.Common.{◌≡◌, ◌+◌, ◌++◌, ◌∷◌, ◌||◌, [], pos, take, get_or, ap, sym, ◌∙◌, arith}
use Rattle.std.specs.Ordering.{int_eq}
use Rattle.std.proofs.lemmas.List.{take_more}
use Rattle.metadata_view.specs.Walk.{has_id}
use Rattle.metadata_snapshots.proofs.SetLaws.{has_id-push}
use Rattle.metadata_snapshots.proofs.taken.id_set.Goals as goal

pub loop-id-preserved : goal.loop-id-preserved
loop-id-preserved c = λ q.
    let ids = c.args.ids.now in
    let i = c.loop-id.id-index in
    let id = get_or ids i (pos 0) in
    let front : take (i + 1) ids ≡ take i ids ++ id ∷ [] = take_more ids i (pos 0) (omega arith) in
    c.in_ok-add_id.ensures q ∙ ap (λ b. int_eq id q || b) (c.loop-id.invariant q) ∙ sym (has_id-push q (take i ids) id) ∙ ap (has_id q) (sym front)
