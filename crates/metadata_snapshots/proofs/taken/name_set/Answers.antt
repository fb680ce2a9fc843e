use Rattle.std.proofs.Common.{◌≡◌, ◌+◌, ◌++◌, ◌∷◌, ◌||◌, [], take, bytes_eq, ap, sym, ◌∙◌, arith}
use Rattle.std.proofs.lemmas.List.{take_more}
use Rattle.metadata_snapshots.specs.Edits.{has_name}
use Rattle.metadata_snapshots.proofs.SetLaws.{has_name-push}
use Rattle.metadata_snapshots.proofs.taken.name_set.Goals as goal

pub loop-name-preserved : goal.loop-name-preserved
loop-name-preserved c = λ q.
    let names = c.args.names.now in
    let i = c.loop-name.name-index in
    let name = c.name-item.result in
    let front : take (i + 1) names ≡ take i names ++ name ∷ [] = take_more names i name (omega arith) ∙ ap (λ y. take i names ++ y ∷ []) (sym c.name-item.is) in
    c.in_ok-add_name.ensures q ∙ ap (λ b. bytes_eq q name || b) (c.loop-name.invariant q) ∙ sym (has_name-push q (take i names) name) ∙ ap (λ xs. has_name xs q) (sym front)
