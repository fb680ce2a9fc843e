use Rattle.std.proofs.Common.{◌≡◌, rules, sym, ap, ◌∙◌, map, ◌++◌, append_assoc, pos}
use Rattle.std.proofs.lemmas.Result.{on_ok_weaker}
use borrow.Author.Sizes.{sizes}
use denote.Param.Weighed.{at_most}
use Rattle.avro_schema.specs.Form.{form_of, forms_of}
use Rattle.avro_container.specs.Long.{written_long}
use Rattle.avro_datum.specs.Writing.{IsOf, written, written_nth}
use Rattle.avro_datum.proofs.Puts.{nth_is_at, nth_within, nth_written_at}
use Rattle.avro_datum.proofs.encoding.+encode.Goals as goal

pub put_branch-put-requires : goal.put_branch-put-requires
put_branch-put-requires t c =
    let here : IsOf (form_of c.index-branches-branch.result) c.args.inner.now = nth_is_at c.args.branches.now c.args.branch c.args.inner.now c.index-branches-branch.result c.index-branches-branch.is c.requires in
    search (rules, sizes, at_most, nth_within)

pub put_branch-returns-clause-ok : goal.put_branch-returns-clause-ok
put_branch-returns-clause-ok t c =
    let here : written_nth (forms_of (map form_of c.args.branches.now)) c.args.branch c.args.inner.now ≡ written (form_of c.index-branches-branch.result) c.args.inner.now =
    nth_written_at c.args.branches.now c.args.branch c.args.inner.now c.index-branches-branch.result c.index-branches-branch.is (nth_within c.args.branches.now c.args.branch c.args.inner.now c.requires) in
    on_ok_weaker c.put.result (λ e. e ∙ ap (λ xs. xs ++ written (form_of c.index-branches-branch.result) c.args.inner.now) c.in_ok-put_count.ensures.ok ∙ ap (λ n. c.args.to.now.items ++ written_long (pos n) ++ written (form_of c.index-branches-branch.result) c.args.inner.now) c.from.ensures
    ∙ append_assoc c.args.to.now.items (written_long (pos c.args.branch)) _ ∙ ap (λ w. c.args.to.now.items ++ (written_long (pos c.args.branch) ++ w)) (sym here)) c.put.ensures.ok
