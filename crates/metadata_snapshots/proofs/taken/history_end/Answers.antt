use Rattle.std.proofs.Common.{◌≡◌, ◌+◌, ◌-◌, ◌∷◌, drop, map, true, ap, sym, ◌∙◌, arith}
use Rattle.std.specs.List.{list_any}
use Rattle.std.proofs.lemmas.List.{drop_more, drop-map}
use Rattle.serde_json.specs.View.{view}
use Rattle.metadata_snapshots.specs.Sets.{is_in}
use Rattle.metadata_snapshots.proofs.SetLaws.{after-none, after-end}
use Rattle.metadata_snapshots.proofs.taken.history_end.Goals as goal

pub returns-else-not-is_in-clause-rest : goal.returns-else-not-is_in-clause-rest
returns-else-not-is_in-clause-rest c =
    let vs = c.args.items.now in
    let end = c.loop-end.end in
    let x = c.index-items-end.result in
    let next : end - 1 + 1 ≡ end = omega (arith, c.loop-end-test.true) in
    let rest : drop (end - 1) vs ≡ x ∷ drop end vs = drop_more vs (end - 1) x (omega arith) ∙ ap (λ y. y ∷ drop (end - 1 + 1) vs) (sym c.index-items-end.is) ∙ ap (λ n. x ∷ drop n vs) next in
    let found : is_in c.args.ids.now (view x) ≡ true = sym c.is_in.ensures ∙ c.if-not-is_in.false in
    sym (after-end (is_in c.args.ids.now) (end - 1) (map view vs) (map view (drop end vs)) (view x) (drop-map view (end - 1) vs ∙ ap (map view) rest) found c.loop-end.invariant.1)

pub returns-after-loop-end-clause-rest : goal.returns-after-loop-end-clause-rest
returns-after-loop-end-clause-rest c =
    let vs = c.args.items.now in
    let p = is_in c.args.ids.now in
    let none : c.loop-end.end ≡ 0 = omega (arith, c.loop-end-test.false) in
    ap (λ n. map view (drop n vs)) none ∙ sym (after-none p (map view vs) (ap (λ n. list_any p (map view (drop n vs))) (sym none) ∙ c.loop-end.invariant.1))
