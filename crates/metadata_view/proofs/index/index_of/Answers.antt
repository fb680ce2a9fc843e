use Rattle.std.proofs.Common.{◌≡◌, ◌<◌, ◌+◌, ◌∷◌, ◌++◌, [], true, false, length, take, drop, is_some, ap, sym, ◌∙◌, arith, length-take}
use Rattle.std.proofs.lemmas.List.{take_more, drop_more}
use Rattle.std.specs.BTreeMap.{get}
use Rattle.std.specs.Ordering.{int_cmp}
use Rattle.metadata_view.specs.Walk.{place_with}
use Rattle.metadata_view.proofs.IndexLaws.{index-push, double-here, double-on}
use Rattle.metadata_view.proofs.index.index_of.Goals as goal
use Rattle.metadata_view.specs.Index.{double_behind}

pub returns-then-branch : goal.returns-then-branch
returns-then-branch c =
    let ss = c.args.snapshots.now in
    let i = c.loop-i.i in
    let x = c.index-snapshots-i.result in
    let rest : drop i ss ≡ x ∷ drop (i + 1) ss = drop_more ss i x (omega arith) ∙ ap (λ y. y ∷ drop (i + 1) ss) (sym c.index-snapshots-i.is) in
    let known : is_some (place_with (take i ss) x.id) ≡ true = ap is_some (sym (c.loop-i.invariant.1 x.id)) ∙ sym c.in_ok-insert.ensures.known ∙ c.if-branch.true in
    let len : length (take i ss) ≡ i = omega (arith, length-take i ss) in
    double-here _ _ _ _ _ known len (c.loop-i.invariant.0 ∙ ap (double_behind (take i ss)) rest)

pub loop-i-preserved : goal.loop-i-preserved
loop-i-preserved c =
    let ss = c.args.snapshots.now in
    let i = c.loop-i.i in
    let x = c.index-snapshots-i.result in
    let in_list : i < length ss = omega arith in
    let rest : drop i ss ≡ x ∷ drop (i + 1) ss = drop_more ss i x in_list ∙ ap (λ y. y ∷ drop (i + 1) ss) (sym c.index-snapshots-i.is) in
    let front : take (i + 1) ss ≡ take i ss ++ x ∷ [] = take_more ss i x in_list ∙ ap (λ y. take i ss ++ y ∷ []) (sym c.index-snapshots-i.is) in
    let fresh : is_some (get int_cmp c.loop-i.index x.id) ≡ false = sym c.in_ok-insert.ensures.known ∙ c.if-branch.false in
    let unknown : is_some (place_with (take i ss) x.id) ≡ false = ap is_some (sym (c.loop-i.invariant.1 x.id)) ∙ fresh in
    let len : length (take i ss) ≡ i = omega (arith, length-take i ss) in (
      double-on _ _ _ _ unknown (c.loop-i.invariant.0 ∙ ap (double_behind (take i ss)) rest) ∙ ap (λ xs. double_behind xs (drop (i + 1) ss)) (sym front),
      λ id. index-push (take i ss) x i (get int_cmp c.loop-i.index) (get int_cmp c.insert.new.index) len c.loop-i.invariant.1 fresh c.in_ok-insert.ensures.new id ∙ ap (λ xs. place_with xs id) (sym front),
    )
