use Rattle.std.proofs.Common.{ℕ, List, ◌+◌, arith, subst}
use Rattle.ice_store.specs.Places.{AddsPiece}
use Rattle.ice_store.proofs.PlaceLemmas.{clear_more, clear_none, cut_on, cut_ended, cut_failed, whole_rest}
use Rattle.ice_store.proofs.place.add_parts.Goals.{then-text-i-eq47+in-Ok, else-text-i-eq47}
use Rattle.ice_store.proofs.place.add_parts.Goals as goal

pub loop-i-preserved : goal.loop-i-preserved
loop-i-preserved c =
    let text = c.args.text.now in
    let i = c.loop-i.i in
    let inv = c.loop-i.invariant in
    elim c.if-text-i-eq47.branch [
      | then-text-i-eq47+in-Ok w ↦ rw (w.start-is, w.parts-is) (record {
        behind = omega arith;
        clear = clear_none text (i + 1);
        whole = cut_on text c.args.from c.loop-i.start i c.loop-i.parts.items c.args.parts.now.items inv.behind inv.clear inv.whole w.add_piece.new.parts.items c.loop-i-test.true w.if-text-i-eq47.true w.in-Ok.ensures.0 w.in-Ok.ensures.1;
      })
      | else-text-i-eq47 w ↦ rw (w.start-is, w.parts-is) (record {
        behind = omega arith;
        clear = clear_more text c.loop-i.start i 0 inv.behind c.loop-i-test.true w.if-text-i-eq47.false inv.clear;
        whole = inv.whole;
      })
    ]

pub returns-in-Err : goal.returns-in-Err
returns-in-Err c = cut_failed c.args.text.now c.args.from c.loop-i.start c.loop-i.i c.loop-i.parts.items c.args.parts.now.items c.loop-i.invariant.behind c.loop-i.invariant.clear c.loop-i.invariant.whole
    c.add_piece.new.parts.items c.in-Err.e c.loop-i-test.true c.if-text-i-eq47.true c.in-Err.ensures

pub returns : goal.returns
returns c = cut_ended c.args.text.now c.args.from c.loop-i.start c.loop-i.i c.loop-i.parts.items c.args.parts.now.items c.loop-i.invariant.behind c.loop-i.invariant.clear c.loop-i.invariant.whole
    c.add_piece-2.new.parts.items c.add_piece-2.result c.loop-i-test.false
    (subst (λ (l : List ℕ). AddsPiece l (c.args.from + c.loop-i.start) c.loop-i.parts.items c.add_piece-2.new.parts.items c.add_piece-2.result) (whole_rest c.loop-i.start c.args.text.now) c.add_piece-2.ensures)
