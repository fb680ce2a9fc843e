use Rattle.std.proofs.Common.{◌-◌, ◌+◌, length, ◌||◌, arith, ap, ◌∙◌, FitsSigned, w64}
use Rattle.std.proofs.lemmas.Int.{to_z-of_z}
use Rattle.metadata_view.specs.Walk.{has_id, walk}
use Rattle.metadata_view.proofs.WalkLaws.{has-if-none, has-if-over, has-step}
use Rattle.metadata_view.proofs.walks.on_walk.Goals as goal

pub returns-in-None : goal.returns-in-None
returns-in-None c =
    let fits : FitsSigned w64 c.args.id = c.ranges.id in
    has-if-none _ _ _ _ _ _ (simp to_z-of_z at c.loop.invariant) (omega arith) c.in-None.ensures

pub returns : goal.returns
returns c =
    let fits : FitsSigned w64 c.args.id = c.ranges.id in
    has-if-over _ _ _ _ _ _ (simp to_z-of_z at c.loop.invariant) (omega arith)

pub returns-then-is_at : goal.returns-then-is_at
returns-then-is_at c =
    let fits : FitsSigned w64 c.args.id = c.ranges.id in
    let s = c.in-Some.s.now in
    let later = walk c.args.snapshots.now (length c.args.snapshots.now + 1 - (c.loop.counter + 1)) s.parent in
    ap (λ b. b || has_id c.args.id later) (simp to_z-of_z at c.if-is_at.ensures) ∙ has-step _ _ _ _ _ _ (simp to_z-of_z at c.loop.invariant) s (omega arith) c.in-Some.ensures

pub loop-preserved : goal.loop-preserved
loop-preserved c =
    let fits : FitsSigned w64 c.args.id = c.ranges.id in
    let s = c.in-Some.s.now in
    let later = walk c.args.snapshots.now (length c.args.snapshots.now + 1 - (c.loop.counter + 1)) s.parent in
    simp to_z-of_z (ap (λ b. b || has_id c.args.id later) (simp to_z-of_z at c.if-is_at.ensures) ∙ has-step _ _ _ _ _ _ (simp to_z-of_z at c.loop.invariant) s (omega arith) c.in-Some.ensures)
