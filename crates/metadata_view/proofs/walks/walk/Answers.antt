use Rattle.std.proofs.Common.{◌++◌, ◌+◌, ◌-◌, length, arith, ap, ◌∙◌}
use Rattle.metadata_view.specs.Walk.{walk}
use Rattle.metadata_view.proofs.WalkLaws.{all-if-none, all-if-over, one_more}
use Rattle.metadata_view.proofs.walks.walk.Goals as goal

pub returns-in-None : goal.returns-in-None
returns-in-None c = all-if-none _ _ _ _ _ _ c.loop.invariant (omega arith) c.in-None.ensures

pub loop-preserved : goal.loop-preserved
loop-preserved c =
    let s = c.in-Some.s.now in
    ap (λ xs. xs ++ walk c.args.snapshots.now (length c.args.snapshots.now + 1 - (c.loop.counter + 1)) s.parent) c.in_ok-push_id-in-Some.ensures
    ∙ one_more _ _ _ _ _ _ c.loop.invariant s (omega arith) c.in-Some.ensures

pub returns : goal.returns
returns c = all-if-over _ _ _ _ _ _ c.loop.invariant (omega arith)
