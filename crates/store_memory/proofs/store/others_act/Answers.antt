use Rattle.std.proofs.Common.{rules}
use Rattle.store_memory.proofs.ActLaws.{one_more}
use Rattle.store_memory.proofs.MomentLaws.{timed_one, timed_then}
use Rattle.store_memory.proofs.store.others_act.Goals as goal

pub loop-step-preserved : goal.loop-step-preserved
loop-step-preserved g c =
    let allows = g.M.Manners.allows (g.N.Neighbour.manners c.args.neighbour.now) in
    let more = one_more allows c.args.history.now c.loop-step.history c.add.new.self c.deref-step-items.result.now _ c.loop-step.step-index c.loop-step.next_ms c.saturating_add.result c.step-item.result c.in_ok-copy.field-0
    (search rules) (search rules) c.in_ok-copy.ensures c.in_ok-add.ensures.ok (search rules) c.loop-step.invariant.more in
    let one = timed_one c.loop-step.history c.add.new.self c.loop-step.next_ms c.saturating_add.result _ c.in_ok-add.ensures.ok (search rules) (search rules) in
    record { more = more; timed = timed_then _ _ _ _ _ _ c.loop-step.invariant.timed one }
