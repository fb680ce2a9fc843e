use Rattle.std.proofs.Common.{Err}
use Rattle.store_memory.proofs.AskedLaws.{asked_then, unless}
use Rattle.store_memory.proofs.MomentLaws.{timed_then}
use Rattle.store_memory.proofs.store.MemStoreStore.remove.Goals as goal

pub returns-in-Ok-clause-moments : goal.returns-in-Ok-clause-moments
returns-in-Ok-clause-moments g c = timed_then _ _ _ _ _ _ c.begin.ensures.moments c.take.ensures.moments

pub returns-in-Ok-clause-asked : goal.returns-in-Ok-clause-asked
returns-in-Ok-clause-asked g c =
    asked_then (g.N.Neighbour.does c.args.self.now.neighbour c.args.self.now.history) _ _ _ _ _ c.take.result c.in_ok-fail.ensures.asked c.take.ensures.took

pub returns-in-Err-clause-moments : goal.returns-in-Err-clause-moments
returns-in-Err-clause-moments g c = timed_then _ _ _ _ _ _ c.begin.ensures.moments c.take.ensures.moments

pub returns-in-Err-clause-asked : goal.returns-in-Err-clause-asked
returns-in-Err-clause-asked g c =
    unless {T = Unit {0}} (Err c.in-Err.error) _
    (asked_then (g.N.Neighbour.does c.args.self.now.neighbour c.args.self.now.history) _ _ _ _ _ c.take.result c.in_ok-fail.ensures.asked c.take.ensures.took)
