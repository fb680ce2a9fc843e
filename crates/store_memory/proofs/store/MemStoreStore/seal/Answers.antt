use Rattle.store_memory.proofs.AskedLaws.{asked_then, unless}
use Rattle.store_memory.proofs.MomentLaws.{timed_then}
use Rattle.store_memory.proofs.store.MemStoreStore.seal.Goals as goal

pub returns-clause-moments : goal.returns-clause-moments
returns-clause-moments g c = timed_then _ _ _ _ _ _ c.begin.ensures.moments c.take.ensures.moments

pub returns-clause-asked : goal.returns-clause-asked
returns-clause-asked g c =
    unless c.take.result _
    (asked_then (g.N.Neighbour.does c.args.self.now.neighbour c.args.self.now.history) _ _ _ _ _ c.take.result c.in_ok-fail.ensures.asked c.take.ensures.took)
