use Rattle.std.proofs.Common.{Err, true, not, rules}
use Rattle.ice_store.specs.Files.{is_named}
use Rattle.ice_store.specs.declared.history.Step.{Step}
use Rattle.ice_store.specs.declared.history.Step.TheVariants.{Rename}
use Rattle.store_memory.specs.Failing.{fail_at, takes_step, IsStepOrNone}
use Rattle.store_memory.specs.Took.{Took}
use Rattle.store_memory.proofs.AskedLaws.{asked_then, unless}
use Rattle.store_memory.proofs.MomentLaws.{timed_then}
use Rattle.store_memory.proofs.TellLaws.{tell_failed}
use Rattle.store_memory.proofs.store.MemStoreStore.rename_new.Goals as goal

pub returns-in-Ok-clause-moments : goal.returns-in-Ok-clause-moments
returns-in-Ok-clause-moments g c = timed_then _ _ _ _ _ _ c.begin.ensures.moments c.take.ensures.moments

pub returns-in-Ok-clause-asked : goal.returns-in-Ok-clause-asked
returns-in-Ok-clause-asked g c =
    asked_then (g.N.Neighbour.does c.args.self.now.neighbour c.args.self.now.history) _ _ _ _ _ c.take.result c.in_ok-fail.ensures.asked c.take.ensures.took

pub returns-in-Err-clause-moments : goal.returns-in-Err-clause-moments
returns-in-Err-clause-moments g c = timed_then _ _ _ _ _ _ c.begin.ensures.moments c.take.ensures.moments

pub returns-in-Err-clause-asked : goal.returns-in-Err-clause-asked
returns-in-Err-clause-asked g c =
    unless {T = Unit {0}} (Err c.in-Err.error) _
    (asked_then (g.N.Neighbour.does c.args.self.now.neighbour c.args.self.now.history) _ _ _ _ _ c.take.result c.in_ok-fail.ensures.asked c.take.ensures.took)

pub returns-in-Err-clause-took_as_planned : goal.returns-in-Err-clause-took_as_planned
returns-in-Err-clause-took_as_planned g c = λ failed.
    let allows = g.M.Manners.allows (g.N.Neighbour.manners c.args.self.now.neighbour) in
    let fail = fail_at c.args.self.now.fails c.args.self.now.calls in
    let reached = c.begin.new.store.history in
    let step : Step = Rename c.args.from.now c.args.to.now in
    let took : Took reached c.take.new.self.history (IsStepOrNone (takes_step fail true) step) = search rules in
    tell_failed allows c.args.self.now.history reached c.take.new.self.history fail (λ d. not (is_named d.files c.args.to.now)) step c.begin.ensures.acted (search rules) took
