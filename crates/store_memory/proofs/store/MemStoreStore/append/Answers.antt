use Rattle.std.proofs.Common.{ℕ, List, subst}
use Rattle.ice_store.specs.Places.{Parts}
use Rattle.ice_store.specs.History.{replay}
use Rattle.ice_store.specs.Calls.{StepAnswer, AppendAnswer}
use Rattle.ice_store.specs.declared.history.Step.TheVariants.{Append}
use Rattle.store_memory.proofs.AskedLaws.{asked_then, unless}
use Rattle.store_memory.proofs.MomentLaws.{timed_then}
use Rattle.store_memory.proofs.TellLaws.{tell, append_answer}
use Rattle.store_memory.proofs.store.MemStoreStore.append.Goals as goal

pub returns-clause-told : goal.returns-clause-told
returns-clause-told g c =
    let allows = g.M.Manners.allows (g.N.Neighbour.manners c.args.self.now.neighbour) in
    let reached = c.begin.new.store.history in
    tell allows c.args.self.now.history reached c.take.new.self.history (StepAnswer (Append c.in_ok-copy.field-0 c.in_ok-bytes.bytes) c.take.result) (AppendAnswer c.args.place.now c.args.bytes.now c.take.result)
    c.begin.ensures.acted c.take.ensures.took
    (λ ours h. append_answer c.args.place.now c.args.bytes.now c.take.result (replay reached) ours
    (subst (λ (b : List ℕ). StepAnswer (Append c.args.place.now b) c.take.result ours) c.in_ok-bytes.ensures (subst (λ (q : Parts). StepAnswer (Append q c.in_ok-bytes.bytes) c.take.result ours) c.in_ok-copy.ensures h)))

pub returns-clause-moments : goal.returns-clause-moments
returns-clause-moments g c = timed_then _ _ _ _ _ _ c.begin.ensures.moments c.take.ensures.moments

pub returns-clause-asked : goal.returns-clause-asked
returns-clause-asked g c =
    unless c.take.result _
    (asked_then (g.N.Neighbour.does c.args.self.now.neighbour c.args.self.now.history) _ _ _ _ _ c.take.result c.in_ok-fail.ensures.asked c.take.ensures.took)
