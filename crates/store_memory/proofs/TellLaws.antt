-- What a call tells, from what its step did.
use Rattle.std.proofs.Common.{◌≡◌, inl, inr, ℕ, Bool, true, List, length, Option, Some, Ok, Err, Result, sym, ap, subst, arith}
use Rattle.std.proofs.lemmas.List.{take_all}
use Rattle.ice_store.specs.Places.{Parts}
use Rattle.ice_store.specs.History.{Disk, replay}
use Rattle.ice_store.specs.Others.{Acted, Answered, IsOurs}
use Rattle.ice_store.specs.Calls.{StepAnswer, AppendAnswer}
use Rattle.store_memory.specs.Failing.{takes_step, IsStepOrNone}
use Rattle.store_memory.specs.Took.{Took}
use Rattle.ice_store.specs.declared.history.Event.{Event}
use Rattle.ice_store.specs.declared.history.Past.{Past}
use Rattle.ice_store.specs.declared.history.Step.{Step}
use Rattle.ice_store.specs.declared.history.Step.TheVariants.{Append}
use Rattle.ice_store.specs.declared.store.StoreErr.{StoreErr}
use Rattle.ice_store.specs.declared.store.StoreErr.TheVariants.{Failed, Memory}

pub tell : (allows : Past → Step → Type 0) (old reached new : Past) (Q : List Event → Type 0) (P : Disk → List Event → Type 0) → Acted allows old reached → Took reached new Q
    → ((ours : List Event) → Q ours → P (replay reached) ours) → Answered allows old (Some new) P
tell allows old reached new Q P acted took turn = record { reached = reached; acted = acted; ours = took.ours; answer = turn took.ours took.answer; told = ap (λ (p : Past). Some p) took.is }

pub append_answer : (p : Parts) (bytes : List ℕ) (r : Result (Unit {0}) StoreErr) (d : Disk) (ours : List Event) → StepAnswer (Append p bytes) r ours → AppendAnswer p bytes r d ours
append_answer p bytes (Ok u) d ours h = h
append_answer p bytes (Err Failed) d ours (inl none) = inl none
append_answer p bytes (Err Failed) d ours (inr one) = inr (length bytes, subst (λ (l : List ℕ). IsOurs (Append p l) ours) (sym (take_all (length bytes) bytes (omega arith))) one)
append_answer p bytes (Err Memory) d ours h = h

-- a planned failure where the state lets the step take place
pub tell_failed : (allows : Past → Step → Type 0) (old reached new : Past) (fail : Option Bool) (lets : Disk → Bool) (step : Step) → Acted allows old reached → lets (replay reached) ≡ true
    → Took reached new (IsStepOrNone (takes_step fail true) step) → Answered allows old (Some new) (λ d ours. IsStepOrNone (takes_step fail (lets d)) step ours)
tell_failed allows old reached new fail lets step acted lets_it took =
    tell allows old reached new (IsStepOrNone (takes_step fail true) step) (λ d ours. IsStepOrNone (takes_step fail (lets d)) step ours) acted took
    (λ ours h. subst (λ (b : Bool). IsStepOrNone (takes_step fail b) step ours) (sym lets_it) h)
