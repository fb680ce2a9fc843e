-- Events of ours behind the steps of a neighbour that was asked.
use Rattle.std.proofs.Common.{◌≡◌, inl, inr, ℕ, List, [], ◌∷◌, ◌++◌, Option, Some, None, Ok, Err, Result, refl, sym, ap, ◌∙◌, subst}
use Rattle.ice_store.specs.Calls.{StepAnswer}
use Rattle.ice_store.specs.History.{later}
use Rattle.ice_store.specs.Others.{IsOurs}
use Rattle.ice_store.proofs.HistoryLaws.{later-later}
use Rattle.ice_store.specs.declared.history.Event.{Event}
use Rattle.ice_store.specs.declared.history.Past.{Past}
use Rattle.ice_store.specs.declared.history.Step.{Step}
use Rattle.ice_store.specs.declared.store.StoreErr.{StoreErr}
use Rattle.ice_store.specs.declared.store.StoreErr.TheVariants.{Failed, Memory}
use Rattle.store_memory.specs.Neighbours.{by_them, AreOurs, Asked, UnlessMemory}
use Rattle.store_memory.specs.Took.{Took}

AreOurs-append : (es fs : List Event) → AreOurs es → AreOurs fs → AreOurs (es ++ fs)
AreOurs-append [] fs h k = k
AreOurs-append (e ∷ es) fs h k = (h.0, AreOurs-append es fs h.1 k)

none_ours : (ours : List Event) → ours ≡ [] → AreOurs ours
none_ours ours is = subst AreOurs (sym is) tt

one_ours : (step : Step) (ours : List Event) → IsOurs step ours → AreOurs ours
one_ours step ours is = subst AreOurs (sym is.1) (refl, tt)

step_ours : (step : Step) (result : Result (Unit {0}) StoreErr) (ours : List Event) → StepAnswer step result ours → AreOurs ours
step_ours step (Ok u) ours h = one_ours step ours h
step_ours step (Err Failed) ours (inl h) = none_ours ours h
step_ours step (Err Failed) ours (inr h) = one_ours step ours h
step_ours step (Err Memory) ours h = none_ours ours h

pub asked_then : (told : Option (List Step)) (ms : ℕ) (old reached new : Past) (step : Step) (result : Result (Unit {0}) StoreErr) → Asked told ms old reached → Took reached new (StepAnswer step result) → Asked told ms old new
asked_then None ms old reached new step result h took = tt
asked_then (Some all) ms old reached new step result h took = record {
  ours = h.ours ++ took.ours;
  are_ours = AreOurs-append h.ours took.ours h.are_ours (step_ours step result took.ours took.answer);
  is = took.is ∙ ap (λ (p : Past). later p took.ours) h.is ∙ later-later (later old (by_them ms all)) h.ours took.ours;
}

pub unless : {T : Type 0} (result : Result T StoreErr) (P : Type 0) → P → UnlessMemory result P
unless (Ok value) P p = p
unless (Err Failed) P p = p
unless (Err Memory) P p = tt
