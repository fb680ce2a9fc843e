-- The moments of events, one list after another.
use Rattle.std.proofs.Common.{◌≡◌, ℕ, List, [], ◌∷◌, ◌++◌, ap, ◌∙◌, subst}
use Rattle.ice_store.specs.History.{later}
use Rattle.ice_store.proofs.HistoryLaws.{later-later}
use Rattle.ice_store.specs.declared.history.Event.{Event}
use Rattle.ice_store.specs.declared.history.Past.{Past}
use Rattle.store_memory.specs.Neighbours.{next_moment}
use Rattle.store_memory.specs.Moments.{TakeMoments, Timed}

joined : (ms mid next : ℕ) (es fs : List Event) → TakeMoments ms es mid → TakeMoments mid fs next → TakeMoments ms (es ++ fs) next
joined ms mid next [] fs h k = subst (λ (m : ℕ). TakeMoments m fs next) h k
joined ms mid next (e ∷ es) fs h k = (h.0, joined (next_moment ms) mid next es fs h.1 k)

-- one event
pub timed_one : (old new : Past) (ms next : ℕ) (event : Event) → new ≡ later old (event ∷ []) → event.ms ≡ ms → next ≡ next_moment ms → Timed old new ms next
timed_one old new ms next event is at behind = record { events = event ∷ []; is = is; moments = (at, behind) }

-- and further ones
pub timed_then : (a b c : Past) (i j k : ℕ) → Timed a b i j → Timed b c j k → Timed a c i k
timed_then a b c i j k h g = record {
  events = h.events ++ g.events;
  is = g.is ∙ ap (λ (p : Past). later p g.events) h.is ∙ later-later a h.events g.events;
  moments = joined i j k h.events g.events h.moments g.moments;
}
