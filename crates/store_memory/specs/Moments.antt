-- The moments that events take.
use Rattle.std.specs.Prelude.{◌≡◌, ℕ, List, [], ◌∷◌}
use Rattle.ice_store.specs.History.{later}
use Rattle.ice_store.specs.declared.history.Event.{Event}
use Rattle.ice_store.specs.declared.history.Past.{Past}
use Rattle.store_memory.specs.Neighbours.{next_moment}

-- events take the moments from this one on, one after the other, and this is the next one behind them
abbrev pub TakeMoments : ℕ → List Event → ℕ → Type 0
TakeMoments ms [] next = next ≡ ms
TakeMoments ms (event ∷ events) next = (event.ms ≡ ms) × TakeMoments (next_moment ms) events next

-- the events that the new history has beyond the old one take the moments from this one on, and this is the next one
pub record Timed (old new : Past) (ms next : ℕ) : Type 0 where
  pub events : List Event
  pub is : new ≡ later old events
  pub moments : TakeMoments ms events next
