-- What a store in memory adds to its history.
use Rattle.std.specs.Prelude.{◌≡◌, List}
use Rattle.ice_store.specs.History.{later}
use Rattle.ice_store.specs.declared.history.Event.{Event}
use Rattle.ice_store.specs.declared.history.Past.{Past}

-- the history has these events more, of which P holds
pub record Took (old new : Past) (P : List Event → Type 0) : Type 0 where
  pub ours : List Event
  pub is : new ≡ later old ours
  pub answer : P ours
