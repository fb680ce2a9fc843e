-- The events of a neighbour.
use Rattle.std.specs.Prelude.{◌≡◌, ℕ, ◌+◌, ◌-◌, ◌^◌, min, List, [], ◌∷◌, Option, Result, Ok, Err}
use Rattle.ice_store.specs.History.{later}
use Rattle.ice_store.specs.Others.{WhereTold}
use Rattle.ice_store.specs.declared.history.Event.{Event}
use Rattle.ice_store.specs.declared.history.Past.{Past}
use Rattle.ice_store.specs.declared.history.Step.{Step}
use Rattle.ice_store.specs.declared.history.Who.TheVariants.{Us, Them}
use Rattle.ice_store.specs.declared.store.StoreErr.{StoreErr}
use Rattle.ice_store.specs.declared.store.StoreErr.TheVariants.{Failed, Memory}

-- the moment after one, or the next count, which stands still at its type's end
abbrev pub next_moment : ℕ → ℕ
next_moment ms = min (ms + 1) (2 ^ 64 - 1)

-- steps of Them, from a moment on
abbrev pub by_them : ℕ → List Step → List Event
by_them ms [] = []
by_them ms (step ∷ steps) = record { who = Them; step = step; ms = ms } ∷ by_them (next_moment ms) steps

-- each of these is an event of Us
abbrev pub AreOurs : List Event → Type 0
AreOurs [] = Unit {0}
AreOurs (event ∷ events) = (event.who ≡ Us) × AreOurs events

-- the new history has these events beyond the old one, and then events of Us alone
pub record ThenOurs (old : Past) (theirs : List Event) (new : Past) : Type 0 where
  pub ours : List Event
  pub are_ours : AreOurs ours
  pub is : new ≡ later (later old theirs) ours

-- where a neighbour tells its steps, Them take exactly those, from this moment on, before any step of Us
abbrev pub Asked : Option (List Step) → ℕ → Past → Past → Type 0
Asked told ms old new = WhereTold told (λ steps. ThenOurs old (by_them ms steps) new)

-- this holds, unless memory lacked
abbrev pub UnlessMemory : {T : Type 0} → Result T StoreErr → Type 0 → Type 0
UnlessMemory (Ok value) P = P
UnlessMemory (Err Failed) P = P
UnlessMemory (Err Memory) P = Unit {0}
