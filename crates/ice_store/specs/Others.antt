-- Others act between two calls, as their manners allow.
use Rattle.std.specs.Prelude.{◌≡◌, ℕ, List, [], ◌∷◌, Option, Some, None}
use Rattle.ice_store.specs.History.{Disk, later, replay}
use Rattle.ice_store.specs.declared.history.Event.{Event}
use Rattle.ice_store.specs.declared.history.Past.{Past}
use Rattle.ice_store.specs.declared.history.Step.{Step}
use Rattle.ice_store.specs.declared.history.Who.TheVariants.{Us, Them}

-- each of these is a step of Them, allowed after the ones before it
abbrev pub Allowed : (Past → Step → Type 0) → Past → List Event → Type 0
Allowed allows past [] = Unit {0}
Allowed allows past (event ∷ events) = (event.who ≡ Them) × allows past event.step × Allowed allows (later past (event ∷ [])) events

-- others have acted, as they may
pub record Acted (allows : Past → Step → Type 0) (old new : Past) : Type 0 where
  pub theirs : List Event
  pub allowed : Allowed allows old theirs
  pub is : new ≡ later old theirs

-- a fact of the past, where it is told
abbrev pub WhereTold : {A : Type 0} → Option A → (A → Type 0) → Type 0
WhereTold None P = Unit {0}
WhereTold (Some told) P = P told

-- a fact about what is there, whatever others do meanwhile
abbrev pub Stands : (Past → Step → Type 0) → Option Past → (Disk → Type 0) → Type 0
Stands allows told P = WhereTold told (λ old. (reached : Past) → Acted allows old reached → P (replay reached))

-- what a call tells: others act, and then it answers by what is there, with these events of ours
pub record Answered (allows : Past → Step → Type 0) (old : Past) (new : Option Past) (P : Disk → List Event → Type 0) : Type 0 where
  pub reached : Past
  pub acted : Acted allows old reached
  pub ours : List Event
  pub answer : P (replay reached) ours
  pub told : new ≡ Some (later reached ours)

-- a past that is told stays told, and one that isn't stays untold
abbrev pub Answers : (Past → Step → Type 0) → Option Past → Option Past → (Disk → List Event → Type 0) → Type 0
Answers allows None new P = new ≡ None
Answers allows (Some old) new P = Answered allows old new P

-- one event of ours
abbrev pub IsOurs : Step → List Event → Type 0
IsOurs step events = (ms : ℕ) × (events ≡ record { who = Us; step = step; ms = ms } ∷ [])
