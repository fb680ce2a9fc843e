-- Which calls of a store in memory fail.
use Rattle.std.specs.Prelude.{◌≡◌, ℕ, Bool, true, false, not, List, [], ◌∷◌, Option, Some, None, IsSome, Result, Ok, Err, IsErrOf, if◌then◌else◌, nat_eq}
use Rattle.ice_store.specs.Places.{Parts}
use Rattle.ice_store.specs.Files.{is_named}
use Rattle.ice_store.specs.History.{Disk}
use Rattle.ice_store.specs.Others.{Answered, IsOurs}
use Rattle.ice_store.specs.declared.history.Event.{Event}
use Rattle.ice_store.specs.declared.history.Past.{Past}
use Rattle.ice_store.specs.declared.history.Step.{Step}
use Rattle.ice_store.specs.declared.history.Step.TheVariants.{Create, Rename, Remove}
use Rattle.store_memory.specs.declared.store.FailAt.{FailAt}
use Rattle.ice_store.specs.declared.store.StoreErr.{StoreErr}
use Rattle.ice_store.specs.declared.store.StoreErr.TheVariants.{Failed, Memory}

-- whether the call with this number fails, and then whether its step takes place; the first item of a call counts
abbrev pub fail_at : List FailAt → ℕ → Option Bool
fail_at [] call = None
fail_at (fail ∷ fails) call = if nat_eq fail.call call then Some fail.took else fail_at fails call

-- a call fails where that is planned, and no other does
abbrev pub AsPlanned : {T : Type 0} → Option Bool → Result T StoreErr → Type 0
AsPlanned fail (Ok value) = fail ≡ None
AsPlanned fail (Err Failed) = IsSome fail
AsPlanned fail (Err Memory) = Unit {0}

-- whether the step of a planned failure takes place: where that is planned, and the state lets it
abbrev pub takes_step : Option Bool → Bool → Bool
takes_step None lets = false
takes_step (Some took) lets = if lets then took else false

-- one event of ours, of this step, or none
abbrev pub IsStepOrNone : Bool → Step → List Event → Type 0
IsStepOrNone true step ours = IsOurs step ours
IsStepOrNone false step ours = ours ≡ []

-- what a planned failure of a creation does: the place must not be named
abbrev pub FailedCreate : Option Bool → Parts → Disk → List Event → Type 0
FailedCreate fail place d ours = IsStepOrNone (takes_step fail (not (is_named d.files place))) (Create place) ours

-- of a rename: the second place must not be named
abbrev pub FailedRename : Option Bool → Parts → Parts → Disk → List Event → Type 0
FailedRename fail from to d ours = IsStepOrNone (takes_step fail (not (is_named d.files to))) (Rename from to) ours

-- of a removal: the place must be named
abbrev pub FailedRemove : Option Bool → Parts → Disk → List Event → Type 0
FailedRemove fail place d ours = IsStepOrNone (takes_step fail (is_named d.files place)) (Remove place) ours

-- of a step that no state stands against
abbrev pub FailedStep : Option Bool → Step → Disk → List Event → Type 0
FailedStep fail step d ours = IsStepOrNone (takes_step fail true) step ours

-- where a call failed, others had acted, and of the state that it met and its events this holds
abbrev pub IfFailed : {T : Type 0} → Result T StoreErr → (Past → Step → Type 0) → Past → Past → (Disk → List Event → Type 0) → Type 0
IfFailed result allows old new P = IsErrOf result Failed → Answered allows old (Some new) P
