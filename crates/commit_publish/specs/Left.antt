-- Which places steps of ours leave, and what a log says of them.
use Rattle.std.specs.Prelude.{◌≡◌, ◌⊎◌, ℕ, zero, suc, not, List, [], ◌∷◌, ◌++◌, filter, Option, Some}
use Rattle.ice_store.specs.Places.{Parts, same_place}
use Rattle.ice_store.specs.History.{later}
use Rattle.ice_store.specs.declared.history.Event.{Event}
use Rattle.ice_store.specs.declared.history.Failure.{Failure}
use Rattle.ice_store.specs.declared.history.StoreCall.{StoreCall}
use Rattle.ice_store.specs.declared.history.StoreCall.TheVariants.{Look, Take}
use Rattle.ice_store.specs.declared.history.Past.{Past}
use Rattle.ice_store.specs.declared.history.Step.{Step}
use Rattle.ice_store.specs.declared.history.Step.TheVariants.{Create, Append, Seal, Rename, Remove, SyncNames}
use Rattle.commit_history.specs.Runs.{ours}

-- these places without one
abbrev pub without_place : List Parts → Parts → List Parts
without_place places place = filter (λ p. not (same_place p place)) places

-- a file is renamed to a version: one that counts as committed takes its old place out
abbrev pub renamed_away : ℕ → List Parts → Parts → List Parts
renamed_away zero places from = places
renamed_away (suc count) places from = without_place places from

-- the places after a step: a creation adds its place, and a removal takes it out
abbrev pub places_after : ℕ → List Parts → Step → List Parts
places_after count places (Create place) = places ++ place ∷ []
places_after count places (Append place more) = places
places_after count places (Seal place) = places
places_after count places (Rename from to) = renamed_away count places from
places_after count places (Remove place) = without_place places place
places_after count places SyncNames = places

-- one less, and 0 of 0
abbrev pub one_less : ℕ → ℕ
one_less zero = zero
one_less (suc count) = count

-- how many renames still count as committed after a step
abbrev pub count_after : ℕ → Step → ℕ
count_after count (Create place) = count
count_after count (Append place more) = count
count_after count (Seal place) = count
count_after count (Rename from to) = one_less count
count_after count (Remove place) = count
count_after count SyncNames = count

-- with these places before: the places that steps created and neither removed nor renamed to a committed version, which are the first `count` to which they rename files
abbrev pub made_by : ℕ → List Parts → List Step → List Parts
made_by count places [] = places
made_by count places (step ∷ steps) = made_by (count_after count step) (places_after count places step) steps

-- the place that a step names, and that stands there though no step that was taken put it there
abbrev pub IsOfStep : Step → List Parts → Type 0
IsOfStep (Create place) more = more ≡ place ∷ []
IsOfStep (Append place bytes) more = ⊥
IsOfStep (Seal place) more = ⊥
IsOfStep (Rename from to) more = more ≡ to ∷ []
IsOfStep (Remove place) more = more ≡ place ∷ []
IsOfStep SyncNames more = ⊥

-- so for a call
abbrev pub IsOfCall : StoreCall → List Parts → Type 0
IsOfCall (Look place) more = ⊥
IsOfCall (Take step) more = IsOfStep step more

-- no further place; or, where the count of faults rose, the one that the failed call names, which is marked
abbrev pub IsMore : Type 0 → Option Failure → List Parts → Type 0
IsMore Risen mark more = (more ≡ []) ⊎ (Risen × ((failed : Failure) × (mark ≡ Some failed) × IsOfCall failed.call more))

-- the places that were left: those that the steps made and that still stand under their own names, and a further one only by a failure
pub record IsLeft (Risen : Type 0) (mark : Option Failure) (count : ℕ) (before : List Parts) (steps : List Step) (left : List Parts) : Type 0 where
  pub more : List Parts
  pub is : left ≡ made_by count before steps ++ more
  pub cause : IsMore Risen mark more

-- the steps of Us between two moments left these places
pub record Leaves (Risen : Type 0) (mark : Option Failure) (count : ℕ) (before left : List Parts) (old new : Past) : Type 0 where
  pub events : List Event
  pub is : new ≡ later old events
  pub places : IsLeft Risen mark count before (ours events) left
