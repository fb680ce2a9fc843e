-- What a call adds to a history.
use Rattle.std.specs.Prelude.{◌≡◌, ℕ, ◌+◌, ◌<◌, false, List, [], ◌∷◌, Some}
use Rattle.ice_store.specs.Places.{Parts}
use Rattle.ice_store.specs.Files.{is_named}
use Rattle.ice_store.specs.History.{Disk, IsImage, replay, later}
use Rattle.ice_store.specs.Calls.{IsOpen}
use Rattle.ice_store.specs.declared.history.Event.{Event}
use Rattle.ice_store.specs.declared.history.FileRec.{FileRec}
use Rattle.ice_store.specs.declared.history.Past.{Past}
use Rattle.ice_store.specs.declared.history.Step.{Step}
use Rattle.ice_store.specs.declared.history.Step.TheVariants.{Create, Append, Seal, Rename, Remove, SyncNames}
use Rattle.ice_store.specs.declared.history.Who.{Who}
use Rattle.ice_store.specs.declared.history.Who.TheVariants.{Us, Them}
use Rattle.commit_history.specs.Readings.{Reading, Rules}
use Rattle.commit_history.specs.Tables.{version, sealed_at}
use Rattle.commit_history.specs.Commits.{standing, Reopens}
use Rattle.commit_history.specs.Steady.{IsSteady}

-- these steps with one before them, where it is of Us
abbrev pub ours_by : Who → Step → List Step → List Step
ours_by Us step steps = step ∷ steps
ours_by Them step steps = steps

-- the steps of Us
abbrev pub ours : List Event → List Step
ours [] = []
ours (event ∷ events) = ours_by event.who event.step (ours events)

-- K holds at first, and after each event
abbrev pub Along : (Past → Type 0) → Past → List Event → Type 0
Along K past [] = K past
Along K past (event ∷ events) = K past × Along K (later past (event ∷ [])) events

-- a proper step of Us: it creates only under a free name that is no version place, appends to and seals only an unsealed file of its own, renames and removes no version file,
-- and renames to a version place only where that is free and one above the version
abbrev pub IsProperStep : (Parts → ℕ) → Step → Disk → Type 0
IsProperStep number (Create place) d = (is_named d.files place ≡ false) × (number place ≡ 0)
IsProperStep number (Append place more) d = IsOpen d place × (number place ≡ 0)
IsProperStep number (Seal place) d = IsOpen d place × (number place ≡ 0)
IsProperStep number (Rename from to) d = (number from ≡ 0) × (0 < number to → (is_named d.files to ≡ false) × (number to ≡ version number d.files + 1))
IsProperStep number (Remove place) d = number place ≡ 0
IsProperStep number SyncNames d = Unit {0}

-- a step of Us is proper, and one of Them is allowed
abbrev pub IsProperBy : Rules → Who → Step → Past → Type 0
IsProperBy rules Us step past = IsProperStep rules.reading.number step (replay past)
IsProperBy rules Them step past = rules.allows past step

-- each step of Us is proper where it is taken, and each step of Them is allowed there
abbrev pub AllProper : Rules → Past → List Event → Type 0
AllProper rules past [] = Unit {0}
AllProper rules past (event ∷ events) = IsProperBy rules event.who event.step past × AllProper rules (later past (event ∷ [])) events

-- each image that a stop may leave here is whole, and its table is the last of a prefix of the commits with every acknowledged one
abbrev pub ImagesReopen : Reading → Past → Type 0
ImagesReopen reading past = (files : List FileRec) → IsImage (replay past) files → Reopens reading (standing reading.number past) files

-- a stop here is safe: the history is steady, and each image reopens
pub record IsSafe (reading : Reading) (past : Past) : Type 0 where
  pub steady : IsSteady reading past
  pub images : ImagesReopen reading past

-- a version file that was sealed keeps its bytes
abbrev pub KeepsVersions : Reading → Past → Past → Type 0
KeepsVersions reading old now = (place : Parts) (x : List ℕ) → 0 < reading.number place → sealed_at (replay old).files place ≡ Some x → sealed_at (replay now).files place ≡ Some x

-- from the old history to this one each step was proper or allowed, and those of Us were these; sealed version files stayed as they were; from a steady history each stop was safe; and now K holds
pub record Ran (rules : Rules) (Made : List Step → Type 0) (K : Past → Type 0) (old now : Past) : Type 0 where
  pub events : List Event
  pub is : now ≡ later old events
  pub proper : AllProper rules old events
  pub made : Made (ours events)
  pub stays : KeepsVersions rules.reading old now
  pub safe : IsSteady rules.reading old → Along (IsSafe rules.reading) old events
  pub stage : K now
