-- Steady histories: whole, with the last commit's table, and few kinds of pending name changes.
use Rattle.std.specs.Prelude.{◌≡◌, ◌⊎◌, ℕ, ◌+◌, false, List, [], ◌∷◌, ◌++◌, Some}
use Rattle.ice_store.specs.Places.{Parts}
use Rattle.ice_store.specs.Files.{find, is_named, renamed}
use Rattle.ice_store.specs.History.{Disk, later}
use Rattle.ice_store.specs.declared.history.NameChange.{NameChange}
use Rattle.ice_store.specs.declared.history.NameChange.TheVariants.{Created, Renamed, Removed}
use Rattle.ice_store.specs.declared.history.Held.{Held}
use Rattle.ice_store.specs.declared.history.Past.{Past}
use Rattle.ice_store.specs.declared.history.Step.{Step}
use Rattle.ice_store.specs.declared.history.Step.TheVariants.{Create, Append, Seal, Rename, Remove, SyncNames}
use Rattle.ice_store.specs.declared.history.Who.TheVariants.{Us, Them}
use Rattle.commit_history.specs.Readings.{Reading}
use Rattle.commit_history.specs.Tables.{Whole, table, version, IsOutside}
use Rattle.commit_history.specs.Commits.{Standing, Tables, IsLast, all_tables, standing}

-- a creation of a place that is neither a version place nor reached
abbrev pub IsFreshChange : Reading → List Held → NameChange → Type 0
IsFreshChange reading files (Created place) = IsOutside reading files place
IsFreshChange reading files (Renamed from to) = ⊥
IsFreshChange reading files (Removed held) = ⊥

-- a removal of such a place
abbrev pub IsOldChange : Reading → List Held → NameChange → Type 0
IsOldChange reading files (Created place) = ⊥
IsOldChange reading files (Renamed from to) = ⊥
IsOldChange reading files (Removed held) = IsOutside reading files held.place

-- each of these changes is of this kind
abbrev pub Each : (NameChange → Type 0) → List NameChange → Type 0
Each P [] = Unit {0}
Each P (change ∷ changes) = P change × Each P changes

-- the one pending change is the rename of the last commit; with it undone the map is whole and has the table of the commit before
pub record IsOneRename (reading : Reading) (s : Standing) : Type 0 where
  pub from : Parts
  pub to : Parts
  pub pending : s.disk.pending ≡ Renamed from to ∷ []
  pub whole : Whole reading (renamed to from s.disk.files)
  pub before : Tables
  pub is : s.unacknowledged ≡ before ++ table reading.number s.disk.files ∷ []
  pub last : IsLast (s.acknowledged ++ before) (table reading.number (renamed to from s.disk.files))

-- all that is pending are such creations
abbrev pub IsOnlyFresh : Reading → Disk → Type 0
IsOnlyFresh reading d = Each (IsFreshChange reading d.files) d.pending

-- all that is pending are such removals
abbrev pub IsOnlyOld : Reading → Disk → Type 0
IsOnlyOld reading d = Each (IsOldChange reading d.files) d.pending

-- what stands is whole and has the last commit's table, and what is pending has one of three forms: nothing pending is both of the first two
pub record Steady (reading : Reading) (s : Standing) : Type 0 where
  pub whole : Whole reading s.disk.files
  pub last : IsLast (all_tables s) (table reading.number s.disk.files)
  pub form : IsOnlyFresh reading s.disk ⊎ (IsOnlyOld reading s.disk ⊎ IsOneRename reading s)

-- a history is steady
abbrev pub IsSteady : Reading → Past → Type 0
IsSteady reading past = Steady reading (standing reading.number past)

-- a history after a step of Us
abbrev pub with_ours : Past → Step → ℕ → Past
with_ours past step ms = later past (record { who = Us; step = step; ms = ms } ∷ [])

-- a history after a step of Them
abbrev pub with_theirs : Past → Step → ℕ → Past
with_theirs past step ms = later past (record { who = Them; step = step; ms = ms } ∷ [])

-- a file that isn't sealed stands at a place
pub record IsUnsealed (files : List Held) (place : Parts) : Type 0 where
  pub file : Held
  pub stands : find files place ≡ Some file
  pub raw : file.is_sealed ≡ false

-- a rename of the next version, which makes a whole map, while nothing is pending
pub record IsNextRename (reading : Reading) (from to : Parts) (d : Disk) : Type 0 where
  pub at_rest : d.pending ≡ []
  pub file : Held
  pub stands : find d.files from ≡ Some file
  pub free : is_named d.files to ≡ false
  pub next : reading.number to ≡ version reading.number d.files + 1
  pub whole : Whole reading (renamed from to d.files)

-- the steps of Us that keep a history steady, each under its condition
abbrev pub IsSteadyStep : Reading → Step → Disk → Type 0
IsSteadyStep reading (Create place) d = IsOnlyFresh reading d × (is_named d.files place ≡ false) × (reading.number place ≡ 0)
IsSteadyStep reading (Append place more) d = IsOnlyFresh reading d × IsUnsealed d.files place
IsSteadyStep reading (Seal place) d = IsOnlyFresh reading d × IsUnsealed d.files place
IsSteadyStep reading (Rename from to) d = IsNextRename reading from to d
IsSteadyStep reading (Remove place) d = IsOnlyOld reading d × IsOutside reading d.files place
IsSteadyStep reading SyncNames d = Unit {0}

-- a step of Us keeps a history steady, whenever it is taken
abbrev pub KeepsSteady : Reading → Past → Step → Type 0
KeepsSteady reading past step = (ms : ℕ) → IsSteady reading past → IsSteady reading (with_ours past step ms)
