-- What the writers of a table may do, and what a procedure needs of them.
use Rattle.std.specs.Prelude.{◌≡◌, ◌⊎◌, ℕ, ◌+◌, ◌<◌, Bool, true, false, List, Some}
use Rattle.ice_store.specs.Places.{Parts}
use Rattle.ice_store.specs.Files.{find, is_named, renamed}
use Rattle.ice_store.specs.History.{replay, files_after}
use Rattle.ice_store.specs.declared.history.Held.{Held}
use Rattle.ice_store.specs.declared.history.Past.{Past}
use Rattle.ice_store.specs.declared.history.Step.{Step}
use Rattle.ice_store.specs.declared.history.Step.TheVariants.{Create, Append, Seal, Rename, Remove, SyncNames}
use Rattle.ice_store.specs.declared.history.Who.TheVariants.{Us, Them}
use Rattle.commit_history.specs.Readings.{Reading, Rules}
use Rattle.commit_history.specs.Tables.{Whole, IsOutside, version, sealed_at}
use Rattle.commit_history.specs.Steady.{IsSteady, with_theirs}

-- a file that they made
pub record IsTheirs (files : List Held) (place : Parts) (is_sealed : Bool) : Type 0 where
  pub file : Held
  pub stands : find files place ≡ Some file
  pub theirs : file.maker ≡ Some Them
  pub sealed_is : file.is_sealed ≡ is_sealed

-- a publish of the next version, which leaves a whole map whole
pub record IsNext (reading : Reading) (files : List Held) (from to : Parts) : Type 0 where
  pub source : IsTheirs files from true
  pub plain : reading.number from ≡ 0
  pub free : is_named files to ≡ false
  pub next : reading.number to ≡ version reading.number files + 1
  pub whole : Whole reading files → Whole reading (renamed from to files)

-- the files that a history leaves
abbrev pub files_of : Past → List Held
files_of past = (replay past).files

-- the files after one step more, of Them
abbrev pub files_with : Past → Step → ℕ → List Held
files_with past step ms = files_after (files_of past) step Them ms

-- a file of theirs, sealed or not, that is no version file and out of the reach
abbrev pub IsRemovable : Reading → List Held → Parts → Type 0
IsRemovable reading files place = ((held : Held) × (find files place ≡ Some held) × (held.maker ≡ Some Them)) × IsOutside reading files place

-- what other writers of a table may do: make files of their own under free names, remove those of them that are out of the reach, and publish next versions
abbrev pub AllowsStep : Reading → Past → Step → Type 0
AllowsStep reading past (Create place) = (is_named (files_of past) place ≡ false) × (reading.number place ≡ 0)
AllowsStep reading past (Append place more) = IsTheirs (files_of past) place false
AllowsStep reading past (Seal place) = IsTheirs (files_of past) place false
AllowsStep reading past (Rename from to) = IsNext reading (files_of past) from to
AllowsStep reading past (Remove place) = IsRemovable reading (files_of past) place
AllowsStep reading past SyncNames = ⊥

-- a reading, where others may take the steps of a table's writers
abbrev pub with_writers : Reading → Rules
with_writers reading = record { reading = reading; allows = AllowsStep reading }

-- a reading, where nobody else acts
abbrev pub with_nobody : Reading → Rules
with_nobody reading = record { reading = reading; allows = λ past step. ⊥ }

-- a version stays, or is the next one
abbrev pub IsSameOrNext : ℕ → ℕ → Type 0
IsSameOrNext before now = (now ≡ before) ⊎ (now ≡ before + 1)

-- what a procedure needs of others: each of their steps keeps a history steady, publishes the next version at most, keeps the version files and their bytes, and leaves the files of Us alone
pub record IsMannered (rules : Rules) : Type 0 where
  pub keeps : (past : Past) (step : Step) (t : ℕ) → rules.allows past step → IsSteady rules.reading past → IsSteady rules.reading (with_theirs past step t)
  pub rises : (past : Past) (step : Step) (t : ℕ) → rules.allows past step → IsSameOrNext (version rules.reading.number (files_of past)) (version rules.reading.number (files_with past step t))
  pub stays : (past : Past) (step : Step) (t : ℕ) (q : Parts) → rules.allows past step → 0 < rules.reading.number q → is_named (files_of past) q ≡ true → is_named (files_with past step t) q ≡ true
  pub bytes : (past : Past) (step : Step) (t : ℕ) (q : Parts) (x : List ℕ) → rules.allows past step → 0 < rules.reading.number q → sealed_at (files_of past) q ≡ Some x → sealed_at (files_with past step t) q ≡ Some x
  pub spares : (past : Past) (step : Step) (t : ℕ) (q : Parts) (h : Held) → rules.allows past step → find (files_of past) q ≡ Some h → h.maker ≡ Some Us → find (files_with past step t) q ≡ Some h
