-- The commits of a history, and which of them are acknowledged.
use Rattle.std.specs.Prelude.{◌≡◌, ℕ, zero, suc, Bool, true, false, ◌||◌, List, [], ◌∷◌, ◌++◌, take, map, Option, if◌then◌else◌}
use Rattle.ice_store.specs.Places.{Parts}
use Rattle.ice_store.specs.History.{Disk, disk_after, base_from, durable}
use Rattle.ice_store.specs.declared.history.Event.{Event}
use Rattle.ice_store.specs.declared.history.FileRec.{FileRec}
use Rattle.ice_store.specs.declared.history.Held.{Held}
use Rattle.ice_store.specs.declared.history.Past.{Past}
use Rattle.ice_store.specs.declared.history.Step.{Step}
use Rattle.ice_store.specs.declared.history.Step.TheVariants.{Create, Append, Seal, Rename, Remove, SyncNames}
use Rattle.ice_store.specs.declared.history.Who.{Who}
use Rattle.ice_store.specs.declared.history.Who.TheVariants.{Us, Them}
use Rattle.commit_history.specs.Readings.{Reading}
use Rattle.commit_history.specs.Tables.{table, Whole}

-- the tables of a row of versions: of each its bytes, or none
abbrev pub Tables : Type 0
Tables = List (Option (List ℕ))

-- a rename to a place of this number commits the table that then stands, where the place is a version place
abbrev pub commit_to : (Parts → ℕ) → ℕ → List Held → Tables
commit_to number zero files = []
commit_to number (suc n) files = table number files ∷ []

-- what a step commits, with these files after it: only a rename commits
abbrev pub commit_of : (Parts → ℕ) → Step → List Held → Tables
commit_of number (Create place) files = []
commit_of number (Append place more) files = []
commit_of number (Seal place) files = []
commit_of number (Rename from to) files = commit_to number (number to) files
commit_of number (Remove place) files = []
commit_of number SyncNames files = []

-- whether a step makes all changes of names durable
abbrev pub is_sync : Step → Bool
is_sync (Create place) = false
is_sync (Append place more) = false
is_sync (Seal place) = false
is_sync (Rename from to) = false
is_sync (Remove place) = false
is_sync SyncNames = true

-- a sync of Us and each step of Them acknowledge all commits before them
abbrev pub settles : Who → Step → Bool
settles Us step = is_sync step
settles Them step = true

-- By what follows each commit.

-- a commit's table, and whether the commit is acknowledged
pub record Commit : Type 0 where
  pub table : Option (List ℕ)
  pub is_acknowledged : Bool

-- whether others take a step
abbrev pub is_them : Who → Bool
is_them Us = false
is_them Them = true

-- a sync of Us or a step of Them is among these
abbrev pub some_settles : List Event → Bool
some_settles [] = false
some_settles (event ∷ events) = settles event.who event.step || some_settles events

-- these tables as commits, all of them acknowledged or none
abbrev pub commits_by : Bool → Tables → List Commit
commits_by acknowledged [] = []
commits_by acknowledged (t ∷ ts) = record { table = t; is_acknowledged = acknowledged } ∷ commits_by acknowledged ts

-- the commits of one event, with these behind it
abbrev pub commits_at : (Parts → ℕ) → Disk → Event → List Event → List Commit
commits_at number d event events = commits_by (is_them event.who || some_settles events) (commit_of number event.step (disk_after d event).files)

-- the commits of these events: one is acknowledged where it is of Them, or where a sync of Us or a step of Them follows it
abbrev pub commits_from : (Parts → ℕ) → Disk → List Event → List Commit
commits_from number d [] = []
commits_from number d (event ∷ events) = commits_at number d event events ++ commits_from number (disk_after d event) events

-- the tables of commits
abbrev pub tables_of : List Commit → Tables
tables_of [] = []
tables_of (c ∷ cs) = c.table ∷ tables_of cs

-- the tables of those that aren't acknowledged
abbrev pub open_of : List Commit → Tables
open_of [] = []
open_of (c ∷ cs) = if c.is_acknowledged then open_of cs else c.table ∷ open_of cs

-- As the events go by.

-- what stands, and the commits in order: first the acknowledged ones, then the open ones
pub record Standing : Type 0 where
  pub disk : Disk
  pub acknowledged : Tables
  pub unacknowledged : Tables

-- the tables of all commits, in order
abbrev pub all_tables : Standing → Tables
all_tables s = s.acknowledged ++ s.unacknowledged

-- what stands once all commits are acknowledged, or none of the open ones
abbrev pub standing_by : Bool → Disk → Tables → Tables → Standing
standing_by true disk acknowledged unacknowledged = record { disk = disk; acknowledged = acknowledged ++ unacknowledged; unacknowledged = [] }
standing_by false disk acknowledged unacknowledged = record { disk = disk; acknowledged = acknowledged; unacknowledged = unacknowledged }

-- what stands after one event more
abbrev pub standing_after : (Parts → ℕ) → Standing → Event → Standing
standing_after number s event = standing_by (settles event.who event.step) (disk_after s.disk event) s.acknowledged (s.unacknowledged ++ commit_of number event.step (disk_after s.disk event).files)

-- what stands after these events
abbrev pub standing_from : (Parts → ℕ) → Standing → List Event → Standing
standing_from number s [] = s
standing_from number s (event ∷ events) = standing_from number (standing_after number s event) events

-- what stands before any event: the base's table is an acknowledged commit
abbrev pub at_first : (Parts → ℕ) → List Held → Standing
at_first number files = record { disk = record { files = files; pending = [] }; acknowledged = table number files ∷ []; unacknowledged = [] }

-- the files and no pending change that a history begins with
abbrev pub first_disk : Past → Disk
first_disk past = record { files = base_from [] past.base; pending = [] }

-- the commits of a history
abbrev pub commits_in : (Parts → ℕ) → Past → List Commit
commits_in number past = commits_from number (first_disk past) past.events

-- what a history leaves, with its commits: the base's table is the first of them, and it is acknowledged
abbrev pub standing : (Parts → ℕ) → Past → Standing
standing number past = standing_from number (at_first number (base_from [] past.base)) past.events

-- these tables end with this one
pub record IsLast (tables : Tables) (last : Option (List ℕ)) : Type 0 where
  pub before : Tables
  pub is : tables ≡ before ++ last ∷ []

-- the files of a map that was found after a stop: all of them are durable
abbrev pub found : List FileRec → List Held
found files = map durable files

-- such a map is whole, and its table is the last of a prefix of the commits that holds every acknowledged one
pub record Reopens (reading : Reading) (s : Standing) (files : List FileRec) : Type 0 where
  pub whole : Whole reading (found files)
  pub count : ℕ
  pub last : IsLast (s.acknowledged ++ take count s.unacknowledged) (table reading.number (found files))
