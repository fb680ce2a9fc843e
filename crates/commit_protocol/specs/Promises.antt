-- What a commit promises of a history: what every stop leaves, and that a published version is a successor of the one before it.
use Rattle.std.specs.Prelude.{◌≡◌, ℕ, ◌+◌, ◌<◌, ◌≤◌, List, [], ◌∷◌, ◌++◌, take, length, Option, Some, None, Result, Ok, Err}
use Rattle.serde_json.specs.Data.{Data}
use Rattle.serde_json.specs.View.{view}
use Rattle.serde_json.specs.Written.{compact_text}
use Rattle.ice_store.specs.Places.{Parts}
use Rattle.ice_store.specs.History.{IsImage, replay, later}
use Rattle.ice_store.specs.declared.history.Event.{Event}
use Rattle.ice_store.specs.declared.history.FileRec.{FileRec}
use Rattle.ice_store.specs.declared.history.Past.{Past}
use Rattle.commit_history.specs.Tables.{Whole, version, table as table_in}
use Rattle.commit_history.specs.Versions.{number_in}
use Rattle.commit_history.specs.Commits.{Tables, IsLast, standing, found}
use Rattle.commit_history.specs.Steady.{IsSteady}
use Rattle.table_metadata.specs.Spelling.{Spells}
use Rattle.commit_publish.specs.Stages.{Holds}
use Rattle.commit_versions.specs.Opening.{file_limit, version_limit}
use Rattle.commit_versions.specs.declared.types.OpenErr.TheVariants.{NoTable}
use Rattle.commit_protocol.specs.Attempts.{IsNextOf}
use Rattle.commit_protocol.specs.Metadata.{metadata_reading}
use Rattle.commit_protocol.specs.Verdicts.{IsTable, OpenVerdict, IsOpeningTold}
use Rattle.commit_protocol.specs.declared.opening.At.{At}
use Rattle.commit_versions.specs.declared.types.OpenErr.{OpenErr}
use Rattle.commit_protocol.specs.declared.errors.CommitErr.{CommitErr}
use Rattle.commit_protocol.specs.declared.errors.Committed.{Committed}
use Rattle.commit_protocol.specs.declared.errors.Committed.TheVariants.{Same, Published}

-- Successors.

-- the version is one above the last one, its metadata is a successor of the last version's, and where the history was steady it stands right behind it among the acknowledged commits
pub record Succession (successor : Data → Data → Type 0) (table : Parts) (now v : ℕ) (old new : Past) : Type 0 where
  pub place : Parts
  pub last : ℕ
  pub text : List ℕ
  pub tree : Data
  pub base : IsTable table (replay old).files place last text tree
  pub version : v ≡ last + 1
  pub bytes : List ℕ
  pub next : Data
  pub next_is : IsNextOf successor last now tree next
  pub written : bytes ≡ compact_text next
  pub spells : Spells bytes next
  pub short : length bytes ≤ file_limit
  pub acknowledged : Holds (standing (number_in table) new).acknowledged (Some bytes ∷ [])
  pub behind : IsSteady (metadata_reading table) old → Holds (standing (number_in table) new).acknowledged (Some text ∷ Some bytes ∷ [])

-- a version that a commit published is a successor of the one before it
abbrev pub Succeeds : (Data → Data → Type 0) → Parts → ℕ → Result Committed CommitErr → Past → Past → Type 0
Succeeds successor table now (Ok (Same v)) old new = Unit {0}
Succeeds successor table now (Ok (Published v)) old new = Succession successor table now v old new
Succeeds successor table now (Err e) old new = Unit {0}

-- Stops.

-- all commits of a history, in order
abbrev pub all_commits : Parts → Past → Tables
all_commits table past = (standing (number_in table) past).acknowledged ++ (standing (number_in table) past).unacknowledged

-- its acknowledged commits, and so many of those that aren't
abbrev pub kept_commits : Parts → Past → ℕ → Tables
kept_commits table past count = (standing (number_in table) past).acknowledged ++ take count (standing (number_in table) past).unacknowledged

-- a premise of what is promised of stops: the map is whole, its table is the last of the commits, and no name change of Us is pending
pub record IsWholeAt (table : Parts) (past : Past) : Type 0 where
  pub whole : Whole (metadata_reading table) (replay past).files
  pub last : IsLast (all_commits table past) (table_in (number_in table) (replay past).files)
  pub at_rest : (replay past).pending ≡ []

-- this holds of each stop between two moments, before, between and behind the events, and of everything that the disk may leave there
pub record AtEachStop (old new : Past) (P : Past → List FileRec → Type 0) : Type 0 where
  pub events : List Event
  pub is : new ≡ later old events
  pub each : (n : ℕ) (files : List FileRec) → IsImage (replay (later old (take n events))) files → P (later old (take n events)) files

-- the map that was found has as its table the last of a prefix of the commits, a prefix that holds every acknowledged one
pub record HasPrefix (table : Parts) (past : Past) (files : List FileRec) : Type 0 where
  pub count : ℕ
  pub last : IsLast (kept_commits table past count) (table_in (number_in table) (found files))

-- the map that was found is whole
abbrev pub HasFiles : Parts → Past → List FileRec → Type 0
HasFiles table past files = Whole (metadata_reading table) (found files)

-- from a whole table on, whatever a stop leaves has as its table the last of a prefix of the commits that holds every acknowledged one
abbrev pub StopsHavePrefix : Parts → Past → Past → Type 0
StopsHavePrefix table old new = IsWholeAt table old → AtEachStop old new (HasPrefix table)

-- and it is whole
abbrev pub StopsHaveFiles : Parts → Past → Past → Type 0
StopsHaveFiles table old new = IsWholeAt table old → AtEachStop old new (HasFiles table)

-- Reopening.

-- an opening shows this table: none, or its bytes and their metadata
abbrev pub Shows : Option (List ℕ) → Parts → Result At OpenErr → Type 0
Shows None table result = result ≡ Err (NoTable table)
Shows (Some bytes) table result = (at : At) × (result ≡ Ok at) × (at.text ≡ bytes) × Spells bytes (view at.meta)

-- an opening of a map that was found shows the last of a prefix of the commits, a prefix that holds every acknowledged one
pub record Reopened (table : Parts) (past : Past) (result : Result At OpenErr) : Type 0 where
  pub count : ℕ
  pub last : Option (List ℕ)
  pub is_last : IsLast (kept_commits table past count) last
  pub shows : Shows last table result

-- a history that begins with these files: that of a store that starts on them
abbrev pub restarted : List FileRec → Past
restarted files = record { base = files; events = [] }

-- whatever a stop of a steady history leaves is opened so by a store that starts on it, where nobody else acts and its version is within the limit: no other answer but a fault or want of memory has its cause there
abbrev pub ReopensOpened : Parts → Type 0
ReopensOpened table = (past : Past) (files : List FileRec) (result : Result At OpenErr) → IsSteady (metadata_reading table) past → IsImage (replay past) files
    → version (number_in table) (replay (restarted files)).files < version_limit → IsOpeningTold result → OpenVerdict table (replay (restarted files)).files result → Reopened table past result
