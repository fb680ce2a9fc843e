-- What a run does, and when each of its statuses comes.
use Rattle.std.specs.Prelude.{◌≡◌, ◌⊎◌, ℕ, List, [], ◌∷◌, ◌++◌, Option, length, Contains}
use Rattle.serde_json.specs.Data.{Data}
use Rattle.ice_store.specs.Calls.{Rose}
use Rattle.ice_store.specs.Places.{Parts}
use Rattle.ice_store.specs.Given.{Gives}
use Rattle.ice_store.specs.History.{replay, later}
use Rattle.ice_store.specs.Since.{Since}
use Rattle.ice_store.specs.declared.history.Event.{Event}
use Rattle.ice_store.specs.declared.history.Failure.{Failure}
use Rattle.ice_store.specs.declared.history.Past.{Past}
use Rattle.commit_history.specs.Runs.{ours}
use Rattle.commit_history.specs.Versions.{number_in}
use Rattle.commit_protocol.specs.Promises.{Succession, StopsHavePrefix, StopsHaveFiles}
use Rattle.commit_protocol.specs.Verdicts.{IsOneDrawn}
use Rattle.commit_protocol.specs.Written.{draft_at, version_at}
use Rattle.commit_protocol.specs.declared.errors.AttemptErr.TheVariants.{Refused}
use Rattle.commit_protocol.specs.declared.errors.Refusal.TheVariants as refusals
use Rattle.commit_publish.specs.Kinds.{Kind, Marks}
use Rattle.commit_publish.specs.Left.{Leaves}
use Rattle.commit_versions.specs.Opening.{IsAskedFor}
use Rattle.run_answers.specs.declared.status.Outcome.{Outcome}
use Rattle.run_answers.specs.declared.status.Status.{Status}
use Rattle.run_answers.specs.declared.status.Status.TheVariants.{Done, BadArgument, StoreFault, CommitUnknown, OutOfMemory}
use Rattle.upkeep_top.specs.Chains.{Leads}
use Rattle.upkeep_top.specs.Points.{Objects, Point, Tells, moment, no_notes, run_notes}
use Rattle.upkeep_top.specs.Promises.{Renamed, Renames, ToldBy, EndsOpen}
use Rattle.upkeep_top.specs.Statements.{Ends, IsSafeFor}
use Rattle.upkeep_top.specs.Verdicts.{Verdict, IsFree, meanings_of, status_kind}
use Rattle.upkeep_top.specs.Words.{Ask, RefusesWords}
use Rattle.upkeep_top.specs.declared.task.Task.{Task}

-- a statement ended Done
abbrev pub IsDone : Task → Point → Point → Type 0
IsDone task p q = Ends task Done p q

-- the statements ran in order up to the first that wasn't Done, and that one ended so; or all of them, and the last one was Done
pub record Ended (tasks : List Task) (status : Status) (p q : Point) : Type 0 where
  pub before : List Task
  pub task : Task
  pub after : List Task
  pub is : tasks ≡ before ++ task ∷ after
  pub from : Point
  pub led : Leads IsDone before p from
  pub ends : Ends task status from q
  pub last : status ≡ Done → after ≡ []

-- the same, where there are statements
abbrev pub EndedIfAny : List Task → Status → Point → Point → Type 0
EndedIfAny tasks status p q = (first : Task) (more : List Task) → tasks ≡ first ∷ more → Ended tasks status p q

-- the words are refused, or there was no memory to read them
abbrev pub IsWordRefusal : List (List ℕ) → Status → Type 0
IsWordRefusal words status = RefusesWords words status ⊎ (status ≡ OutOfMemory)

-- the words ask for statements of this table, which ran
pub record RanAsked (words : List (List ℕ)) (status : Status) (p q : Point) : Type 0 where
  pub table : Parts
  pub tasks : List Task
  pub ask : Ask words table tasks
  pub ended : Ended tasks status p q

-- what a run does: refused words leave everything as it was
abbrev pub RunsBy : List (List ℕ) → Status → Point → Point → Type 0
RunsBy words status p q = (IsWordRefusal words status × (q ≡ p)) ⊎ RanAsked words status p q

-- a run of words, with its status, from one point to another
pub record Runs (words : List (List ℕ)) (status : Status) (p q : Point) : Type 0 where
  pub how : RunsBy words status p q

-- the statement that this word is refuses a table for the argument with this name
pub record IsRefusedArgument (words : List (List ℕ)) (word : ℕ) (name : List ℕ) : Type 0 where
  pub table : Parts
  pub tasks : List Task
  pub ask : Ask words table tasks
  pub task : Task
  pub among : Contains tasks task
  pub word_is : word ≡ task.word
  pub now : ℕ
  pub tree : Data
  pub refuses : (meanings_of task now).change.refuses tree (Refused (refusals.BadArgument name))

-- a refused argument is told only where the words are refused, or a statement refuses a table for it
abbrev pub TellsBadArgument : List (List ℕ) → Status → Type 0
TellsBadArgument words status = (word : ℕ) (name : List ℕ) → status ≡ BadArgument word name → RefusesWords words status ⊎ IsRefusedArgument words word name

-- of the last statement that ran: its status is this one exactly where the files that stood at its beginning ask for it; a fault or want of memory may come in its place
pub record Row (status asked : Status) (task : Task) (now : ℕ) (Drawn : ℕ → Type 0) (past : Past) : Type 0 where
  pub only : status ≡ asked → Verdict task now Drawn (replay past).files asked
  pub exactly : IsOneDrawn Drawn → Verdict task now Drawn (replay past).files asked → (status ≡ asked) ⊎ IsFree status

-- the row of the last statement that ran, in the run between these moments
pub record LastRow (words : List (List ℕ)) (status asked : Status) (p q : Point) : Type 0 where
  pub ran : RanAsked words status p q
  pub row : Since ran.ended.from.past q.past (λ old now. Row status asked ran.ended.task ran.ended.ends.now (Gives ran.ended.from.identifiers q.identifiers) old)

-- a status of the statements comes exactly where its cause holds
abbrev pub ComesExactly : List (List ℕ) → Status → Point → Point → Type 0
ComesExactly words status p q = (asked : Status) → (IsFree asked → ⊥) → IsWordRefusal words status ⊎ LastRow words status asked p q

-- the files at the beginning of the last statement that ran ask for this status
pub record LastAsks (words : List (List ℕ)) (status asked : Status) (p q : Point) : Type 0 where
  pub ran : RanAsked words status p q
  pub asks : Since ran.ended.from.past q.past (λ old now. Verdict ran.ended.task ran.ended.ends.now (Gives ran.ended.from.identifiers q.identifiers) (replay old).files asked)

-- they ask for nothing but Done
abbrev pub AsksNothing : List (List ℕ) → Status → Point → Point → Type 0
AsksNothing words status p q = (asked : Status) → (asked ≡ Done → ⊥) → (IsFree asked → ⊥) → LastAsks words status asked p q → ⊥

-- the words are refused for a cause of theirs, or the last statement that ran has its cause in its files, or a count of faults rose; and where none of these holds the run is Done, or memory lacked
abbrev pub IsComplete : List (List ℕ) → Status → Point → Point → Type 0
IsComplete words status p q =
    (RefusesWords words status → ⊥) → AsksNothing words status p q → (Rose p.faults q.faults → ⊥) → (Rose p.output_faults q.output_faults → ⊥) → (status ≡ Done) ⊎ (status ≡ OutOfMemory)

-- The same of objects before and after a run, by its outcome.

-- from nothing noted to what the outcome notes, in a relation
abbrev pub OfOutcome : {S C I O : Type 0} → Tells S C I O → Objects S C I O → Objects S C I O → Outcome → (Status → Point → Point → Type 0) → Type 0
OfOutcome t before after outcome Relation = Relation outcome.status (moment t before no_notes) (moment t after (run_notes outcome))

-- what the run did
abbrev pub Told : {S C I O : Type 0} → Tells S C I O → Objects S C I O → Objects S C I O → List (List ℕ) → Outcome → Type 0
Told t before after words outcome = OfOutcome t before after outcome (Runs words)

-- each status comes exactly where its cause holds
abbrev pub ComesWithCause : {S C I O : Type 0} → Tells S C I O → Objects S C I O → Objects S C I O → List (List ℕ) → Outcome → Type 0
ComesWithCause t before after words outcome = OfOutcome t before after outcome (ComesExactly words)

-- where no status has a cause, the run is Done, or memory lacked
abbrev pub Complete : {S C I O : Type 0} → Tells S C I O → Objects S C I O → Objects S C I O → List (List ℕ) → Outcome → Type 0
Complete t before after words outcome = OfOutcome t before after outcome (IsComplete words)

-- What a run promises of its history.

-- the words ask for statements of this table
abbrev pub AskOf : List (List ℕ) → Parts → Type 0
AskOf words table = (tasks : List Task) × Ask words table tasks

-- nothing was done, or the words ask for statements of a table for which all was safe
abbrev pub IsSafeRun : List (List ℕ) → Past → Past → Type 0
IsSafeRun words old new = (new ≡ old) ⊎ ((table : Parts) × AskOf words table × IsSafeFor table old new)

-- whatever a stop of the run leaves, from a whole table on: its table is the last of a prefix of the commits, a prefix that holds every acknowledged one
abbrev pub KeepsPrefix : List (List ℕ) → Past → Past → Type 0
KeepsPrefix words old new = (table : Parts) → AskOf words table → StopsHavePrefix table old new

-- and it is whole
abbrev pub KeepsFiles : List (List ℕ) → Past → Past → Type 0
KeepsFiles words old new = (table : Parts) → AskOf words table → StopsHaveFiles table old new

-- this version is a successor of the one before it, by a statement that the words ask for
pub record PublishedBy (words : List (List ℕ)) (v : ℕ) (old new : Past) : Type 0 where
  pub table : Parts
  pub tasks : List Task
  pub ask : Ask words table tasks
  pub task : Task
  pub among : Contains tasks task
  pub now : ℕ
  pub begun : Past
  pub ended : Past
  pub earlier : List Event
  pub begun_is : begun ≡ later old earlier
  pub events : List Event
  pub ended_is : ended ≡ later begun events
  pub rest : List Event
  pub rest_is : new ≡ later ended rest
  pub succeeds : Succession (meanings_of task now).change.successor table now v begun ended

-- each version that the run tells of
abbrev pub EachSucceeds : List (List ℕ) → List ℕ → Past → Past → Type 0
EachSucceeds words [] old new = Unit {0}
EachSucceeds words (v ∷ versions) old new = PublishedBy words v old new × EachSucceeds words versions old new

-- which versions were told, by the kind of end, and which may be there besides
abbrev pub TellsVersions : List (List ℕ) → Kind → List ℕ → Past → Past → Type 0
TellsVersions words kind committed old new = ((new ≡ old) × (committed ≡ [])) ⊎ ((table : Parts) × AskOf words table × ((renamed : Renamed) × Renames (number_in table) old new renamed × ToldBy kind committed renamed))

-- the places that are left are those that the run created and neither removed nor renamed to a version that it tells of; beside them stands one that the failed step names, where the count of faults rose
abbrev pub LeavesPlaces : List ℕ → List Parts → Type 0 → Option Failure → Past → Past → Type 0
LeavesPlaces committed left Risen mark old new = Leaves Risen mark (length committed) [] left old new

-- the words are refused and no call failed; or a failed call is marked, and told at its place, by the kind of end that the status tells
abbrev pub MarksRun : List (List ℕ) → Status → Option Failure → Option Failure → Option Past → Type 0
MarksRun words status before now told = (IsWordRefusal words status × (now ≡ before)) ⊎ ((table : Parts) × AskOf words table × Marks table (status_kind status) before now told)

-- a store fault is told at a place that the run asked for: the table, its metadata's folder or a version's place; or at a new metadata file
abbrev pub TellsFaultAt : List (List ℕ) → Parts → Type 0
TellsFaultAt words place = (table : Parts) × AskOf words table × ((place ≡ table) ⊎ (IsAskedFor table place ⊎ ((id : ℕ) × (place ≡ draft_at table id))))

-- a commit whose end is unknown: the steps of the run end with the seal of its metadata and a sync, and then nothing, its rename, or its rename and a sync
abbrev pub EndsUnknown : List (List ℕ) → ℕ → Past → Past → Type 0
EndsUnknown words version old new = (table : Parts) × AskOf words table × ((events : List Event) × (new ≡ later old events) × EndsOpen (version_at table version) (ours events))

-- a status after which places may have been left
abbrev pub MayLeave : Status → Type 0
MayLeave status = ((place : Parts) × (status ≡ StoreFault place)) ⊎ (((v : ℕ) × (status ≡ CommitUnknown v)) ⊎ (status ≡ OutOfMemory))
