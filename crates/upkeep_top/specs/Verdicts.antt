-- Which status answers a statement: each has its exact cause in the files that stood when the statement began, where nobody else acts.
use Rattle.std.specs.Prelude.{◌≡◌, ◌⊎◌, ℕ, List, Option, Some, None}
use Rattle.serde_json.specs.Data.{Data}
use Rattle.ice_store.specs.Places.{Parts}
use Rattle.ice_store.specs.declared.history.Held.{Held}
use Rattle.commit_publish.specs.Kinds as kinds
use Rattle.commit_publish.specs.Kinds.{Kind}
use Rattle.commit_protocol.specs.Kinds.{End, kind_of}
use Rattle.commit_protocol.specs.Meanings.{Procedure}
use Rattle.commit_protocol.specs.Verdicts.{IsTable, EndVerdict, IsOfState}
use Rattle.commit_protocol.specs.declared.errors.CommitErr.{CommitErr}
use Rattle.run_answers.specs.Answers.{status_of}
use Rattle.run_answers.specs.declared.status.Status.{Status}
use Rattle.run_answers.specs.declared.status.Status.TheVariants as statuses
use Rattle.upkeep_top.specs.Procedures.{meaning_of}
use Rattle.upkeep_top.specs.declared.task.Task.{Task}

-- the table of these files, of whose version and metadata this holds
pub record OnTable (table : Parts) (files : List Held) (P : ℕ → Data → Type 0) : Type 0 where
  pub place : Parts
  pub last : ℕ
  pub bytes : List ℕ
  pub tree : Data
  pub is : IsTable table files place last bytes tree
  pub holds : P last tree

-- what a statement means, at a moment
abbrev pub meanings_of : Task → ℕ → Procedure
meanings_of task now = meaning_of task.work now

-- the cause of a statement's end: its work, the moment at which it is run, and the identifiers that are drawn
abbrev pub TaskVerdict : Task → ℕ → (ℕ → Type 0) → List Held → End → Type 0
TaskVerdict task now Drawn files end = EndVerdict (meanings_of task now).needs (meanings_of task now).change Drawn task.table now files end.versions end.error

-- the status of an error, or of none, of the statement that is the word with this number
abbrev pub error_status : ℕ → Option CommitErr → Status
error_status word None = statuses.Done
error_status word (Some e) = status_of word e

-- these files ask for this status: the statement's end has its cause in them
pub record Verdict (task : Task) (now : ℕ) (Drawn : ℕ → Type 0) (files : List Held) (status : Status) : Type 0 where
  pub end : End
  pub of_state : IsOfState (kind_of end)
  pub cause : TaskVerdict task now Drawn files end
  pub answers : status ≡ error_status task.word end.error

-- the kind of end that a status tells
abbrev pub status_kind : Status → Kind
status_kind statuses.Done = kinds.Done
status_kind (statuses.StoreFault place) = kinds.Fault place
status_kind (statuses.CommitUnknown version) = kinds.Unknown version
status_kind (statuses.Contended version) = kinds.Lost version
status_kind statuses.OutFault = kinds.Done
status_kind statuses.OutOfMemory = kinds.Memory
status_kind status = kinds.Told

-- a fault, whose cause is a count that rose, or want of memory
abbrev pub IsFree : Status → Type 0
IsFree status = ((place : Parts) × (status ≡ statuses.StoreFault place)) ⊎ (((v : ℕ) × (status ≡ statuses.CommitUnknown v)) ⊎ ((status ≡ statuses.OutFault) ⊎ (status ≡ statuses.OutOfMemory)))
