-- What one statement does.
use Rattle.std.specs.Prelude.{◌≡◌, ◌⊎◌, ℕ, ℤ, ◌≤◌, List, [], ◌++◌, take, Option, Some, None, Ok, Err}
use Rattle.serde_json.specs.Data.{Data}
use Rattle.ice_store.specs.Places.{Parts}
use Rattle.ice_store.specs.Calls.{Rose}
use Rattle.ice_store.specs.Given.{Gives}
use Rattle.ice_store.specs.History.{replay}
use Rattle.ice_store.specs.Others.{WhereTold}
use Rattle.ice_store.specs.Since.{Since}
use Rattle.ice_store.specs.declared.history.Failure.{Failure}
use Rattle.ice_store.specs.declared.history.Held.{Held}
use Rattle.ice_store.specs.declared.history.Past.{Past}
use Rattle.ice_store.specs.declared.history.Step.{Step}
use Rattle.ice_store.specs.declared.faults.ReadErr.TheVariants.{StoreFault}
use Rattle.commit_history.specs.Runs.{Ran}
use Rattle.commit_publish.specs.Kinds as kinds
use Rattle.commit_publish.specs.Kinds.{Kind, Counts, Marks}
use Rattle.commit_publish.specs.Steps.{Anything}
use Rattle.commit_versions.specs.Opening.{OpenFaultAt}
use Rattle.commit_versions.specs.declared.types.OpenErr.{OpenErr}
use Rattle.commit_protocol.specs.Ends.{Works, DrawsBy, LeavesBy, IsPublishFault}
use Rattle.commit_protocol.specs.Kinds.{End, kind_of}
use Rattle.commit_protocol.specs.Meanings.{Procedure}
use Rattle.commit_protocol.specs.Metadata.{table_rules}
use Rattle.commit_protocol.specs.Verdicts.{IsTable}
use Rattle.commit_protocol.specs.declared.errors.CommitErr.{CommitErr}
use Rattle.commit_protocol.specs.declared.errors.CommitErr.TheVariants.{Open, Attempt}
use Rattle.commit_protocol.specs.declared.errors.AttemptErr.TheVariants.{Refused, Read}
use Rattle.commit_protocol.specs.declared.errors.Refusal.{Refusal}
use Rattle.run_answers.specs.Answers.{status_of}
use Rattle.run_answers.specs.declared.status.Status.{Status}
use Rattle.run_answers.specs.declared.status.Status.TheVariants.{Done, UnknownSnapshot, OutFault, OutOfMemory}
use Rattle.run_refs.specs.Ancestors.{Lists}
use Rattle.run_refs.specs.Reports.{list_report}
use Rattle.run_refs.specs.declared.ancestors.Ancestor.{Ancestor}
use Rattle.table_metadata.specs.declared.cause.EditErr.TheVariants.{UnknownSnapshot as Lacks}
use Rattle.upkeep_top.specs.Points.{Point}
use Rattle.upkeep_top.specs.Promises.{AllSucceed}
use Rattle.upkeep_top.specs.Verdicts.{OnTable, TaskVerdict, meanings_of}
use Rattle.upkeep_top.specs.declared.task.Task.{Task}

-- nobody else acts
abbrev pub Nobody : Past → Step → Type 0
Nobody = λ past step. ⊥

-- any steps of ours
abbrev pub Any : List Step → Type 0
Any steps = Unit {0}

-- from the old history to the new one each step of ours was proper for this table, sealed version files stayed, and each stop was safe
abbrev pub IsSafeFor : Parts → Past → Past → Type 0
IsSafeFor table = Ran (table_rules table Nobody) Any Anything

-- the ends of a statement whose work is done
abbrev pub IsEndOfWork : Status → Type 0
IsEndOfWork status = (status ≡ Done) ⊎ ((status ≡ OutFault) ⊎ (status ≡ OutOfMemory))

-- a statement whose work is done is Done once its report was put
abbrev pub StatusBy : ℕ → Option CommitErr → Status → Type 0
StatusBy word None status = IsEndOfWork status
StatusBy word (Some e) status = status ≡ status_of word e

-- what the output took of a report: all of it where the statement is Done, a prefix of it after OutFault, and else nothing
pub record Reports (before after : Option (List ℕ)) (report : List ℕ) (status : Status) : Type 0 where
  pub done : status ≡ Done → WhereTold before (λ old. after ≡ Some (old ++ report))
  pub fault : status ≡ OutFault → WhereTold before (λ old. (n : ℕ) × (after ≡ Some (old ++ take n report)))
  pub other : (status ≡ Done → ⊥) → (status ≡ OutFault → ⊥) → after ≡ before

-- what a procedure says of a table's metadata was reported so
abbrev pub ReportsOn : Procedure → Option (List ℕ) → Option (List ℕ) → Status → ℕ → Data → Type 0
ReportsOn p before after status last tree = (report : List ℕ) × p.says tree report × Reports before after report status

-- a report is put where the work is done; else the output stays as it was
abbrev pub ReportedBy : Procedure → Parts → Option (List ℕ) → Option (List ℕ) → Status → List Held → Option CommitErr → Type 0
ReportedBy p table before after status files None = OnTable table files (ReportsOn p before after status)
ReportedBy p table before after status files (Some e) = after ≡ before

-- after work that is done no name change is pending
abbrev pub RestsBy : Kind → Past → Type 0
RestsBy kinds.Done past = (replay past).pending ≡ []
RestsBy kinds.Told past = Unit {0}
RestsBy (kinds.Fault place) past = Unit {0}
RestsBy (kinds.Unknown version) past = Unit {0}
RestsBy (kinds.Lost version) past = Unit {0}
RestsBy kinds.Memory past = Unit {0}

-- what a statement at this moment did to a history, where these identifiers were drawn: its end has its cause, each step was safe, and the steps, the versions and the places that are left are by the kind of its end
pub record Did (task : Task) (now : ℕ) (Drawn : ℕ → Type 0) (end : End) (mark : Option Failure) (had has : List Parts) (old new : Past) : Type 0 where
  pub cause : TaskVerdict task now Drawn (replay old).files end
  pub safe : IsSafeFor task.table old new
  pub rests : RestsBy (kind_of end) new
  pub works : Works (meanings_of task now).change.successor Drawn task.table now (IsTable task.table (replay old).files) end mark had has old new
  pub succeed : AllSucceed (meanings_of task now).change.successor task.table now end.versions old new

-- the count of faults of an output rises where the status tells it, and else stays
pub record OutputCounts (status : Status) (before now : ℕ) : Type 0 where
  pub rose : status ≡ OutFault → Rose before now
  pub kept : (status ≡ OutFault → ⊥) → now ≡ before

-- a statement was run from one moment of the run to another, and ended so
pub record Ends (task : Task) (status : Status) (p q : Point) : Type 0 where
  pub now : ℕ
  pub moment : Gives p.moments q.moments now
  pub end : End
  pub answers : StatusBy task.word end.error status
  pub did : Since p.past q.past (Did task now (Gives p.identifiers q.identifiers) end q.halted p.left q.left)
  pub report : Since p.past q.past (λ old new. ReportedBy (meanings_of task now) task.table p.output q.output status (replay old).files end.error)
  pub committed : q.committed ≡ p.committed ++ end.versions
  pub left : LeavesBy (Gives p.identifiers q.identifiers) task.table (kind_of end) p.left q.left
  pub drawn : DrawsBy end.versions end.error p.identifiers q.identifiers
  pub faults : Counts (kind_of end) p.faults q.faults
  pub later : p.faults ≤ q.faults
  pub halted : Marks task.table (kind_of end) p.halted q.halted q.past
  pub refused : (refusal : Refusal) → end.error ≡ Some (Attempt (Refused refusal)) → (tree : Data) × (meanings_of task now).change.refuses tree (Refused refusal)
  pub opening : (e : OpenErr) → end.error ≡ Some (Open e) → OpenFaultAt task.table e
  pub fault : (place : Parts) → end.error ≡ Some (Attempt (Read (StoreFault place))) → IsPublishFault (Gives p.identifiers q.identifiers) task.table place
  pub none : (e : CommitErr) → end.error ≡ Some e → end.versions ≡ []
  pub output_faults : OutputCounts status p.output_faults q.output_faults

-- what a listing of ancestors on opened metadata answers: the report of the rows, the snapshot that lacks, or want of memory
abbrev pub IsListedBy : Option ℤ → Data → Option (List ℕ) → Option (List ℕ) → Status → Type 0
IsListedBy given tree before after status =
    ((rows : List Ancestor) × Lists given tree (Ok rows) × Reports before after (list_report rows) status × IsEndOfWork status)
    ⊎ (((id : ℤ) × Lists given tree (Err (Lacks id)) × (status ≡ UnknownSnapshot id) × (after ≡ before)) ⊎ ((status ≡ OutOfMemory) × (after ≡ before)))
