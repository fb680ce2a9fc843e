-- What a commit tells: the table is opened, the change is asked, and what it built is published.
use Rattle.std.specs.Prelude.{◌≡◌, ◌⊎◌, ℕ, List, [], ◌∷◌, ◌++◌, take, length, Option, Result, Ok, Err}
use Rattle.serde_json.specs.Data.{Data}
use Rattle.serde_json.specs.View.{view}
use Rattle.ice_store.specs.Given.{Gives}
use Rattle.ice_store.specs.Places.{Parts}
use Rattle.ice_store.specs.Since.{Since}
use Rattle.ice_store.specs.declared.history.Failure.{Failure}
use Rattle.ice_store.specs.declared.history.Past.{Past}
use Rattle.ice_store.specs.declared.history.Step.{Step}
use Rattle.ice_store.specs.declared.faults.Where.TheVariants.{Path}
use Rattle.ice_store.specs.declared.faults.ReadErr.TheVariants.{Damaged, Memory}
use Rattle.table_metadata.specs.Edits.{HasVersionLimit}
use Rattle.commit_publish.specs.Kinds as kinds
use Rattle.commit_publish.specs.declared.publish.Log.{Log}
use Rattle.commit_protocol.specs.Attempts.{AttemptLeaves, TakesNoStep, limit_path}
use Rattle.commit_protocol.specs.Ends.{IsThat, WasOpened, Works}
use Rattle.commit_protocol.specs.Kinds.{commit_end, kind_of}
use Rattle.commit_protocol.specs.Meanings.{Meanings, only_successor}
use Rattle.commit_protocol.specs.Metadata.{IsAt, OpenErrLeaves}
use Rattle.commit_protocol.specs.Prepares.{GivesAll, IsSpareEnd, MakesNothing, Prepares}
use Rattle.commit_protocol.specs.Withdraws.{MadeNone, MadeStand, Withdrawn, lost_answer, lost_version}
use Rattle.commit_protocol.specs.declared.opening.At.{At}
use Rattle.commit_protocol.specs.declared.errors.AttemptErr.TheVariants as attempts
use Rattle.commit_protocol.specs.declared.errors.CommitErr.TheVariants.{Open, Attempt, Contended, CommitUnknown}
use Rattle.commit_protocol.specs.declared.errors.Committed.{Committed}
use Rattle.commit_protocol.specs.declared.errors.Committed.TheVariants.{Same, Published}
use Rattle.commit_protocol.specs.declared.errors.CommitErr.{CommitErr}
use Rattle.commit_protocol.specs.declared.errors.RemoveErr.{RemoveErr}

-- a log's places once a publish ended: where it published, its first ones, so many as there were before the change was asked, since the version names the change's files
abbrev pub left_after : Result Committed CommitErr → ℕ → List Parts → List Parts
left_after (Ok (Same v)) count places = places
left_after (Ok (Published v)) count places = take count places
left_after (Err e) count places = places

-- a change with these meanings, where a source of identifiers has given these before and after, at a moment
module _ (table : Parts) (allows : Past → Step → Type 0) (meanings : Meanings) (given given' : Option (List ℕ)) (now : ℕ) where
  -- the change isn't asked: the base's log limit can't be read, or memory lacked
  abbrev pub IsUnasked : At → Result Committed CommitErr → Type 0
  IsUnasked at result = (result ≡ Err (Attempt (attempts.Read Memory))) ⊎ ((result ≡ Err (Attempt (attempts.Read (Damaged at.place (Path limit_path))))) × (HasVersionLimit (view at.meta) → ⊥))

  -- the change's own answer: nothing is to be changed, or it refuses the base or fails
  abbrev pub AnswersSo : At → Result Committed CommitErr → Type 0
  AnswersSo at (Ok (Same version)) = (version ≡ at.version) × meanings.same (view at.meta) × meanings.seen (view at.meta)
  AnswersSo at (Ok (Published version)) = ⊥
  AnswersSo at (Err (Open e)) = ⊥
  AnswersSo at (Err (Attempt e)) = meanings.refuses (view at.meta) e
  AnswersSo at (Err (Contended version)) = ⊥
  AnswersSo at (Err (CommitUnknown version)) = ⊥

  -- the change was asked, and ended the commit so
  pub record AnsweredBy (at : At) (result : Result Committed CommitErr) (mark : Option Failure) (had has : List Parts) (old new : Past) : Type 0 where
    pub limit : HasVersionLimit (view at.meta)
    pub answer : AnswersSo at result
    pub spare : IsSpareEnd result → MakesNothing meanings
    pub prepared : Prepares table allows meanings (view at.meta) (kind_of (commit_end result)) at.place mark old new
    pub met : meanings.met old new
    pub drawn : GivesAll meanings.draws given given'
    pub noted : has ≡ had ++ meanings.made

  -- the change built a successor, and its publish ended so
  pub record BuiltBy (at : At) (result : Result Committed CommitErr) (mark : Option Failure) (had has : List Parts) (old new : Past) : Type 0 where
    pub limit : HasVersionLimit (view at.meta)
    pub saw : meanings.seen (view at.meta)
    pub built : Data
    pub is : meanings.successor (view at.meta) built
    pub ready : Past
    pub before : Option Failure
    pub prepared : Prepares table allows meanings (view at.meta) kinds.Done at.place before old ready
    pub met : meanings.met old ready
    pub stand : MadeStand table meanings.made ready
    pub asked : Option (List ℕ)
    pub drawn : GivesAll meanings.draws given asked
    pub published : AttemptLeaves table allows (only_successor built) (Gives asked given') now at result ready new
    pub left : List Parts
    pub worked : Works (only_successor built).successor (Gives asked given') table now (IsThat at) (commit_end result) mark (had ++ meanings.made) left ready new
    pub noted : has ≡ left_after result (length had) left

  -- what an attempt on an opened table tells, by its answer, the mark of a failed call, and the log's places before and behind it
  abbrev pub AttemptTells : At → Result Committed CommitErr → Option Failure → List Parts → List Parts → Past → Past → Type 0
  AttemptTells at result mark had has old new = (IsUnasked at result × (has ≡ had) × (given' ≡ given) × TakesNoStep table allows old new) ⊎ (AnsweredBy at result mark had has old new ⊎ BuiltBy at result mark had has old new)

  -- others took the version that would have named the change's files, of which there are some: then they were removed
  pub record WithdrewBy (at : At) (result : Result Committed CommitErr) (mark : Option Failure) (had has : List Parts) (old new : Past) : Type 0 where
    pub version : ℕ
    pub before : Option Failure
    pub beaten : Past
    pub tried : AttemptTells at (Err (Contended version)) before had (had ++ meanings.made) old beaten
    pub some : meanings.made ≡ [] → ⊥
    pub outcome : Result (Unit {0}) RemoveErr
    pub answer : result ≡ lost_answer version outcome
    pub withdrawn : Withdrawn table allows meanings.made mark outcome (had ++ meanings.made) has beaten new

  -- what an attempt on an opened table tells with the removal of its files, where it lost the race
  abbrev pub RoundTells : At → Result Committed CommitErr → Option Failure → List Parts → List Parts → Past → Past → Type 0
  RoundTells at result mark had has old new = (MadeNone (lost_version result) meanings.made × AttemptTells at result mark had has old new) ⊎ WithdrewBy at result mark had has old new

  -- the table was opened, and the attempt on it told this
  pub record OpenedFirst (result : Result Committed CommitErr) (mark : Option Failure) (had has : List Parts) (old new : Past) : Type 0 where
    pub at : At
    pub mid : Past
    pub opened : IsAt table allows at old mid
    pub then : RoundTells at result mark had has mid new

  -- what a commit tells, by its answer
  abbrev pub CommitTells : Result Committed CommitErr → Option Failure → List Parts → List Parts → Past → Past → Type 0
  CommitTells (Ok c) mark had has old new = OpenedFirst (Ok c) mark had has old new
  CommitTells (Err (Open e)) mark had has old new = OpenErrLeaves table allows e old new × (given' ≡ given) × Works meanings.successor (Gives given given') table now (WasOpened table allows old) (commit_end (Err (Open e))) mark had has old new
  CommitTells (Err (Attempt e)) mark had has old new = OpenedFirst (Err (Attempt e)) mark had has old new
  CommitTells (Err (Contended version)) mark had has old new = OpenedFirst (Err (Contended version)) mark had has old new
  CommitTells (Err (CommitUnknown version)) mark had has old new = OpenedFirst (Err (CommitUnknown version)) mark had has old new

-- The same of the histories that a store tells at the entry and the exit, of the identifiers given before and after, and of the logs.

-- of an attempt
abbrev pub Asking : {T : Type 0} → (T → Option Past) → T → T → Parts → (Past → Step → Type 0) → Meanings → Option (List ℕ) → Option (List ℕ) → ℕ → At → Result Committed CommitErr → Option Failure → Log → Log → Type 0
Asking past store store' table allows meanings given given' now at result mark log log' =
    Since (past store) (past store') (AttemptTells table allows meanings given given' now at result mark log.left.items log'.left.items)

-- of an attempt with the removal of its files
abbrev pub Trying : {T : Type 0} → (T → Option Past) → T → T → Parts → (Past → Step → Type 0) → Meanings → Option (List ℕ) → Option (List ℕ) → ℕ → At → Result Committed CommitErr → Option Failure → Log → Log → Type 0
Trying past store store' table allows meanings given given' now at result mark log log' =
    Since (past store) (past store') (RoundTells table allows meanings given given' now at result mark log.left.items log'.left.items)

-- of a commit
abbrev pub Committing : {T : Type 0} → (T → Option Past) → T → T → Parts → (Past → Step → Type 0) → Meanings → Option (List ℕ) → Option (List ℕ) → ℕ → Result Committed CommitErr → Option Failure → Log → Log → Type 0
Committing past store store' table allows meanings given given' now result mark log log' =
    Since (past store) (past store') (CommitTells table allows meanings given given' now result mark log.left.items log'.left.items)
