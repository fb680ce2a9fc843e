-- What becomes of the files that an attempt made where others took the version that would have named them: they are removed.
use Rattle.std.specs.Prelude.{◌≡◌, ◌⊎◌, ℕ, true, List, [], ◌∷◌, ◌++◌, map, take, drop, Option, Some, None, Result, Ok, Err}
use Rattle.ice_store.specs.Files.{find}
use Rattle.ice_store.specs.Places.{Parts}
use Rattle.ice_store.specs.Since.{Since}
use Rattle.ice_store.specs.declared.faults.ReadErr.TheVariants as reads
use Rattle.ice_store.specs.declared.history.Failure.{Failure}
use Rattle.ice_store.specs.declared.history.Held.{Held}
use Rattle.ice_store.specs.declared.history.Past.{Past}
use Rattle.ice_store.specs.declared.history.Step.{Step}
use Rattle.ice_store.specs.declared.history.Step.TheVariants.{Remove, SyncNames}
use Rattle.ice_store.specs.declared.history.StoreCall.{StoreCall}
use Rattle.ice_store.specs.declared.history.StoreCall.TheVariants.{Take}
use Rattle.ice_store.specs.declared.history.Who.TheVariants.{Us}
use Rattle.commit_history.specs.Runs.{Ran}
use Rattle.commit_history.specs.Versions.{number_in}
use Rattle.commit_publish.specs.Kinds as kinds
use Rattle.commit_publish.specs.Kinds.{Kind, Failing, told_at}
use Rattle.commit_publish.specs.Stages.{AtRest, InState}
use Rattle.commit_publish.specs.Steps.{Anything, IsTakenOf}
use Rattle.commit_protocol.specs.Metadata.{table_rules}
use Rattle.commit_protocol.specs.declared.errors.AttemptErr.TheVariants as attempts
use Rattle.commit_protocol.specs.declared.errors.CommitErr.{CommitErr}
use Rattle.commit_protocol.specs.declared.errors.CommitErr.TheVariants.{Open, Attempt, Contended, CommitUnknown}
use Rattle.commit_protocol.specs.declared.errors.Committed.{Committed}
use Rattle.commit_protocol.specs.declared.errors.RemoveErr.{RemoveErr}
use Rattle.commit_protocol.specs.declared.errors.RemoveErr.TheVariants.{StoreFault, Memory}

-- one of these files
abbrev pub IsMadeAt : List Parts → Parts → Type 0
IsMadeAt [] place = ⊥
IsMadeAt (made ∷ places) place = (place ≡ made) ⊎ IsMadeAt places place

-- a sealed file of ours stands at a place, and it is no version file
pub record IsMadeFile (number : Parts → ℕ) (place : Parts) (files : List Held) : Type 0 where
  pub file : Held
  pub stands : find files place ≡ Some file
  pub ours : file.maker ≡ Some Us
  pub sealed_is : file.is_sealed ≡ true
  pub plain : number place ≡ 0

-- such files stand at all these places, no two of which are one
abbrev pub HasMade : (Parts → ℕ) → List Parts → List Held → Type 0
HasMade number [] files = Unit {0}
HasMade number (place ∷ places) files = IsMadeFile number place files × (IsMadeAt places place → ⊥) × HasMade number places files

-- so do the files that a change of a table made
abbrev pub MadeStand : Parts → List Parts → Past → Type 0
MadeStand table made = InState (λ d. HasMade (number_in table) made d.files)

-- the steps that remove these files: each is removed, in order, and the names are synced behind them; where there is none, none
abbrev pub withdraw_plan : List Parts → List Step
withdraw_plan [] = []
withdraw_plan (place ∷ places) = map Remove (place ∷ places) ++ SyncNames ∷ []

-- how a plan's steps ended of which these were left: none where all were done; a failed call is the one of the next step, which may have taken place, and is told at its place; want of memory comes before a step
abbrev pub EndsBefore : (StoreCall → Type 0) → Parts → List Step → Result (Unit {0}) RemoveErr → List Step → Type 0
EndsBefore Fails table [] (Ok done) taken = taken ≡ []
EndsBefore Fails table [] (Err e) taken = ⊥
EndsBefore Fails table (step ∷ steps) (Ok done) taken = ⊥
EndsBefore Fails table (step ∷ steps) (Err (StoreFault place)) taken = Fails (Take step) × (place ≡ told_at table (Take step)) × IsTakenOf step taken
EndsBefore Fails table (step ∷ steps) (Err Memory) taken = taken ≡ []

-- a log that had these files at its end has them no longer, but for those whose removal wasn't done
pub record Withdraws (Fails : StoreCall → Type 0) (table : Parts) (made : List Parts) (result : Result (Unit {0}) RemoveErr) (had has : List Parts) (steps : List Step) : Type 0 where
  pub count : ℕ
  pub taken : List Step
  pub steps_are : steps ≡ take count (withdraw_plan made) ++ taken
  pub ends : EndsBefore Fails table (drop count (withdraw_plan made)) result taken
  pub others : List Parts
  pub had_is : had ≡ others ++ made
  pub has_is : has ≡ others ++ drop count made

-- once they are gone nothing is pending
abbrev pub WithdrawStage : Result (Unit {0}) RemoveErr → Past → Type 0
WithdrawStage (Ok done) = InState (λ d. AtRest d.pending)
WithdrawStage (Err e) = Anything

-- the removal of these files, by its answer, the mark of a failed call, and the log's places before and behind it
abbrev pub Withdrawn : Parts → (Past → Step → Type 0) → List Parts → Option Failure → Result (Unit {0}) RemoveErr → List Parts → List Parts → Past → Past → Type 0
Withdrawn table allows made mark result had has old new = Ran (table_rules table allows) (Withdraws (Failing mark new) table made result had has) (WithdrawStage result) old new

-- the same of the histories that a store tells at the entry and the exit
abbrev pub Withdrawing : {T : Type 0} → (T → Option Past) → T → T → Parts → (Past → Step → Type 0) → List Parts → Option Failure → Result (Unit {0}) RemoveErr → List Parts → List Parts → Type 0
Withdrawing past store store' table allows made mark result had has = Since (past store) (past store') (Withdrawn table allows made mark result had has)

-- the kind of its end
abbrev pub withdraw_kind : Result (Unit {0}) RemoveErr → Kind
withdraw_kind (Ok done) = kinds.Done
withdraw_kind (Err (StoreFault place)) = kinds.Fault place
withdraw_kind (Err Memory) = kinds.Memory

-- where a call of it failed, it is told at one of the files, or at the table
abbrev pub TellsWithdraw : List Parts → Parts → Result (Unit {0}) RemoveErr → Type 0
TellsWithdraw made table result = (place : Parts) → result ≡ Err (StoreFault place) → (place ≡ table) ⊎ IsMadeAt made place

-- a log has these files at its end
abbrev pub EndsInMade : List Parts → List Parts → Type 0
EndsInMade made had = (others : List Parts) × (had ≡ others ++ made)

-- a log's places once they are removed, or some of them
abbrev pub LeavesUnmade : List Parts → Result (Unit {0}) RemoveErr → List Parts → List Parts → Type 0
LeavesUnmade made (Ok done) had has = had ≡ has ++ made
LeavesUnmade made (Err e) had has = (others : List Parts) × (count : ℕ) × (had ≡ others ++ made) × (has ≡ others ++ drop count made)

-- what a commit answers whose race for this version was lost, once its files are removed
abbrev pub lost_answer : ℕ → Result (Unit {0}) RemoveErr → Result Committed CommitErr
lost_answer version (Ok done) = Err (Contended version)
lost_answer version (Err (StoreFault place)) = Err (Attempt (attempts.Read (reads.StoreFault place)))
lost_answer version (Err Memory) = Err (Attempt (attempts.Read reads.Memory))

-- the version for which a commit lost the race
abbrev pub lost_version : Result Committed CommitErr → Option ℕ
lost_version (Ok c) = None
lost_version (Err (Open e)) = None
lost_version (Err (Attempt e)) = None
lost_version (Err (Contended version)) = Some version
lost_version (Err (CommitUnknown version)) = None

-- nothing was made where the race was lost
abbrev pub MadeNone : Option ℕ → List Parts → Type 0
MadeNone None made = Unit {0}
MadeNone (Some version) made = made ≡ []
