-- What work on a table did, by the kind of its end: which steps it took, which versions it published, and which places it left.
use Rattle.std.specs.Prelude.{◌≡◌, ◌⊎◌, ℕ, ◌+◌, ◌≤◌, Bool, true, false, List, [], ◌∷◌, ◌++◌, drop, length, Option, Some, None, Result, Err}
use Rattle.serde_json.specs.Data.{Data}
use Rattle.serde_json.specs.View.{view}
use Rattle.ice_store.specs.Places.{Parts}
use Rattle.ice_store.specs.Given.{Gives}
use Rattle.ice_store.specs.History.{later}
use Rattle.ice_store.specs.Since.{Since}
use Rattle.ice_store.specs.declared.history.Event.{Event}
use Rattle.ice_store.specs.declared.history.Failure.{Failure}
use Rattle.ice_store.specs.declared.history.Past.{Past}
use Rattle.ice_store.specs.declared.history.Step.{Step}
use Rattle.ice_store.specs.declared.history.StoreCall.{StoreCall}
use Rattle.ice_store.specs.declared.history.StoreCall.TheVariants.{Look, Take}
use Rattle.ice_store.specs.declared.faults.ReadErr.TheVariants as reads
use Rattle.ice_store.specs.declared.store.StoreErr.{StoreErr}
use Rattle.ice_store.specs.declared.store.StoreErr.TheVariants as causes
use Rattle.commit_history.specs.Runs.{ours}
use Rattle.table_metadata.specs.Edits.{HasVersionLimit}
use Rattle.commit_publish.specs.Kinds as kinds
use Rattle.commit_publish.specs.Kinds.{Kind, Failing}
use Rattle.commit_publish.specs.Logs.{left_at}
use Rattle.commit_publish.specs.Steps.{StopsAt, step_of, publish_plan, lost_plan}
use Rattle.commit_publish.specs.declared.publish.Log.{Log}
use Rattle.commit_publish.specs.declared.steps.PublishCall.{PublishCall}
use Rattle.commit_versions.specs.Opening.{file_limit}
use Rattle.commit_protocol.specs.Attempts.{Writes}
use Rattle.commit_protocol.specs.Kinds.{End, attempt_kind, commit_end, commit_kind, kind_of, is_renaming}
use Rattle.commit_protocol.specs.Meanings.{Meanings}
use Rattle.commit_protocol.specs.Metadata.{IsAt}
use Rattle.commit_protocol.specs.Prepares.{GivesAll, GivesLast}
use Rattle.commit_protocol.specs.Withdraws.{IsMadeAt}
use Rattle.commit_protocol.specs.Written.{IsOn, draft_at, version_at}
use Rattle.commit_protocol.specs.declared.committing.Base.{Base}
use Rattle.commit_protocol.specs.declared.opening.At.{At}
use Rattle.commit_protocol.specs.declared.errors.Refusal.{Refusal}
use Rattle.commit_protocol.specs.declared.errors.AttemptErr.TheVariants as attempts
use Rattle.commit_protocol.specs.declared.errors.CommitErr.{CommitErr}
use Rattle.commit_protocol.specs.declared.errors.CommitErr.TheVariants as commits
use Rattle.commit_protocol.specs.declared.errors.Committed.{Committed}

-- nothing was done, and nothing is left
abbrev pub IsNothing : List Step → List Parts → Type 0
IsNothing steps left = (steps ≡ []) × (left ≡ [])

-- of work on a table at a moment, which makes such successors of such bases, and where these identifiers were drawn
module _ (successor : Data → Data → Type 0) (Drawn : ℕ → Type 0) (table : Parts) (now : ℕ) (IsBase : Parts → ℕ → List ℕ → Data → Type 0) where
  -- a publish that was begun: its base, the bytes of the next version, which spell a successor, and the identifier that names the new file
  pub record Publish : Type 0 where
    pub place : Parts
    pub last : ℕ
    pub text : List ℕ
    pub tree : Data
    pub base : IsBase place last text tree
    pub limit : HasVersionLimit tree
    pub bytes : List ℕ
    pub writes : Writes successor last now tree bytes
    pub short : length bytes ≤ file_limit
    pub id : ℕ
    pub drawn : Drawn id

  -- the place of its new file
  abbrev pub draft_of : Publish → Parts
  draft_of p = draft_at table p.id

  -- the version that it publishes
  abbrev pub new_version : Publish → ℕ
  new_version p = p.last + 1

  -- that version's place
  abbrev pub new_place : Publish → Parts
  new_place p = version_at table (new_version p)

  -- it ran to its end
  pub record IsPublished (version : ℕ) (steps : List Step) : Type 0 where
    pub publish : Publish
    pub version_is : version ≡ new_version publish
    pub steps_are : steps ≡ publish_plan (draft_of publish) (new_place publish) publish.bytes

  -- its rename met a taken target, and the new file was removed
  pub record IsBeaten (version : ℕ) (steps : List Step) : Type 0 where
    pub publish : Publish
    pub version_is : version ≡ new_version publish
    pub steps_are : steps ≡ lost_plan (draft_of publish) publish.bytes

  -- it stopped at this call for this cause
  pub record IsStopped (cause : StoreErr) (publish : Publish) (call : PublishCall) (steps : List Step) (left : List Parts) : Type 0 where
    pub steps_are : StopsAt (draft_of publish) (new_place publish) publish.bytes call cause steps
    pub left_is : left ≡ left_at (draft_of publish) (new_place publish) call cause

  -- a call of it failed, and is marked; whether it was one of its renaming
  pub record IsFailed (Fails : StoreCall → Type 0) (renaming : Bool) (publish : Publish) (steps : List Step) (left : List Parts) : Type 0 where
    pub call : PublishCall
    pub kind : is_renaming call ≡ renaming
    pub failed : Fails (Take (step_of (draft_of publish) (new_place publish) publish.bytes call))
    pub stopped : IsStopped causes.Failed publish call steps left

  -- the steps that work took and the places that it left, by the kind of its end and the versions that it published
  abbrev pub TookBy : (StoreCall → Type 0) → Kind → List ℕ → List Step → List Parts → Type 0
  TookBy Fails kinds.Done [] steps left = IsNothing steps left
  TookBy Fails kinds.Done (v ∷ versions) steps left = (versions ≡ []) × IsPublished v steps × (left ≡ [])
  TookBy Fails kinds.Told versions steps left = (versions ≡ []) × IsNothing steps left
  TookBy Fails (kinds.Fault place) versions steps left = (versions ≡ []) × ((Fails (Look place) × IsNothing steps left) ⊎ ((p : Publish) × IsFailed Fails false p steps left))
  TookBy Fails (kinds.Unknown version) versions steps left = (versions ≡ []) × ((p : Publish) × (version ≡ new_version p) × IsFailed Fails true p steps left)
  TookBy Fails (kinds.Lost version) versions steps left = (versions ≡ []) × IsBeaten version steps × (left ≡ [])
  TookBy Fails kinds.Memory versions steps left = (versions ≡ []) × (IsNothing steps left ⊎ ((p : Publish) × (call : PublishCall) × IsStopped causes.Memory p call steps left))

  -- what work did between two moments: its steps, and what the log has of it behind what it had; a failed call is the one that is marked now
  pub record Works (end : End) (mark : Option Failure) (had has : List Parts) (old new : Past) : Type 0 where
    pub events : List Event
    pub is : new ≡ later old events
    pub left : List Parts
    pub noted : has ≡ had ++ left
    pub took : TookBy (Failing mark new) (kind_of end) end.versions (ours events) left

-- Bases.

-- this opened table
pub record IsThat (at : At) (place : Parts) (last : ℕ) (text : List ℕ) (tree : Data) : Type 0 where
  pub place_is : place ≡ at.place
  pub last_is : last ≡ at.version
  pub text_is : text ≡ at.text
  pub tree_is : tree ≡ view at.meta

-- the table was opened so, since this moment
pub record WasOpened (table : Parts) (allows : Past → Step → Type 0) (since : Past) (place : Parts) (last : ℕ) (text : List ℕ) (tree : Data) : Type 0 where
  pub at : At
  pub mid : Past
  pub opened : IsAt table allows at since mid
  pub that : IsThat at place last text tree

-- Without a history.

-- the new metadata file, whose name a drawn identifier gives
abbrev pub IsDraft : (ℕ → Type 0) → Parts → List Parts → Type 0
IsDraft Drawn table left = (id : ℕ) × Drawn id × (left ≡ draft_at table id ∷ [])

-- that file alone, or with the version's place
abbrev pub IsDraftOrBoth : (ℕ → Type 0) → Parts → ℕ → List Parts → Type 0
IsDraftOrBoth Drawn table version left = IsDraft Drawn table left ⊎ ((id : ℕ) × Drawn id × (left ≡ draft_at table id ∷ version_at table version ∷ []))

-- a log has these behind what it had
abbrev pub AddsPlaces : (List Parts → Type 0) → List Parts → List Parts → Type 0
AddsPlaces Left had has = (left : List Parts) × (has ≡ had ++ left) × Left left

-- the places behind those that the log had, by the kind of end: new ones only after a failed call or want of memory, and the version's place only where it isn't known whether it was published
abbrev pub LeavesBy : (ℕ → Type 0) → Parts → Kind → List Parts → List Parts → Type 0
LeavesBy Drawn table kinds.Done had has = has ≡ had
LeavesBy Drawn table kinds.Told had has = has ≡ had
LeavesBy Drawn table (kinds.Fault place) had has = (has ≡ had) ⊎ AddsPlaces (IsDraft Drawn table) had has
LeavesBy Drawn table (kinds.Unknown version) had has = AddsPlaces (IsDraftOrBoth Drawn table version) had has
LeavesBy Drawn table (kinds.Lost version) had has = has ≡ had
LeavesBy Drawn table kinds.Memory had has = (has ≡ had) ⊎ AddsPlaces (IsDraft Drawn table) had has

-- a failed call of a publish is told at the table, or at a new metadata file
abbrev pub IsPublishFault : (ℕ → Type 0) → Parts → Parts → Type 0
IsPublishFault Drawn table place = (place ≡ table) ⊎ ((id : ℕ) × Drawn id × (place ≡ draft_at table id))

-- a fault of an attempt is told there, or at a file that the change made and was to remove, or the change refuses a base with it
abbrev pub TellsFault : Meanings → (ℕ → Type 0) → Parts → Result Committed CommitErr → Type 0
TellsFault meanings Drawn table result = (place : Parts) → result ≡ Err (commits.Attempt (attempts.Read (reads.StoreFault place)))
    → ((tree : Data) × meanings.refuses tree (attempts.Read (reads.StoreFault place))) ⊎ (IsPublishFault Drawn table place ⊎ IsMadeAt meanings.made place)

-- a refusal is one of some base by the change
abbrev pub IsRefusedBy : Meanings → Result Committed CommitErr → Type 0
IsRefusedBy meanings result = (refusal : Refusal) → result ≡ Err (commits.Attempt (attempts.Refused refusal)) → (tree : Data) × meanings.refuses tree (attempts.Refused refusal)

-- an error that may come once the new file's name is drawn
abbrev pub may_draw : CommitErr → Bool
may_draw (commits.Open e) = false
may_draw (commits.Attempt (attempts.Refused refusal)) = false
may_draw (commits.Attempt (attempts.Conflict place other)) = false
may_draw (commits.Attempt (attempts.NameTaken place)) = true
may_draw (commits.Attempt (attempts.Read (reads.Missing place))) = false
may_draw (commits.Attempt (attempts.Read (reads.Damaged place at))) = false
may_draw (commits.Attempt (attempts.Read (reads.Unsupported place what))) = true
may_draw (commits.Attempt (attempts.Read (reads.StoreFault place))) = true
may_draw (commits.Attempt (attempts.Read reads.Memory)) = true
may_draw (commits.Contended version) = true
may_draw (commits.CommitUnknown version) = true

-- an identifier was drawn, where this says so; else none
abbrev pub DrawsOne : Bool → Option (List ℕ) → Option (List ℕ) → Type 0
DrawsOne false before after = after ≡ before
DrawsOne true before after = (id : ℕ) × Gives before after id

-- which identifiers work draws, by its versions and error: one for a version, none where nothing is to be changed or the table can't be opened or refuses
abbrev pub DrawsBy : List ℕ → Option CommitErr → Option (List ℕ) → Option (List ℕ) → Type 0
DrawsBy [] None before after = DrawsOne false before after
DrawsBy (v ∷ versions) None before after = DrawsOne true before after
DrawsBy versions (Some e) before after = DrawsOne false before after ⊎ DrawsOne (may_draw e) before after

-- an error that may come before the change is asked
abbrev pub may_be_unasked : CommitErr → Bool
may_be_unasked (commits.Open e) = true
may_be_unasked (commits.Attempt (attempts.Refused refusal)) = false
may_be_unasked (commits.Attempt (attempts.Conflict place other)) = false
may_be_unasked (commits.Attempt (attempts.NameTaken place)) = false
may_be_unasked (commits.Attempt (attempts.Read (reads.Missing place))) = false
may_be_unasked (commits.Attempt (attempts.Read (reads.Damaged place at))) = true
may_be_unasked (commits.Attempt (attempts.Read (reads.Unsupported place what))) = false
may_be_unasked (commits.Attempt (attempts.Read (reads.StoreFault place))) = false
may_be_unasked (commits.Attempt (attempts.Read reads.Memory)) = true
may_be_unasked (commits.Contended version) = false
may_be_unasked (commits.CommitUnknown version) = false

-- a change's own identifiers were drawn, and one more where this says so
abbrev pub DrawsAlso : List ℕ → Bool → Option (List ℕ) → Option (List ℕ) → Type 0
DrawsAlso ids false before after = GivesAll ids before after
DrawsAlso ids true before after = (id : ℕ) × GivesLast ids before after id

-- which identifiers a commit draws whose change draws these, by its versions and error: the change's, and one for a version; none where the change isn't asked
abbrev pub DrawsOf : List ℕ → List ℕ → Option CommitErr → Option (List ℕ) → Option (List ℕ) → Type 0
DrawsOf ids [] None before after = DrawsAlso ids false before after
DrawsOf ids (v ∷ versions) None before after = DrawsAlso ids true before after
DrawsOf ids versions (Some e) before after = ((may_be_unasked e ≡ true) × (after ≡ before)) ⊎ (DrawsAlso ids false before after ⊎ DrawsAlso ids (may_draw e) before after)

-- the places behind those that the log had, where the change's files are these, once its publish ended, by the versions and the error: after a publish none, and else its files, where it was asked, and those of the publish
abbrev pub LeavesPublished : List Parts → (ℕ → Type 0) → Parts → List ℕ → Option CommitErr → List Parts → List Parts → Type 0
LeavesPublished made Drawn table [] None had has = has ≡ had ++ made
LeavesPublished made Drawn table (v ∷ versions) None had has = has ≡ had
LeavesPublished made Drawn table versions (Some e) had has = ((may_be_unasked e ≡ true) × (has ≡ had)) ⊎ LeavesBy Drawn table (commit_kind e) (had ++ made) has

-- of the change's files some were removed before a call failed or memory lacked
abbrev pub LeavesSome : List Parts → Kind → List Parts → List Parts → Type 0
LeavesSome made kinds.Done had has = ⊥
LeavesSome made kinds.Told had has = ⊥
LeavesSome made (kinds.Fault place) had has = (count : ℕ) × (has ≡ had ++ drop count made)
LeavesSome made (kinds.Unknown version) had has = ⊥
LeavesSome made (kinds.Lost version) had has = ⊥
LeavesSome made kinds.Memory had has = (count : ℕ) × (has ≡ had ++ drop count made)

-- the same of an error at the commit's end: after a lost race none, and after one whose files were not all removed those that weren't
abbrev pub LeavesAtError : List Parts → (ℕ → Type 0) → Parts → CommitErr → List Parts → List Parts → Type 0
LeavesAtError made Drawn table (commits.Open e) had has = LeavesPublished made Drawn table [] (Some (commits.Open e)) had has
LeavesAtError made Drawn table (commits.Attempt e) had has = LeavesPublished made Drawn table [] (Some (commits.Attempt e)) had has ⊎ LeavesSome made (attempt_kind e) had has
LeavesAtError made Drawn table (commits.Contended version) had has = has ≡ had
LeavesAtError made Drawn table (commits.CommitUnknown version) had has = LeavesPublished made Drawn table [] (Some (commits.CommitUnknown version)) had has

-- and at its end
abbrev pub LeavesOf : List Parts → (ℕ → Type 0) → Parts → List ℕ → Option CommitErr → List Parts → List Parts → Type 0
LeavesOf made Drawn table versions None had has = LeavesPublished made Drawn table versions None had has
LeavesOf made Drawn table versions (Some e) had has = LeavesAtError made Drawn table e had has

-- so of an attempt, whose publish ended so, between two logs
abbrev pub IsLeftPublished : Meanings → Option (List ℕ) → Option (List ℕ) → Parts → End → Log → Log → Type 0
IsLeftPublished meanings given given' table end log log' = LeavesPublished meanings.made (GivesLast meanings.draws given given') table end.versions end.error log.left.items log'.left.items

-- and of a commit
abbrev pub IsLeftOf : Meanings → Option (List ℕ) → Option (List ℕ) → Parts → End → Log → Log → Type 0
IsLeftOf meanings given given' table end log log' = LeavesOf meanings.made (GivesLast meanings.draws given given') table end.versions end.error log.left.items log'.left.items

-- With a history.

-- what a publish of this successor of a base did
abbrev pub PublishedWorks : Parts → (ℕ → Type 0) → ℕ → Base → Data → Result Committed CommitErr → Option Failure → List Parts → List Parts → Past → Past → Type 0
PublishedWorks table Drawn now base built result mark had has old new = (at : At) → IsOn base at → HasVersionLimit (view at.meta)
    → Works (λ tree next. next ≡ built) Drawn table now (IsThat at) (commit_end result) mark had has old new

-- what a commit did, whose base it opened
abbrev pub CommitWorks : Parts → (Past → Step → Type 0) → Meanings → (ℕ → Type 0) → ℕ → Result Committed CommitErr → Option Failure → List Parts → List Parts → Past → Past → Type 0
CommitWorks table allows meanings Drawn now result mark had has old new = Works meanings.successor Drawn table now (WasOpened table allows old) (commit_end result) mark had has old new

-- the same of the histories that a store tells at the entry and the exit, of the identifiers given before and after, and of the logs
abbrev pub PublishWorked : {T : Type 0} → (T → Option Past) → T → T → Parts → Option (List ℕ) → Option (List ℕ) → ℕ → Base → Data → Result Committed CommitErr → Option Failure → Log → Log → Type 0
PublishWorked past store store' table given given' now base built result mark log log' =
    Since (past store) (past store') (PublishedWorks table (Gives given given') now base built result mark log.left.items log'.left.items)
