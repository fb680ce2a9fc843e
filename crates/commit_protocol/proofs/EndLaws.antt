-- The kinds of ends: what they say of the count of faults, of the mark of the last failed call, of the log and of the identifiers.
use Rattle.std.proofs.Common.{◌≡◌, inl, inr, ℕ, List, [], ◌∷◌, ◌++◌, Option, Some, None, Err, refl, sym, ap, ◌∙◌, subst, append-nil}
use Rattle.serde_json.specs.Data.{Data}
use Rattle.ice_store.specs.Calls.{failure_of}
use Rattle.ice_store.specs.Given.{Gives}
use Rattle.ice_store.specs.Others.{WhereTold}
use Rattle.ice_store.specs.Places.{Parts}
use Rattle.ice_store.specs.Since.{Since}
use Rattle.ice_store.specs.declared.faults.ReadErr.TheVariants.{Missing, Damaged, Unsupported, StoreFault, Memory}
use Rattle.ice_store.specs.declared.history.Failure.{Failure}
use Rattle.ice_store.specs.declared.history.Past.{Past}
use Rattle.ice_store.specs.declared.history.StoreCall.{StoreCall}
use Rattle.ice_store.specs.declared.history.StoreCall.TheVariants.{Look, Take}
use Rattle.ice_store.specs.declared.store.StoreErr.{StoreErr}
use Rattle.ice_store.specs.declared.store.StoreErr.TheVariants as causes
use Rattle.commit_publish.specs.Kinds as kinds
use Rattle.commit_publish.specs.Kinds.{Kind, Counts, Marks, Failing, told_at}
use Rattle.commit_publish.specs.Logs.{CountsBy, MarksBy, PublishCounts, PublishMarks, left_at, left_by}
use Rattle.commit_publish.specs.Steps.{step_of}
use Rattle.commit_publish.specs.declared.steps.PublishCall.{PublishCall}
use Rattle.commit_publish.specs.declared.steps.PublishCall.TheVariants as asked
use Rattle.commit_publish.specs.declared.publish.PublishErr.{PublishErr}
use Rattle.commit_publish.specs.declared.publish.PublishErr.TheVariants as publishes
use Rattle.commit_versions.specs.Opening.{OpenMarks}
use Rattle.commit_versions.specs.declared.types.OpenErr.{OpenErr}
use Rattle.commit_protocol.specs.Attempts.{TellsLimit}
use Rattle.commit_protocol.specs.Ends.{AddsPlaces, DrawsBy, IsDraft, IsDraftOrBoth, IsPublishFault, LeavesBy}
use Rattle.commit_protocol.specs.Kinds.{commit_kind}
use Rattle.commit_protocol.specs.Prepares.{IsSpareEnd}
use Rattle.commit_protocol.specs.Written.{IsUnwritten, commit_error_by, stop_error, draft_at, version_at}
use Rattle.commit_protocol.specs.declared.committing.Base.{Base}
use Rattle.commit_protocol.specs.declared.errors.Refusal.{Refusal}
use Rattle.commit_protocol.specs.declared.errors.AttemptErr.{AttemptErr}
use Rattle.commit_protocol.specs.declared.errors.AttemptErr.TheVariants as attempts
use Rattle.commit_protocol.specs.declared.errors.CommitErr.{CommitErr}
use Rattle.commit_protocol.specs.declared.errors.CommitErr.TheVariants.{Open, Attempt}

pub where_turned : {A : Type 0} (told : Option A) (C D : A → Type 0) → WhereTold told C → ((x : A) → C x → D x) → WhereTold told D
where_turned None C D here turn = tt
where_turned (Some x) C D here turn = turn x here

-- a fact of the exit, beside what is told
pub since_at : (o a : Option Past) (R : Past → Past → Type 0) (C : Past → Type 0) → Since o a R → WhereTold a C → Since o a (λ old new. R old new × C new)
since_at None a R C since told = since
since_at (Some old) a R C since told = record { now = since.now; is = since.is; holds = (since.holds, subst (λ (q : Option Past). WhereTold q C) since.is told) }

-- An end before the first step of ours.

-- the marks of calls that only look at places
pub marks_of_open : (table : Parts) (kind : Kind) (before now : Option Failure) (told : Option Past) → OpenMarks kind before now told → Marks table kind before now told
marks_of_open table kinds.Done before now told m = m
marks_of_open table kinds.Told before now told m = m
marks_of_open table (kinds.Fault place) before now told m = where_turned told (λ past. now ≡ Some (failure_of (Look place) past)) (λ past. (call : StoreCall) × Failing now past call × (place ≡ told_at table call)) m
    (λ past e. (Look place, e, refl))
marks_of_open table (kinds.Unknown version) before now told m = absurd m
marks_of_open table (kinds.Lost version) before now told m = absurd m
marks_of_open table kinds.Memory before now told m = m

-- after an earlier piece that kept the mark, or the count
pub marks_from : (table : Parts) (kind : Kind) (before mid now : Option Failure) (told : Option Past) → mid ≡ before → Marks table kind mid now told → Marks table kind before now told
marks_from table kind before mid now told e = subst (λ (m : Option Failure). Marks table kind m now told) e

pub counts_from : (kind : Kind) (before mid now : ℕ) → mid ≡ before → Counts kind mid now → Counts kind before now
counts_from kind before mid now e = subst (λ (m : ℕ). Counts kind m now) e

-- nothing is left by calls that only look
pub leaves_of_open : (Drawn : ℕ → Type 0) (table : Parts) (kind : Kind) (before now : Option Failure) (told : Option Past) (had has : List Parts) → OpenMarks kind before now told → has ≡ had → LeavesBy Drawn table kind had has
leaves_of_open Drawn table kinds.Done before now told had has m same = same
leaves_of_open Drawn table kinds.Told before now told had has m same = same
leaves_of_open Drawn table (kinds.Fault place) before now told had has m same = inl same
leaves_of_open Drawn table (kinds.Unknown version) before now told had has m same = absurd m
leaves_of_open Drawn table (kinds.Lost version) before now told had has m same = absurd m
leaves_of_open Drawn table kinds.Memory before now told had has m same = inl same

-- A limit that can't be read.

module _ (place : Parts) where
  pub limit_counts : (e : CommitErr) (count : ℕ) → TellsLimit place e → Counts (commit_kind e) count count
  limit_counts e count (inl is) = subst (λ (x : CommitErr). Counts (commit_kind x) count count) (sym is) refl
  limit_counts e count (inr is) = subst (λ (x : CommitErr). Counts (commit_kind x) count count) (sym is) refl

  pub limit_marks : (e : CommitErr) (mark : Option Failure) (told : Option Past) → TellsLimit place e → OpenMarks (commit_kind e) mark mark told
  limit_marks e mark told (inl is) = subst (λ (x : CommitErr). OpenMarks (commit_kind x) mark mark told) (sym is) refl
  limit_marks e mark told (inr is) = subst (λ (x : CommitErr). OpenMarks (commit_kind x) mark mark told) (sym is) refl

  pub limit_opens_nothing : (e : CommitErr) (opening : OpenErr) → TellsLimit place e → e ≡ Open opening → ⊥
  limit_opens_nothing e opening (inl told) is = absurd (cc (told, is))
  limit_opens_nothing e opening (inr told) is = absurd (cc (told, is))

  pub limit_refuses_nothing : (e : CommitErr) (refusal : Refusal) → TellsLimit place e → e ≡ Attempt (attempts.Refused refusal) → ⊥
  limit_refuses_nothing e refusal (inl told) is = absurd (cc (told, is))
  limit_refuses_nothing e refusal (inr told) is = absurd (cc (told, is))

  pub limit_no_fault : (e : CommitErr) (other : Parts) → TellsLimit place e → e ≡ Attempt (attempts.Read (StoreFault other)) → ⊥
  limit_no_fault e other (inl told) is = absurd (cc (told, is))
  limit_no_fault e other (inr told) is = absurd (cc (told, is))

  pub limit_unspared : (e : CommitErr) → TellsLimit place e → IsSpareEnd (Err e) → ⊥
  limit_unspared e (inl is) spare = subst (λ (x : CommitErr). IsSpareEnd (Err x)) is spare
  limit_unspared e (inr is) spare = subst (λ (x : CommitErr). IsSpareEnd (Err x)) is spare

-- A file that isn't drawn up.

module _ (table : Parts) (base : Base) (built : Data) (now id : ℕ) where
  abbrev pub Unwritten : AttemptErr → Type 0
  Unwritten = IsUnwritten table base built now id

  pub unwritten_counts : (e : AttemptErr) (count : ℕ) → Unwritten e → Counts (commit_kind (Attempt e)) count count
  unwritten_counts (attempts.Refused refusal) count u = absurd u
  unwritten_counts (attempts.Conflict place other) count u = absurd u
  unwritten_counts (attempts.NameTaken place) count u = absurd u
  unwritten_counts (attempts.Read (Missing place)) count u = absurd u
  unwritten_counts (attempts.Read (Damaged place at)) count u = absurd u
  unwritten_counts (attempts.Read (Unsupported place what)) count u = refl
  unwritten_counts (attempts.Read (StoreFault place)) count u = absurd u
  unwritten_counts (attempts.Read Memory) count u = refl

  pub unwritten_marks : (e : AttemptErr) (mark : Option Failure) (told : Option Past) → Unwritten e → OpenMarks (commit_kind (Attempt e)) mark mark told
  unwritten_marks (attempts.Refused refusal) mark told u = absurd u
  unwritten_marks (attempts.Conflict place other) mark told u = absurd u
  unwritten_marks (attempts.NameTaken place) mark told u = absurd u
  unwritten_marks (attempts.Read (Missing place)) mark told u = absurd u
  unwritten_marks (attempts.Read (Damaged place at)) mark told u = absurd u
  unwritten_marks (attempts.Read (Unsupported place what)) mark told u = refl
  unwritten_marks (attempts.Read (StoreFault place)) mark told u = absurd u
  unwritten_marks (attempts.Read Memory) mark told u = refl

  pub unwritten_draws : (e : AttemptErr) (before after : Option (List ℕ)) → Unwritten e → Gives before after id → DrawsBy [] (Some (Attempt e)) before after
  unwritten_draws (attempts.Refused refusal) before after u drawn = absurd u
  unwritten_draws (attempts.Conflict place other) before after u drawn = absurd u
  unwritten_draws (attempts.NameTaken place) before after u drawn = absurd u
  unwritten_draws (attempts.Read (Missing place)) before after u drawn = absurd u
  unwritten_draws (attempts.Read (Damaged place at)) before after u drawn = absurd u
  unwritten_draws (attempts.Read (Unsupported place what)) before after u drawn = inr (id, drawn)
  unwritten_draws (attempts.Read (StoreFault place)) before after u drawn = absurd u
  unwritten_draws (attempts.Read Memory) before after u drawn = inr (id, drawn)

  pub unwritten_plainly : (e : AttemptErr) (place : Parts) → Unwritten e → e ≡ attempts.Read (StoreFault place) → ⊥
  unwritten_plainly e place u is = subst (λ (x : AttemptErr). Unwritten x) is u

  pub unwritten_refuses_nothing : (e : AttemptErr) (refusal : Refusal) → Unwritten e → e ≡ attempts.Refused refusal → ⊥
  unwritten_refuses_nothing e refusal u is = subst (λ (x : AttemptErr). Unwritten x) is u

  pub unwritten_unspared : (e : AttemptErr) → Unwritten e → IsSpareEnd (Err (Attempt e)) → ⊥
  unwritten_unspared (attempts.Refused refusal) u spare = u
  unwritten_unspared (attempts.Conflict place other) u spare = u
  unwritten_unspared (attempts.NameTaken place) u spare = u
  unwritten_unspared (attempts.Read e) u spare = spare

-- A publish that did not end.

module _ (draft table : Parts) (version : ℕ) where
  abbrev pub told_error : PublishErr → CommitErr
  told_error e = commit_error_by e draft table version

  stop_counts : (call : PublishCall) (cause : StoreErr) (before now : ℕ) → CountsBy cause before now → Counts (commit_kind (stop_error call cause draft table version)) before now
  stop_counts call causes.Memory before now c = c
  stop_counts asked.Create causes.Failed before now c = c
  stop_counts asked.Append causes.Failed before now c = c
  stop_counts asked.Seal causes.Failed before now c = c
  stop_counts asked.SyncDraft causes.Failed before now c = c
  stop_counts asked.Rename causes.Failed before now c = c
  stop_counts asked.SyncRename causes.Failed before now c = c
  stop_counts asked.Remove causes.Failed before now c = c
  stop_counts asked.SyncRemoval causes.Failed before now c = c

  pub publish_counts : (e : PublishErr) (before now : ℕ) → PublishCounts (Err e) before now → Counts (commit_kind (told_error e)) before now
  publish_counts publishes.NameTaken before now c = c
  publish_counts publishes.Contended before now c = c
  publish_counts (publishes.Stopped e) before now c = stop_counts e.call e.cause before now c

  stop_opens_nothing : (call : PublishCall) (cause : StoreErr) (opening : OpenErr) → stop_error call cause draft table version ≡ Open opening → ⊥
  stop_opens_nothing call causes.Memory opening is = absurd (cc (is))
  stop_opens_nothing asked.Create causes.Failed opening is = absurd (cc (is))
  stop_opens_nothing asked.Append causes.Failed opening is = absurd (cc (is))
  stop_opens_nothing asked.Seal causes.Failed opening is = absurd (cc (is))
  stop_opens_nothing asked.SyncDraft causes.Failed opening is = absurd (cc (is))
  stop_opens_nothing asked.Rename causes.Failed opening is = absurd (cc (is))
  stop_opens_nothing asked.SyncRename causes.Failed opening is = absurd (cc (is))
  stop_opens_nothing asked.Remove causes.Failed opening is = absurd (cc (is))
  stop_opens_nothing asked.SyncRemoval causes.Failed opening is = absurd (cc (is))

  pub publish_opens_nothing : (e : PublishErr) (opening : OpenErr) → told_error e ≡ Open opening → ⊥
  publish_opens_nothing publishes.NameTaken opening is = absurd (cc (is))
  publish_opens_nothing publishes.Contended opening is = absurd (cc (is))
  publish_opens_nothing (publishes.Stopped e) opening is = stop_opens_nothing e.call e.cause opening is

  stop_refuses_nothing : (call : PublishCall) (cause : StoreErr) (refusal : Refusal) → stop_error call cause draft table version ≡ Attempt (attempts.Refused refusal) → ⊥
  stop_refuses_nothing call causes.Memory refusal is = absurd (cc (is))
  stop_refuses_nothing asked.Create causes.Failed refusal is = absurd (cc (is))
  stop_refuses_nothing asked.Append causes.Failed refusal is = absurd (cc (is))
  stop_refuses_nothing asked.Seal causes.Failed refusal is = absurd (cc (is))
  stop_refuses_nothing asked.SyncDraft causes.Failed refusal is = absurd (cc (is))
  stop_refuses_nothing asked.Rename causes.Failed refusal is = absurd (cc (is))
  stop_refuses_nothing asked.SyncRename causes.Failed refusal is = absurd (cc (is))
  stop_refuses_nothing asked.Remove causes.Failed refusal is = absurd (cc (is))
  stop_refuses_nothing asked.SyncRemoval causes.Failed refusal is = absurd (cc (is))

  pub publish_refuses_nothing : (e : PublishErr) (refusal : Refusal) → told_error e ≡ Attempt (attempts.Refused refusal) → ⊥
  publish_refuses_nothing publishes.NameTaken refusal is = absurd (cc (is))
  publish_refuses_nothing publishes.Contended refusal is = absurd (cc (is))
  publish_refuses_nothing (publishes.Stopped e) refusal is = stop_refuses_nothing e.call e.cause refusal is

  stop_unspared : (call : PublishCall) (cause : StoreErr) → IsSpareEnd (Err (stop_error call cause draft table version)) → ⊥
  stop_unspared call causes.Memory spare = spare
  stop_unspared asked.Create causes.Failed spare = spare
  stop_unspared asked.Append causes.Failed spare = spare
  stop_unspared asked.Seal causes.Failed spare = spare
  stop_unspared asked.SyncDraft causes.Failed spare = spare
  stop_unspared asked.Rename causes.Failed spare = spare
  stop_unspared asked.SyncRename causes.Failed spare = spare
  stop_unspared asked.Remove causes.Failed spare = spare
  stop_unspared asked.SyncRemoval causes.Failed spare = spare

  -- it has drawn an identifier, and no answer of it says that none was
  pub publish_unspared : (e : PublishErr) → IsSpareEnd (Err (told_error e)) → ⊥
  publish_unspared publishes.NameTaken spare = spare
  publish_unspared publishes.Contended spare = spare
  publish_unspared (publishes.Stopped e) spare = stop_unspared e.call e.cause spare

  module _ (Drawn : ℕ → Type 0) (id : ℕ) (drawn : Drawn id) (draft_is : draft ≡ draft_at table id) (place : Parts) where
    on_draft : draft ≡ place → IsPublishFault Drawn table place
    on_draft same = inr (id, drawn, sym same ∙ draft_is)

    on_table : table ≡ place → IsPublishFault Drawn table place
    on_table same = inl (sym same)

    stop_place : (call : PublishCall) (cause : StoreErr) → stop_error call cause draft table version ≡ Attempt (attempts.Read (StoreFault place)) → IsPublishFault Drawn table place
    stop_place call causes.Memory is = absurd (cc (is))
    stop_place asked.Create causes.Failed is = on_draft (cc (is))
    stop_place asked.Append causes.Failed is = on_draft (cc (is))
    stop_place asked.Seal causes.Failed is = on_draft (cc (is))
    stop_place asked.SyncDraft causes.Failed is = on_table (cc (is))
    stop_place asked.Rename causes.Failed is = absurd (cc (is))
    stop_place asked.SyncRename causes.Failed is = absurd (cc (is))
    stop_place asked.Remove causes.Failed is = on_draft (cc (is))
    stop_place asked.SyncRemoval causes.Failed is = on_table (cc (is))

    -- a fault of a publish is told at the table or at the new file
    pub publish_place : (e : PublishErr) → told_error e ≡ Attempt (attempts.Read (StoreFault place)) → IsPublishFault Drawn table place
    publish_place publishes.NameTaken is = absurd (cc (is))
    publish_place publishes.Contended is = absurd (cc (is))
    publish_place (publishes.Stopped e) is = stop_place e.call e.cause is

  module _ (before after : Option (List ℕ)) (one : (id : ℕ) × Gives before after id) where
    stop_draws : (call : PublishCall) (cause : StoreErr) → DrawsBy [] (Some (stop_error call cause draft table version)) before after
    stop_draws call causes.Memory = inr one
    stop_draws asked.Create causes.Failed = inr one
    stop_draws asked.Append causes.Failed = inr one
    stop_draws asked.Seal causes.Failed = inr one
    stop_draws asked.SyncDraft causes.Failed = inr one
    stop_draws asked.Rename causes.Failed = inr one
    stop_draws asked.SyncRename causes.Failed = inr one
    stop_draws asked.Remove causes.Failed = inr one
    stop_draws asked.SyncRemoval causes.Failed = inr one

    pub publish_draws : (e : PublishErr) → DrawsBy [] (Some (told_error e)) before after
    publish_draws publishes.NameTaken = inr one
    publish_draws publishes.Contended = inr one
    publish_draws (publishes.Stopped e) = stop_draws e.call e.cause

  module _ (target : Parts) where
    module _ (bytes : List ℕ) (before now : Option Failure) (told : Option Past) where
      abbrev pub asked_step : PublishCall → StoreCall
      asked_step call = Take (step_of draft target bytes call)

      -- a failed call is told at its place
      fault_marks : (call : PublishCall) (place : Parts) → place ≡ told_at table (asked_step call) → MarksBy causes.Failed (asked_step call) before now told → Marks table (kinds.Fault place) before now told
      fault_marks call place is m = where_turned told (λ past. Failing now past (asked_step call)) (λ past. (c : StoreCall) × Failing now past c × (place ≡ told_at table c)) m (λ past e. (asked_step call, e, is))

      unknown_marks : (call : PublishCall) (v : ℕ) → MarksBy causes.Failed (asked_step call) before now told → Marks table (kinds.Unknown v) before now told
      unknown_marks call v m = where_turned told (λ past. Failing now past (asked_step call)) (λ past. (c : StoreCall) × Failing now past c) m (λ past e. (asked_step call, e))

      stop_marks : (call : PublishCall) (cause : StoreErr) → MarksBy cause (asked_step call) before now told → Marks table (commit_kind (stop_error call cause draft table version)) before now told
      stop_marks call causes.Memory m = m
      stop_marks asked.Create causes.Failed m = fault_marks asked.Create draft refl m
      stop_marks asked.Append causes.Failed m = fault_marks asked.Append draft refl m
      stop_marks asked.Seal causes.Failed m = fault_marks asked.Seal draft refl m
      stop_marks asked.SyncDraft causes.Failed m = fault_marks asked.SyncDraft table refl m
      stop_marks asked.Rename causes.Failed m = unknown_marks asked.Rename version m
      stop_marks asked.SyncRename causes.Failed m = unknown_marks asked.SyncRename version m
      stop_marks asked.Remove causes.Failed m = fault_marks asked.Remove draft refl m
      stop_marks asked.SyncRemoval causes.Failed m = fault_marks asked.SyncRemoval table refl m

      pub publish_marks : (e : PublishErr) → PublishMarks draft target bytes (Err e) before now told → Marks table (commit_kind (told_error e)) before now told
      publish_marks publishes.NameTaken m = m
      publish_marks publishes.Contended m = m
      publish_marks (publishes.Stopped e) m = stop_marks e.call e.cause m

    module _ (Drawn : ℕ → Type 0) (id : ℕ) (drawn : Drawn id) (draft_is : draft ≡ draft_at table id) (target_is : target ≡ version_at table version) (had has : List Parts) where
      one_left : has ≡ had ++ draft ∷ [] → AddsPlaces (IsDraft Drawn table) had has
      one_left is = (draft ∷ [], is, (id, drawn, ap (λ (p : Parts). p ∷ []) draft_is))

      one_unknown : has ≡ had ++ draft ∷ [] → AddsPlaces (IsDraftOrBoth Drawn table version) had has
      one_unknown is = (draft ∷ [], is, inl (id, drawn, ap (λ (p : Parts). p ∷ []) draft_is))

      two_left : has ≡ had ++ draft ∷ target ∷ [] → AddsPlaces (IsDraftOrBoth Drawn table version) had has
      two_left is = (draft ∷ target ∷ [], is, inr (id, drawn, ap (λ (p : Parts). p ∷ target ∷ []) draft_is ∙ ap (λ (p : Parts). draft_at table id ∷ p ∷ []) target_is))

      none_left : has ≡ had ++ [] → has ≡ had
      none_left is = is ∙ append-nil had

      stop_leaves : (call : PublishCall) (cause : StoreErr) → has ≡ had ++ left_at draft target call cause → LeavesBy Drawn table (commit_kind (stop_error call cause draft table version)) had has
      stop_leaves asked.Create causes.Memory is = inl (none_left is)
      stop_leaves asked.Append causes.Memory is = inr (one_left is)
      stop_leaves asked.Seal causes.Memory is = inr (one_left is)
      stop_leaves asked.SyncDraft causes.Memory is = inr (one_left is)
      stop_leaves asked.Rename causes.Memory is = inr (one_left is)
      stop_leaves asked.SyncRename causes.Memory is = inr (one_left is)
      stop_leaves asked.Remove causes.Memory is = inr (one_left is)
      stop_leaves asked.SyncRemoval causes.Memory is = inl (none_left is)
      stop_leaves asked.Create causes.Failed is = inr (one_left is)
      stop_leaves asked.Append causes.Failed is = inr (one_left is)
      stop_leaves asked.Seal causes.Failed is = inr (one_left is)
      stop_leaves asked.SyncDraft causes.Failed is = inr (one_left is)
      stop_leaves asked.Rename causes.Failed is = two_left is
      stop_leaves asked.SyncRename causes.Failed is = one_unknown is
      stop_leaves asked.Remove causes.Failed is = inr (one_left is)
      stop_leaves asked.SyncRemoval causes.Failed is = inl (none_left is)

      pub publish_leaves : (e : PublishErr) → has ≡ had ++ left_by draft target (Err e) → LeavesBy Drawn table (commit_kind (told_error e)) had has
      publish_leaves publishes.NameTaken is = none_left is
      publish_leaves publishes.Contended is = none_left is
      publish_leaves (publishes.Stopped e) is = stop_leaves e.call e.cause is
