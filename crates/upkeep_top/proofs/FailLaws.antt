-- What a run tells of a failed call: where it is told, and what the steps of an unknown commit end with.
use Rattle.std.proofs.Common.{◌≡◌, ◌⊎◌, inl, inr, ℕ, true, List, [], ◌∷◌, ◌++◌, Option, Some, None, sym, ap, ◌∙◌, subst, append_assoc}
use Rattle.ice_store.specs.Given.{Gives}
use Rattle.ice_store.specs.History.{replay, later}
use Rattle.ice_store.proofs.HistoryLaws.{later-later}
use Rattle.ice_store.specs.Places.{Parts}
use Rattle.ice_store.specs.Since.{Since}
use Rattle.ice_store.proofs.SinceLaws.{since_then}
use Rattle.ice_store.specs.declared.faults.ReadErr.TheVariants as reads
use Rattle.ice_store.specs.declared.history.Past.{Past}
use Rattle.ice_store.specs.declared.history.Step.{Step}
use Rattle.ice_store.specs.declared.history.Step.TheVariants.{Create, Append, Rename, SyncNames}
use Rattle.commit_history.specs.Runs.{ours}
use Rattle.commit_history.proofs.Running.{ours-append}
use Rattle.commit_publish.specs.Kinds as kinds
use Rattle.commit_publish.specs.Kinds.{Kind, Failing}
use Rattle.commit_publish.specs.Steps.{IsTakenOf, step_of, steps_before}
use Rattle.commit_publish.specs.declared.steps.PublishCall.{PublishCall}
use Rattle.commit_publish.specs.declared.steps.PublishCall.TheVariants as asked
use Rattle.commit_versions.specs.Opening.{IsAskedFor}
use Rattle.commit_versions.specs.declared.types.OpenErr.TheVariants as opens
use Rattle.commit_protocol.specs.Kinds.{error_kind, is_renaming, kind_of}
use Rattle.commit_protocol.specs.Written.{draft_at, version_at}
use Rattle.commit_protocol.specs.declared.errors.AttemptErr.TheVariants as attempts
use Rattle.commit_protocol.specs.declared.errors.CommitErr.{CommitErr}
use Rattle.commit_protocol.specs.declared.errors.CommitErr.TheVariants.{Open, Attempt, Contended, CommitUnknown}
use Rattle.run_answers.specs.declared.status.Status.{Status}
use Rattle.run_answers.specs.declared.status.Status.TheVariants as statuses
use Rattle.upkeep_top.specs.Points.{Point}
use Rattle.upkeep_top.specs.Promises.{EndsOpen}
use Rattle.upkeep_top.specs.Runs.{RanAsked, TellsFaultAt, EndsUnknown}
use Rattle.upkeep_top.specs.Verdicts.{meanings_of, status_kind}
use Rattle.upkeep_top.proofs.KindLaws.{TellsKind, tells_kind}
use Rattle.upkeep_top.proofs.StopLaws.{asked_of, tables_are}
use Rattle.upkeep_top.proofs.StretchLaws.{Stretch, WorkOf, leads_stretch, works_of}
use Rattle.upkeep_top.proofs.VersionLaws.{Took, the_draft, the_target}

-- The place of a fault.

abbrev IsFaultError : Option CommitErr → Parts → Type 0
IsFaultError error place = (error ≡ Some (Open (opens.Read (reads.StoreFault place)))) ⊎ (error ≡ Some (Attempt (attempts.Read (reads.StoreFault place))))

fault_error : (error : Option CommitErr) (place : Parts) → error_kind error ≡ kinds.Fault place → IsFaultError error place
fault_error None place is = absurd (cc (is))
fault_error (Some (Open (opens.NoTable p))) place is = absurd (cc (is))
fault_error (Some (Open (opens.LocationDiffers p location))) place is = absurd (cc (is))
fault_error (Some (Open (opens.Read (reads.Missing p)))) place is = absurd (cc (is))
fault_error (Some (Open (opens.Read (reads.Damaged p at)))) place is = absurd (cc (is))
fault_error (Some (Open (opens.Read (reads.Unsupported p what)))) place is = absurd (cc (is))
fault_error (Some (Open (opens.Read (reads.StoreFault p)))) place is = let same : p ≡ place = cc (is) in inl (ap (λ (x : Parts). Some (Open (opens.Read (reads.StoreFault x)))) same)
fault_error (Some (Open (opens.Read reads.Memory))) place is = absurd (cc (is))
fault_error (Some (Attempt (attempts.Refused refusal))) place is = absurd (cc (is))
fault_error (Some (Attempt (attempts.Conflict p other))) place is = absurd (cc (is))
fault_error (Some (Attempt (attempts.NameTaken p))) place is = absurd (cc (is))
fault_error (Some (Attempt (attempts.Read (reads.Missing p)))) place is = absurd (cc (is))
fault_error (Some (Attempt (attempts.Read (reads.Damaged p at)))) place is = absurd (cc (is))
fault_error (Some (Attempt (attempts.Read (reads.Unsupported p what)))) place is = absurd (cc (is))
fault_error (Some (Attempt (attempts.Read (reads.StoreFault p)))) place is = let same : p ≡ place = cc (is) in inr (ap (λ (x : Parts). Some (Attempt (attempts.Read (reads.StoreFault x)))) same)
fault_error (Some (Attempt (attempts.Read reads.Memory))) place is = absurd (cc (is))
fault_error (Some (Contended v)) place is = absurd (cc (is))
fault_error (Some (CommitUnknown v)) place is = absurd (cc (is))

-- An unknown end.

module _ (draft target : Parts) (bytes : List ℕ) where
  opens_with : (taken : List Step) → (taken ≡ []) ⊎ ((taken ≡ Rename draft target ∷ []) ⊎ (taken ≡ Rename draft target ∷ SyncNames ∷ [])) → (steps : List Step) → steps ≡ steps_before draft target bytes asked.Rename ++ taken → EndsOpen target steps
  opens_with taken end steps is = record { before = Create draft ∷ Append draft bytes ∷ []; draft = draft; more = taken; is = is; end = end }

  pub open_end : (call : PublishCall) (taken : List Step) → is_renaming call ≡ true → IsTakenOf (step_of draft target bytes call) taken → (steps : List Step) → steps ≡ steps_before draft target bytes call ++ taken → EndsOpen target steps
  open_end asked.Create taken other e steps is = absurd (cc (other))
  open_end asked.Append taken other e steps is = absurd (cc (other))
  open_end asked.Seal taken other e steps is = absurd (cc (other))
  open_end asked.SyncDraft taken other e steps is = absurd (cc (other))
  open_end asked.Rename taken other (inl e) steps is = opens_with taken (inl e) steps is
  open_end asked.Rename taken other (inr e) steps is = opens_with taken (inr (inl e)) steps is
  open_end asked.SyncRename taken other (inl e) steps is = opens_with (Rename draft target ∷ taken) (inr (inl (ap (λ (l : List Step). Rename draft target ∷ l) e))) steps is
  open_end asked.SyncRename taken other (inr e) steps is = opens_with (Rename draft target ∷ taken) (inr (inr (ap (λ (l : List Step). Rename draft target ∷ l) e))) steps is
  open_end asked.Remove taken other e steps is = absurd (cc (other))
  open_end asked.SyncRemoval taken other e steps is = absurd (cc (other))

ends_later : (target : Parts) (before steps : List Step) → EndsOpen target steps → EndsOpen target (before ++ steps)
ends_later target before steps e = record { before = before ++ e.before; draft = e.draft; more = e.more; is = ap (λ (l : List Step). before ++ l) e.is ∙ sym (append_assoc before e.before _); end = e.end }

-- Of a run.

module _ (words : List (List ℕ)) (status : Status) (p q : Point) (r : RanAsked words status p q) where
  of_table : r.ended.task.table ≡ r.table
  of_table = (tables_are words status p q r).1

  -- a kind of failure that the status tells is the end's
  kind_is : (kind : Kind) → status_kind status ≡ kind → (kind ≡ kinds.Memory → ⊥) → TellsKind (status_kind status) (kind_of r.ended.ends.end) → kind_of r.ended.ends.end ≡ kind
  kind_is kind is other (inl same) = sym same ∙ is
  kind_is kind is other (inr m) = absurd (other (sym is ∙ m.1))

  the_kind : (kind : Kind) → status_kind status ≡ kind → (kind ≡ kinds.Memory → ⊥) → kind_of r.ended.ends.end ≡ kind
  the_kind kind is other = kind_is kind is other (tells_kind r.ended.task.word r.ended.ends.end.error status r.ended.ends.answers)

  told_place : (place : Parts) → IsFaultError r.ended.ends.end.error place → TellsFaultAt words place
  told_place place (inl opening) = (r.table, asked_of words status p q r, inr (inl (subst (λ (t : Parts). IsAskedFor t place) of_table (r.ended.ends.opening (opens.Read (reads.StoreFault place)) opening))))
  told_place place (inr attempt) = elim (r.ended.ends.fault place attempt) [
    | inl table ↦ (r.table, asked_of words status p q r, inl (table ∙ of_table))
    | inr draft ↦ (r.table, asked_of words status p q r, inr (inr (draft.0, subst (λ (t : Parts). place ≡ draft_at t draft.0) of_table draft.2)))
  ]

  pub fault_place : (place : Parts) → status ≡ statuses.StoreFault place → TellsFaultAt words place
  fault_place place is = told_place place (fault_error r.ended.ends.end.error place (the_kind (kinds.Fault place) (ap status_kind is) (λ m. absurd (cc (m)))))

  pub unknown_end : (version : ℕ) → status ≡ statuses.CommitUnknown version → Since p.past q.past (EndsUnknown words version)
  unknown_end version is =
      let e = r.ended in
      let from = e.from in
      let now = e.ends.now in
      let Drawn = Gives from.identifiers q.identifiers in
      let parts = tables_are words status p q r in
      let kind = the_kind (kinds.Unknown version) (ap status_kind is) (λ m. absurd (cc (m))) in
      since_then p.past from.past q.past (Stretch _ p.committed from.committed) (WorkOf e.task status from q e.ends) (EndsUnknown words version) (leads_stretch r.table e.before p from parts.0 e.led) (works_of e.task status from q e.ends)
      (λ old mid new s w.
      let files = (replay mid).files in
      let successor = (meanings_of e.task now).change.successor in
      let took = subst (λ (k : Kind). Took successor Drawn e.task.table now files (Failing q.halted new) k e.ends.end.versions (ours w.events) w.left) kind w.took in
      let publish = took.1.0 in
      let f = took.1.2 in
      let stop = f.stopped.steps_are in
      let here = open_end (the_draft successor Drawn e.task.table now files publish) (the_target successor Drawn e.task.table now files publish) publish.bytes f.call stop.0 f.kind stop.1 (ours w.events) stop.2 in
      let at_version = subst (λ (v : ℕ). EndsOpen (version_at e.task.table v) (ours w.events)) (sym took.1.1) here in
      let at_table = subst (λ (t : Parts). EndsOpen (version_at t version) (ours w.events)) parts.1 at_version in (
        r.table,
        asked_of words status p q r,
        (
          s.events ++ w.events,
          w.is ∙ ap (λ (x : Past). later x w.events) s.is ∙ later-later old s.events w.events,
          subst (λ (l : List Step). EndsOpen (version_at r.table version) l) (sym (ours-append s.events w.events)) (ends_later (version_at r.table version) (ours s.events) (ours w.events) at_table),
        ),
      ))
