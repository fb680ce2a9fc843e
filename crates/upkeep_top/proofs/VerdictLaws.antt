-- A statement has one status: no two ends with different errors have their cause in the same files.
use Rattle.std.proofs.Common.{◌≡◌, ◌⊎◌, inl, inr, ℕ, Bool, true, false, List, [], ◌∷◌, Option, Some, None, Result, Ok, Err, refl, sym, ap, ◌∙◌, subst}
use Rattle.ice_store.specs.declared.history.Held.{Held}
use Rattle.ice_store.specs.declared.faults.ReadErr.{ReadErr}
use Rattle.ice_store.specs.declared.faults.ReadErr.TheVariants as reads
use Rattle.commit_publish.specs.Kinds.{read_kind}
use Rattle.commit_versions.specs.declared.types.OpenErr.TheVariants as opens
use Rattle.commit_protocol.specs.Kinds.{End, commit_kind, commit_end, error_kind, kind_of}
use Rattle.commit_protocol.specs.Verdicts.{CommitVerdict, EndVerdict, IsDecided, IsOfState, IsOneDrawn, IsTold}
use Rattle.commit_protocol.proofs.UniqueLaws.{one_commit_of}
use Rattle.commit_protocol.specs.declared.errors.Refusal.{Refusal}
use Rattle.commit_protocol.specs.declared.errors.Refusal.TheVariants as refusals
use Rattle.commit_protocol.specs.declared.errors.AttemptErr.TheVariants as attempts
use Rattle.commit_protocol.specs.declared.errors.CommitErr.{CommitErr}
use Rattle.commit_protocol.specs.declared.errors.CommitErr.TheVariants.{Open, Attempt, Contended, CommitUnknown}
use Rattle.commit_protocol.specs.declared.errors.Committed.{Committed}
use Rattle.commit_protocol.specs.declared.errors.Committed.TheVariants.{Same, Published}
use Rattle.run_answers.specs.Answers.{read_status, refusal_status, status_of}
use Rattle.run_answers.specs.declared.status.Status.{Status}
use Rattle.run_answers.specs.declared.status.Status.TheVariants as statuses
use Rattle.run_refs.proofs.ProcedureLaws.{move_decided, listing_decided}
use Rattle.upkeep_top.specs.Procedures.{meaning_of}
use Rattle.upkeep_top.specs.Statements.{StatusBy}
use Rattle.upkeep_top.specs.Verdicts.{IsFree, TaskVerdict, error_status, meanings_of}
use Rattle.upkeep_top.specs.declared.task.Task.{Task}
use Rattle.upkeep_top.specs.declared.task.Work.{Work}
use Rattle.upkeep_top.specs.declared.task.Work.TheVariants.{Move, List as Listing}

-- the meanings of each procedure exclude one another
decided : (work : Work) (now : ℕ) → IsDecided (meaning_of work now).change
decided (Move goal) now = move_decided goal now
decided (Listing given) now = listing_decided given

-- One end.

module _ (task : Task) (now : ℕ) (Drawn : ℕ → Type 0) (files : List Held) where
  abbrev Causes : List ℕ → Option CommitErr → Type 0
  Causes versions error = EndVerdict (meanings_of task now).needs (meanings_of task now).change Drawn task.table now files versions error

  abbrev Answers : Result Committed CommitErr → Type 0
  Answers r = CommitVerdict (meanings_of task now).needs (meanings_of task now).change Drawn task.table now files r

  -- an answer of a commit with the same cause and the same error
  record Answered (error : Option CommitErr) : Type 0 where
    result : Result Committed CommitErr
    told : IsTold result
    verdict : Answers result
    same : (commit_end result).error ≡ error

  answered : (versions : List ℕ) (error : Option CommitErr) → IsOfState (error_kind error) → Causes versions error → Answered error
  answered [] None told v = record { result = Ok (Same v.last); told = tt; verdict = record { place = v.place; last = v.last; bytes = v.bytes; tree = v.tree; is = v.is; has = v.has; holds = (refl, v.holds) }; same = refl }
  answered (n ∷ versions) None told v = record { result = Ok (Published n); told = tt; verdict = v.1; same = refl }
  answered [] (Some e) told v = record { result = Err e; told = told; verdict = v.1; same = refl }
  answered (n ∷ versions) (Some e) told v = record { result = Err e; told = told; verdict = v.1; same = refl }

  pub one_error : IsOneDrawn Drawn → (a b : End) → IsOfState (kind_of a) → IsOfState (kind_of b) → TaskVerdict task now Drawn files a → TaskVerdict task now Drawn files b → a.error ≡ b.error
  one_error one a b told_a told_b v w =
      let x = answered a.versions a.error told_a v in
      let y = answered b.versions b.error told_b w in
      let same : x.result ≡ y.result = one_commit_of (meanings_of task now).needs task.table now (meanings_of task now).change Drawn (decided task.work now) one files x.result y.result x.told y.told x.verdict y.verdict in
      sym x.same ∙ ap (λ (r : Result Committed CommitErr). (commit_end r).error) same ∙ y.same

-- The status of an end.

abbrev pub is_free : Status → Bool
is_free (statuses.StoreFault place) = true
is_free (statuses.CommitUnknown v) = true
is_free statuses.OutFault = true
is_free statuses.OutOfMemory = true
is_free status = false

pub free_is : (status : Status) → IsFree status → is_free status ≡ true
free_is status (inl f) = ap is_free f.1
free_is status (inr (inl f)) = ap is_free f.1
free_is status (inr (inr (inl f))) = ap is_free f
free_is status (inr (inr (inr f))) = ap is_free f

-- an error's cause stands in a state, or its status is free
abbrev StateOrFree : ℕ → CommitErr → Type 0
StateOrFree word e = (IsOfState (commit_kind e) × (is_free (status_of word e) ≡ false)) ⊎ IsFree (status_of word e)

abbrev ReadOrFree : ReadErr → Type 0
ReadOrFree e = (IsOfState (read_kind e) × (is_free (read_status e) ≡ false)) ⊎ IsFree (read_status e)

of_read : (e : ReadErr) → ReadOrFree e
of_read (reads.Missing place) = inl (tt, refl)
of_read (reads.Damaged place at) = inl (tt, refl)
of_read (reads.Unsupported place what) = inl (tt, refl)
of_read (reads.StoreFault place) = inr (inl (place, refl))
of_read reads.Memory = inr (inr (inr (inr refl)))

refusal_plain : (word : ℕ) (refusal : Refusal) → is_free (refusal_status word refusal) ≡ false
refusal_plain word (refusals.UnknownSnapshot id) = refl
refusal_plain word (refusals.UnknownRef name) = refl
refusal_plain word (refusals.NotAncestor id of) = refl
refusal_plain word (refusals.StillReferenced id name) = refl
refusal_plain word refusals.GcDisabled = refl
refusal_plain word (refusals.TooRecent older limit) = refl
refusal_plain word (refusals.OutsidePrefix path) = refl
refusal_plain word (refusals.UnreadableDelete place) = refl
refusal_plain word refusals.SamePrefix = refl
refusal_plain word (refusals.UnknownVersion name) = refl
refusal_plain word (refusals.BadArgument name) = refl

of_error : (word : ℕ) (e : CommitErr) → StateOrFree word e
of_error word (Open (opens.NoTable place)) = inl (tt, refl)
of_error word (Open (opens.LocationDiffers place location)) = inl (tt, refl)
of_error word (Open (opens.Read e)) = of_read e
of_error word (Attempt (attempts.Refused refusal)) = inl (tt, refusal_plain word refusal)
of_error word (Attempt (attempts.Conflict place other)) = inl (tt, refl)
of_error word (Attempt (attempts.NameTaken place)) = inl (tt, refl)
of_error word (Attempt (attempts.Read e)) = of_read e
of_error word (Contended v) = inl (tt, refl)
of_error word (CommitUnknown v) = inr (inr (inl (v, refl)))

-- the status tells the error, whose cause stands in a state; or it is free
abbrev pub TellsError : ℕ → Option CommitErr → Status → Type 0
TellsError word error status = (IsOfState (error_kind error) × (status ≡ error_status word error) × (is_free status ≡ false)) ⊎ IsFree status

by_state : (word : ℕ) (e : CommitErr) (status : Status) → status ≡ status_of word e → StateOrFree word e → TellsError word (Some e) status
by_state word e status is (inl s) = inl (s.0, is, ap is_free is ∙ s.1)
by_state word e status is (inr f) = inr (subst IsFree (sym is) f)

pub tells_error : (word : ℕ) (error : Option CommitErr) (status : Status) → StatusBy word error status → TellsError word error status
tells_error word None status (inl done) = inl (tt, done, ap is_free done)
tells_error word None status (inr (inl output)) = inr (inr (inr (inl output)))
tells_error word None status (inr (inr memory)) = inr (inr (inr (inr memory)))
tells_error word (Some e) status is = by_state word e status is (of_error word e)
