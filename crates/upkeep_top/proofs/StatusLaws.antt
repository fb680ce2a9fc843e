-- The status of an error is neither Done nor that of a failed output.
use Rattle.std.proofs.Common.{◌≡◌, ℕ, Bool, true, false, refl, sym, ap, ◌∙◌}
use Rattle.ice_store.specs.declared.faults.ReadErr.{ReadErr}
use Rattle.ice_store.specs.declared.faults.ReadErr.TheVariants as reads
use Rattle.commit_versions.specs.declared.types.OpenErr.TheVariants as opens
use Rattle.commit_protocol.specs.declared.errors.Refusal.{Refusal}
use Rattle.commit_protocol.specs.declared.errors.Refusal.TheVariants as refusals
use Rattle.commit_protocol.specs.declared.errors.AttemptErr.TheVariants as attempts
use Rattle.commit_protocol.specs.declared.errors.CommitErr.{CommitErr}
use Rattle.commit_protocol.specs.declared.errors.CommitErr.TheVariants.{Open, Attempt, Contended, CommitUnknown}
use Rattle.run_answers.specs.Answers.{read_status, refusal_status, status_of}
use Rattle.run_answers.specs.declared.status.Status.{Status}
use Rattle.run_answers.specs.declared.status.Status.TheVariants.{Done, OutFault}

-- a status that tells an error of a statement's work
abbrev pub is_error : Status → Bool
is_error Done = false
is_error OutFault = false
is_error status = true

read_error : (e : ReadErr) → is_error (read_status e) ≡ true
read_error (reads.Missing place) = refl
read_error (reads.Damaged place at) = refl
read_error (reads.Unsupported place what) = refl
read_error (reads.StoreFault place) = refl
read_error reads.Memory = refl

refusal_error : (word : ℕ) (refusal : Refusal) → is_error (refusal_status word refusal) ≡ true
refusal_error word (refusals.UnknownSnapshot id) = refl
refusal_error word (refusals.UnknownRef name) = refl
refusal_error word (refusals.NotAncestor id of) = refl
refusal_error word (refusals.StillReferenced id name) = refl
refusal_error word refusals.GcDisabled = refl
refusal_error word (refusals.TooRecent older limit) = refl
refusal_error word (refusals.OutsidePrefix path) = refl
refusal_error word (refusals.UnreadableDelete place) = refl
refusal_error word refusals.SamePrefix = refl
refusal_error word (refusals.UnknownVersion name) = refl
refusal_error word (refusals.BadArgument name) = refl

pub error_is : (word : ℕ) (e : CommitErr) → is_error (status_of word e) ≡ true
error_is word (Open (opens.NoTable place)) = refl
error_is word (Open (opens.LocationDiffers place location)) = refl
error_is word (Open (opens.Read e)) = read_error e
error_is word (Attempt (attempts.Refused refusal)) = refusal_error word refusal
error_is word (Attempt (attempts.Conflict place other)) = refl
error_is word (Attempt (attempts.NameTaken place)) = refl
error_is word (Attempt (attempts.Read e)) = read_error e
error_is word (Contended v) = refl
error_is word (CommitUnknown v) = refl

module _ (word : ℕ) (e : CommitErr) (status : Status) (is : status ≡ status_of word e) where
  pub not_done : status ≡ Done → ⊥
  not_done done = let told : is_error Done ≡ true = ap is_error (sym done ∙ is) ∙ error_is word e in absurd (cc (told))

  pub not_output : status ≡ OutFault → ⊥
  not_output out = let told : is_error OutFault ≡ true = ap is_error (sym out ∙ is) ∙ error_is word e in absurd (cc (told))
