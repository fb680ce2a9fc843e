-- The kind of end that a status tells, and what stays where statements are Done.
use Rattle.std.proofs.Common.{◌≡◌, ◌⊎◌, inl, inr, ℕ, List, [], ◌∷◌, Option, Some, None, refl, sym, ap, ◌∙◌, subst}
use Rattle.ice_store.specs.Places.{Parts}
use Rattle.ice_store.specs.Given.{Gives}
use Rattle.ice_store.specs.declared.faults.ReadErr.{ReadErr}
use Rattle.ice_store.specs.declared.faults.ReadErr.TheVariants as reads
use Rattle.ice_store.specs.declared.history.Failure.{Failure}
use Rattle.ice_store.specs.declared.history.Past.{Past}
use Rattle.commit_publish.specs.Kinds as kinds
use Rattle.commit_publish.specs.Kinds.{Kind, Counts, Marks, read_kind}
use Rattle.commit_versions.specs.Opening.{open_kind}
use Rattle.commit_versions.specs.declared.types.OpenErr.{OpenErr}
use Rattle.commit_versions.specs.declared.types.OpenErr.TheVariants as opens
use Rattle.commit_protocol.specs.Ends.{LeavesBy}
use Rattle.commit_protocol.specs.Kinds.{error_kind, commit_kind}
use Rattle.commit_protocol.specs.declared.errors.Refusal.{Refusal}
use Rattle.commit_protocol.specs.declared.errors.Refusal.TheVariants as refusals
use Rattle.commit_protocol.specs.declared.errors.AttemptErr.TheVariants as attempts
use Rattle.commit_protocol.specs.declared.errors.CommitErr.{CommitErr}
use Rattle.commit_protocol.specs.declared.errors.CommitErr.TheVariants.{Open, Attempt, Contended, CommitUnknown}
use Rattle.run_answers.specs.Answers.{read_status, refusal_status, open_status, status_of}
use Rattle.run_answers.specs.declared.status.Status.{Status}
use Rattle.run_answers.specs.declared.status.Status.TheVariants.{Done}
use Rattle.upkeep_top.specs.Points.{Point}
use Rattle.upkeep_top.specs.Chains.{Leads}
use Rattle.upkeep_top.specs.Runs.{IsDone, IsWordRefusal}
use Rattle.upkeep_top.specs.Statements.{StatusBy}
use Rattle.upkeep_top.specs.Verdicts.{status_kind}
use Rattle.upkeep_top.specs.Words.{IsBadWord, RefusesWords}
use Rattle.upkeep_top.specs.declared.task.Task.{Task}
use Rattle.upkeep_top.proofs.StatusLaws.{not_done}

-- The kind of an error is that which its status tells.

read_is : (e : ReadErr) → status_kind (read_status e) ≡ read_kind e
read_is (reads.Missing place) = refl
read_is (reads.Damaged place at) = refl
read_is (reads.Unsupported place what) = refl
read_is (reads.StoreFault place) = refl
read_is reads.Memory = refl

open_is : (e : OpenErr) → status_kind (open_status e) ≡ open_kind e
open_is (opens.NoTable place) = refl
open_is (opens.LocationDiffers place location) = refl
open_is (opens.Read e) = read_is e

refusal_is : (word : ℕ) (refusal : Refusal) → status_kind (refusal_status word refusal) ≡ kinds.Told
refusal_is word (refusals.UnknownSnapshot id) = refl
refusal_is word (refusals.UnknownRef name) = refl
refusal_is word (refusals.NotAncestor id of) = refl
refusal_is word (refusals.StillReferenced id name) = refl
refusal_is word refusals.GcDisabled = refl
refusal_is word (refusals.TooRecent older limit) = refl
refusal_is word (refusals.OutsidePrefix path) = refl
refusal_is word (refusals.UnreadableDelete place) = refl
refusal_is word refusals.SamePrefix = refl
refusal_is word (refusals.UnknownVersion name) = refl
refusal_is word (refusals.BadArgument name) = refl

pub error_is : (word : ℕ) (e : CommitErr) → status_kind (status_of word e) ≡ commit_kind e
error_is word (Open e) = open_is e
error_is word (Attempt (attempts.Refused refusal)) = refusal_is word refusal
error_is word (Attempt (attempts.Conflict place other)) = refl
error_is word (Attempt (attempts.NameTaken place)) = refl
error_is word (Attempt (attempts.Read e)) = read_is e
error_is word (Contended v) = refl
error_is word (CommitUnknown v) = refl

-- of a status and an end: they are one, but memory may lack for the report of work that is done
abbrev pub TellsKind : Kind → Kind → Type 0
TellsKind kind end = (kind ≡ end) ⊎ ((end ≡ kinds.Done) × (kind ≡ kinds.Memory))

pub tells_kind : (word : ℕ) (error : Option CommitErr) (status : Status) → StatusBy word error status → TellsKind (status_kind status) (error_kind error)
tells_kind word None status (inl done) = inl (ap status_kind done)
tells_kind word None status (inr (inl output)) = inl (ap status_kind output)
tells_kind word None status (inr (inr memory)) = inr (refl, ap status_kind memory)
tells_kind word (Some e) status is = inl (ap status_kind is ∙ error_is word e)

pub counts_by : (kind end : Kind) (before now : ℕ) → TellsKind kind end → Counts end before now → Counts kind before now
counts_by kind end before now (inl same) c = subst (λ (k : Kind). Counts k before now) (sym same) c
counts_by kind end before now (inr m) c =
    let kept : Counts kinds.Done before now = subst (λ (k : Kind). Counts k before now) m.0 c in
    subst (λ (k : Kind). Counts k before now) (sym m.1) kept

pub marks_by : (table : Parts) (kind end : Kind) (before now : Option Failure) (told : Option Past) → TellsKind kind end → Marks table end before now told → Marks table kind before now told
marks_by table kind end before now told (inl same) c = subst (λ (k : Kind). Marks table k before now told) (sym same) c
marks_by table kind end before now told (inr m) c =
    let kept : Marks table kinds.Done before now told = subst (λ (k : Kind). Marks table k before now told) m.0 c in
    subst (λ (k : Kind). Marks table k before now told) (sym m.1) kept

-- Refused words.

bad_kind : (word : List ℕ) (n : ℕ) (status : Status) → IsBadWord word n status → status_kind status ≡ kinds.Told
bad_kind word n status (inl b) = ap status_kind b.2
bad_kind word n status (inr b) = ap status_kind b.4

refused_kind : (words : List (List ℕ)) (status : Status) → RefusesWords words status → status_kind status ≡ kinds.Told
refused_kind words status (inl r) = ap status_kind r.1
refused_kind words status (inr (inl r)) = bad_kind r.word _ status r.bad
refused_kind words status (inr (inr o)) = ap status_kind o.status_is

pub refusal_kind : (words : List (List ℕ)) (status : Status) → IsWordRefusal words status → (status_kind status ≡ kinds.Told) ⊎ (status_kind status ≡ kinds.Memory)
refusal_kind words status (inl r) = inl (refused_kind words status r)
refusal_kind words status (inr m) = inr (ap status_kind m)

-- Statements that are Done.

pub done_error : (word : ℕ) (error : Option CommitErr) → StatusBy word error Done → error ≡ None
done_error word None answers = refl
done_error word (Some e) answers = absurd (not_done word e Done answers refl)

pub done_kind : (word : ℕ) (error : Option CommitErr) → StatusBy word error Done → error_kind error ≡ kinds.Done
done_kind word error answers = ap error_kind (done_error word error answers)

-- what stays
pub record Kept (p q : Point) : Type 0 where
  pub faults : q.faults ≡ p.faults
  pub halted : q.halted ≡ p.halted
  pub output_faults : q.output_faults ≡ p.output_faults
  pub left : q.left ≡ p.left

done_kept : (t : Task) (p q : Point) → IsDone t p q → Kept p q
done_kept t p q e =
    let kind = done_kind t.word e.end.error e.answers in
    record {
      faults = subst (λ (k : Kind). Counts k p.faults q.faults) kind e.faults;
      halted = subst (λ (k : Kind). Marks t.table k p.halted q.halted q.past) kind e.halted;
      output_faults = e.output_faults.kept (λ is. absurd (cc (is)));
      left = subst (λ (k : Kind). LeavesBy (Gives p.identifiers q.identifiers) t.table k p.left q.left) kind e.left;
    }

kept_then : (p m q : Point) → Kept p m → Kept m q → Kept p q
kept_then p m q a b = record { faults = b.faults ∙ a.faults; halted = b.halted ∙ a.halted; output_faults = b.output_faults ∙ a.output_faults; left = b.left ∙ a.left }

pub leads_kept : (ts : List Task) (p q : Point) → Leads IsDone ts p q → Kept p q
leads_kept [] p q h = record {
  faults = ap (λ (x : Point). x.faults) h;
  halted = ap (λ (x : Point). x.halted) h;
  output_faults = ap (λ (x : Point). x.output_faults) h;
  left = ap (λ (x : Point). x.left) h;
}
leads_kept (t ∷ ts) p q h = kept_then p h.0 q (done_kept t p h.0 h.1) (leads_kept ts h.0 q h.2)
