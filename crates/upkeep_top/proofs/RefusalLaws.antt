-- When a run tells that words are refused.
use Rattle.std.proofs.Common.{◌≡◌, ◌⊎◌, inl, inr, ℕ, Bool, true, false, List, Contains, Option, Some, None, refl, sym, ap, ◌∙◌, subst}
use Rattle.ice_store.specs.declared.faults.ReadErr.{ReadErr}
use Rattle.ice_store.specs.declared.faults.ReadErr.TheVariants as reads
use Rattle.commit_versions.specs.declared.types.OpenErr.TheVariants as opens
use Rattle.commit_protocol.specs.declared.errors.Refusal.{Refusal}
use Rattle.commit_protocol.specs.declared.errors.Refusal.TheVariants as refusals
use Rattle.commit_protocol.specs.declared.errors.AttemptErr.TheVariants as attempts
use Rattle.commit_protocol.specs.declared.errors.CommitErr.{CommitErr}
use Rattle.commit_protocol.specs.declared.errors.CommitErr.TheVariants.{Open, Attempt, Contended, CommitUnknown}
use Rattle.run_answers.specs.Answers.{read_status, status_of}
use Rattle.run_answers.specs.declared.status.Status.{Status}
use Rattle.run_answers.specs.declared.status.Status.TheVariants.{BadStatement, BadArgument, OutOfMemory}
use Rattle.upkeep_top.specs.Points.{Point}
use Rattle.upkeep_top.specs.Runs.{IsWordRefusal, IsRefusedArgument, RanAsked, RunsBy, TellsBadArgument}
use Rattle.upkeep_top.specs.Statements.{StatusBy}
use Rattle.upkeep_top.specs.Words.{RefusesWords}
use Rattle.upkeep_top.specs.declared.task.Task.{Task}
use Rattle.upkeep_top.proofs.SuccessorLaws.{among}

-- Statuses of words.

-- a status that words have
abbrev is_of_words : Status → Bool
is_of_words (BadStatement word at) = true
is_of_words (BadArgument word name) = true
is_of_words status = false

read_plain : (e : ReadErr) → is_of_words (read_status e) ≡ false
read_plain (reads.Missing place) = refl
read_plain (reads.Damaged place at) = refl
read_plain (reads.Unsupported place what) = refl
read_plain (reads.StoreFault place) = refl
read_plain reads.Memory = refl

-- only a refused argument is told so
abbrev IsPlainOr : ℕ → CommitErr → Type 0
IsPlainOr word e = (is_of_words (status_of word e) ≡ false) ⊎ ((name : List ℕ) × (e ≡ Attempt (attempts.Refused (refusals.BadArgument name))))

refusal_of : (word : ℕ) (refusal : Refusal) → IsPlainOr word (Attempt (attempts.Refused refusal))
refusal_of word (refusals.UnknownSnapshot id) = inl refl
refusal_of word (refusals.UnknownRef name) = inl refl
refusal_of word (refusals.NotAncestor id of) = inl refl
refusal_of word (refusals.StillReferenced id name) = inl refl
refusal_of word refusals.GcDisabled = inl refl
refusal_of word (refusals.TooRecent older limit) = inl refl
refusal_of word (refusals.OutsidePrefix path) = inl refl
refusal_of word (refusals.UnreadableDelete place) = inl refl
refusal_of word refusals.SamePrefix = inl refl
refusal_of word (refusals.UnknownVersion name) = inl refl
refusal_of word (refusals.BadArgument name) = inr (name, refl)

plain_or : (word : ℕ) (e : CommitErr) → IsPlainOr word e
plain_or word (Open (opens.NoTable place)) = inl refl
plain_or word (Open (opens.LocationDiffers place location)) = inl refl
plain_or word (Open (opens.Read e)) = inl (read_plain e)
plain_or word (Attempt (attempts.Refused refusal)) = refusal_of word refusal
plain_or word (Attempt (attempts.Conflict place other)) = inl refl
plain_or word (Attempt (attempts.NameTaken place)) = inl refl
plain_or word (Attempt (attempts.Read e)) = inl (read_plain e)
plain_or word (Contended v) = inl refl
plain_or word (CommitUnknown v) = inl refl

-- so of a statement's end
abbrev EndsPlainOr : ℕ → Option CommitErr → Status → Type 0
EndsPlainOr word error status = (is_of_words status ≡ false) ⊎ ((name : List ℕ) × (error ≡ Some (Attempt (attempts.Refused (refusals.BadArgument name)))) × (status ≡ BadArgument word name))

by_error : (word : ℕ) (e : CommitErr) (status : Status) → status ≡ status_of word e → IsPlainOr word e → EndsPlainOr word (Some e) status
by_error word e status is (inl plain) = inl (ap is_of_words is ∙ plain)
by_error word e status is (inr a) = inr (a.0, ap (λ (x : CommitErr). Some x) a.1, is ∙ ap (status_of word) a.1)

ends_plain_or : (word : ℕ) (error : Option CommitErr) (status : Status) → StatusBy word error status → EndsPlainOr word error status
ends_plain_or word None status (inl done) = inl (ap is_of_words done)
ends_plain_or word None status (inr (inl output)) = inl (ap is_of_words output)
ends_plain_or word None status (inr (inr memory)) = inl (ap is_of_words memory)
ends_plain_or word (Some e) status is = by_error word e status is (plain_or word e)

-- Of a run.

module _ (words : List (List ℕ)) (status : Status) (p q : Point) where
  of_words : IsWordRefusal words status → (status ≡ OutOfMemory → ⊥) → RefusesWords words status
  of_words (inl r) not = r
  of_words (inr m) not = absurd (not m)

  no_statement : (r : RanAsked words status p q) (word at : ℕ) → status ≡ BadStatement word at → EndsPlainOr r.ended.task.word r.ended.ends.end.error status → RefusesWords words status
  no_statement r word at is (inl plain) = absurd (cc (ap is_of_words is, plain))
  no_statement r word at is (inr a) = absurd (cc (is, a.2))

  pub bad_statement : RunsBy words status p q → (word at : ℕ) → status ≡ BadStatement word at → RefusesWords words status
  bad_statement (inl r) word at is = of_words r.0 (λ m. absurd (cc (m, is)))
  bad_statement (inr r) word at is = no_statement r word at is (ends_plain_or r.ended.task.word r.ended.ends.end.error status r.ended.ends.answers)

  argument : (r : RanAsked words status p q) (word : ℕ) (name : List ℕ) → status ≡ BadArgument word name → EndsPlainOr r.ended.task.word r.ended.ends.end.error status → IsRefusedArgument words word name
  argument r word name is (inl plain) = absurd (cc (ap is_of_words is, plain))
  argument r word name is (inr a) =
      let e = r.ended in
      let both : BadArgument word name ≡ BadArgument e.task.word a.0 = sym is ∙ a.2 in
      let same_word : word ≡ e.task.word = cc (both) in
      let same_name : a.0 ≡ name = cc (both) in
      let refused = e.ends.refused (refusals.BadArgument name) (a.1 ∙ ap (λ (n : List ℕ). Some (Attempt (attempts.Refused (refusals.BadArgument n)))) same_name) in
      record {
        table = r.table;
        tasks = r.tasks;
        ask = r.ask;
        task = e.task;
        among = subst (λ (l : List Task). Contains l e.task) (sym e.is) (among e.before e.task e.after);
        word_is = same_word;
        now = e.ends.now;
        tree = refused.0;
        refuses = refused.1;
      }

  pub bad_argument : RunsBy words status p q → TellsBadArgument words status
  bad_argument (inl r) = λ word name is. inl (of_words r.0 (λ m. absurd (cc (m, is))))
  bad_argument (inr r) = λ word name is. inr (argument r word name is (ends_plain_or r.ended.task.word r.ended.ends.end.error status r.ended.ends.answers))
