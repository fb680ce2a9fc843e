-- From statements to a run: rows, completeness, counts, marks, and what every stop leaves.
use Rattle.std.proofs.Common.{◌≡◌, ◌⊎◌, inl, inr, ℕ, List, [], Option, Some, None, sym, ap, ◌∙◌, subst}
use Rattle.ice_store.specs.Calls.{Rose}
use Rattle.ice_store.specs.Given.{Gives}
use Rattle.ice_store.specs.Others.{WhereTold}
use Rattle.ice_store.specs.History.{replay}
use Rattle.ice_store.specs.Places.{Parts}
use Rattle.ice_store.specs.Since.{Since}
use Rattle.ice_store.proofs.SinceLaws.{since_turned}
use Rattle.ice_store.specs.declared.faults.ReadErr.TheVariants as reads
use Rattle.ice_store.specs.declared.history.Failure.{Failure}
use Rattle.ice_store.specs.declared.history.Past.{Past}
use Rattle.commit_publish.specs.Kinds as kinds
use Rattle.commit_publish.specs.Kinds.{Kind, Counts, Marks}
use Rattle.commit_versions.specs.declared.types.OpenErr.TheVariants as opens
use Rattle.commit_protocol.specs.Ends.{LeavesBy}
use Rattle.commit_protocol.specs.Kinds.{error_kind, kind_of}
use Rattle.commit_protocol.specs.Promises.{AtEachStop, HasPrefix, HasFiles}
use Rattle.commit_protocol.proofs.PromiseLaws.{prefixes, files}
use Rattle.commit_protocol.specs.declared.errors.AttemptErr.TheVariants as attempts
use Rattle.commit_protocol.specs.declared.errors.CommitErr.{CommitErr}
use Rattle.commit_protocol.specs.declared.errors.CommitErr.TheVariants.{Open, Attempt, Contended, CommitUnknown as Unknown}
use Rattle.run_answers.specs.declared.status.Status.{Status}
use Rattle.run_answers.specs.declared.status.Status.TheVariants.{Done, BadStatement, StoreFault, CommitUnknown, OutOfMemory}
use Rattle.upkeep_top.specs.Points.{Point}
use Rattle.upkeep_top.specs.Runs.{IsWordRefusal, RanAsked, RunsBy, Runs, TellsBadArgument, Row, ComesExactly, AsksNothing, IsComplete, IsSafeRun, KeepsPrefix, KeepsFiles, EachSucceeds, TellsVersions, LeavesPlaces, TellsFaultAt, EndsUnknown, MarksRun, MayLeave}
use Rattle.upkeep_top.specs.Statements.{StatusBy, Ends, Nobody, Any, IsSafeFor, OutputCounts}
use Rattle.upkeep_top.specs.Verdicts.{Verdict, IsFree, error_status, status_kind}
use Rattle.upkeep_top.specs.Words.{RefusesWords}
use Rattle.upkeep_top.specs.declared.task.Task.{Task}
use Rattle.upkeep_top.proofs.FailLaws.{fault_place, unknown_end}
use Rattle.upkeep_top.proofs.KindLaws.{Kept, counts_by, leads_kept, marks_by, refusal_kind, tells_kind}
use Rattle.upkeep_top.proofs.RefusalLaws as refusals
use Rattle.upkeep_top.proofs.StatusLaws.{not_done}
use Rattle.upkeep_top.proofs.StepLaws.{safe_none}
use Rattle.upkeep_top.proofs.StopLaws.{DidOf, asked_of, safe_run, tables_are}
use Rattle.upkeep_top.proofs.StretchLaws.{places_by, versions_by}
use Rattle.upkeep_top.proofs.SuccessorLaws.{each_succeeds}
use Rattle.upkeep_top.proofs.TaskSteps.{rests_when}
use Rattle.upkeep_top.proofs.VerdictLaws.{TellsError, free_is, one_error, tells_error}
use Rattle.upkeep_top.proofs.WordLaws.{one_refusal, never_refused, one_table}

-- Rows.

module _ (task : Task) (status : Status) (p q : Point) (e : Ends task status p q) (asked : Status) (plain : IsFree asked → ⊥) where
  abbrev RowOf : Past → Past → Type 0
  RowOf old new = Row status asked task e.now (Gives p.identifiers q.identifiers) old

  row_by : TellsError task.word e.end.error status → (old new : Past) → DidOf task status p q e old new → RowOf old new
  row_by (inl t) old new d = record {
    only = λ same. record { end = e.end; of_state = t.0; cause = d.cause; answers = sym same ∙ t.1 };
    exactly = λ one v. inl (t.1 ∙ ap (error_status task.word) (one_error task e.now (Gives p.identifiers q.identifiers) (replay old).files one e.end v.end t.0 v.of_state d.cause v.cause) ∙ sym v.answers);
  }
  row_by (inr f) old new d = record { only = λ same. absurd (plain (subst IsFree same f)); exactly = λ one v. inr f }

  row : Since p.past q.past RowOf
  row = since_turned p.past q.past (DidOf task status p q e) RowOf e.did (row_by (tells_error task.word e.end.error status e.answers))

-- Completeness.

done_or_not : (word : ℕ) (error : Option CommitErr) (status : Status) → status ≡ error_status word error → (status ≡ Done) ⊎ (status ≡ Done → ⊥)
done_or_not word None status is = inl is
done_or_not word (Some e) status is = inr (not_done word e status is)

-- Nothing is left.

left_none : (word : ℕ) (Drawn : ℕ → Type 0) (table : Parts) (error : Option CommitErr) (status : Status) (old new : List Parts) → StatusBy word error status → (MayLeave status → ⊥) → LeavesBy Drawn table (error_kind error) old new → new ≡ old
left_none word Drawn table None status old new e none left = left
left_none word Drawn table (Some (Open (opens.NoTable place))) status old new e none left = left
left_none word Drawn table (Some (Open (opens.LocationDiffers place location))) status old new e none left = left
left_none word Drawn table (Some (Open (opens.Read (reads.Missing place)))) status old new e none left = left
left_none word Drawn table (Some (Open (opens.Read (reads.Damaged place at)))) status old new e none left = left
left_none word Drawn table (Some (Open (opens.Read (reads.Unsupported place what)))) status old new e none left = left
left_none word Drawn table (Some (Open (opens.Read (reads.StoreFault place)))) status old new e none left = absurd (none (inl (place, e)))
left_none word Drawn table (Some (Open (opens.Read reads.Memory))) status old new e none left = absurd (none (inr (inr e)))
left_none word Drawn table (Some (Attempt (attempts.Refused refusal))) status old new e none left = left
left_none word Drawn table (Some (Attempt (attempts.Conflict place other))) status old new e none left = left
left_none word Drawn table (Some (Attempt (attempts.NameTaken place))) status old new e none left = left
left_none word Drawn table (Some (Attempt (attempts.Read (reads.Missing place)))) status old new e none left = left
left_none word Drawn table (Some (Attempt (attempts.Read (reads.Damaged place at)))) status old new e none left = left
left_none word Drawn table (Some (Attempt (attempts.Read (reads.Unsupported place what)))) status old new e none left = left
left_none word Drawn table (Some (Attempt (attempts.Read (reads.StoreFault place)))) status old new e none left = absurd (none (inl (place, e)))
left_none word Drawn table (Some (Attempt (attempts.Read reads.Memory))) status old new e none left = absurd (none (inr (inr e)))
left_none word Drawn table (Some (Contended v)) status old new e none left = left
left_none word Drawn table (Some (Unknown v)) status old new e none left = absurd (none (inr (inl (v, e))))

-- By what a run did.

module _ (words : List (List ℕ)) (status : Status) (p q : Point) where
  comes_by : RunsBy words status p q → ComesExactly words status p q
  comes_by (inl r) asked plain = inl r.0
  comes_by (inr r) asked plain = inr (record { ran = r; row = row r.ended.task status r.ended.from q r.ended.ends asked plain })

  kept : (r : RanAsked words status p q) → Kept p r.ended.from
  kept r = leads_kept r.ended.before p r.ended.from r.ended.led

  counts_of : (r : RanAsked words status p q) → Counts (status_kind status) p.faults q.faults
  counts_of r =
      let e = r.ended.ends in
      subst (λ (n : ℕ). Counts (status_kind status) n q.faults) (kept r).faults
      (counts_by (status_kind status) (kind_of e.end) r.ended.from.faults q.faults (tells_kind r.ended.task.word e.end.error status e.answers) e.faults)

  refused_counts : IsWordRefusal words status → q ≡ p → (status_kind status ≡ kinds.Told) ⊎ (status_kind status ≡ kinds.Memory) → Counts (status_kind status) p.faults q.faults
  refused_counts refusal same (inl k) = let stays : Counts kinds.Told p.faults q.faults = ap (λ (x : Point). x.faults) same in subst (λ (x : Kind). Counts x p.faults q.faults) (sym k) stays
  refused_counts refusal same (inr k) = let stays : Counts kinds.Memory p.faults q.faults = ap (λ (x : Point). x.faults) same in subst (λ (x : Kind). Counts x p.faults q.faults) (sym k) stays

  counts_run : RunsBy words status p q → Counts (status_kind status) p.faults q.faults
  counts_run (inl r) = refused_counts r.0 r.1 (refusal_kind words status r.0)
  counts_run (inr r) = counts_of r

  output_of : (r : RanAsked words status p q) → OutputCounts status p.output_faults q.output_faults
  output_of r = subst (λ (n : ℕ). OutputCounts status n q.output_faults) (kept r).output_faults r.ended.ends.output_faults

  -- refused words have no status of this kind
  refused_other : (kind : Kind) → (kind ≡ kinds.Told → ⊥) → (kind ≡ kinds.Memory → ⊥) → status_kind status ≡ kind → (status_kind status ≡ kinds.Told) ⊎ (status_kind status ≡ kinds.Memory) → ⊥
  refused_other kind told memory is (inl k) = told (sym is ∙ k)
  refused_other kind told memory is (inr k) = memory (sym is ∙ k)

  refused_done : IsWordRefusal words status → status_kind status ≡ kinds.Done → ⊥
  refused_done r is = refused_other kinds.Done (λ k. absurd (cc (k))) (λ k. absurd (cc (k))) is (refusal_kind words status r)

  output_run : RunsBy words status p q → OutputCounts status p.output_faults q.output_faults
  output_run (inl r) = record { rose = λ is. absurd (refused_done r.0 (ap status_kind is)); kept = λ not. ap (λ (x : Point). x.output_faults) r.1 }
  output_run (inr r) = output_of r

  marks_run : RunsBy words status p q → MarksRun words status p.halted q.halted q.past
  marks_run (inl r) = inl (r.0, ap (λ (x : Point). x.halted) r.1)
  marks_run (inr r) =
      let e = r.ended.ends in
      let here = marks_by r.ended.task.table (status_kind status) (kind_of e.end) r.ended.from.halted q.halted q.past (tells_kind r.ended.task.word e.end.error status e.answers) e.halted in
      inr (
        r.table,
        asked_of words status p q r,
        subst (λ (x : Parts). Marks x (status_kind status) p.halted q.halted q.past) (tables_are words status p q r).1
            (subst (λ (h : Option Failure). Marks r.ended.task.table (status_kind status) h q.halted q.past) (kept r).halted here),
      )

  -- free statuses, where no count rose
  free_counts : IsFree status → Counts (status_kind status) p.faults q.faults → OutputCounts status p.output_faults q.output_faults → (Rose p.faults q.faults → ⊥) → (Rose p.output_faults q.output_faults → ⊥) → (status ≡ Done) ⊎ (status ≡ OutOfMemory)
  free_counts (inl f) counts output store out = let rose : Counts (kinds.Fault f.0) p.faults q.faults = subst (λ (s : Status). Counts (status_kind s) p.faults q.faults) f.1 counts in absurd (store rose)
  free_counts (inr (inl f)) counts output store out = let rose : Counts (kinds.Unknown f.0) p.faults q.faults = subst (λ (s : Status). Counts (status_kind s) p.faults q.faults) f.1 counts in absurd (store rose)
  free_counts (inr (inr (inl f))) counts output store out = absurd (out (output.rose f))
  free_counts (inr (inr (inr f))) counts output store out = inr f

  asks_by : (r : RanAsked words status p q) → AsksNothing words status p q → IsFree status ⊎ ((status ≡ Done) ⊎ (status ≡ Done → ⊥)) → TellsError r.ended.task.word r.ended.ends.end.error status → (status ≡ Done) ⊎ IsFree status
  asks_by r nothing (inl f) tells = inr f
  asks_by r nothing (inr (inl d)) tells = inl d
  asks_by r nothing (inr (inr not)) (inr f) = inr f
  asks_by r nothing (inr (inr not)) (inl t) =
      let e = r.ended.ends in
      let from = r.ended.from in
      let task = r.ended.task in
      absurd (nothing status not (λ f. absurd (cc (free_is status f, t.2))) (record {
        ran = r;
        asks = since_turned from.past q.past (DidOf task status from q e) (λ old now. Verdict task e.now (Gives from.identifiers q.identifiers) (replay old).files status) e.did
            (λ old now d. record { end = e.end; of_state = t.0; cause = d.cause; answers = t.1 });
      }))

  done_of : (r : RanAsked words status p q) → TellsError r.ended.task.word r.ended.ends.end.error status → IsFree status ⊎ ((status ≡ Done) ⊎ (status ≡ Done → ⊥))
  done_of r (inl t) = inr (done_or_not r.ended.task.word r.ended.ends.end.error status t.1)
  done_of r (inr f) = inl f

  done_or_free : (r : RanAsked words status p q) → (status ≡ Done) ⊎ IsFree status → (Rose p.faults q.faults → ⊥) → (Rose p.output_faults q.output_faults → ⊥) → (status ≡ Done) ⊎ (status ≡ OutOfMemory)
  done_or_free r (inl d) store out = inl d
  done_or_free r (inr f) store out = free_counts f (counts_of r) (output_of r) store out

  complete_by : RunsBy words status p q → IsComplete words status p q
  complete_by (inl (inl refused, same)) = λ none asks store out. absurd (none refused)
  complete_by (inl (inr memory, same)) = λ none asks store out. inr memory
  complete_by (inr r) = λ none asks store out.
      let tells = tells_error r.ended.task.word r.ended.ends.end.error status r.ended.ends.answers in
      done_or_free r (asks_by r asks (done_of r tells) tells) store out

  rests_by : RunsBy words status p q → status ≡ Done → WhereTold q.past (λ past. (replay past).pending ≡ [])
  rests_by (inl r) is = absurd (refused_done r.0 (ap status_kind is))
  rests_by (inr r) is = rests_when r.ended.task status r.ended.from q r.ended.ends is

  refused_by : RunsBy words status p q → (other : Status) → RefusesWords words other → (status ≡ other) ⊎ (status ≡ OutOfMemory)
  refused_by (inl (inl r, same)) other refuses = inl (one_refusal words status other r refuses)
  refused_by (inl (inr m, same)) other refuses = inr m
  refused_by (inr r) other refuses = absurd (never_refused words r.table r.tasks other r.ask refuses)

  nothing_by : RunsBy words status p q → (MayLeave status → ⊥) → q.left ≡ p.left
  nothing_by (inl r) none = ap (λ (x : Point). x.left) r.1
  nothing_by (inr r) none =
      let e = r.ended.ends in
      left_none r.ended.task.word (Gives r.ended.from.identifiers q.identifiers) r.ended.task.table e.end.error status r.ended.from.left q.left e.answers none e.left ∙ (kept r).left

  fault_by : RunsBy words status p q → (place : Parts) → status ≡ StoreFault place → TellsFaultAt words place
  fault_by (inl r) place is = absurd (refused_other (kinds.Fault place) (λ k. absurd (cc (k))) (λ k. absurd (cc (k))) (ap status_kind is) (refusal_kind words status r.0))
  fault_by (inr r) place is = fault_place words status p q r place is

  unknown_by : RunsBy words status p q → (version : ℕ) → status ≡ CommitUnknown version → Since p.past q.past (EndsUnknown words version)
  unknown_by (inl r) version is = absurd (refused_other (kinds.Unknown version) (λ k. absurd (cc (k))) (λ k. absurd (cc (k))) (ap status_kind is) (refusal_kind words status r.0))
  unknown_by (inr r) version is = unknown_end words status p q r version is

  -- The clauses of a run.

  module _ (run : Runs words status p q) where
    pub comes : ComesExactly words status p q
    comes = comes_by run.how

    pub complete : IsComplete words status p q
    complete = complete_by run.how

    pub counts : Counts (status_kind status) p.faults q.faults
    counts = counts_run run.how

    pub output : OutputCounts status p.output_faults q.output_faults
    output = output_run run.how

    pub marks : MarksRun words status p.halted q.halted q.past
    marks = marks_run run.how

    pub fault_at : (place : Parts) → status ≡ StoreFault place → TellsFaultAt words place
    fault_at = fault_by run.how

    pub unknown : (version : ℕ) → status ≡ CommitUnknown version → Since p.past q.past (EndsUnknown words version)
    unknown = unknown_by run.how

    pub rests : status ≡ Done → WhereTold q.past (λ past. (replay past).pending ≡ [])
    rests = rests_by run.how

    pub refused : (other : Status) → RefusesWords words other → (status ≡ other) ⊎ (status ≡ OutOfMemory)
    refused = refused_by run.how

    pub bad_statement : (word at : ℕ) → status ≡ BadStatement word at → RefusesWords words status
    bad_statement = refusals.bad_statement words status p q run.how

    pub bad_argument : TellsBadArgument words status
    bad_argument = refusals.bad_argument words status p q run.how

    pub safe : Since p.past q.past (IsSafeRun words)
    safe = safe_run words status p q run.how

    pub versions : p.committed ≡ [] → Since p.past q.past (TellsVersions words (status_kind status) q.committed)
    versions empty = versions_by words status p q empty run.how

    pub successors : p.committed ≡ [] → Since p.past q.past (EachSucceeds words q.committed)
    successors empty = each_succeeds words status p q empty run.how

    pub left : p.committed ≡ [] → p.left ≡ [] → Since p.past q.past (LeavesPlaces q.committed q.left (Rose p.faults q.faults) q.halted)
    left none empty = places_by words status p q none empty run.how

    pub leaves_nothing : (MayLeave status → ⊥) → q.left ≡ p.left
    leaves_nothing = nothing_by run.how

-- What every stop leaves.

prefix_of : (words : List (List ℕ)) (old new : Past) → IsSafeRun words old new → KeepsPrefix words old new
prefix_of words old new (inl same) table asked whole = subst (λ (x : Past). AtEachStop old x (HasPrefix table)) (sym same) (prefixes table Nobody Any old whole old (safe_none table old))
prefix_of words old new (inr s) table asked whole =
    let same = one_table words s.0 table s.1.0 asked.0 s.1.1 asked.1 in
    prefixes table Nobody Any old whole new (subst (λ (x : Parts). IsSafeFor x old new) same s.2)

files_of : (words : List (List ℕ)) (old new : Past) → IsSafeRun words old new → KeepsFiles words old new
files_of words old new (inl same) table asked whole = subst (λ (x : Past). AtEachStop old x (HasFiles table)) (sym same) (files table Nobody Any old whole old (safe_none table old))
files_of words old new (inr s) table asked whole =
    let same = one_table words s.0 table s.1.0 asked.0 s.1.1 asked.1 in
    files table Nobody Any old whole new (subst (λ (x : Parts). IsSafeFor x old new) same s.2)

pub keeps_prefix : (words : List (List ℕ)) (status : Status) (p q : Point) → Runs words status p q → Since p.past q.past (KeepsPrefix words)
keeps_prefix words status p q r = since_turned p.past q.past (IsSafeRun words) (KeepsPrefix words) (safe words status p q r) (prefix_of words)

pub keeps_files : (words : List (List ℕ)) (status : Status) (p q : Point) → Runs words status p q → Since p.past q.past (KeepsFiles words)
keeps_files words status p q r = since_turned p.past q.past (IsSafeRun words) (KeepsFiles words) (safe words status p q r) (files_of words)
