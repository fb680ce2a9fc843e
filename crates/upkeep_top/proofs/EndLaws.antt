-- What a statement that commits did, by its end.
use Rattle.std.proofs.Common.{◌≡◌, inl, inr, ℕ, ℤ, List, [], Option, Some, None, Result, Ok, Err, refl, sym, ap, ◌∙◌, subst}
use Rattle.serde_json.specs.Data.{Data}
use Rattle.serde_json.specs.View.{view}
use Rattle.ice_store.specs.Given.{Gives}
use Rattle.ice_store.specs.Others.{WhereTold}
use Rattle.ice_store.specs.Places.{Parts}
use Rattle.ice_store.specs.Since.{Since}
use Rattle.ice_store.proofs.SinceLaws.{since_turned, since_with}
use Rattle.ice_store.specs.History.{replay}
use Rattle.ice_store.specs.declared.history.Failure.{Failure}
use Rattle.ice_store.specs.declared.history.Held.{Held}
use Rattle.ice_store.specs.declared.history.Past.{Past}
use Rattle.ice_store.specs.declared.faults.ReadErr.TheVariants.{Missing, Damaged, Unsupported, StoreFault, Memory}
use Rattle.table_metadata.specs.Edits.{HasVersionLimit}
use Rattle.commit_history.specs.Mannered.{IsMannered}
use Rattle.commit_history.proofs.Manners.{nobody_mannered}
use Rattle.commit_publish.specs.Steps.{Anything}
use Rattle.commit_versions.specs.declared.types.OpenErr.TheVariants as opens
use Rattle.commit_protocol.specs.Attempts.{CommitLeaves}
use Rattle.commit_protocol.specs.Ends.{CommitWorks, IsPublishFault, TellsFault, WasOpened, Works}
use Rattle.commit_protocol.specs.Kinds.{commit_kind, commit_end, kind_of}
use Rattle.commit_protocol.specs.Meanings.{Meanings}
use Rattle.commit_protocol.specs.Metadata.{metadata_reading, table_rules}
use Rattle.commit_protocol.specs.Promises.{Succeeds}
use Rattle.commit_protocol.specs.Rounds.{CommitTells}
use Rattle.commit_protocol.specs.Verdicts.{IsNobody, IsTable, CommitVerdict, EndVerdict, ErrorVerdict, IsCaused}
use Rattle.commit_protocol.specs.declared.errors.AttemptErr.TheVariants as attempts
use Rattle.commit_protocol.specs.declared.errors.CommitErr.{CommitErr}
use Rattle.commit_protocol.specs.declared.errors.CommitErr.TheVariants.{Open, Attempt, Contended, CommitUnknown}
use Rattle.commit_protocol.specs.declared.errors.Committed.{Committed}
use Rattle.commit_protocol.specs.declared.errors.Committed.TheVariants.{Same, Published}
use Rattle.commit_protocol.specs.declared.errors.Refusal.{Refusal}
use Rattle.commit_protocol.proofs.PlainLaws.{commit_plain}
use Rattle.commit_protocol.proofs.QuietLaws.{unmoved}
use Rattle.commit_protocol.proofs.StepLaws.{commit_steps}
use Rattle.commit_protocol.proofs.VerdictLaws.{opening_answered}
use Rattle.commit_protocol.proofs.WorkLaws.{works_turned}
use Rattle.run_answers.specs.declared.status.Status.{Status}
use Rattle.run_refs.specs.Meanings.{moves_of}
use Rattle.run_refs.specs.Moves.{HasSeen, IsThere, Moves, RefusesMove}
use Rattle.run_refs.specs.Procedures.{Unasked, move_procedure}
use Rattle.run_refs.specs.Reports.{move_report}
use Rattle.run_refs.specs.declared.goal.Goal.{Goal}
use Rattle.upkeep_top.specs.Promises.{AllSucceed}
use Rattle.upkeep_top.specs.Statements.{StatusBy, IsEndOfWork, Nobody, Did, Reports, ReportsOn, ReportedBy, RestsBy}
use Rattle.upkeep_top.specs.Verdicts.{OnTable}
use Rattle.upkeep_top.specs.declared.task.Task.{Task}
use Rattle.upkeep_top.specs.declared.task.Work.TheVariants.{Move}
use Rattle.upkeep_top.proofs.StepLaws.{ends_in_sync, settled}

nobody : IsNobody Nobody
nobody past step h = h

-- two facts of one stretch
pub since_both : (o a : Option Past) (P Q : Past → Past → Type 0) → Since o a P → Since o a Q → Since o a (λ x y. P x y × Q x y)
since_both None a P Q s t = s
since_both (Some old) a P Q s t =
    let somes : ◌≡◌ {A = Option Past} (Some t.now) (Some s.now) = sym t.is ∙ s.is in
    let same : t.now ≡ s.now = cc (somes) in
    record { now = s.now; is = s.is; holds = (s.holds, subst (λ (x : Past). Q old x) same t.holds) }

-- nobody has manners
pub alone : (table : Parts) → IsMannered (table_rules table Nobody)
alone table = nobody_mannered (metadata_reading table)

-- what a commit of a move tells, which takes no step but those of its publish
pub move_plain : (table : Parts) (goal : Goal) (moment : ℕ) (Seen : Data → Type 0) (given given' : Option (List ℕ)) (now : ℕ) (result : Result Committed CommitErr) (mark : Option Failure) (had has : List Parts) (o a : Option Past)
    → Since o a (CommitTells table Nobody (moves_of goal moment Seen) given given' now result mark had has)
    → Since o a (λ old new. CommitLeaves table Nobody (moves_of goal moment Seen) (Gives given given') now result old new × CommitWorks table Nobody (moves_of goal moment Seen) (Gives given given') now result mark had has old new)
move_plain table goal moment Seen given given' now result mark had has o a told =
    let meanings = moves_of goal moment Seen in
    let Drawn = Gives given given' in
    since_turned o a (CommitTells table Nobody meanings given given' now result mark had has) (λ old new. CommitLeaves table Nobody meanings Drawn now result old new × CommitWorks table Nobody meanings Drawn now result mark had has old new) told
    (λ old new h. commit_plain table Nobody (alone table) (Moves goal moment) (IsThere goal) (RefusesMove goal) Seen given given' now result mark had has old new h)

-- What a commit tells where nobody else acts.

-- a commit of a change with these meanings, between two moments
pub record Commits (table : Parts) (meanings : Meanings) (Drawn : ℕ → Type 0) (now : ℕ) (result : Result Committed CommitErr) (mark : Option Failure) (had has : List Parts) (o a : Option Past) : Type 0 where
  pub told : Since o a (CommitLeaves table Nobody meanings Drawn now result)
  pub works : Since o a (CommitWorks table Nobody meanings Drawn now result mark had has)
  pub caused : Since o a (IsCaused meanings Drawn table now result)
  pub succeeds : Since o a (Succeeds meanings.successor table now result)
  pub refused : (refusal : Refusal) → result ≡ Err (Attempt (attempts.Refused refusal)) → (tree : Data) × meanings.refuses tree (attempts.Refused refusal)

module _ (table : Parts) (meanings : Meanings) (Drawn : ℕ → Type 0) (now : ℕ) where
  -- the same, and nothing is said of what was kept of a base
  abbrev pub unasked : Meanings
  unasked = record meanings { seen = Unasked }

  abbrev pub Leaves : Result Committed CommitErr → Past → Past → Type 0
  Leaves = CommitLeaves table Nobody meanings Drawn now

  error_caused : (files : List Held) (e : CommitErr) → ErrorVerdict HasVersionLimit meanings Drawn table now files e → ErrorVerdict HasVersionLimit unasked Drawn table now files e
  error_caused files (Open e) c = c
  error_caused files (Attempt (attempts.Refused refusal)) c = c
  error_caused files (Attempt (attempts.Conflict place other)) c = c
  error_caused files (Attempt (attempts.NameTaken place)) c = c
  error_caused files (Attempt (attempts.Read (Missing place))) c = c
  error_caused files (Attempt (attempts.Read (Damaged place at))) c = c
  error_caused files (Attempt (attempts.Read (Unsupported place what))) c = c
  error_caused files (Attempt (attempts.Read (StoreFault place))) c = c
  error_caused files (Attempt (attempts.Read Memory)) c = c
  error_caused files (Contended v) c = c
  error_caused files (CommitUnknown v) c = c

  -- the cause of an answer is that of its end
  pub end_caused : (files : List Held) (r : Result Committed CommitErr) → CommitVerdict HasVersionLimit meanings Drawn table now files r → EndVerdict HasVersionLimit unasked Drawn table now files (commit_end r).versions (commit_end r).error
  end_caused files (Ok (Same v)) c = record { place = c.place; last = c.last; bytes = c.bytes; tree = c.tree; is = c.is; has = c.has; holds = c.holds.1 }
  end_caused files (Ok (Published v)) c = (refl, c)
  end_caused files (Err e) c = (refl, error_caused files e c)

  -- the table was opened as it stood at the entry
  opened_table : (old : Past) (place : Parts) (last : ℕ) (text : List ℕ) (tree : Data) → WasOpened table Nobody old place last text tree → IsTable table (replay old).files place last text tree
  opened_table old place last text tree o =
      let is = (opening_answered table Nobody nobody (Ok o.at) old o.mid o.opened).1 in
      let files = (replay old).files in
      subst (λ (p : Parts). IsTable table files p last text tree) (sym o.that.place_is)
      (subst (λ (n : ℕ). IsTable table files o.at.place n text tree) (sym o.that.last_is)
      (subst (λ (b : List ℕ). IsTable table files o.at.place o.at.version b tree) (sym o.that.text_is)
      (subst (λ (d : Data). IsTable table files o.at.place o.at.version o.at.text d) (sym o.that.tree_is) is)))

  pub end_works : (r : Result Committed CommitErr) (mark : Option Failure) (had has : List Parts) (old new : Past) → CommitWorks table Nobody meanings Drawn now r mark had has old new
      → Works unasked.successor Drawn table now (IsTable table (replay old).files) (commit_end r) mark had has old new
  end_works r mark had has old new w =
      works_turned meanings.successor meanings.successor Drawn table now (WasOpened table Nobody old) (IsTable table (replay old).files) (opened_table old) (λ place last text tree built base m. m) (commit_end r) mark had has old new w

  -- after the work is done nothing is pending
  error_rests : (e : CommitErr) (past : Past) → RestsBy (commit_kind e) past
  error_rests (Open (opens.NoTable place)) past = tt
  error_rests (Open (opens.LocationDiffers place location)) past = tt
  error_rests (Open (opens.Read (Missing place))) past = tt
  error_rests (Open (opens.Read (Damaged place at))) past = tt
  error_rests (Open (opens.Read (Unsupported place what))) past = tt
  error_rests (Open (opens.Read (StoreFault place))) past = tt
  error_rests (Open (opens.Read Memory)) past = tt
  error_rests (Attempt (attempts.Refused refusal)) past = tt
  error_rests (Attempt (attempts.Conflict place other)) past = tt
  error_rests (Attempt (attempts.NameTaken place)) past = tt
  error_rests (Attempt (attempts.Read (Missing place))) past = tt
  error_rests (Attempt (attempts.Read (Damaged place at))) past = tt
  error_rests (Attempt (attempts.Read (Unsupported place what))) past = tt
  error_rests (Attempt (attempts.Read (StoreFault place))) past = tt
  error_rests (Attempt (attempts.Read Memory)) past = tt
  error_rests (Contended v) past = tt
  error_rests (CommitUnknown v) past = tt

  pub end_rests : (r : Result Committed CommitErr) (old new : Past) → (replay old).pending ≡ [] → Leaves r old new → RestsBy (kind_of (commit_end r)) new
  end_rests (Ok (Same v)) old new start a =
      let opened : a.mid ≡ old = (opening_answered table Nobody nobody (Ok a.at) old a.mid a.opened).0 in
      let still : new ≡ a.mid = unmoved (table_rules table Nobody) nobody Anything a.mid new a.then.4 in
      subst (λ (p : Past). (replay p).pending ≡ []) (sym (still ∙ opened)) start
  end_rests (Ok (Published v)) old new start a =
      let run = a.then.3.left in
      subst (λ (p : Past). (replay p).pending ≡ []) (sym run.is) (settled (metadata_reading table) a.mid run.events run.proper (ap ends_in_sync run.made))
  end_rests (Err e) old new start a = error_rests e new

  -- published versions are successors
  pub end_succeeds : (r : Result Committed CommitErr) (old new : Past) → Succeeds meanings.successor table now r old new → AllSucceed unasked.successor table now (commit_end r).versions old new
  end_succeeds (Ok (Same v)) old new s = tt
  end_succeeds (Ok (Published v)) old new s = (s, tt)
  end_succeeds (Err e) old new s = tt

  -- where the work is done, the change was asked on the table as it stood at the entry
  pub on_seen : (c : Committed) (old new : Past) → Leaves (Ok c) old new → OnTable table (replay old).files (λ last tree. meanings.seen tree)
  on_seen (Same v) old new a = record { place = a.at.place; last = a.at.version; bytes = a.at.text; tree = view a.at.meta; is = (opening_answered table Nobody nobody (Ok a.at) old a.mid a.opened).1; holds = a.then.3 }
  on_seen (Published v) old new a = record { place = a.at.place; last = a.at.version; bytes = a.at.text; tree = view a.at.meta; is = (opening_answered table Nobody nobody (Ok a.at) old a.mid a.opened).1; holds = a.then.2 }

-- What is told of an answer's error.

pub answers_done : (word : ℕ) (c : Committed) (status : Status) → IsEndOfWork status → StatusBy word (commit_end (Ok c)).error status
answers_done word (Same v) status e = e
answers_done word (Published v) status e = e

pub error_of : (r : Result Committed CommitErr) (e : CommitErr) → (commit_end r).error ≡ Some e → r ≡ Err e
error_of (Ok (Same v)) e is = absurd (cc (is))
error_of (Ok (Published v)) e is = absurd (cc (is))
error_of (Err x) e is = let same : x ≡ e = cc (is) in ap (λ (y : CommitErr). Err y) same

-- an error tells no versions
pub tells_none : (r : Result Committed CommitErr) (e : CommitErr) → (commit_end r).error ≡ Some e → (commit_end r).versions ≡ []
tells_none (Ok (Same v)) e is = absurd (cc (is))
tells_none (Ok (Published v)) e is = absurd (cc (is))
tells_none (Err x) e is = refl

-- A move of a ref.

-- a move refuses no base with a failed call, so that of an attempt is one of its publish
pub move_fault : (goal : Goal) (now : ℕ) (Seen : Data → Type 0) (Drawn : ℕ → Type 0) (table : Parts) (r : Result Committed CommitErr) → TellsFault (moves_of goal now Seen) Drawn table r
    → (place : Parts) → (commit_end r).error ≡ Some (Attempt (attempts.Read (StoreFault place))) → IsPublishFault Drawn table place
move_fault goal now Seen Drawn table r tells place is =
    let told = error_of r (Attempt (attempts.Read (StoreFault place))) is in
    elim (tells place told) [
      | inl refused ↦ absurd refused.1
      | inr there ↦ elim there [ inl at ↦ at | inr made ↦ absurd made ]
    ]

module _ (word : ℕ) (table : Parts) (goal : Goal) (now : ℕ) (Drawn : ℕ → Type 0) (Seen : Data → Type 0) where
  abbrev pub task : Task
  task = record { word = word; table = table; work = Move goal }

  abbrev pub meanings : Meanings
  meanings = moves_of goal now Seen

  module _ (r : Result Committed CommitErr) (mark : Option Failure) (had has : List Parts) (o a : Option Past) (commits : Commits table meanings Drawn now r mark had has o a) where
    abbrev pub Told : Past → Past → Type 0
    Told = CommitLeaves table Nobody meanings Drawn now r

    abbrev pub Worked : Past → Past → Type 0
    Worked = CommitWorks table Nobody meanings Drawn now r mark had has

    abbrev pub Caused : Past → Past → Type 0
    Caused = IsCaused meanings Drawn table now r

    abbrev pub Succeeded : Past → Past → Type 0
    Succeeded = Succeeds meanings.successor table now r

    pub did_move : WhereTold o (λ past. (replay past).pending ≡ []) → Since o a (Did task now Drawn (commit_end r) mark had has)
    did_move start =
        let two = since_both o a Told Worked commits.told commits.works in
        let three = since_both o a (λ old new. Told old new × Worked old new) Caused two commits.caused in
        let all = since_both o a (λ old new. (Told old new × Worked old new) × Caused old new) Succeeded three commits.succeeds in
        since_with o a (λ past. (replay past).pending ≡ []) (λ old new. ((Told old new × Worked old new) × Caused old new) × Succeeded old new) (Did task now Drawn (commit_end r) mark had has) start all
        (λ old new rest h. record {
          cause = end_caused table meanings Drawn now (replay old).files r h.0.1;
          safe = commit_steps table Nobody meanings Drawn now r old new h.0.0.0;
          rests = end_rests table meanings Drawn now r old new rest h.0.0.0;
          works = end_works table meanings Drawn now r mark had has old new h.0.0.1;
          succeed = end_succeeds table meanings Drawn now r old new h.1;
        })

  -- where the ref was and is to be is reported, as it was kept of the base
  module _ (kept : Goal) (previous : Option ℤ) (id : ℤ) (sees : (tree : Data) → Seen tree → (kept ≡ goal) × HasSeen goal tree previous id) (status : Status) (before after : Option (List ℕ)) where
    says_move : (last : ℕ) (tree : Data) → Reports before after (move_report kept previous id) status → Seen tree → ReportsOn (move_procedure goal now) before after status last tree
    says_move last tree put seen =
        let it = sees tree seen in
        (move_report kept previous id, (previous, id, it.1, ap (λ (g : Goal). move_report g previous id) it.0), put)

    reported : (c : Committed) (old new : Past) → Reports before after (move_report kept previous id) status → CommitLeaves table Nobody meanings Drawn now (Ok c) old new
        → OnTable table (replay old).files (ReportsOn (move_procedure goal now) before after status)
    reported c old new put a =
        let on = on_seen table meanings Drawn now c old new a in
        record { place = on.place; last = on.last; bytes = on.bytes; tree = on.tree; is = on.is; holds = says_move on.last on.tree put on.holds }

    reported_by : (c : Committed) (old new : Past) → Reports before after (move_report kept previous id) status → CommitLeaves table Nobody meanings Drawn now (Ok c) old new
        → ReportedBy (move_procedure goal now) table before after status (replay old).files (commit_end (Ok c)).error
    reported_by (Same v) old new put a = reported (Same v) old new put a
    reported_by (Published v) old new put a = reported (Published v) old new put a

    pub report_move : (c : Committed) (o a : Option Past) → Reports before after (move_report kept previous id) status → Since o a (CommitLeaves table Nobody meanings Drawn now (Ok c))
        → Since o a (λ old new. ReportedBy (move_procedure goal now) table before after status (replay old).files (commit_end (Ok c)).error)
    report_move c o a put told = since_turned o a (CommitLeaves table Nobody meanings Drawn now (Ok c)) (λ old new. ReportedBy (move_procedure goal now) table before after status (replay old).files (commit_end (Ok c)).error) told (λ old new h. reported_by c old new put h)
