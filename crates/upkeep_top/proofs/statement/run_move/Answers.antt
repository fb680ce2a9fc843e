use Rattle.std.proofs.Common.{◌≡◌, arith, inl, ℕ, [], Option, Some, Result, Ok, Err, refl, sym, ap, ◌∙◌, subst, append-nil}
use Rattle.serde_json.specs.Data.{Data}
use Rattle.ice_store.specs.Given.{Gives}
use Rattle.ice_store.specs.History.{replay}
use Rattle.ice_store.proofs.SinceLaws.{since_start, since_turned}
use Rattle.ice_store.specs.declared.faults.ReadErr.TheVariants.{Memory}
use Rattle.ice_store.specs.declared.history.Past.{Past}
use Rattle.commit_protocol.specs.Attempts.{CommitLeaves}
use Rattle.commit_protocol.specs.Ends.{CommitWorks}
use Rattle.commit_protocol.specs.Kinds.{End, commit_end}
use Rattle.commit_protocol.specs.declared.errors.AttemptErr.TheVariants.{Read, Refused}
use Rattle.commit_protocol.specs.declared.errors.CommitErr.{CommitErr}
use Rattle.commit_protocol.specs.declared.errors.CommitErr.TheVariants.{Attempt, Open}
use Rattle.commit_protocol.specs.declared.errors.Committed.{Committed}
use Rattle.run_answers.specs.declared.status.Status.TheVariants.{OutOfMemory}
use Rattle.run_refs.specs.Meanings.{moves_of}
use Rattle.run_refs.specs.Moves.{HasSeen}
use Rattle.run_refs.specs.Procedures.{move_procedure}
use Rattle.run_refs.specs.Reports.{move_report}
use Rattle.upkeep_top.specs.Points.{at, moment, noted, tells}
use Rattle.upkeep_top.specs.Statements.{Ends, Did, ReportedBy}
use Rattle.upkeep_top.specs.declared.task.Task.{Task}
use Rattle.upkeep_top.specs.declared.task.Work.TheVariants.{Move}
use Rattle.commit_protocol.proofs.PlainLaws.{plain_draws, plain_left}
use Rattle.upkeep_top.proofs.EndLaws.{Commits, answers_done, did_move, error_of, move_fault, move_plain, report_move, tells_none}
use Rattle.upkeep_top.proofs.ListLaws.{did_nothing, ends_of, stops}
use Rattle.upkeep_top.proofs.StatusLaws.{not_output}
use Rattle.upkeep_top.proofs.statement.run_move.Goals as goal

pub returns-in_default : goal.returns-in_default
returns-in_default g c =
    let w = c.args.task.now in
    let made : Task = record { word = w.word; table = w.table; work = Move c.args.goal.now } in
    let t = tells g.S.Store.past g.S.Store.faults g.S.Store.halted g.C.Clock.given g.I.Ids.given g.O.Sink.contents g.O.Sink.faults in
    let p = moment t (at c.args.store.now c.args.clock.now c.args.ids.now c.args.out.now) (noted c.args.log.now) in
    let q = moment t (at c.args.store.now c.now_ms-now.new.self c.args.ids.now c.args.out.now) (noted c.args.log.now) in
    let now = c.now_ms-now.result in
    let Drawn = Gives p.identifiers p.identifiers in
    let error : Option CommitErr = Some (Attempt (Read Memory)) in
    let does : Past → Past → Type 0 = Did made now Drawn (stops error) p.halted p.left p.left in
    let reports : Past → Past → Type 0 = λ old new. ReportedBy (move_procedure c.args.goal.now now) w.table p.output p.output OutOfMemory (replay old).files error in
    let ends : Ends made OutOfMemory p q = record {
      now = now;
      moment = c.now_ms-now.ensures.given;
      end = stops error;
      answers = refl;
      did = since_start p.past (λ past. (replay past).pending ≡ []) does c.requires.start (λ old rest. did_nothing made now Drawn error p.halted p.left old (refl, tt) tt tt);
      report = since_start p.past (λ past. (replay past).pending ≡ []) reports c.requires.start (λ old rest. refl);
      committed = sym (append-nil p.committed);
      left = inl refl;
      drawn = inl refl;
      faults = refl;
      later = omega arith;
      halted = refl;
      refused = λ refusal is. absurd (cc (is));
      opening = λ e is. absurd (cc (is));
      fault = λ place is. absurd (cc (is));
      none = λ e is. refl;
      output_faults = record { rose = λ e. absurd (cc (e)); kept = λ e. refl };
    } in
    ends_of w (Move c.args.goal.now) OutOfMemory p q (sym c.requires.work) ends

pub returns-in-Ok-commit : goal.returns-in-Ok-commit
returns-in-Ok-commit g c =
    let w = c.args.task.now in
    let now = c.now_ms-now.result in
    let r = c.new-change.result in
    let s = c.commit.new.change in
    let status = c.put_report.result in
    let goals : r.goal ≡ c.args.goal.now = c.new-change.ensures.goal ∙ c.in-Ok.ensures in
    let made : Task = record { word = w.word; table = w.table; work = Move r.goal } in
    let t = tells g.S.Store.past g.S.Store.faults g.S.Store.halted g.C.Clock.given g.I.Ids.given g.O.Sink.contents g.O.Sink.faults in
    let p = moment t (at c.args.store.now c.args.clock.now c.args.ids.now c.args.out.now) (noted c.args.log.now) in
    let q = moment t (at c.commit.new.store c.now_ms-now.new.self c.commit.new.ids c.put_report.new.out) (noted c.commit.new.log) in
    let Drawn = Gives p.identifiers q.identifiers in
    let done = c.in-Ok-commit.field-0 in
    let answer : Result Committed CommitErr = Ok done in
    let end : End = commit_end answer in
    let e = c.in-Ok-commit.ensures in
    let Seen : Data → Type 0 = λ tree. (s.goal ≡ r.goal) × HasSeen r.goal tree s.previous s.id in
    let Leaves : Past → Past → Type 0 = CommitLeaves w.table (λ past step. ⊥) (moves_of r.goal r.now Seen) Drawn now answer in
    let Does : Past → Past → Type 0 = CommitWorks w.table (λ past step. ⊥) (moves_of r.goal r.now Seen) Drawn now answer q.halted p.left q.left in
    let Both : Past → Past → Type 0 = λ old new. Leaves old new × Does old new in
    let both = move_plain w.table r.goal r.now Seen p.identifiers q.identifiers now answer q.halted p.left q.left p.past q.past e.told in
    let Made : ℕ → Type 0 = λ m. Commits w.table (moves_of r.goal m Seen) Drawn now answer q.halted p.left q.left p.past q.past in
    let commits = subst Made c.new-change.ensures.now (record { told = since_turned p.past q.past Both Leaves both (λ old new h. h.0); works = since_turned p.past q.past Both Does both (λ old new h. h.1); caused = e.alone (λ past step h. h); succeeds = e.successors (λ past step h. h); refused = e.refused }) in
    let ends : Ends made status p q = record {
      now = now;
      moment = c.now_ms-now.ensures.given;
      end = end;
      answers = answers_done w.word done status c.put_report.ensures.status;
      did = did_move w.word w.table r.goal now Drawn Seen answer q.halted p.left q.left p.past q.past commits c.requires.start;
      report = report_move w.word w.table r.goal now Drawn Seen s.goal s.previous s.id (λ tree seen. seen) status p.output q.output done p.past q.past (c.put_report.ensures.reports (move_report s.goal s.previous s.id) c.report.ensures) commits.told;
      committed = e.committed;
      left = plain_left w.table p.left q.left Drawn answer e.left;
      drawn = plain_draws p.identifiers q.identifiers answer e.drawn;
      faults = e.cause;
      later = e.later;
      halted = e.halted;
      refused = λ refusal is. commits.refused refusal (error_of answer (Attempt (Refused refusal)) is);
      opening = λ x is. e.opening x (error_of answer (Open x) is);
      fault = move_fault r.goal r.now Seen Drawn w.table answer e.fault_place;
      none = tells_none answer;
      output_faults = c.put_report.ensures.cause;
    } in
    ends_of w (Move r.goal) status p q (ap Move goals ∙ sym c.requires.work) ends

pub returns : goal.returns
returns g c =
    let w = c.args.task.now in
    let now = c.now_ms-now.result in
    let r = c.new-change.result in
    let s = c.commit.new.change in
    let status = c.status_of_error.result in
    let goals : r.goal ≡ c.args.goal.now = c.new-change.ensures.goal ∙ c.in-Ok.ensures in
    let made : Task = record { word = w.word; table = w.table; work = Move r.goal } in
    let t = tells g.S.Store.past g.S.Store.faults g.S.Store.halted g.C.Clock.given g.I.Ids.given g.O.Sink.contents g.O.Sink.faults in
    let p = moment t (at c.args.store.now c.args.clock.now c.args.ids.now c.args.out.now) (noted c.args.log.now) in
    let q = moment t (at c.commit.new.store c.now_ms-now.new.self c.commit.new.ids c.args.out.now) (noted c.commit.new.log) in
    let Drawn = Gives p.identifiers q.identifiers in
    let error = c.in-Err.e in
    let answer : Result Committed CommitErr = Err error in
    let e = c.in-Err.ensures in
    let Seen : Data → Type 0 = λ tree. (s.goal ≡ r.goal) × HasSeen r.goal tree s.previous s.id in
    let Leaves : Past → Past → Type 0 = CommitLeaves w.table (λ past step. ⊥) (moves_of r.goal r.now Seen) Drawn now answer in
    let Does : Past → Past → Type 0 = CommitWorks w.table (λ past step. ⊥) (moves_of r.goal r.now Seen) Drawn now answer q.halted p.left q.left in
    let Both : Past → Past → Type 0 = λ old new. Leaves old new × Does old new in
    let both = move_plain w.table r.goal r.now Seen p.identifiers q.identifiers now answer q.halted p.left q.left p.past q.past e.told in
    let Made : ℕ → Type 0 = λ m. Commits w.table (moves_of r.goal m Seen) Drawn now answer q.halted p.left q.left p.past q.past in
    let commits = subst Made c.new-change.ensures.now (record { told = since_turned p.past q.past Both Leaves both (λ old new h. h.0); works = since_turned p.past q.past Both Does both (λ old new h. h.1); caused = e.alone (λ past step h. h); succeeds = e.successors (λ past step h. h); refused = e.refused }) in
    let Told : Past → Past → Type 0 = CommitLeaves w.table (λ past step. ⊥) (moves_of r.goal now Seen) Drawn now (Err error) in
    let ends : Ends made status p q = record {
      now = now;
      moment = c.now_ms-now.ensures.given;
      end = commit_end answer;
      answers = c.status_of_error.ensures;
      did = did_move w.word w.table r.goal now Drawn Seen answer q.halted p.left q.left p.past q.past commits c.requires.start;
      report = since_turned p.past q.past Told (λ old new. p.output ≡ p.output) commits.told (λ old new h. refl);
      committed = e.committed;
      left = plain_left w.table p.left q.left Drawn answer e.left;
      drawn = plain_draws p.identifiers q.identifiers answer e.drawn;
      faults = e.cause;
      later = e.later;
      halted = e.halted;
      refused = λ refusal is. commits.refused refusal (error_of answer (Attempt (Refused refusal)) is);
      opening = λ x is. e.opening x (error_of answer (Open x) is);
      fault = move_fault r.goal r.now Seen Drawn w.table answer e.fault_place;
      none = tells_none answer;
      output_faults = record { rose = λ d. absurd (not_output w.word error status c.status_of_error.ensures d); kept = λ d. refl };
    } in
    ends_of w (Move r.goal) status p q (ap Move goals ∙ sym c.requires.work) ends
