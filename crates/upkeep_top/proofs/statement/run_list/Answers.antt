use Rattle.std.proofs.Common.{◌≡◌, inl, inr, [], Option, Some, None, Err, refl, sym, subst, append-nil}
use Rattle.serde_json.specs.View.{view}
use Rattle.ice_store.specs.Given.{Gives}
use Rattle.ice_store.specs.History.{replay}
use Rattle.ice_store.specs.Since.{Since}
use Rattle.ice_store.specs.declared.faults.ReadErr.TheVariants.{Memory}
use Rattle.ice_store.specs.declared.history.Past.{Past}
use Rattle.commit_publish.specs.Kinds.{Failing}
use Rattle.commit_versions.specs.Opening.{OpenFaultAt, open_kind}
use Rattle.commit_versions.specs.declared.types.OpenErr.{OpenErr}
use Rattle.commit_protocol.specs.Verdicts.{IsTable, OpenVerdict}
use Rattle.commit_protocol.specs.declared.errors.Refusal.TheVariants.{UnknownSnapshot}
use Rattle.commit_protocol.specs.declared.errors.AttemptErr.TheVariants.{Refused, Read}
use Rattle.commit_protocol.specs.declared.errors.CommitErr.{CommitErr}
use Rattle.commit_protocol.specs.declared.errors.CommitErr.TheVariants.{Open, Attempt}
use Rattle.commit_protocol.proofs.EndLaws.{leaves_of_open, marks_of_open}
use Rattle.commit_protocol.specs.Meanings.{LooksBy}
use Rattle.commit_protocol.proofs.WorkLaws.{looked}
use Rattle.run_refs.specs.Procedures.{list_procedure}
use Rattle.upkeep_top.specs.Points.{at, moment, noted, tells}
use Rattle.upkeep_top.specs.Statements.{Ends, Did, ReportedBy}
use Rattle.upkeep_top.specs.declared.task.Task.{Task}
use Rattle.upkeep_top.specs.declared.task.Work.TheVariants.{List as Listing}
use Rattle.upkeep_top.proofs.ListLaws.{did_list, did_not_open, did_refuse, did_stop, ends_of, refuses_lack, reports_list, since_idle, stops}
use Rattle.upkeep_top.proofs.StatusLaws.{not_output}
use Rattle.upkeep_top.proofs.statement.run_list.Goals as goal

pub returns-in-Ok : goal.returns-in-Ok
returns-in-Ok g c =
    let w = c.args.task.now in
    let given = c.args.given in
    let made : Task = record { word = w.word; table = w.table; work = Listing given } in
    let t = tells g.S.Store.past g.S.Store.faults g.S.Store.halted g.C.Clock.given g.I.Ids.given g.O.Sink.contents g.O.Sink.faults in
    let p = moment t (at c.args.store.now c.args.clock.now c.args.ids.now c.args.out.now) (noted c.args.log.now) in
    let q = moment t (at c.open_table.new.store c.now_ms.new.self c.args.ids.now c.list_on.new.out) (noted c.args.log.now) in
    let status = c.list_on.result in
    let opened = c.in-Ok.at in
    let tree = view opened.meta in
    let e = c.in-Ok.ensures in
    let now = c.now_ms.result in
    let Drawn = Gives p.identifiers p.identifiers in
    let Rests : Past → Type 0 = λ past. (replay past).pending ≡ [] in
    let Opened : Past → Past → Type 0 = λ old new. IsTable w.table (replay old).files opened.place opened.version opened.text tree in
    let told : Since p.past q.past Opened = e.alone (λ past step h. h) in
    let since : (T : Past → Past → Type 0) → ((old : Past) → Rests old → Opened old old → T old old) → Since p.past q.past T =
    λ T turn. since_idle p.past q.past Rests Opened T (e.idle (λ past step h. h)) c.requires.start told turn in
    let Does : Option CommitErr → Past → Past → Type 0 = λ error. Did made now Drawn (stops error) q.halted p.left p.left in
    let Reports : Option CommitErr → Past → Past → Type 0 = λ error old new. ReportedBy (list_procedure given) w.table p.output q.output status (replay old).files error in
    let ends : Ends made status p q = elim c.list_on.ensures.listed [
      | inl rows ↦ record {
        now = now;
        moment = c.now_ms.ensures.given;
        end = stops None;
        answers = rows.3;
        did = since (Does None) (λ old rest is. did_list w.word w.table given now Drawn q.halted p.left old opened.place opened.version opened.text tree is rest rows.0 rows.1);
        report = since (Reports None) (λ old rest is. reports_list w.word w.table given now Drawn q.halted p.left old opened.place opened.version opened.text tree is status p.output q.output rows.0 rows.1 rows.2);
        committed = sym (append-nil p.committed);
        left = refl;
        drawn = refl;
        faults = e.cause;
        later = e.later;
        halted = e.halted;
        refused = λ refusal is. absurd (cc (is));
        opening = λ x is. absurd (cc (is));
        fault = λ place is. absurd (cc (is));
        none = λ x is. refl;
        output_faults = c.list_on.ensures.cause;
      }
      | inr (inl lacks) ↦ record {
        now = now;
        moment = c.now_ms.ensures.given;
        end = stops (Some (Attempt (Refused (UnknownSnapshot lacks.0))));
        answers = lacks.2;
        did = since (Does (Some (Attempt (Refused (UnknownSnapshot lacks.0))))) (λ old rest is. did_refuse w.word w.table given now Drawn q.halted p.left old opened.place opened.version opened.text tree is lacks.0 lacks.1);
        report = since (Reports (Some (Attempt (Refused (UnknownSnapshot lacks.0))))) (λ old rest is. lacks.3);
        committed = sym (append-nil p.committed);
        left = refl;
        drawn = inl refl;
        faults = e.cause;
        later = e.later;
        halted = e.halted;
        refused = refuses_lack given tree lacks.0 lacks.1;
        opening = λ x is. absurd (cc (is));
        fault = λ place is. absurd (cc (is));
        none = λ x is. refl;
        output_faults = c.list_on.ensures.cause;
      }
      | inr (inr memory) ↦ record {
        now = now;
        moment = c.now_ms.ensures.given;
        end = stops (Some (Attempt (Read Memory)));
        answers = memory.0;
        did = since (Does (Some (Attempt (Read Memory)))) (λ old rest is. did_stop w.word w.table given now Drawn q.halted p.left old);
        report = since (Reports (Some (Attempt (Read Memory)))) (λ old rest is. memory.1);
        committed = sym (append-nil p.committed);
        left = inl refl;
        drawn = inl refl;
        faults = e.cause;
        later = e.later;
        halted = e.halted;
        refused = λ refusal is. absurd (cc (is));
        opening = λ x is. absurd (cc (is));
        fault = λ place is. absurd (cc (is));
        none = λ x is. refl;
        output_faults = c.list_on.ensures.cause;
      }
    ] in
    ends_of w (Listing given) status p q (sym c.requires.work) ends

pub returns-in-Err : goal.returns-in-Err
returns-in-Err g c =
    let w = c.args.task.now in
    let given = c.args.given in
    let made : Task = record { word = w.word; table = w.table; work = Listing given } in
    let t = tells g.S.Store.past g.S.Store.faults g.S.Store.halted g.C.Clock.given g.I.Ids.given g.O.Sink.contents g.O.Sink.faults in
    let p = moment t (at c.args.store.now c.args.clock.now c.args.ids.now c.args.out.now) (noted c.args.log.now) in
    let q = moment t (at c.open_table.new.store c.now_ms.new.self c.args.ids.now c.args.out.now) (noted c.args.log.now) in
    let status = c.status_of_open.result in
    let error = c.in-Err.e in
    let e = c.in-Err.ensures in
    let now = c.now_ms.result in
    let Drawn = Gives p.identifiers p.identifiers in
    let Rests : Past → Type 0 = λ past. (replay past).pending ≡ [] in
    let Verdict : Past → Past → Type 0 = λ old new. OpenVerdict w.table (replay old).files (Err error) in
    let Opened : Past → Past → Type 0 = λ old new. Verdict old new × LooksBy (Failing q.halted new) (open_kind error) in
    let told : Since p.past q.past Opened = looked (open_kind error) p.halted q.halted p.past q.past Verdict e.halted (e.alone (λ past step h. h)) in
    let since : (T : Past → Past → Type 0) → ((old : Past) → Rests old → Opened old old → T old old) → Since p.past q.past T =
    λ T turn. since_idle p.past q.past Rests Opened T (e.idle (λ past step h. h)) c.requires.start told turn in
    let ends : Ends made status p q = record {
      now = now;
      moment = c.now_ms.ensures.given;
      end = stops (Some (Open error));
      answers = c.status_of_open.ensures;
      did = since (Did made now Drawn (stops (Some (Open error))) q.halted p.left p.left) (λ old rest is. did_not_open w.word w.table given now Drawn q.halted p.left old error is.0 is.1);
      report = since (λ old new. p.output ≡ p.output) (λ old rest is. refl);
      committed = sym (append-nil p.committed);
      left = leaves_of_open Drawn w.table (open_kind error) p.halted q.halted q.past p.left p.left e.halted refl;
      drawn = inl refl;
      faults = e.cause;
      later = e.later;
      halted = marks_of_open w.table (open_kind error) p.halted q.halted q.past e.halted;
      refused = λ refusal is. absurd (cc (is));
      opening = λ x is. let same : error ≡ x = cc (is) in subst (λ (y : OpenErr). OpenFaultAt w.table y) same e.place;
      fault = λ place is. absurd (cc (is));
      none = λ x is. refl;
      output_faults = record { rose = λ d. absurd (not_output w.word (Open error) status c.status_of_open.ensures d); kept = λ d. refl };
    } in
    ends_of w (Listing given) status p q (sym c.requires.work) ends
