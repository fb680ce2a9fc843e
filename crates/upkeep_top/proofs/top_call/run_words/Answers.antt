use Rattle.std.proofs.Common.{◌∙◌, ap, refl}
use Rattle.commit_publish.specs.declared.publish.Log.{Log}
use Rattle.upkeep_top.specs.Points.{tells}
use Rattle.upkeep_top.proofs.TaskSteps.{same_moment, same_notes, refused_run, asked_run}
use Rattle.upkeep_top.proofs.WordLaws.{never_refused}
use Rattle.upkeep_top.proofs.top_call.run_words.Goals.{in-Ok, in-Err}
use Rattle.upkeep_top.proofs.top_call.run_words.Goals as goal

pub returns-clause-told : goal.returns-clause-told
returns-clause-told g c =
    let t = tells g.S.Store.past g.S.Store.faults g.S.Store.halted g.C.Clock.given g.I.Ids.given g.O.Sink.contents g.O.Sink.faults in
    elim c.match-read_words.branch [
      | in-Ok w ↦
          let ask = w.in-Ok.ensures.ok in
          asked_run c.args.words.now ask.0 w.in-Ok.tasks w.deref.result.now (w.deref.ensures.value ∙ w.inner.ensures) ask.1 _ _ w.status-is _ _ _ _
          (same_moment t refl refl refl refl (same_notes c.new.ensures.items c.new-2.ensures.items))
          (same_moment t w.store-is w.clock-is w.ids-is w.out-is (same_notes (c.new-3.ensures ∙ ap (λ (l : Log). l.committed.items) w.log-is) (c.new-4.ensures ∙ ap (λ (l : Log). l.left.items) w.log-is)))
          w.run_tasks-status.ensures
      | in-Err w ↦
          refused_run c.args.words.now _ _ w.status-is w.in-Err.ensures.refused _ _
          (same_moment t w.store-is w.clock-is w.ids-is w.out-is
          (same_notes (c.new-3.ensures ∙ ap (λ (l : Log). l.committed.items) w.log-is ∙ c.new.ensures.items) (c.new-4.ensures ∙ ap (λ (l : Log). l.left.items) w.log-is ∙ c.new-2.ensures.items)))
    ]

pub returns-clause-no_call : goal.returns-clause-no_call
returns-clause-no_call g c = λ status refuses. elim c.match-read_words.branch [
  | in-Ok w ↦ absurd (never_refused c.args.words.now w.in-Ok.ensures.ok.0 w.in-Ok.tasks status w.in-Ok.ensures.ok.1 refuses)
  | in-Err w ↦ w.store-is
]
