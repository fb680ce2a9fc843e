use Rattle.std.proofs.Common.{◌≡◌, [], take}
use Rattle.ice_store.specs.History.{replay}
use Rattle.ice_store.specs.Others.{WhereTold}
use Rattle.upkeep_top.specs.Chains.{Leads}
use Rattle.upkeep_top.specs.Points.{at, moment, noted, tells}
use Rattle.upkeep_top.specs.Runs.{IsDone}
use Rattle.upkeep_top.proofs.top_call.run_tasks.Given as goal

abbrev pub invariant-loop-task : goal.invariant-loop-task
invariant-loop-task g l =
    let t = tells g.S.Store.past g.S.Store.faults g.S.Store.halted g.C.Clock.given g.I.Ids.given g.O.Sink.contents g.O.Sink.faults in
    record {
      led : Leads IsDone (take l.task-index l.tasks) (moment t (at l.fn.store l.fn.clock l.fn.ids l.fn.out) (noted l.fn.log)) (moment t (at l.store l.clock l.ids l.out) (noted l.log));
      rests : WhereTold (g.S.Store.past l.store) (λ past. (replay past).pending ≡ []);
    }
