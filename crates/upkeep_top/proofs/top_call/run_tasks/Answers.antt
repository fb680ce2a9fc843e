use Rattle.std.proofs.Common.{sym, ◌∙◌}
use Rattle.upkeep_top.proofs.TaskSteps.{stopped, led_more, all_done, rests_when, done_by, not_done_by}
use Rattle.upkeep_top.proofs.top_call.run_tasks.Goals as goal

pub returns-then-not-is_done : goal.returns-then-not-is_done
returns-then-not-is_done g c =
    λ first more is. stopped c.args.tasks.now c.loop-task.task-index c.loop-task-test.true c.task-item.result c.task-item.is c.run_task-status.result _ _ _ c.loop-task.invariant.led c.run_task-status.ensures (not_done_by c.run_task-status.result (sym c.is_done.ensures ∙ c.if-not-is_done.true))

pub loop-task-preserved : goal.loop-task-preserved
loop-task-preserved g c =
    let done = done_by c.run_task-status.result (sym c.is_done.ensures ∙ c.if-not-is_done.false) in
    record {
      led = led_more c.args.tasks.now c.loop-task.task-index c.loop-task-test.true c.task-item.result c.task-item.is c.run_task-status.result _ _ _ c.loop-task.invariant.led c.run_task-status.ensures done;
      rests = rests_when c.task-item.result c.run_task-status.result _ _ c.run_task-status.ensures done;
    }

pub returns : goal.returns
returns g c = λ first more is. all_done c.args.tasks.now first more is c.loop-task.task-index c.loop-task-test.false c.loop-task.auto.task-index-end _ _ c.loop-task.invariant.led
