use Rattle.std.proofs.Common.{sym, ap, ◌∙◌}
use Rattle.upkeep_top.specs.declared.task.Task.{Task}
use Rattle.upkeep_top.proofs.WordSteps.{other_here, of_table_more}
use Rattle.upkeep_top.proofs.words.other_table.Goals as goal

pub returns-then-not-is : goal.returns-then-not-is
returns-then-not-is c =
    let t = c.index-tasks-at.result in
    let is = c.index-tasks-at.is in
    other_here c.args.table.now c.args.tasks.now c.loop-at.at c.loop-at-test.true t is c.loop-at.invariant
    (λ e. absurd (cc (c.is.ensures.same.1 (sym (ap (λ (x : Task). x.table) is) ∙ e), c.if-not-is.true)))

pub loop-at-preserved : goal.loop-at-preserved
loop-at-preserved c =
    let t = c.index-tasks-at.result in
    let is = c.index-tasks-at.is in
    of_table_more c.args.table.now c.args.tasks.now c.loop-at.at c.loop-at-test.true t is c.loop-at.invariant (ap (λ (x : Task). x.table) is ∙ c.is.ensures.same.0 c.if-not-is.false)
