use Rattle.std.proofs.Common.{◌∙◌, List, subst}
use Rattle.upkeep_top.specs.Words.{AreOfOneTable, TablesRefuse}
use Rattle.upkeep_top.specs.declared.task.Task.{Task}
use Rattle.upkeep_top.proofs.WordSteps.{asks_all, refused_tables}
use Rattle.upkeep_top.proofs.words.read_words.Goals as goal

pub returns-in-Ok-check_tables-clause-ok : goal.returns-in-Ok-check_tables-clause-ok
returns-in-Ok-check_tables-clause-ok c =
    asks_all c.args.words.now c.in-Ok.tasks c.in-Ok.ensures.ok (subst (λ (ts : List Task). AreOfOneTable ts) (c.deref.ensures.value ∙ c.inner.ensures) c.in-Ok-check_tables.ensures.ok)

pub returns-in-Err-check_tables-clause-refused : goal.returns-in-Err-check_tables-clause-refused
returns-in-Err-check_tables-clause-refused c =
    let status = c.in-Err-check_tables.status in
    refused_tables c.args.words.now c.in-Ok.tasks status c.in-Ok.ensures.ok (subst (λ (ts : List Task). TablesRefuse ts status) (c.deref.ensures.value ∙ c.inner.ensures) c.in-Err-check_tables.ensures.refused)
