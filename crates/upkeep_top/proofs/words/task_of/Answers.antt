use Rattle.std.proofs.Common.{◌≡◌, inl, inr, Err, sym, ap, ◌∙◌, arith}
use Rattle.call_arguments.specs.Table.{procedure_name}
use Rattle.call_syntax.specs.Commands.{procedure_of}
use Rattle.upkeep_top.specs.Commands.{task_of}
use Rattle.upkeep_top.proofs.words.task_of.Goals as goal

pub returns-in_default : goal.returns-in_default
returns-in_default c =
    let d = c.in_default in
    let is : task_of c.args.word c.args.command ≡ Err (procedure_name (procedure_of c.args.command)) = grind (arith, d) in
    record { ok = tt; refused = elim c.refused.ensures [ inl bad ↦ inl (c.procedure_name.result.now, is ∙ ap Err (sym c.procedure_name.ensures), bad) | inr memory ↦ inr memory ] }
