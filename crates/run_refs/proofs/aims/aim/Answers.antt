use Rattle.std.proofs.Common.{sym, subst, IsUtf8}
use Rattle.run_refs.specs.declared.goal.Goal.{Goal}
use Rattle.run_refs.specs.Refs.{goal_ref}
use Rattle.run_refs.proofs.AimTexts.{main_utf8, on_ok, on_both}
use Rattle.run_refs.proofs.aims.aim.Goals as goal

pub returns-in-Rollback-clause-utf8 : goal.returns-in-Rollback-clause-utf8
returns-in-Rollback-clause-utf8 c = on_ok c.aim_back.result (IsUtf8 (goal_ref c.args.goal.now)) (subst (λ (g : Goal). IsUtf8 (goal_ref g)) (sym c.in-Rollback.is) main_utf8)

pub returns-in-SetCurrent-clause-utf8 : goal.returns-in-SetCurrent-clause-utf8
returns-in-SetCurrent-clause-utf8 c = on_ok c.aim_at.result (IsUtf8 (goal_ref c.args.goal.now)) (subst (λ (g : Goal). IsUtf8 (goal_ref g)) (sym c.in-SetCurrent.is) main_utf8)

pub returns-in-SetCurrentTo-clause-utf8 : goal.returns-in-SetCurrentTo-clause-utf8
returns-in-SetCurrentTo-clause-utf8 c = on_both c.aim_to.result (IsUtf8 (goal_ref c.args.goal.now)) (subst (λ (g : Goal). IsUtf8 (goal_ref g)) (sym c.in-SetCurrentTo.is) main_utf8)
