use Rattle.std.proofs.Common.{◌≡◌, drop}
use Rattle.serde_json.specs.View.{view}
use Rattle.metadata_form.specs.Fields.{rules_fault}
use Rattle.metadata_form.proofs.rules.rules_fault.Given as goal

abbrev pub invariant-loop-rule : goal.invariant-loop-rule
invariant-loop-rule l = rules_fault l.rules (view l.tree) ≡ rules_fault (drop l.rule-index l.rules) (view l.tree)
