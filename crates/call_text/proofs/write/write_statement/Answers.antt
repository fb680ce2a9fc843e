use Rattle.std.proofs.Common.{◌≡◌, ◌∙◌, subst, sym}
use Rattle.call_text.specs.Statement.{Spells}
use Rattle.call_text.specs.Writing.{written}
use Rattle.call_text.proofs.Written.{call_text}
use Rattle.call_text.proofs.Again.{written_spells}
use Rattle.call_text.proofs.write.write_statement.Goals as goal

is_written : (c : goal.After-new) → c.new.result ≡ written c.args.call.now
is_written c =
    c.new.ensures
    ∙ call_text c.args.call.now c.new-out.result.items c.push_head.new.out.items c.push_args.new.out.items c.push.new.self.items c.deref.result.now
    c.new-out.ensures.items c.in_ok-push_head.ensures (c.deref.ensures.value ∙ c.inner.ensures) c.in_ok-push_args.ensures c.in_ok-push.ensures.items

pub returns-clause-text : goal.returns-clause-text
returns-clause-text c = is_written c

pub returns-clause-again : goal.returns-clause-again
returns-clause-again c = subst (λ t. Spells t c.args.call.now) (sym (is_written c)) (written_spells c.args.call.now c.requires)
