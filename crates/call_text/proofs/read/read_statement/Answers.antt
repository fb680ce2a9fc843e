use Rattle.std.proofs.Common.{◌≡◌, ◌∙◌, subst, sym}
use Rattle.call_text.specs.Statement.{Spells, IsFault}
use Rattle.call_text.proofs.Readable.{read_can_be_written}
use Rattle.call_text.proofs.Unambiguous.{answers_ok, answers_err}
use Rattle.call_text.proofs.read.read_statement.Goals as goal

same : (c : goal.After-read) → c.args.text.now ≡ c.deref.result.now
same c = sym (c.deref.ensures.value ∙ c.inner.ensures)

pub returns-clause-spelled : goal.returns-clause-spelled
returns-clause-spelled c = λ call h. answers_ok c.read.result c.deref.result.now c.read.ensures.ok c.read.ensures.bad call (subst (λ text. Spells text call) (same c) h)

pub returns-clause-fault : goal.returns-clause-fault
returns-clause-fault c = λ at h. answers_err c.read.result c.deref.result.now c.read.ensures.ok c.read.ensures.bad at (subst (λ text. IsFault text at) (same c) h)

pub returns-clause-can_be_written : goal.returns-clause-can_be_written
returns-clause-can_be_written c = read_can_be_written c.read.result c.deref.result.now c.read.ensures.ok
