use Rattle.std.proofs.Common.{[], sym, rules, arith}
use Rattle.commit_versions.proofs.DigitLaws.{value-read, read_on, read_past, read_all}
use Rattle.commit_versions.proofs.numbers.number_of_digits.Goals as goal

pub loop-digit-init : goal.loop-digit-init
loop-digit-init c = sym (value-read [] c.args.digits.now)

pub loop-digit-preserved : goal.loop-digit-preserved
loop-digit-preserved c = read_on c.loop-digit.number c.args.digits.now c.loop-digit.digit-index _ c.loop-digit.invariant c.in_ok-number.number (omega arith) c.in_ok-number.ensures

pub returns-in_err-number : goal.returns-in_err-number
returns-in_err-number c = let past = read_past c.loop-digit.number c.args.digits.now c.loop-digit.digit-index _ c.loop-digit.invariant (omega arith) c.in_err-number.ensures in search (rules, past)

pub returns : goal.returns
returns c = read_all c.loop-digit.number c.args.digits.now c.loop-digit.digit-index _ c.loop-digit.invariant (omega arith)
