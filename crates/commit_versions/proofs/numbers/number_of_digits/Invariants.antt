use Rattle.std.proofs.Common.{◌≡◌, [], drop}
use Rattle.commit_history.specs.Versions.{value}
use Rattle.commit_versions.specs.Digits.{last_first}
use Rattle.commit_versions.proofs.DigitLaws.{read}
use Rattle.commit_versions.proofs.numbers.number_of_digits.Given as goal

abbrev pub invariant-loop-digit : goal.invariant-loop-digit
invariant-loop-digit l = read l.number (drop l.digit-index l.digits) ≡ value (last_first [] l.digits)
