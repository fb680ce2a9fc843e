use Rattle.std.proofs.Common.{◌≡◌, false, true, nat_eq, get_or, refl, sym, ◌∙◌, arith}
use Rattle.std.proofs.lemmas.Bool.Decides.{nat_tests}
use Rattle.commit_versions.proofs.DigitLaws.{numeral_head}
use Rattle.commit_versions.proofs.numbers.are_numeral.Goals as goal

pub returns-then-first-ne48 : goal.returns-then-first-ne48
returns-then-first-ne48 c =
    let other : nat_eq (get_or c.args.digits.now 0 0) 48 ≡ false = grind (arith, nat_tests) in
    c.are_digits.ensures ∙ sym (numeral_head c.args.digits.now c.in-len1-up.len_at_least ∙ rw other refl)

pub returns-else-first-ne48 : goal.returns-else-first-ne48
returns-else-first-ne48 c =
    let zero_first : nat_eq (get_or c.args.digits.now 0 0) 48 ≡ true = grind (arith, nat_tests) in
    sym (numeral_head c.args.digits.now c.in-len1-up.len_at_least ∙ rw zero_first refl)
