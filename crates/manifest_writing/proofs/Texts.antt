-- Keys in ASCII.
use Rattle.std.proofs.Common.{◌≡◌, ℕ, zero, suc, ◌<◌, List, [], ◌∷◌, true, nat_lt, arith}
use Rattle.std.specs.List.{list_all}
use Rattle.std.proofs.lemmas.Bool.Decides.{nat_tests}
use Rattle.std.specs.Str.{IsAscii, IsUtf8}
use Rattle.std.proofs.lemmas.Str.{IsUtf8-from_ascii}

by_test : (text : List ℕ) → list_all (λ b. nat_lt b 128) text ≡ true → IsAscii text
by_test [] e i = omega arith
by_test (b ∷ text) e zero = grind (arith, nat_tests)
by_test (b ∷ text) e (suc i) = by_test text (grind (arith, nat_tests)) i

-- a text of ASCII characters is UTF-8
pub ascii : (text : List ℕ) → list_all (λ b. nat_lt b 128) text ≡ true → IsUtf8 text
ascii text e = IsUtf8-from_ascii text (by_test text e)
