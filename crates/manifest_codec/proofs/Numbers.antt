-- Numbers in decimal.
use Rattle.std.proofs.Common.{◌≡◌, ◌<◌, ◌^◌, ℕ, ℤ, pos, negsuc, List, Result, Ok, Err, refl, sym, ap, ◌∙◌, arith, inr, FitsSigned, to_z, of_z}
use Rattle.std.specs.Int.{w32}
use Rattle.std.specs.Fmt.{signed_decimal}
use Rattle.std.specs.Str.Parse.{ParsesSigned}
use Rattle.std.proofs.Math.Facts.{to_z-of_z}
use Rattle.std.proofs.lemmas.Fmt.{parse-signed_decimal}
use lib.Signed.{mag}
use Rattle.manifest_codec.specs.Keys.{IsParsed, NumberIs}

small : (m : ℤ) → FitsSigned w32 m → mag m < 2 ^ 63
small (pos n) h = omega (arith, h.sfits)
small (negsuc n) h = omega (arith, h.sfits)

abbrev got : {E : Type 0} → Result ℤ E → ℤ
got (Ok n) = n
got (Err e) = pos 0

never : {E : Type 0} (e : E) (n m : ℤ) → Err e ≡ Ok m → n ≡ m
never e n m h = absurd cc

pub parsed_ok : {E : Type 0} (text : List ℕ) (r : Result ℤ E) (n : ℤ) → ParsesSigned w32 10 text r → r ≡ Ok n → IsParsed text (to_z w32 (of_z w32 n))
parsed_ok text r n h e = λ m fits is.
    let same : n ≡ m = ap got (sym e ∙ parse-signed_decimal w32 m text r fits (small m fits) is h) in
    ap (λ z. to_z w32 (of_z w32 z)) same ∙ to_z-of_z fits

pub parsed_err : {E : Type 0} (text : List ℕ) (r : Result ℤ E) (e : E) → ParsesSigned w32 10 text r → r ≡ Err e → IsParsed text (pos 0)
parsed_err text r e h is = λ m fits same. never e (pos 0) m (sym is ∙ parse-signed_decimal w32 m text r fits (small m fits) same h)

pub no_number : (text written : List ℕ) (n : ℤ) → IsParsed text n → written ≡ signed_decimal n → (written ≡ text → ⊥) → NumberIs text (pos 0)
no_number text written n parsed is other = inr (refl, λ m fits e. other (is ∙ ap signed_decimal (parsed m fits e) ∙ sym e))
