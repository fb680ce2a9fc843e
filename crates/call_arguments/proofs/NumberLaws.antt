-- The number of decimal digits, read digit by digit.
use Rattle.std.proofs.Common.{◌≡◌, ℕ, ◌+◌, ◌-◌, ◌*◌, ◌^◌, ◌≤◌, Bool, true, false, ◌&&◌, List, [], ◌∷◌, nat_lt, Option, Some, None, if◌then◌else◌, refl, sym, ap, arith}
use Rattle.std.specs.List.{list_all}
use Rattle.std.specs.Char.{is_ascii_digit}
use Rattle.ice_store.specs.Numbers.{number_on}
use Rattle.call_arguments.specs.Numbers.{magnitude_of, magnitude_from}

-- a number with digits behind it isn't smaller
grows : (n : ℕ) (ds : List ℕ) → n ≤ number_on n ds
grows n [] = omega arith
grows n (d ∷ ds) = let more : 10 * n + (d - 48) ≤ number_on (10 * n + (d - 48)) ds = grows (10 * n + (d - 48)) ds in omega arith

bounded : ℕ → List ℕ → Option ℕ
bounded n ds = if list_all is_ascii_digit ds && nat_lt (number_on n ds) (2 ^ 64) then Some (number_on n ds) else None

no_and : (a b : Bool) (x : Option ℕ) → b ≡ false → (if a && b then x else None) ≡ None
no_and true b x e = ap (λ (c : Bool). if c then x else None) e
no_and false b x e = refl

above : (m n : ℕ) → m ≤ n → nat_lt m (2 ^ 64) ≡ false → nat_lt n (2 ^ 64) ≡ false
above m n le e = grind arith

step : (digit fits : Bool) (m : ℕ) (ds : List ℕ) → nat_lt m (2 ^ 64) ≡ fits → (fits ≡ true → magnitude_from m ds ≡ bounded m ds)
    → (if digit && fits then magnitude_from m ds else None) ≡ (if (digit && list_all is_ascii_digit ds) && nat_lt (number_on m ds) (2 ^ 64) then Some (number_on m ds) else None)
unfolding bounded
step false fits m ds e later = refl
step true true m ds e later = later refl
step true false m ds e later = sym (no_and (list_all is_ascii_digit ds) (nat_lt (number_on m ds) (2 ^ 64)) (Some (number_on m ds)) (above m (number_on m ds) (grows m ds) e))

from_is : (ds : List ℕ) (n : ℕ) → nat_lt n (2 ^ 64) ≡ true → magnitude_from n ds ≡ bounded n ds
unfolding bounded
from_is [] n e = sym (ap (λ (c : Bool). if c then Some n else None) e)
from_is (d ∷ ds) n e = step (is_ascii_digit d) (nat_lt (10 * n + (d - 48)) (2 ^ 64)) (10 * n + (d - 48)) ds refl (from_is ds (10 * n + (d - 48)))

pub magnitude_is : (ds : List ℕ) → magnitude_from 0 ds ≡ magnitude_of ds
unfolding magnitude_of bounded
magnitude_is ds = from_is ds 0 refl
