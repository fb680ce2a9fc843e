-- A number read from left to right, with the first fault that is met.
use Rattle.std.specs.Prelude.{◌≡◌, ℕ, zero, suc, ℤ, pos, negsuc, ◌+◌, ◌-◌, ◌*◌, ◌/◌, ◌%◌, ◌^◌, ◌≤◌, List, [], ◌∷◌, length, drop, Result, Ok, Err, nat_lt, ◌==◌, if◌then◌else◌}
use Rattle.avro_container.specs.declared.fault.NumErr.{NumErr}
use Rattle.avro_container.specs.declared.fault.NumErr.TheVariants.{Short, TooLong}

-- The number whose lowest group has the byte b, which isn't its last.
abbrev pub with_low : ℕ → Result (ℕ × List ℕ) NumErr → Result (ℕ × List ℕ) NumErr
with_low b (Ok x) = Ok (b - 128 + 128 * x.0, x.1)
with_low b (Err e) = Err e

-- Groups, of which at most so many may come.
unfoldable pub groups_at : ℕ → List ℕ → Result (ℕ × List ℕ) NumErr
groups_at zero bytes = Err TooLong
groups_at (suc k) [] = Err Short
groups_at (suc k) (b ∷ bs) = if nat_lt b 128 then Ok (b, bs) else with_low b (groups_at k bs)

-- The number at a place of the order 0, -1, 1, -2, 2 and so on.
abbrev pub unzigzag : ℕ → ℤ
unzigzag n = if n % 2 == 0 then pos (n / 2) else negsuc (n / 2)

-- A number below 2^64, and any other is too long.
abbrev pub of_64_bits : Result (ℕ × List ℕ) NumErr → Result (ℕ × List ℕ) NumErr
of_64_bits (Ok x) = if nat_lt x.0 (2 ^ 64) then Ok x else Err TooLong
of_64_bits (Err e) = Err e

-- The number in the order 0, -1, 1, -2.
abbrev pub with_sign : Result (ℕ × List ℕ) NumErr → Result (ℤ × List ℕ) NumErr
with_sign (Ok x) = Ok (unzigzag x.0, x.1)
with_sign (Err e) = Err e

-- The number of at most ten groups at the front of the bytes.
unfoldable pub unsigned_at : List ℕ → Result (ℕ × List ℕ) NumErr
unsigned_at bytes = of_64_bits (groups_at 10 bytes)

-- The number that the bytes begin with, and what is left; or the first fault.
unfoldable pub long_at : List ℕ → Result (ℤ × List ℕ) NumErr
long_at bytes = with_sign (unsigned_at bytes)

-- What a function returned, a value and where it ends, is what reading gives.
abbrev pub GivesNumber : {X : Type 0} → List ℕ → Result (X × ℕ) NumErr → Result (X × List ℕ) NumErr → Type 0
GivesNumber bytes (Ok x) read = (read ≡ Ok (x.0, drop x.1 bytes)) × (x.1 ≤ length bytes)
GivesNumber bytes (Err e) read = read ≡ Err e
