-- Whole numbers as decimal digits spell them.
use Rattle.std.specs.Prelude.{ℕ, ◌+◌, ◌-◌, ◌*◌, ◌^◌, not, ◌&&◌, ◌==◌, List, [], ◌∷◌, length, Option, Some, None, if◌then◌else◌, nat_le}
use Rattle.std.specs.Str.{all_ascii_digits}

-- the greatest `long` (Iceberg table specification, "Primitive Types": 64 bits with a sign)
abbrev pub largest_long : ℕ
largest_long = 2 ^ 63 - 1

-- the number of more decimal digits behind those of a number
abbrev pub number_on : ℕ → List ℕ → ℕ
number_on n [] = n
number_on n (digit ∷ digits) = number_on (10 * n + (digit - 48)) digits

-- the number that one or more decimal digits spell, zeros in front allowed, where it is a `long`
unfoldable pub natural_of : List ℕ → Option ℕ
natural_of text = if all_ascii_digits text && not (length text == 0) && nat_le (number_on 0 text) largest_long then Some (number_on 0 text) else None
