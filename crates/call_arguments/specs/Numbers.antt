-- Numbers as a statement writes them.
use Rattle.std.specs.Prelude.{ℕ, ◌+◌, ◌-◌, ◌*◌, ◌^◌, ℤ, pos, negsuc, neg_ℤ, int_le, Bool, ◌&&◌, ◌||◌, List, [], ◌∷◌, length, take, slice_index, Option, Some, None, nat_lt, nat_le, ◌==◌, if◌then◌else◌, option_and_then}
use Rattle.std.specs.Char.{is_ascii_digit}
use Rattle.std.specs.List.{list_all}
use Rattle.ice_store.specs.Numbers.{number_on}

-- the greatest `int` (Iceberg table specification, "Primitive Types": 32 bits with a sign)
abbrev pub largest_int : ℕ
largest_int = 2 ^ 31 - 1

-- the number that decimal digits stand for, where it is below 2^64
unfoldable pub magnitude_of : List ℕ → Option ℕ
magnitude_of ds = if list_all is_ascii_digit ds && nat_lt (number_on 0 ds) (2 ^ 64) then Some (number_on 0 ds) else None

-- the same, read digit by digit behind those of a number
abbrev pub magnitude_from : ℕ → List ℕ → Option ℕ
magnitude_from n [] = Some n
magnitude_from n (d ∷ ds) = if is_ascii_digit d && nat_lt (10 * n + (d - 48)) (2 ^ 64) then magnitude_from (10 * n + (d - 48)) ds else None

-- the text ends in `L` or `l`
abbrev pub ends_long : List ℕ → Bool
ends_long t = nat_lt 0 (length t) && (slice_index t (length t - 1) == 76 || slice_index t (length t - 1) == 108)

-- without an ending `L` or `l`
abbrev pub without_mark : List ℕ → List ℕ
without_mark t = if ends_long t then take (length t - 1) t else t

-- the number, where it is below 2^63
abbrev pub positive : ℕ → Option ℤ
positive n = if nat_lt n (2 ^ 63) then Some (pos n) else None

-- the number with a minus sign, where it is at least -2^63
abbrev pub negative : ℕ → Option ℤ
negative n = if nat_le n (2 ^ 63) then Some (neg_ℤ (pos n)) else None

-- the number of digits, or of `-` and digits
unfoldable pub unmarked_long : List ℕ → Option ℤ
unmarked_long [] = None
unmarked_long (c ∷ cs) = if c == 45 then (if nat_lt 0 (length cs) then option_and_then negative (magnitude_of cs) else None) else option_and_then positive (magnitude_of (c ∷ cs))

-- the number of a text, where it is one from -2^63 to 2^63 - 1; an ending `L` or `l` changes nothing
abbrev pub long_of : List ℕ → Option ℤ
long_of t = unmarked_long (without_mark t)

-- the number, where it is from -2^31 to 2^31 - 1
abbrev pub int_in : ℤ → Option ℤ
int_in z = if int_le (neg_ℤ (pos (largest_int + 1))) z && int_le z (pos largest_int) then Some z else None

-- the number of a text, where it is one from -2^31 to 2^31 - 1
abbrev pub int_of : List ℕ → Option ℤ
int_of t = option_and_then int_in (long_of t)

-- the number, where it is from `least` to `most`
abbrev pub within : ℕ → ℕ → ℤ → Option ℕ
within least most (pos n) = if nat_le least n && nat_le n most then Some n else None
within least most (negsuc n) = None

-- the number of a text, where it is one from `least` to `most`, and below 2^63
abbrev pub count_of : ℕ → ℕ → List ℕ → Option ℕ
count_of least most t = option_and_then (within least most) (long_of t)
