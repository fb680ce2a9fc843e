-- Which identifiers a source of them has given.
use Rattle.std.specs.Prelude.{ℕ, zero, suc, ◌+◌, ◌-◌, ◌%◌, ◌^◌, List, [], ◌∷◌, ◌++◌, Option, Some, None, nat_lt, if◌then◌else◌}

-- the first n numbers from one on, modulo 2^128
abbrev pub numbers_from : ℕ → ℕ → List ℕ
numbers_from first zero = []
numbers_from first (suc n) = numbers_from first n ++ ((first + n) % 2 ^ 128) ∷ []

-- so many identifiers from the first one on, which are told until their count reaches its type's end
abbrev pub identifiers_given : ℕ → ℕ → Option (List ℕ)
identifiers_given first count = if nat_lt count (2 ^ 128 - 1) then Some (numbers_from first count) else None
