-- What a clock and a source of identifiers in memory give.
use Rattle.std.specs.Prelude.{ℕ, zero, suc, ◌-◌, ◌^◌, min, Bool, List, [], ◌∷◌, ◌++◌, length, Option, Some, None, if◌then◌else◌, nat_lt, slice_index}
use Rattle.std.specs.List.{list_all}

-- the first n values of a sequence
abbrev pub first_of : (ℕ → ℕ) → ℕ → List ℕ
first_of value zero = []
first_of value (suc n) = first_of value n ++ value n ∷ []

-- the values given so far, which are told until their count reaches its type's end
abbrev pub told_below : ℕ → (ℕ → ℕ) → ℕ → Option (List ℕ)
told_below limit value n = if nat_lt n limit then Some (first_of value n) else None

-- the moments in order, then the last one again; 0 where there is none
abbrev pub moment_at : List ℕ → ℕ → ℕ
moment_at moments n = slice_index moments (min n (length moments - 1))

-- each is at most 9223372036854775807
abbrev pub are_moments : List ℕ → Bool
are_moments moments = list_all (λ moment. nat_lt moment (2 ^ 63)) moments
