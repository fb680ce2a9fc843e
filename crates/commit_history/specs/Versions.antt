-- The version places of a table (Iceberg table specification, "File System Tables"): `metadata/v<n>.metadata.json`, n decimal from 1.
use Rattle.std.specs.Prelude.{ℕ, ◌+◌, ◌-◌, ◌*◌, Bool, false, not, ◌&&◌, List, [], ◌∷◌, codes, Option, Some, None, if◌then◌else◌, nat_eq, leb}
use Rattle.std.specs.Cmp.Lexicographic.{pointwise}
use Rattle.ice_store.specs.Places.{Parts}

-- a decimal digit
abbrev pub is_digit : ℕ → Bool
is_digit d = leb 48 d && leb d 57

-- a numeral without leading zeros, its last digit first
abbrev pub is_numeral : List ℕ → Bool
is_numeral [] = false
is_numeral (d ∷ []) = is_digit d && not (nat_eq d 48)
is_numeral (d ∷ e ∷ ds) = is_digit d && is_numeral (e ∷ ds)

-- its value
abbrev pub value : List ℕ → ℕ
value [] = 0
value (d ∷ ds) = (d - 48) + 10 * value ds

-- how the name of a version file ends
abbrev pub ending : List ℕ
ending = codes ".metadata.json"

-- the name of the directory that a table's version files stand in
abbrev pub folder : List ℕ
folder = codes "metadata"

-- what stands before the ending, the last byte first
abbrev pub before_ending : List ℕ → List ℕ → Option (List ℕ)
before_ending front [] = None
before_ending front (c ∷ rest) = if pointwise nat_eq (c ∷ rest) ending then Some front else before_ending (c ∷ front) rest

-- the number of a version's digits, 0 where they are no numeral
abbrev pub number_of : Option (List ℕ) → ℕ
number_of None = 0
number_of (Some digits) = if is_numeral digits then value digits else 0

-- the n of the name `v<n>.metadata.json`, and 0 for any other name
abbrev pub name_number : List ℕ → ℕ
name_number [] = 0
name_number (c ∷ rest) = if nat_eq c 118 then number_of (before_ending [] rest) else 0

-- the n of `metadata/v<n>.metadata.json`, and 0 for any other place
abbrev pub rest_number : Parts → ℕ
rest_number [] = 0
rest_number (dir ∷ []) = 0
rest_number (dir ∷ name ∷ []) = if pointwise nat_eq dir folder then name_number name else 0
rest_number (dir ∷ name ∷ more ∷ rest) = 0

-- the n of `metadata/v<n>.metadata.json` directly under the table, and 0 for any other place
abbrev pub number_in : Parts → Parts → ℕ
number_in [] place = rest_number place
number_in (t ∷ ts) [] = 0
number_in (t ∷ ts) (part ∷ place) = if pointwise nat_eq t part then number_in ts place else 0
