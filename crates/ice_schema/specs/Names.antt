-- Names in a written Avro schema (Apache Avro specification, "Names"): those of its types have the id of what has the type.
use Rattle.std.specs.Prelude.{ℕ, ℤ, List, [], ◌∷◌, ◌++◌, codes, Bool, false, ◌&&◌, ◌||◌, ◌==◌, if◌then◌else◌}
use Rattle.std.specs.Fmt.{signed_decimal}
use Rattle.std.specs.List.{list_all}
use Rattle.std.specs.Char.{is_ascii_alphabetic, is_ascii_alphanumeric}

-- the name of a record of columns: r and the id
abbrev pub record_name : ℤ → List ℕ
record_name id = codes "r" ++ signed_decimal id

-- the name of a fixed: f and the id
abbrev pub fixed_name : ℤ → List ℕ
fixed_name id = codes "f" ++ signed_decimal id

-- the name of a record of a key and a value: k, the key's id, _v and the value's id
abbrev pub entry_name : ℤ → ℤ → List ℕ
entry_name key_id value_id = codes "k" ++ (signed_decimal key_id ++ (codes "_v" ++ signed_decimal value_id))

-- a letter or _
abbrev pub begins_name : ℕ → Bool
begins_name b = is_ascii_alphabetic b || b == 95

-- a letter, a digit or _
abbrev pub continues_name : ℕ → Bool
continues_name b = is_ascii_alphanumeric b || b == 95

-- a letter or _, followed by letters, digits and _
abbrev pub is_plain_name : List ℕ → Bool
is_plain_name [] = false
is_plain_name (b ∷ bs) = begins_name b && list_all continues_name bs

-- the name of a column's field: the column's where it is plain, else _ and the id
abbrev pub field_name : ℤ → List ℕ → List ℕ
field_name id name = if is_plain_name name then name else codes "_" ++ signed_decimal id
