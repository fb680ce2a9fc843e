-- Looking into a tree: what a field of an object says, with a default where it says nothing of that kind.
use Rattle.std.specs.Prelude.{ℕ, ℤ, pos, List, [], ◌∷◌, Option, option_map, option_and_then, unwrap_or}
use Rattle.serde_json.specs.Data.{Data, null, Items, no_items, item, Members, no_members}
use Rattle.serde_json.specs.Find.{get, as_number, as_str, as_i64, as_u64, as_array, as_object}

-- the whole number from -2^63 to 2^63 - 1 that a value is
abbrev pub signed : Data → Option ℤ
signed d = option_and_then as_i64 (as_number d)

-- the whole number from 0 to 2^64 - 1 that a value is
abbrev pub unsigned : Data → Option ℕ
unsigned d = option_and_then as_u64 (as_number d)

-- the items of an array, as a list
abbrev pub list_of : Items → List Data
list_of no_items = []
list_of (item d ds) = d ∷ list_of ds

-- the items of an array; what is no array has none
abbrev pub items_in : Option Data → List Data
items_in o = unwrap_or (option_map list_of (option_and_then as_array o)) []

-- the members of an object; what is no object has none
abbrev pub members_in : Option Data → Members
members_in o = unwrap_or (option_and_then as_object o) no_members

-- the value in the field k, null where there is none
abbrev pub value_at : List ℕ → Data → Data
value_at k d = unwrap_or (get k d) null

-- the items of the array in the field k
abbrev pub items_at : List ℕ → Data → List Data
items_at k d = items_in (get k d)

-- the members of the object in the field k
abbrev pub members_at : List ℕ → Data → Members
members_at k d = members_in (get k d)

-- the whole number from -2^63 to 2^63 - 1 in the field k, else 0
abbrev pub signed_at : List ℕ → Data → ℤ
signed_at k d = unwrap_or (option_and_then signed (get k d)) (pos 0)

-- the whole number from 0 to 2^64 - 1 in the field k, else 0
abbrev pub unsigned_at : List ℕ → Data → ℕ
unsigned_at k d = unwrap_or (option_and_then unsigned (get k d)) 0

-- the text in the field k, else the empty one
abbrev pub text_at : List ℕ → Data → List ℕ
text_at k d = unwrap_or (option_and_then as_str (get k d)) []
