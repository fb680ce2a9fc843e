-- Edits of a tree. Each is made of `set`, which changes one field of an object and no other.
use Rattle.std.specs.Prelude.{ℕ, ◌-◌, ◌++◌, List, [], ◌∷◌, length, drop, Some}
use Rattle.serde_json.specs.Data.{Data, array, object, put}
use Rattle.serde_json.specs.View.{items_of}
use Rattle.metadata_json.specs.Fields.{items_at, members_at, members_in}

-- the object with the field k at v, its other fields as they are; what is no object has none
unfoldable pub set : List ℕ → Data → Data → Data
set k v d = object (put k v (members_in (Some d)))

-- the object in the field k, an empty one where there is none
unfoldable pub object_at : List ℕ → Data → Data
object_at k d = object (members_at k d)

-- the last n items of a list
abbrev pub last : {A : Type 0} → ℕ → List A → List A
last n xs = drop (length xs - n) xs

-- the array in the field k gets x as its last item; a lacking one is made
unfoldable pub add : List ℕ → Data → Data → Data
add k x d = set k (array (items_of (items_at k d ++ x ∷ []))) d

-- the array in the field k gets x as its last item, and keeps the last n of its items
unfoldable pub add_within : ℕ → List ℕ → Data → Data → Data
add_within n k x d = set k (array (items_of (last n (items_at k d ++ x ∷ [])))) d
