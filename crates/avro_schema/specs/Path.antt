-- Paths from the root of a JSON tree, as `fields[2].type.items`.
use Rattle.std.specs.Prelude.{ℕ, List, [], ◌∷◌, ◌++◌, decimal}

-- the path of a member, behind a dot where it isn't the first
abbrev pub key_path : List ℕ → List ℕ → List ℕ
key_path [] key = key
key_path (b ∷ path) key = (b ∷ path) ++ 46 ∷ key

-- the path of an item, its index in brackets
abbrev pub index_path : List ℕ → ℕ → List ℕ
index_path path i = path ++ 91 ∷ (decimal i ++ 93 ∷ [])
