-- The folder that holds a path.
use Rattle.std.specs.Prelude.{◌≡◌, ◌≢◌, ◌⊎◌, ℕ, ◌<◌, List, [], ◌∷◌, ◌++◌, length, slice_index}

-- a text without a slash
abbrev pub HasNoSlash : List ℕ → Type 0
HasNoSlash text = (i : ℕ) → i < length text → slice_index text i ≢ 47

-- the text itself, or the root's where it is empty
abbrev pub or_root : List ℕ → List ℕ
or_root [] = 47 ∷ []
or_root (b ∷ bs) = b ∷ bs

-- a path is this text, its last slash and a name, and the folder that holds it is the text, or the root where that is empty
pub record IsBehind (path dir : List ℕ) : Type 0 where
  pub before : List ℕ
  pub name : List ℕ
  pub is : path ≡ before ++ 47 ∷ name
  pub last : HasNoSlash name
  pub folder : dir ≡ or_root before

-- the folder that holds a path, which is the root where the path has no slash
abbrev pub IsParent : List ℕ → List ℕ → Type 0
IsParent path dir = IsBehind path dir ⊎ (HasNoSlash path × (dir ≡ 47 ∷ []))
