-- The directories that are to be made durable.
use Rattle.std.specs.Prelude.{List, ℕ, IsTrue, String}
use Rattle.std.specs.declared.alloc.Global.{Global}
use Rattle.std.specs.BTreeSet.{BTreeSet, contains_text}
use Rattle.store_directory.specs.Paths.{IsParent}

-- each directory that was noted still is
abbrev pub KeepsNoted : BTreeSet (String Global) → BTreeSet (String Global) → Type 0
KeepsNoted old new = (dir : List ℕ) → IsTrue (contains_text old dir) → IsTrue (contains_text new dir)

-- this directory is noted, and so is each that was
pub record Notes (old new : BTreeSet (String Global)) (dir : List ℕ) : Type 0 where
  pub here : IsTrue (contains_text new dir)
  pub kept : KeepsNoted old new

-- the directory that holds this path is noted, and so is each that was
pub record NotesParent (old new : BTreeSet (String Global)) (path : List ℕ) : Type 0 where
  pub dir : List ℕ
  pub is : IsParent path dir
  pub noted : Notes old new dir

-- the directory that holds this path is noted
pub record IsParentNoted (noted : BTreeSet (String Global)) (path : List ℕ) : Type 0 where
  pub dir : List ℕ
  pub is : IsParent path dir
  pub here : IsTrue (contains_text noted dir)
