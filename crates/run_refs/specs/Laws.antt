-- What the definitions of this crate decide.
use Rattle.std.specs.Prelude.{◌≡◌, ℕ, ℤ, List, codes, Option, Some, None, IsSome, Ok, Err}
use Rattle.serde_json.specs.Data.{Data}
use Rattle.serde_json.specs.Find.{as_i64, of_integer}
use Rattle.metadata_view.specs.Fault.{fault_of}
use Rattle.metadata_view.specs.View.{snapshots_of, current_of}
use Rattle.metadata_view.specs.Walk.{snapshot_with}
use Rattle.table_metadata.specs.declared.cause.EditErr.TheVariants.{UnknownSnapshot}
use Rattle.commit_protocol.specs.declared.errors.Refusal.{Refusal}
use Rattle.commit_protocol.specs.declared.errors.Refusal.TheVariants.{BadArgument}
use Rattle.commit_protocol.specs.declared.errors.AttemptErr.TheVariants.{Refused}
use Rattle.run_refs.specs.declared.ancestors.Ancestor.{Ancestor}
use Rattle.run_refs.specs.declared.goal.Goal.{Goal}
use Rattle.commit_protocol.specs.Verdicts.{IsDecided}
use Rattle.run_refs.specs.Ancestors.{Lists}
use Rattle.run_refs.specs.Meanings.{moves_of}
use Rattle.run_refs.specs.Procedures.{Unasked, RefusesListing, listing_of}
use Rattle.run_refs.specs.Moves.{Aim, Aims, Moves, IsThere, RefusesMove}
use Rattle.run_refs.specs.Refs.{ref_at}

-- a table has one aim for a goal
abbrev pub OneAim : Type 0
OneAim = (goal : Goal) (tree : Data) (x y : Aim) → Aims goal tree x → Aims goal tree y → x ≡ y

-- two successors of a table are one
abbrev pub OneSuccessor : Type 0
OneSuccessor = (goal : Goal) (now : ℕ) (tree built other : Data) → Moves goal now tree built → Moves goal now tree other → built ≡ other

-- two refusals of a table are one
abbrev pub OneRefusal : Type 0
OneRefusal = (goal : Goal) (tree : Data) (refusal other : Refusal) → RefusesMove goal tree (Refused refusal) → RefusesMove goal tree (Refused other) → refusal ≡ other

-- a ref that is there already isn't moved
abbrev pub MovesOrIsThere : Type 0
MovesOrIsThere = (goal : Goal) (now : ℕ) (tree built : Data) → Moves goal now tree built → IsThere goal tree → ⊥

-- a table that refuses isn't changed
abbrev pub MovesOrRefuses : Type 0
MovesOrRefuses = (goal : Goal) (now : ℕ) (tree built : Data) (refusal : Refusal) → Moves goal now tree built → RefusesMove goal tree (Refused refusal) → ⊥

-- a table that refuses doesn't have its ref there
abbrev pub IsThereOrRefuses : Type 0
IsThereOrRefuses = (goal : Goal) (tree : Data) (refusal : Refusal) → IsThere goal tree → RefusesMove goal tree (Refused refusal) → ⊥

-- the current snapshot's id, where there is one, is a number of 64 bits
abbrev pub HasLongCurrent : Data → Type 0
HasLongCurrent tree = (id : ℤ) → current_of tree ≡ Some id → as_i64 (of_integer id) ≡ Some id

-- in well-formed metadata `main` is at the current snapshot
abbrev pub MainIsCurrent : Type 0
MainIsCurrent = (tree : Data) → fault_of tree ≡ None → HasLongCurrent tree → ref_at (codes "main") tree ≡ current_of tree

-- in well-formed metadata each ref is at a snapshot of the table
abbrev pub RefsAreKnown : Type 0
RefsAreKnown = (tree : Data) (name : List ℕ) (id : ℤ) → fault_of tree ≡ None → HasLongCurrent tree → ref_at name tree ≡ Some id → IsSome (snapshot_with (snapshots_of tree) id)

-- a table has one listing
abbrev pub OneListing : Type 0
OneListing = (given : Option ℤ) (tree : Data) (rows others : List Ancestor) → Lists given tree (Ok rows) → Lists given tree (Ok others) → rows ≡ others

-- a table that lacks the snapshot has no listing from it
abbrev pub ListsOrLacks : Type 0
ListsOrLacks = (given : Option ℤ) (tree : Data) (rows : List Ancestor) (id : ℤ) → Lists given tree (Ok rows) → Lists given tree (Err (UnknownSnapshot id)) → ⊥

-- the meanings of each of the ref procedures exclude one another
abbrev pub AreDecided : Type 0
AreDecided = ((goal : Goal) (now : ℕ) → IsDecided (moves_of goal now Unasked)) × ((given : Option ℤ) → IsDecided (listing_of given))

-- neither of the ref procedures refuses a table for an argument
abbrev pub NameNoArgument : Type 0
NameNoArgument = ((goal : Goal) (tree : Data) (name : List ℕ) → RefusesMove goal tree (Refused (BadArgument name)) → ⊥) × ((given : Option ℤ) (tree : Data) (name : List ℕ) → RefusesListing given tree (Refused (BadArgument name)) → ⊥)
