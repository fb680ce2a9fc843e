-- What the procedures that move a ref do to a table (Iceberg table specification, "Snapshot References"; after Iceberg's Spark procedures).
use Rattle.std.specs.Prelude.{◌≡◌, ◌≢◌, ◌⊎◌, ℕ, ℤ, List, Option, Some, None, Result, Ok, Err}
use Rattle.serde_json.specs.Data.{Data}
use Rattle.table_metadata.specs.Edits.{with_ref}
use Rattle.metadata_view.specs.View.{snapshots_of, current_of}
use Rattle.metadata_view.specs.Walk.{snapshot_with, IsAncestor}
use Rattle.metadata_view.specs.declared.types.Snapshot.{Snapshot}
use Rattle.ice_store.specs.declared.faults.ReadErr.TheVariants.{Missing, Damaged, Unsupported, StoreFault, Memory}
use Rattle.commit_protocol.specs.declared.errors.Refusal.{Refusal}
use Rattle.commit_protocol.specs.declared.errors.Refusal.TheVariants.{UnknownSnapshot, UnknownRef, NotAncestor}
use Rattle.commit_protocol.specs.declared.errors.AttemptErr.{AttemptErr}
use Rattle.commit_protocol.specs.declared.errors.AttemptErr.TheVariants.{Refused, Conflict, NameTaken, Read}
use Rattle.run_refs.specs.declared.goal.Goal.{Goal}
use Rattle.run_refs.specs.declared.goal.Goal.TheVariants.{Rollback, SetCurrent, SetCurrentTo, FastForward}
use Rattle.run_refs.specs.Refs.{goal_ref, ref_at, branch_at}

-- where a ref is to go, or why the table refuses
abbrev pub Aim : Type 0
Aim = Result ℤ Refusal

-- the first answer where the fact holds, the second where it doesn't
abbrev pub AimBy : Type 0 → Aim → Aim → Aim → Type 0
AimBy P if_so if_not x = ((x ≡ if_so) × P) ⊎ ((x ≡ if_not) × (P → ⊥))

-- to `aim`, if the snapshot `id` is an ancestor of the snapshot `of`, or is it
abbrev pub AimsIfAncestor : List Snapshot → ℤ → ℤ → ℤ → Aim → Type 0
AimsIfAncestor snapshots id of aim = AimBy (IsAncestor snapshots id of) (Ok aim) (Err (NotAncestor id (Some of)))

-- back to an ancestor of the current snapshot
abbrev pub AimsBack : List Snapshot → ℤ → Option Snapshot → Option ℤ → Aim → Type 0
AimsBack snapshots id None current x = x ≡ Err (UnknownSnapshot id)
AimsBack snapshots id (Some s) None x = x ≡ Err (NotAncestor id None)
AimsBack snapshots id (Some s) (Some of) x = AimsIfAncestor snapshots id of id x

-- to a snapshot of the table
abbrev pub AimsAt : ℤ → Option Snapshot → Aim → Type 0
AimsAt id None x = x ≡ Err (UnknownSnapshot id)
AimsAt id (Some s) x = x ≡ Ok id

-- to the snapshot of a ref
abbrev pub AimsTo : List Snapshot → List ℕ → Option ℤ → Aim → Type 0
AimsTo snapshots name None x = x ≡ Err (UnknownRef name)
AimsTo snapshots name (Some id) x = AimsAt id (snapshot_with snapshots id) x

-- from a branch's snapshot to the snapshot of another ref, of which it is an ancestor; the branch is looked for first
abbrev pub AimsForward : List Snapshot → List ℕ → List ℕ → Option ℤ → Option ℤ → Aim → Type 0
AimsForward snapshots branch to None aim x = x ≡ Err (UnknownRef branch)
AimsForward snapshots branch to (Some from) None x = x ≡ Err (UnknownRef to)
AimsForward snapshots branch to (Some from) (Some aim) x = AimsIfAncestor snapshots from aim aim x

-- where a table's ref is to go, or why the table refuses
abbrev pub Aims : Goal → Data → Aim → Type 0
Aims (Rollback id) tree = AimsBack (snapshots_of tree) id (snapshot_with (snapshots_of tree) id) (current_of tree)
Aims (SetCurrent id) tree = AimsAt id (snapshot_with (snapshots_of tree) id)
Aims (SetCurrentTo name) tree = AimsTo (snapshots_of tree) name (ref_at name tree)
Aims (FastForward branch to) tree = AimsForward (snapshots_of tree) branch to (branch_at branch tree) (ref_at to tree)

-- the second metadata is the first with the ref moved to where it wasn't
pub record Moves (goal : Goal) (now : ℕ) (tree built : Data) : Type 0 where
  pub id : ℤ
  pub aims : Aims goal tree (Ok id)
  pub away : ref_at (goal_ref goal) tree ≢ Some id
  pub is : built ≡ with_ref (goal_ref goal) id now tree

-- the ref is there already
pub record IsThere (goal : Goal) (tree : Data) : Type 0 where
  pub id : ℤ
  pub aims : Aims goal tree (Ok id)
  pub there : ref_at (goal_ref goal) tree ≡ Some id

-- the table refuses, or memory runs out
abbrev pub RefusesMove : Goal → Data → AttemptErr → Type 0
RefusesMove goal tree (Refused refusal) = Aims goal tree (Err refusal)
RefusesMove goal tree (Conflict place other) = ⊥
RefusesMove goal tree (NameTaken place) = ⊥
RefusesMove goal tree (Read (Missing place)) = ⊥
RefusesMove goal tree (Read (Damaged place at)) = ⊥
RefusesMove goal tree (Read (Unsupported place what)) = ⊥
RefusesMove goal tree (Read (StoreFault place)) = ⊥
RefusesMove goal tree (Read Memory) = Unit {0}

-- where the ref was in a table, and where it is to be
pub record HasSeen (goal : Goal) (tree : Data) (previous : Option ℤ) (id : ℤ) : Type 0 where
  pub was : previous ≡ ref_at (goal_ref goal) tree
  pub aims : Aims goal tree (Ok id)
