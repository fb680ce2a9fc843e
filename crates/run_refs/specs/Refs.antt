-- Where the refs of a table are (Iceberg table specification, "Snapshot References").
use Rattle.std.specs.Prelude.{ℕ, ℤ, List, codes, Option, Some, None, option_map, if◌then◌else◌}
use Rattle.serde_json.specs.Data.{Data}
use Rattle.metadata_view.specs.View.{refs_of, ref_with}
use Rattle.metadata_view.specs.declared.types.Ref.{Ref}
use Rattle.run_refs.specs.declared.goal.Goal.{Goal}
use Rattle.run_refs.specs.declared.goal.Goal.TheVariants.{Rollback, SetCurrent, SetCurrentTo, FastForward}

-- where a ref is
abbrev pub id_of : Option Ref → Option ℤ
id_of = option_map (λ (r : Ref). r.id)

-- the snapshot of the branch or tag with this name
abbrev pub ref_at : List ℕ → Data → Option ℤ
ref_at name tree = id_of (ref_with (refs_of tree) name)

-- where it is, if it is a branch
abbrev pub branch_id : Option Ref → Option ℤ
branch_id None = None
branch_id (Some r) = if r.is_branch then Some r.id else None

-- the snapshot of the branch with this name
abbrev pub branch_at : List ℕ → Data → Option ℤ
branch_at name tree = branch_id (ref_with (refs_of tree) name)

-- the ref that moves
abbrev pub goal_ref : Goal → List ℕ
goal_ref (Rollback id) = codes "main"
goal_ref (SetCurrent id) = codes "main"
goal_ref (SetCurrentTo name) = codes "main"
goal_ref (FastForward branch to) = branch
