-- What the reports of the ref procedures say (after Iceberg's Spark procedures).
use Rattle.std.specs.Prelude.{ℕ, ℤ, List, [], ◌∷◌, map, codes, Option}
use Rattle.std.specs.Fmt.{decimal, signed_decimal}
use Rattle.run_answers.specs.Reports.{report_text, id_cell}
use Rattle.run_refs.specs.declared.ancestors.Ancestor.{Ancestor}
use Rattle.run_refs.specs.declared.goal.Goal.{Goal}
use Rattle.run_refs.specs.declared.goal.Goal.TheVariants.{Rollback, SetCurrent, SetCurrentTo, FastForward}

-- the columns of a report of the current snapshot
abbrev pub snapshot_columns : List (List ℕ)
snapshot_columns = codes "previous_snapshot_id" ∷ codes "current_snapshot_id" ∷ []

-- the columns of a report of a branch
abbrev pub branch_columns : List (List ℕ)
branch_columns = codes "branch_updated" ∷ codes "previous_ref" ∷ codes "updated_ref" ∷ []

-- the columns of a report of ancestors
abbrev pub ancestor_columns : List (List ℕ)
ancestor_columns = codes "snapshot_id" ∷ codes "timestamp" ∷ []

-- where a ref was, and where it is
abbrev pub ref_row : Option ℤ → ℤ → List (List ℕ)
ref_row previous id = id_cell previous ∷ signed_decimal id ∷ []

-- where the ref was and where it is to be, of a branch with its name
abbrev pub move_report : Goal → Option ℤ → ℤ → List ℕ
move_report (Rollback given) previous id = report_text snapshot_columns (ref_row previous id ∷ [])
move_report (SetCurrent given) previous id = report_text snapshot_columns (ref_row previous id ∷ [])
move_report (SetCurrentTo name) previous id = report_text snapshot_columns (ref_row previous id ∷ [])
move_report (FastForward branch to) previous id = report_text branch_columns ((branch ∷ ref_row previous id) ∷ [])

-- a snapshot and its moment
abbrev pub ancestor_row : Ancestor → List (List ℕ)
ancestor_row a = signed_decimal a.id ∷ decimal a.ms ∷ []

-- each snapshot of the walk with its moment
abbrev pub list_report : List Ancestor → List ℕ
list_report rows = report_text ancestor_columns (map ancestor_row rows)
