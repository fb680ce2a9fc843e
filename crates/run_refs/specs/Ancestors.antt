-- The listing of a snapshot's ancestors (Iceberg table specification, Snapshots: `parent-snapshot-id`, `timestamp-ms`).
use Rattle.std.specs.Prelude.{◌≡◌, ℕ, ℤ, List, map, Option, Some, None, IsSome, Result, Ok, Err}
use Rattle.serde_json.specs.Data.{Data}
use Rattle.metadata_view.specs.View.{snapshots_of, current_of}
use Rattle.metadata_view.specs.Walk.{snapshot_with, IsWalk}
use Rattle.table_metadata.specs.declared.cause.EditErr.{EditErr}
use Rattle.table_metadata.specs.declared.cause.EditErr.TheVariants.{UnknownSnapshot, Memory}
use Rattle.metadata_view.specs.declared.types.Snapshot.{Snapshot}
use Rattle.run_refs.specs.declared.ancestors.Ancestor.{Ancestor}

-- a snapshot's moment
abbrev pub moment_in : Option Snapshot → ℕ
moment_in None = 0
moment_in (Some s) = s.ms

-- a snapshot's row
abbrev pub row_of : List Snapshot → ℤ → Ancestor
row_of snapshots id = record { id = id; ms = moment_in (snapshot_with snapshots id) }

-- the rows are those of the snapshots of the walk, in its order
pub record IsListing (snapshots : List Snapshot) (from : Option ℤ) (rows : List Ancestor) : Type 0 where
  pub ids : List ℤ
  pub walk : IsWalk snapshots from ids
  pub is : rows ≡ map (row_of snapshots) ids

-- what a listing from a given snapshot answers, or from the current one where none is given
abbrev pub Lists : Option ℤ → Data → Result (List Ancestor) EditErr → Type 0
Lists None tree (Ok rows) = IsListing (snapshots_of tree) (current_of tree) rows
Lists (Some id) tree (Ok rows) = IsSome (snapshot_with (snapshots_of tree) id) × IsListing (snapshots_of tree) (Some id) rows
Lists None tree (Err (UnknownSnapshot other)) = ⊥
Lists (Some id) tree (Err (UnknownSnapshot other)) = (other ≡ id) × (snapshot_with (snapshots_of tree) id ≡ None)
Lists given tree (Err Memory) = Unit {0}
