-- A walk from a snapshot to its parent, and on (Iceberg table specification, Snapshots: `parent-snapshot-id`).
use Rattle.std.specs.Prelude.{◌≡◌, ℕ, zero, suc, ℤ, List, [], ◌∷◌, Bool, true, false, ◌||◌, length, Option, Some, None, option_map, option_and_then, Contains, if◌then◌else◌}
use Rattle.std.specs.Ordering.{int_eq}
use Rattle.metadata_view.specs.declared.types.Snapshot.{Snapshot}

-- the first snapshot with this id
abbrev pub snapshot_with : List Snapshot → ℤ → Option Snapshot
snapshot_with [] id = None
snapshot_with (s ∷ ss) id = if int_eq s.id id then Some s else snapshot_with ss id

-- the snapshot where a walk goes on: a parent that isn't in the table ends the walk
unfoldable pub next_snapshot : List Snapshot → Option ℤ → Option Snapshot
next_snapshot ss next = option_and_then (snapshot_with ss) next

-- the walk goes from `next` over the snapshots with these ids, each the parent of the one before, and ends there
abbrev pub IsWalk : List Snapshot → Option ℤ → List ℤ → Type 0
IsWalk ss next [] = next_snapshot ss next ≡ None
IsWalk ss next (id ∷ ids) = (s : Snapshot) × (next_snapshot ss next ≡ Some s) × (s.id ≡ id) × IsWalk ss s.parent ids

-- the snapshot `id` is on the walk from the snapshot `of`
abbrev pub IsAncestor : List Snapshot → ℤ → ℤ → Type 0
IsAncestor ss id of = (ids : List ℤ) × IsWalk ss (Some of) ids × Contains ids id

-- ---- the same, by computing

-- the ids of a walk that is at a snapshot, where `more` has those from its parent on
abbrev pub walk_step : (Option ℤ → List ℤ) → Option Snapshot → List ℤ
walk_step more None = []
walk_step more (Some s) = s.id ∷ more s.parent

-- the first ids of the walk, at most n
unfoldable pub walk : List Snapshot → ℕ → Option ℤ → List ℤ
walk ss zero next = []
walk ss (suc n) next = walk_step (walk ss n) (next_snapshot ss next)

-- the id is among the ids
abbrev pub has_id : ℤ → List ℤ → Bool
has_id id [] = false
has_id id (x ∷ xs) = int_eq x id || has_id id xs

-- a walk that is at a snapshot goes on, where `more` says so from its parent on
abbrev pub goes_on_step : (Option ℤ → Bool) → Option Snapshot → Bool
goes_on_step more None = false
goes_on_step more (Some s) = more s.parent

-- the walk has at least n snapshots
unfoldable pub goes_on : List Snapshot → ℕ → Option ℤ → Bool
goes_on ss zero next = true
goes_on ss (suc n) next = goes_on_step (goes_on ss n) (next_snapshot ss next)

-- the walk has more snapshots than there are, so it comes back to one of them
unfoldable pub comes_back : List Snapshot → Option ℤ → Bool
comes_back ss next = goes_on ss (suc (length ss)) next

-- the place of the first of the later snapshots, from the place i on, whose walk comes back
unfoldable pub first_return : List Snapshot → ℕ → List Snapshot → Option ℕ
first_return all i [] = None
first_return all i (s ∷ ss) = if comes_back all s.parent then Some i else first_return all (suc i) ss

-- ---- places in the list

-- the place of the first snapshot with this id
abbrev pub place_with : List Snapshot → ℤ → Option ℕ
place_with [] id = None
place_with (s ∷ ss) id = if int_eq s.id id then Some 0 else option_map suc (place_with ss id)

-- the place of the snapshot where a walk goes on
abbrev pub place_of : List Snapshot → Option ℤ → Option ℕ
place_of ss next = option_and_then (place_with ss) next
