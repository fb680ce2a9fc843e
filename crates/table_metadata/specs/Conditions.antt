-- What a table can lose, and which fields a change of its snapshots leaves as they are (Iceberg table specification,
-- Snapshots and Snapshot References).
use Rattle.std.specs.Prelude.{◌≡◌, ℕ, ℤ, List, [], ◌∷◌, false, true, codes}
use Rattle.serde_json.specs.Data.{Data}
use Rattle.serde_json.specs.Find.{get}
use Rattle.metadata_view.specs.View.{current_of, refs_of}
use Rattle.metadata_snapshots.specs.Conditions.{IsKept, leaves_whole}
use Rattle.metadata_snapshots.specs.Edits.{has_name}

-- the snapshots of these ids may go with the refs of these names: `main` stays, the current snapshot stays, and so does
-- the snapshot of each ref that stays
pub record CanLose (ids : List ℤ) (names : List (List ℕ)) (d : Data) : Type 0 where
  pub main : has_name names (codes "main") ≡ false
  pub current : IsKept ids (current_of d)
  pub whole : leaves_whole ids names (refs_of d) ≡ true

-- the fields that a new snapshot changes
abbrev pub added_fields : List (List ℕ)
added_fields = codes "snapshots" ∷ codes "last-sequence-number" ∷ codes "refs" ∷ codes "current-snapshot-id" ∷ codes "snapshot-log" ∷ []

-- the fields that change where snapshots are taken away
abbrev pub taken_fields : List (List ℕ)
taken_fields = codes "snapshots" ∷ codes "refs" ∷ codes "statistics" ∷ codes "partition-statistics" ∷ codes "snapshot-log" ∷ []

-- each field other than these is as it was
abbrev pub OthersStay : List (List ℕ) → Data → Data → Type 0
OthersStay changed old new = (key : List ℕ) → has_name changed key ≡ false → get key new ≡ get key old
