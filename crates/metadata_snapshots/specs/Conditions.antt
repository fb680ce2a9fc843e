-- What a table can take: the conditions of the edits of snapshots (Iceberg table specification, Snapshots and Snapshot
-- References).
use Rattle.std.specs.Prelude.{◌≡◌, ◌≢◌, ℕ, ℤ, negsuc, List, [], ◌∷◌, Bool, false, true, not, ◌||◌, ◌&&◌, Option, Some, None, IsSome, IsUtf8, All}
use Rattle.metadata_form.specs.Form.{is_int_number}
use Rattle.metadata_form.specs.Fields.{is_id}
use Rattle.metadata_view.specs.Walk.{snapshot_with, has_id}
use Rattle.metadata_view.specs.declared.types.Snapshot.{Snapshot}
use Rattle.metadata_view.specs.declared.types.Ref.{Ref}
use Rattle.metadata_snapshots.specs.Edits.{has_name}

-- names and texts are UTF-8
abbrev pub AreTexts : List (List ℕ × List ℕ) → Type 0
AreTexts texts = All (λ t. IsUtf8 t.0 × IsUtf8 t.1) texts

-- the texts of a snapshot, and those of its summary, are UTF-8
pub record IsTextual (s : Snapshot) (texts : List (List ℕ × List ℕ)) : Type 0 where
  pub list : IsUtf8 s.list
  pub operation : IsUtf8 s.operation
  pub summary : AreTexts texts

-- there is no number, or it fits 32 bits
abbrev pub IsIntOrNone : Option ℤ → Type 0
IsIntOrNone None = Unit {0}
IsIntOrNone (Some z) = is_int_number z ≡ true

-- a snapshot has this parent
abbrev pub has_child : List Snapshot → ℤ → Bool
has_child [] id = false
has_child (s ∷ ss) id = is_id id s.parent || has_child ss id

-- the id isn't -1, which stands for no snapshot, and is neither the id nor the parent of a snapshot
pub record IsNewId (ss : List Snapshot) (id : ℤ) : Type 0 where
  pub names_one : id ≢ negsuc 0
  pub unknown : snapshot_with ss id ≡ None
  pub no_parent : has_child ss id ≡ false

-- there is no parent, or it is one of the snapshots
abbrev pub IsKnownParent : List Snapshot → Option ℤ → Type 0
IsKnownParent ss None = Unit {0}
IsKnownParent ss (Some id) = IsSome (snapshot_with ss id)

-- there is no such snapshot, or it isn't one of these
abbrev pub IsKept : List ℤ → Option ℤ → Type 0
IsKept ids None = Unit {0}
IsKept ids (Some id) = has_id id ids ≡ false

-- each ref that stays names a snapshot that stays
abbrev pub leaves_whole : List ℤ → List (List ℕ) → List Ref → Bool
leaves_whole ids names [] = true
leaves_whole ids names (r ∷ rs) = (has_name names r.name || not (has_id r.id ids)) && leaves_whole ids names rs
