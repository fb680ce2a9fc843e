-- What ties snapshots, refs and parents together, and the first place where that is broken (Iceberg table specification,
-- Snapshots and Snapshot References).
use Rattle.std.specs.Prelude.{ℕ, ℤ, List, [], Bool, true, false, not, ◌&&◌, ◌||◌, codes, Option, Some, None, option_map, is_some, if◌then◌else◌}
use Rattle.std.specs.Option.{option_or}
use Rattle.std.specs.Ordering.{int_eq}
use Rattle.std.specs.Str.{bytes_eq}
use Rattle.serde_json.specs.Data.{Data, Members, no_members, member}
use Rattle.metadata_json.specs.Fields.{members_at, signed_at}
use Rattle.metadata_form.specs.Path.{in_member, in_item}
use Rattle.metadata_view.specs.View.{current_of, main_ref}
use Rattle.metadata_view.specs.Walk.{snapshot_with}
use Rattle.metadata_view.specs.declared.types.Snapshot.{Snapshot}

-- the field k of the snapshot i
abbrev pub snapshot_path : ℕ → List ℕ → List ℕ
snapshot_path i k = in_member (codes "snapshots") (in_item i (in_member k []))

-- ---- ids

-- the path of the id of a snapshot whose id an earlier one has
unfoldable pub double_path : ℕ → List ℕ
double_path i = snapshot_path i (codes "snapshot-id")

-- ---- refs

-- the name of the main branch
abbrev pub is_main : List ℕ → Bool
is_main name = bytes_eq name (codes "main")

-- a ref `main` that is written is at the current snapshot
abbrev pub main_agrees : Option Data → Option ℤ → Bool
main_agrees None current = true
main_agrees (Some ref) None = false
main_agrees (Some ref) (Some id) = int_eq (signed_at (codes "snapshot-id") ref) id

-- without a ref `main`, the current snapshot is in the table
abbrev pub current_fault : List Snapshot → Option Data → Option ℤ → Option (List ℕ)
current_fault ss None None = None
current_fault ss None (Some id) = if is_some (snapshot_with ss id) then None else Some (in_member (codes "current-snapshot-id") [])
current_fault ss (Some main) current = None

-- a ref names a snapshot, and `main` the current one
abbrev pub is_whole_ref : List Snapshot → Bool → List ℕ → Data → Bool
is_whole_ref ss agrees k d = is_some (snapshot_with ss (signed_at (codes "snapshot-id") d)) && (agrees || not (is_main k))

-- the first ref that isn't so, and its path
unfoldable pub first_broken : List Snapshot → Bool → Members → Option (List ℕ)
first_broken ss agrees no_members = None
first_broken ss agrees (member k d ms) = if is_whole_ref ss agrees k d then first_broken ss agrees ms else Some (in_member k [])

-- a fault among the refs that are written
abbrev pub refs_fault : List Snapshot → Data → Option (List ℕ)
refs_fault ss d = option_map (in_member (codes "refs")) (first_broken ss (main_agrees (main_ref d) (current_of d)) (members_at (codes "refs") d))

-- `current-snapshot-id` comes before `refs` in byte order
unfoldable pub ref_fault : List Snapshot → Data → Option (List ℕ)
ref_fault ss d = option_or (current_fault ss (main_ref d) (current_of d)) (refs_fault ss d)

-- ---- walks of parents

-- the path of the parent of a snapshot whose walk comes back
unfoldable pub return_path : ℕ → List ℕ
return_path i = snapshot_path i (codes "parent-snapshot-id")
