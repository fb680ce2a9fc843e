-- The edits of the list of snapshots (Iceberg table specification, Snapshots). Each is made of `set` and `add`, which
-- change one field and no other, so a field that isn't named here stays.
use Rattle.std.specs.Prelude.{ℕ, ℤ, List, [], ◌∷◌, Bool, false, not, ◌||◌, codes, Option, Some, None, option_map, option_and_then, if◌then◌else◌}
use Rattle.std.specs.List.{filter, list_any}
use Rattle.std.specs.Str.{bytes_eq}
use Rattle.serde_json.specs.Data.{Data, number, string, array, object, unsigned, Members, member, no_members, put}
use Rattle.serde_json.specs.Find.{get, of_integer, as_array, as_object}
use Rattle.serde_json.specs.View.{items_of}
use Rattle.metadata_json.specs.Edits.{set, add}
use Rattle.metadata_json.specs.Fields.{list_of, signed_at}
use Rattle.metadata_view.specs.Walk.{has_id}
use Rattle.metadata_view.specs.declared.types.Snapshot.{Snapshot}

-- ---- a new snapshot

-- texts at their names, among members; of two equal names the last counts
unfoldable pub put_texts : List (List ℕ × List ℕ) → Members → Members
put_texts [] ms = ms
put_texts (p ∷ ps) ms = put_texts ps (put p.0 (string p.1) ms)

-- the summary of a snapshot: its operation, and texts at further names
unfoldable pub summary_tree : List ℕ → List (List ℕ × List ℕ) → Data
summary_tree operation texts = object (put (codes "operation") (string operation) (put_texts texts no_members))

-- the fields that each snapshot has, without its summary
unfoldable pub bare_snapshot : Snapshot → Data
bare_snapshot s =
    object (member (codes "manifest-list") (string s.list) (member (codes "sequence-number") (number (of_integer s.sequence)) (member (codes "snapshot-id") (number (of_integer s.id)) (member (codes "timestamp-ms") (number (unsigned s.ms)) no_members))))

-- the field at the number, where there is one
abbrev pub set_number : List ℕ → Option ℤ → Data → Data
set_number k None d = d
set_number k (Some z) d = set k (number (of_integer z)) d

-- an item of `snapshots`, with a summary that has these texts beside the operation
unfoldable pub snapshot_tree : Snapshot → List (List ℕ × List ℕ) → Data
snapshot_tree s texts =
    set_number (codes "schema-id") s.schema_id (set_number (codes "parent-snapshot-id") s.parent (set (codes "summary") (summary_tree s.operation texts) (bare_snapshot s)))

-- `snapshots` has one more, and `last-sequence-number` is its sequence number
unfoldable pub with_listed : Snapshot → List (List ℕ × List ℕ) → Data → Data
with_listed s texts d = set (codes "last-sequence-number") (number (of_integer s.sequence)) (add (codes "snapshots") (snapshot_tree s texts) d)

-- ---- snapshots that go

-- the items for which this doesn't hold
unfoldable pub others : (Data → Bool) → List Data → List Data
others gone ds = filter (λ d. not (gone d)) ds

-- what follows the last item for which this holds: while it holds for one, the first item goes
unfoldable pub after_last : (Data → Bool) → List Data → List Data
after_last gone [] = []
after_last gone (d ∷ ds) = if gone d || list_any gone ds then after_last gone ds else d ∷ ds

-- the field k at these items, where there are some; else as it is
abbrev pub set_array : List ℕ → Option (List Data) → Data → Data
set_array k None d = d
set_array k (Some ds) d = set k (array (items_of ds)) d

-- the items of the array in the field k, where there is an array
abbrev pub array_at : List ℕ → Data → Option (List Data)
array_at k d = option_map list_of (option_and_then as_array (get k d))

-- the array in the field k without the items for which this holds; where there is no array, it stays so
unfoldable pub without_items : (Data → Bool) → List ℕ → Data → Data
without_items gone k d = set_array k (option_map (others gone) (array_at k d)) d

-- `snapshot-log` from the item on that follows the last one for which this holds
unfoldable pub without_history : (Data → Bool) → Data → Data
without_history gone d = set_array (codes "snapshot-log") (option_map (after_last gone) (array_at (codes "snapshot-log") d)) d

-- the members for whose names this doesn't hold
unfoldable pub other_members : (List ℕ → Bool) → Members → Members
other_members gone no_members = no_members
other_members gone (member k d ms) = if gone k then other_members gone ms else member k d (other_members gone ms)

-- the field k at these members, where there are some; else as it is
abbrev pub set_object : List ℕ → Option Members → Data → Data
set_object k None d = d
set_object k (Some ms) d = set k (object ms) d

-- `refs` without the refs for whose names this holds
unfoldable pub without_refs : (List ℕ → Bool) → Data → Data
without_refs gone d = set_object (codes "refs") (option_map (other_members gone) (option_and_then as_object (get (codes "refs") d))) d

-- without the snapshots of which these items are, their statistics files, their history, and the refs of these names
unfoldable pub without_these : (Data → Bool) → (List ℕ → Bool) → Data → Data
without_these gone dropped d =
    without_items gone (codes "snapshots") (without_items gone (codes "statistics") (without_items gone (codes "partition-statistics") (without_history gone (without_refs dropped d))))

-- the item is of one of these snapshots
abbrev pub is_of : List ℤ → Data → Bool
is_of ids d = has_id (signed_at (codes "snapshot-id") d) ids

-- the name is among the names
abbrev pub has_name : List (List ℕ) → List ℕ → Bool
has_name [] k = false
has_name (x ∷ xs) k = bytes_eq k x || has_name xs k

-- The snapshots go, with the refs of these names and the statistics files of the snapshots. Of `snapshot-log` only what
-- follows the last item of one of them stays: what came before can't be told any more.
unfoldable pub without_snapshots : List ℤ → List (List ℕ) → Data → Data
without_snapshots ids names d = without_these (is_of ids) (has_name names) d
