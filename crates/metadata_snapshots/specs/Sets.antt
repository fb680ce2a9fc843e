-- Sets of ids and of names, as the edit that takes snapshots away looks in them.
use Rattle.std.specs.Prelude.{◌≡◌, ℕ, ℤ, List, Bool, codes, Vec}
use Rattle.std.specs.Global.{Global}
use Rattle.std.specs.Ordering.{int_cmp, nat_cmp}
use Rattle.std.specs.Cmp.Lexicographic.{slice_cmp}
use Rattle.std.specs.BTreeSet.{BTreeSet, contains, contains_by}
use Rattle.serde_json.specs.Data.{Data}
use Rattle.metadata_json.specs.Fields.{signed_at}
use Rattle.metadata_view.specs.Walk.{has_id}
use Rattle.metadata_snapshots.specs.Edits.{has_name}

-- the set has these ids
abbrev pub IsIdSet : BTreeSet ℤ → List ℤ → Type 0
IsIdSet set ids = (q : ℤ) → contains int_cmp set q ≡ has_id q ids

-- the item is of a snapshot of the set
abbrev pub is_in : BTreeSet ℤ → Data → Bool
is_in set d = contains int_cmp set (signed_at (codes "snapshot-id") d)

-- the set has the name
abbrev pub has_key : BTreeSet (Vec ℕ Global) → List ℕ → Bool
has_key set q = contains_by (λ k. slice_cmp nat_cmp q k.items) set

-- the set has these names
abbrev pub IsNameSet : BTreeSet (Vec ℕ Global) → List (List ℕ) → Type 0
IsNameSet set names = (q : List ℕ) → has_key set q ≡ has_name names q
