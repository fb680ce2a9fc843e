-- Where in a list of snapshots each id stands.
use Rattle.std.specs.Prelude.{◌≡◌, ℕ, ℤ, List, [], ◌∷◌, ◌++◌, length, Option, Some, None, is_some, if◌then◌else◌}
use Rattle.std.specs.Ordering.{int_cmp}
use Rattle.std.specs.BTreeMap.{BTreeMap, get}
use Rattle.metadata_view.specs.Walk.{place_with}
use Rattle.metadata_view.specs.declared.index.Indexed.{Indexed}
use Rattle.metadata_view.specs.declared.index.Indexed.TheVariants.{Whole, Double}
use Rattle.metadata_view.specs.declared.types.Snapshot.{Snapshot}

-- the map has the place of the first snapshot with each id
abbrev pub IsIndex : BTreeMap ℤ ℕ → List Snapshot → Type 0
IsIndex index ss = (id : ℤ) → get int_cmp index id ≡ place_with ss id

-- the place of the first later snapshot whose id an earlier one has
abbrev pub double_behind : List Snapshot → List Snapshot → Option ℕ
double_behind earlier [] = None
double_behind earlier (s ∷ ss) = if is_some (place_with earlier s.id) then Some (length earlier) else double_behind (earlier ++ s ∷ []) ss

-- the place of the first snapshot whose id an earlier one has
abbrev pub first_double : List Snapshot → Option ℕ
first_double ss = double_behind [] ss

-- an index of the snapshots, or the place of the first one whose id an earlier one has
abbrev pub IsIndexed : List Snapshot → Indexed → Type 0
IsIndexed ss (Whole index) = (first_double ss ≡ None) × IsIndex index ss
IsIndexed ss (Double i) = first_double ss ≡ Some i
