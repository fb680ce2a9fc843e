-- Ids of which no two are equal. Those that were met so far are a set: they stand in their order.
use Rattle.std.specs.Prelude.{◌≡◌, ℤ, List, [], ◌∷◌, Bool, false}
use Rattle.std.specs.List.{list_any}
use Rattle.std.specs.Ordering.{int_cmp}
use Rattle.std.specs.BTreeMap.{is_at}
use Rattle.std.specs.BTreeSet.{insert_key}

-- the id is among these
unfoldable pub is_seen : ℤ → List ℤ → Bool
is_seen id seen = list_any (is_at (int_cmp id)) seen

-- these with one more
unfoldable pub with_id : ℤ → List ℤ → List ℤ
with_id id seen = insert_key int_cmp seen id

-- none of the ids is among those that were seen, or stands twice
abbrev pub AreNew : List ℤ → List ℤ → Type 0
AreNew seen [] = Unit {0}
AreNew seen (id ∷ ids) = (is_seen id seen ≡ false) × AreNew (with_id id seen) ids
