-- The version that a listing tells.
use Rattle.std.specs.Prelude.{ℕ, max, List, [], ◌∷◌}
use Rattle.ice_store.specs.Places.{Parts}
use Rattle.ice_store.specs.declared.store.Listed.{Listed}

-- the greatest number in a listing, 0 where none has one
abbrev pub greatest : (Parts → ℕ) → List Listed → ℕ
greatest number [] = 0
greatest number (l ∷ ls) = max (number l.place) (greatest number ls)
