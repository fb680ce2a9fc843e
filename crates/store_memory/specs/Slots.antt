-- Files in numbered slots, and an index that tells the number of each by its place.
use Rattle.std.specs.Prelude.{◌≡◌, ℕ, zero, suc, List, [], ◌∷◌, map, Option, Some, None, option_map, slice_set, if◌then◌else◌}
use Rattle.std.specs.Ordering.{nat_cmp}
use Rattle.std.specs.Cmp.Lexicographic.{slice_cmp}
use Rattle.std.specs.Map.{lookup}
use Rattle.std.specs.BTreeMap.{is_at}
use Rattle.std.specs.Global.{Vec}
use Rattle.ice_store.specs.Places.{Parts, same_place}
use Rattle.ice_store.specs.declared.history.Held.{Held}

-- the files, in the order of their slots
abbrev pub standing : List (Option Held) → List Held
standing [] = []
standing (None ∷ slots) = standing slots
standing (Some held ∷ slots) = held ∷ standing slots

-- the file in the slot with a number
abbrev pub held_in : List (Option Held) → ℕ → Option Held
held_in [] n = None
held_in (slot ∷ slots) zero = slot
held_in (slot ∷ slots) (suc n) = held_in slots n

-- the slots with the file in one of them changed, if there is one
abbrev pub changed_in : (Held → Held) → List (Option Held) → ℕ → List (Option Held)
changed_in change [] n = []
changed_in change (slot ∷ slots) zero = option_map change slot ∷ slots
changed_in change (slot ∷ slots) (suc n) = slot ∷ changed_in change slots n

-- the slots where this one, if there is one, is emptied
abbrev pub cleared : List (Option Held) → Option ℕ → List (Option Held)
cleared slots None = slots
cleared slots (Some n) = slice_set slots n None

-- places with numbers, in the order of the places' parts
abbrev pub Index : Type 0
Index = List (Parts × ℕ)

-- the number that an index tells at a place
abbrev pub number_at : Index → Parts → Option ℕ
number_at index place = lookup (is_at (slice_cmp (slice_cmp nat_cmp) place)) index

-- an index, from the entries of a map
abbrev pub index_of : List (Vec (List ℕ) × ℕ) → Index
index_of entries = map (λ e. (e.0.items, e.1)) entries

-- the same numbers, but none at one place
abbrev pub without_number : (Parts → Option ℕ) → Parts → Parts → Option ℕ
without_number told place q = if same_place place q then None else told q

-- this is told at one place, and what was told before at each other place
pub record Tells (old new : Parts → Option ℕ) (place : Parts) (number : Option ℕ) : Type 0 where
  pub here : new place ≡ number
  pub others : (q : Parts) → (place ≡ q → ⊥) → new q ≡ old q

-- the number of each file is told at its place, and no other number anywhere
pub record AreNumbered (slots : List (Option Held)) (told : Parts → Option ℕ) : Type 0 where
  pub each : (n : ℕ) (held : Held) → held_in slots n ≡ Some held → told held.place ≡ Some n
  pub there : (place : Parts) (n : ℕ) → told place ≡ Some n → (held : Held) × (held_in slots n ≡ Some held) × (held.place ≡ place)
