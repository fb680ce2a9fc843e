-- What clocks, sources of identifiers and sinks have given and taken so far, where they tell it.
use Rattle.std.specs.Prelude.{◌≡◌, ℕ, List, [], ◌∷◌, ◌++◌, ◌≤◌, take, Option, Some, None, Result, Ok, Err, IsErr}
use Rattle.ice_store.specs.Others.{WhereTold}
use Rattle.ice_store.specs.Calls.{Rose}
use Rattle.ice_store.specs.declared.outside.Failed.{Failed}

-- one value more, where the list is told afterwards; told before it was told, too
abbrev pub Gives : Option (List ℕ) → Option (List ℕ) → ℕ → Type 0
Gives old new value = WhereTold new (λ values. (before : List ℕ) × (old ≡ Some before) × (values ≡ before ++ value ∷ []))

-- a sink takes all of the bytes, or fails and takes a prefix
abbrev pub Takes : Option (List ℕ) → Option (List ℕ) → List ℕ → Result (Unit {0}) Failed → Type 0
Takes None new bytes result = new ≡ None
Takes (Some old) new bytes (Ok u) = new ≡ Some (old ++ bytes)
Takes (Some old) new bytes (Err e) = (n : ℕ) × (new ≡ Some (old ++ take n bytes))

-- the count of faults rises where a put fails, and else stays
pub record SinkCause (before now : ℕ) (result : Result (Unit {0}) Failed) : Type 0 where
  pub later : before ≤ now
  pub failed : IsErr result → Rose before now
  pub kept : (IsErr result → ⊥) → now ≡ before
