-- What a sink took of a text that was put piece by piece.
use Rattle.std.specs.Prelude.{◌≡◌, ℕ, List, ◌++◌, take, Option, Some, Result}
use Rattle.ice_store.specs.Given.{Takes, SinkCause}
use Rattle.ice_store.specs.Others.{WhereTold}
use Rattle.ice_store.specs.declared.outside.Failed.{Failed}

-- as if the bytes had been put at once: contents and count of faults, before and after
pub record IsPut (before after : Option (List ℕ)) (earlier later : ℕ) (bytes : List ℕ) (result : Result (Unit {0}) Failed) : Type 0 where
  pub contents : Takes before after bytes result
  pub cause : SinkCause earlier later result

-- a prefix of the bytes was taken, where it is told
abbrev pub TakesPrefix : Option (List ℕ) → Option (List ℕ) → List ℕ → Type 0
TakesPrefix before after bytes = WhereTold before (λ old. (n : ℕ) × (after ≡ Some (old ++ take n bytes)))

-- all of the bytes were taken, where it is told
abbrev pub TakesAll : Option (List ℕ) → Option (List ℕ) → List ℕ → Type 0
TakesAll before after bytes = WhereTold before (λ old. after ≡ Some (old ++ bytes))
