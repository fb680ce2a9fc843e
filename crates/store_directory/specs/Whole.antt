-- What a stream takes of bytes that are written until all are taken.
use Rattle.std.specs.Prelude.{ℕ, List, take, Option, Result, Ok, Err}
use Rattle.std.specs.Io.KnownBytes.{Keeps, Appends}
use Rattle.ice_store.specs.declared.outside.Failed.{Failed}

-- known contents grow by all of the bytes, or by a front of them where the call fails
abbrev pub TakesFront : Option (List ℕ) → Option (List ℕ) → List ℕ → Result (Unit {0}) Failed → Type 0
TakesFront old new bytes (Ok u) = Appends old new bytes
TakesFront old new bytes (Err e) = (n : ℕ) × Appends old new (take n bytes)

-- known contents grow by as many of the bytes as the call took, and by none where it fails; an interrupted call takes none
abbrev pub TakesSome : Option (List ℕ) → Option (List ℕ) → List ℕ → Result ℕ Failed → Type 0
TakesSome old new bytes (Ok n) = Appends old new (take n bytes)
TakesSome old new bytes (Err e) = Keeps old new
