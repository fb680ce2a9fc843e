-- Entries of the metadata.
use Rattle.std.proofs.Common.{◌≡◌, ℕ, ◌-◌, ◌≤◌, List, length, drop, arith}
use Rattle.std.proofs.lemmas.List.{length-drop}

-- a place, told by what is left there
pub place_is : (bytes : List ℕ) (at : ℕ) → at ≤ length bytes → length bytes - length (drop at bytes) ≡ at
place_is bytes at h = omega (arith, length-drop at bytes)
