-- What a call did to a history that is told.
use Rattle.std.specs.Prelude.{◌≡◌, Option, Some, None}
use Rattle.ice_store.specs.declared.history.Past.{Past}

-- the history is told at the exit, and a relation to that at the entry holds
pub record SinceTold (old : Past) (new : Option Past) (R : Past → Past → Type 0) : Type 0 where
  pub now : Past
  pub is : new ≡ Some now
  pub holds : R old now

-- a relation between the history at the entry and at the exit, where the first is told; the second is then told, too
abbrev pub Since : Option Past → Option Past → (Past → Past → Type 0) → Type 0
Since None new R = new ≡ None
Since (Some old) new R = SinceTold old new R
