-- How a table is read, and what others may do to it.
use Rattle.std.specs.Prelude.{◌≡◌, ℕ, List, Option, Some}
use Rattle.ice_store.specs.Places.{Parts}
use Rattle.ice_store.specs.declared.history.Past.{Past}
use Rattle.ice_store.specs.declared.history.Step.{Step}
use Rattle.commit_history.specs.Versions.{number_in}

-- whether a version file's bytes are good beside what is sealed
abbrev pub GoodBy : Type 1
GoodBy = List ℕ → (Parts → Option (List ℕ)) → Type 0

-- which places a version file's bytes reach beside what is sealed
abbrev pub ReachBy : Type 1
ReachBy = List ℕ → (Parts → Option (List ℕ)) → Parts → Type 0

-- how version files are read: which bytes are good beside what is sealed, and which places they reach
pub record Content : Type 1 where
  pub good : GoodBy
  pub reached : ReachBy

-- how a table is read: the number that a place names, which bytes are good beside what is sealed, and which places they reach
pub record Reading : Type 1 where
  pub number : Parts → ℕ
  pub good : GoodBy
  pub reached : ReachBy

-- a reading, and the steps that others may take after a history
pub record Rules : Type 1 where
  pub reading : Reading
  pub allows : Past → Step → Type 0

-- how the table at a place is read: its version places have their numbers, and its version files this content
abbrev pub reading_of : (Parts → Content) → Parts → Reading
reading_of content table = record { number = number_in table; good = (content table).good; reached = (content table).reached }

-- that reading, where others may take these steps
abbrev pub rules_of : (Parts → Content) → Parts → (Past → Step → Type 0) → Rules
rules_of content table allows = record { reading = reading_of content table; allows = allows }

-- each place that these bytes reach keeps what is sealed there
abbrev pub KeepsReached : Reading → List ℕ → (Parts → Option (List ℕ)) → (Parts → Option (List ℕ)) → Type 0
KeepsReached reading bytes before now = (place : Parts) (x : List ℕ) → reading.reached bytes before place → before place ≡ Some x → now place ≡ Some x

-- a reading looks only at what is reached: while that keeps its bytes, what is good stays good and no more is reached; and all of it is there
pub record IsLocal (reading : Reading) : Type 0 where
  pub stays : (b : List ℕ) (c d : Parts → Option (List ℕ)) → reading.good b c → KeepsReached reading b c d → reading.good b d
  pub reach : (b : List ℕ) (c d : Parts → Option (List ℕ)) → reading.good b c → KeepsReached reading b c d → (p : Parts) → reading.reached b d p → reading.reached b c p
  pub there : (b : List ℕ) (c : Parts → Option (List ℕ)) (p : Parts) → reading.good b c → reading.reached b c p → (x : List ℕ) × (c p ≡ Some x)
