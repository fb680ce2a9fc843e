-- Version and table of a map of files, and when a map is whole (Iceberg table specification, "File System Tables").
-- A numbering gives each version place its number, and every other place 0.
use Rattle.std.specs.Prelude.{◌≡◌, ◌⊎◌, ℕ, zero, suc, ◌<◌, max, List, [], ◌∷◌, Option, Some, None, if◌then◌else◌, nat_eq}
use Rattle.std.specs.List.{find as first}
use Rattle.ice_store.specs.Places.{Parts}
use Rattle.ice_store.specs.Files.{find}
use Rattle.ice_store.specs.declared.history.Held.{Held}
use Rattle.commit_history.specs.Readings.{Reading}

-- the version: the greatest number of a named place, 0 where there is none
abbrev pub version : (Parts → ℕ) → List Held → ℕ
version number [] = 0
version number (held ∷ files) = max (number held.place) (version number files)

-- the bytes of a file that is sealed
abbrev pub sealed_bytes : Option Held → Option (List ℕ)
sealed_bytes None = None
sealed_bytes (Some held) = if held.is_sealed then Some held.bytes else None

-- the bytes of the sealed file at a place
abbrev pub sealed_at : List Held → Parts → Option (List ℕ)
sealed_at files place = sealed_bytes (find files place)

-- the bytes of the sealed file of a version, none at version 0
abbrev pub table_at : (Parts → ℕ) → ℕ → List Held → Option (List ℕ)
table_at number zero files = None
table_at number (suc n) files = sealed_bytes (first (λ held. nat_eq (number held.place) (suc n)) files)

-- the table: the bytes of the version's file where it is sealed, none at version 0
abbrev pub table : (Parts → ℕ) → List Held → Option (List ℕ)
table number files = table_at number (version number files) files

-- a map has a table, and its bytes are good
pub record IsGood (reading : Reading) (files : List Held) : Type 0 where
  pub bytes : List ℕ
  pub is : table reading.number files ≡ Some bytes
  pub good : reading.good bytes (sealed_at files)

-- a map is whole where it has no version, or its table is good
abbrev pub Whole : Reading → List Held → Type 0
Whole reading files = (version reading.number files ≡ 0) ⊎ IsGood reading files

-- a place in the reach of a map's table
pub record InReach (reading : Reading) (files : List Held) (place : Parts) : Type 0 where
  pub bytes : List ℕ
  pub is : table reading.number files ≡ Some bytes
  pub reached : reading.reached bytes (sealed_at files) place

-- a place that is neither a version place nor in the reach
pub record IsOutside (reading : Reading) (files : List Held) (place : Parts) : Type 0 where
  pub no_version : reading.number place ≡ 0
  pub unreached : InReach reading files place → ⊥

-- no two places have one number
pub record IsNumbering (number : Parts → ℕ) : Type 0 where
  pub single : (p q : Parts) → 0 < number p → number p ≡ number q → p ≡ q
