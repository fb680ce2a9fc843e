-- What a crash puts into unsealed files.
use Rattle.std.specs.Prelude.{ℕ, List, [], ◌∷◌, Option, Some, None, if◌then◌else◌}
use Rattle.ice_store.specs.Places.{Parts, same_place}
use Rattle.store_memory.specs.declared.image.Torn.{Torn}

-- the bytes that a crash puts at a place, the first item of the place counting
abbrev pub torn_at : List Torn → Parts → Option (List ℕ)
torn_at [] place = None
torn_at (torn ∷ more) place = if same_place torn.place place then Some torn.bytes else torn_at more place
