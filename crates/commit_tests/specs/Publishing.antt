-- The steps of another writer's publish.
use Rattle.std.specs.Prelude.{ℕ, List, [], ◌∷◌}
use Rattle.ice_store.specs.Places.{Parts}
use Rattle.ice_store.specs.declared.history.Step.{Step}
use Rattle.ice_store.specs.declared.history.Step.TheVariants.{Create, Append, Seal, Rename}

-- a file of these bytes is made under one name, sealed, and renamed to another
abbrev pub publishes : Parts → Parts → List ℕ → List Step
publishes from to bytes = Create from ∷ Append from bytes ∷ Seal from ∷ Rename from to ∷ []
