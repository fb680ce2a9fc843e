use Rattle.std.proofs.Common.{◌≡◌, map, take}
use Rattle.ice_store.specs.History.{settled}
use Rattle.store_memory.specs.Torn.{torn_at}
use Rattle.store_memory.proofs.image.settle_all.Given as goal

abbrev pub invariant-loop-held : goal.invariant-loop-held
invariant-loop-held l = l.settled.items ≡ map (settled (torn_at l.torn)) (take l.held-index l.files)
