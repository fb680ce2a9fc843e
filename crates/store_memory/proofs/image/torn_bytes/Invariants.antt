use Rattle.std.proofs.Common.{◌≡◌, drop}
use Rattle.store_memory.specs.Torn.{torn_at}
use Rattle.store_memory.proofs.image.torn_bytes.Given as goal

abbrev pub invariant-loop-t : goal.invariant-loop-t
invariant-loop-t l = torn_at (drop l.t-index l.torn) l.place ≡ torn_at l.torn l.place
