use Rattle.std.proofs.Common.{◌≡◌, take, map, filter}
use Rattle.ice_store.specs.Places.{is_under}
use Rattle.ice_store.specs.Calls.{listed_of}
use Rattle.store_memory.specs.Slots.{standing}
use Rattle.store_memory.proofs.files.list_slots.Given as goal

abbrev pub invariant-loop-slot : goal.invariant-loop-slot
invariant-loop-slot l = l.listed.items ≡ map listed_of (filter (λ held. is_under held.place l.dir) (standing (take l.slot-index l.slots)))
