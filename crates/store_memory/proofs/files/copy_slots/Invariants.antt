use Rattle.std.proofs.Common.{◌≡◌, take}
use Rattle.store_memory.specs.Slots.{standing}
use Rattle.store_memory.proofs.files.copy_slots.Given as goal

abbrev pub invariant-loop-slot : goal.invariant-loop-slot
invariant-loop-slot l = l.copies.items ≡ standing (take l.slot-index l.slots)
