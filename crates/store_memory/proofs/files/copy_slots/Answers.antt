use Rattle.std.proofs.Common.{◌∙◌, ◌∷◌, ◌++◌, [], ap, rules}
use Rattle.store_memory.specs.Slots.{standing}
use Rattle.store_memory.proofs.SlotSteps.{standing_more}
use Rattle.store_memory.proofs.files.copy_slots.Goals as goal

pub loop-slot-preserved : goal.loop-slot-preserved
loop-slot-preserved c =
    let slot = c.slot-item.result in
    c.in_ok-push_copy.ensures ∙ ap (λ l. l ++ standing (slot ∷ [])) c.loop-slot.invariant
    ∙ standing_more c.args.slots.now c.loop-slot.slot-index slot (search rules) c.slot-item.is
