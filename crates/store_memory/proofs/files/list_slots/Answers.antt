use Rattle.std.proofs.Common.{◌∙◌, ◌∷◌, ◌++◌, [], map, filter, ap, rules}
use Rattle.ice_store.specs.Places.{is_under}
use Rattle.ice_store.specs.Calls.{listed_of}
use Rattle.store_memory.specs.Slots.{standing}
use Rattle.store_memory.proofs.SlotSteps.{listed_more}
use Rattle.store_memory.proofs.files.list_slots.Goals as goal

pub loop-slot-preserved : goal.loop-slot-preserved
loop-slot-preserved c =
    let slot = c.slot-item.result in
    let dir = c.args.dir.now in
    c.in_ok-push_listed.ensures ∙ ap (λ l. l ++ map listed_of (filter (λ held. is_under held.place dir) (standing (slot ∷ [])))) c.loop-slot.invariant
    ∙ listed_more listed_of (λ held. is_under held.place dir) c.args.slots.now c.loop-slot.slot-index slot (search rules) c.slot-item.is
