use Rattle.std.proofs.Common.{◌∙◌, rules}
use Rattle.store_memory.proofs.SlotSteps.{slot_at, slot_past}
use Rattle.store_memory.proofs.files.held_at.Goals as goal

pub returns-then-number-slots : goal.returns-then-number-slots
returns-then-number-slots c = c.as_ref.ensures.value ∙ slot_at c.args.slots.now c.args.number c.index-slots-number.result (search rules) (search rules)

pub returns-else-number-slots : goal.returns-else-number-slots
returns-else-number-slots c = slot_past c.args.slots.now c.args.number (search rules)
