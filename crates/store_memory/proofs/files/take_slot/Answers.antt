use Rattle.std.proofs.Common.{◌∙◌, rules}
use Rattle.store_memory.proofs.SlotSteps.{slot_at, slot_past}
use Rattle.store_memory.proofs.files.take_slot.Goals as goal

pub returns-then-number-len-clause-value : goal.returns-then-number-len-clause-value
returns-then-number-len-clause-value c = c.take.ensures.value ∙ slot_at c.args.slots.now.items c.args.number c.index_mut.result.now (search rules) (search rules)

pub returns-else-number-len-clause-value : goal.returns-else-number-len-clause-value
returns-else-number-len-clause-value c = slot_past c.args.slots.now.items c.args.number (search rules)
