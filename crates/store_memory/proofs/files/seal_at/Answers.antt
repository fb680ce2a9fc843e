use Rattle.std.proofs.Common.{◌≡◌, ◌∙◌, Some, ap, sym, option_map, slice_set, rules}
use Rattle.ice_store.specs.History.{sealed}
use Rattle.store_memory.proofs.SlotSteps.{set_changed, past_changed, none_of}
use Rattle.store_memory.proofs.files.seal_at.Goals as goal

pub returns-in-Some : goal.returns-in-Some
returns-in-Some c =
    let slots = c.args.slots.now.items in
    let is : c.index_mut.result.now ≡ Some c.in-Some.held = search rules in
    ap (λ x. slice_set slots c.args.number (option_map sealed x)) (sym is) ∙ set_changed sealed slots c.args.number c.index_mut.result.now (search rules) (search rules)

pub returns-in_default : goal.returns-in_default
returns-in_default c =
    let slots = c.args.slots.now.items in
    let is = none_of c.index_mut.result.now c.in_default.not-Some in
    ap (slice_set slots c.args.number) is ∙ ap (λ x. slice_set slots c.args.number (option_map sealed x)) (sym is)
    ∙ set_changed sealed slots c.args.number c.index_mut.result.now (search rules) (search rules)

pub returns-else-number-len : goal.returns-else-number-len
returns-else-number-len c = past_changed sealed c.args.slots.now.items c.args.number (search rules)
