use Rattle.std.proofs.Common.{◌≡◌, ◌∙◌, ℕ, List, Some, ap, sym, option_map, slice_set, rules}
use Rattle.ice_store.specs.History.{appended}
use Rattle.store_memory.proofs.SlotSteps.{set_changed, past_changed, none_of}
use Rattle.store_memory.proofs.files.append_at.Goals as goal

pub returns-in_ok-extend-clause-ok : goal.returns-in_ok-extend-clause-ok
returns-in_ok-extend-clause-ok c =
    let slots = c.args.slots.now.items in
    let change = appended c.args.more.now c.args.ms in
    let is : c.index_mut.result.now ≡ Some c.in-Some.held = search rules in
    ap (λ (b : List ℕ). slice_set slots c.args.number (Some (record c.in-Some.held { bytes = b; ms = c.args.ms }))) c.in_ok-extend.ensures.ok
    ∙ ap (λ x. slice_set slots c.args.number (option_map change x)) (sym is) ∙ set_changed change slots c.args.number c.index_mut.result.now (search rules) (search rules)

pub returns-in_default-clause-ok : goal.returns-in_default-clause-ok
returns-in_default-clause-ok c =
    let slots = c.args.slots.now.items in
    let change = appended c.args.more.now c.args.ms in
    let is = none_of c.index_mut.result.now c.in_default.not-Some in
    ap (slice_set slots c.args.number) is ∙ ap (λ x. slice_set slots c.args.number (option_map change x)) (sym is)
    ∙ set_changed change slots c.args.number c.index_mut.result.now (search rules) (search rules)

pub returns-else-number-len-clause-ok : goal.returns-else-number-len-clause-ok
returns-else-number-len-clause-ok c = past_changed (appended c.args.more.now c.args.ms) c.args.slots.now.items c.args.number (search rules)
