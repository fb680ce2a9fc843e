use Rattle.std.proofs.Common.{◌≡◌, ◌∙◌, Some, None, ap, sym, subst, refl, rules}
use Rattle.ice_store.specs.Files.{changed}
use Rattle.ice_store.specs.History.{appended}
use Rattle.store_memory.specs.Slots.{standing, number_at, AreNumbered}
use Rattle.store_memory.proofs.SlotLaws.{files_changed, changed_free, free_where}
use Rattle.store_memory.proofs.files.Files.append.Goals as goal

pub invariant_of-self : goal.invariant_of-self
invariant_of-self c =
    let place = c.args.place.now in
    let f = number_at c.self.inside.index in
    let change = appended c.args.more.now c.args.ms in
    let some : f place ≡ Some c.in-Some.number = search rules in
    let done = files_changed change (λ x. refl) c.self.inside.slots.items f place c.in-Some.number c.self.invariant some in
    subst (λ l. AreNumbered l f) (sym c.in_ok-append_at.ensures.ok) done.numbered

pub returns-in_ok-append_at-clause-ok : goal.returns-in_ok-append_at-clause-ok
returns-in_ok-append_at-clause-ok c =
    let place = c.args.place.now in
    let f = number_at c.self.inside.index in
    let change = appended c.args.more.now c.args.ms in
    let some : f place ≡ Some c.in-Some.number = search rules in
    let done = files_changed change (λ x. refl) c.self.inside.slots.items f place c.in-Some.number c.self.invariant some in
    ap standing c.in_ok-append_at.ensures.ok ∙ done.are ∙ ap (λ files. changed change files place) c.self.view_is

pub returns-in_default-clause-ok : goal.returns-in_default-clause-ok
returns-in_default-clause-ok c =
    let place = c.args.place.now in
    let slots = c.self.inside.slots.items in
    let f = number_at c.self.inside.index in
    let change = appended c.args.more.now c.args.ms in
    let none : f place ≡ None = search rules in
    sym c.self.view_is ∙ sym (changed_free change slots place (free_where slots f place c.self.invariant none)) ∙ ap (λ files. changed change files place) c.self.view_is
