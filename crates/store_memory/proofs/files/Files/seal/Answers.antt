use Rattle.std.proofs.Common.{◌≡◌, ◌∙◌, Some, None, ap, sym, subst, refl, rules}
use Rattle.ice_store.specs.Files.{changed}
use Rattle.ice_store.specs.History.{sealed}
use Rattle.store_memory.specs.Slots.{standing, number_at, AreNumbered}
use Rattle.store_memory.proofs.SlotLaws.{files_changed, changed_free, free_where}
use Rattle.store_memory.proofs.files.Files.seal.Goals as goal

pub invariant_of-self : goal.invariant_of-self
invariant_of-self c =
    let place = c.args.place.now in
    let f = number_at c.self.inside.index in
    let some : f place ≡ Some c.in-Some.number = search rules in
    let done = files_changed sealed (λ x. refl) c.self.inside.slots.items f place c.in-Some.number c.self.invariant some in
    subst (λ l. AreNumbered l f) (sym c.seal_at.ensures) done.numbered

pub returns-in-Some : goal.returns-in-Some
returns-in-Some c =
    let place = c.args.place.now in
    let f = number_at c.self.inside.index in
    let some : f place ≡ Some c.in-Some.number = search rules in
    let done = files_changed sealed (λ x. refl) c.self.inside.slots.items f place c.in-Some.number c.self.invariant some in
    ap standing c.seal_at.ensures ∙ done.are ∙ ap (λ files. changed sealed files place) c.self.view_is

pub returns-in_default : goal.returns-in_default
returns-in_default c =
    let place = c.args.place.now in
    let slots = c.self.inside.slots.items in
    let f = number_at c.self.inside.index in
    let none : f place ≡ None = search rules in
    sym c.self.view_is ∙ sym (changed_free sealed slots place (free_where slots f place c.self.invariant none)) ∙ ap (λ files. changed sealed files place) c.self.view_is
