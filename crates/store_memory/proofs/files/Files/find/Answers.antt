use Rattle.std.proofs.Common.{◌≡◌, ◌∙◌, Some, None, ap, sym, rules}
use Rattle.ice_store.specs.Files.{find}
use Rattle.store_memory.specs.Slots.{held_in, number_at}
use Rattle.store_memory.proofs.SlotLaws.{file_found, find_free, free_where}
use Rattle.store_memory.proofs.files.Files.find.Goals as goal

pub returns-in-Some : goal.returns-in-Some
returns-in-Some c =
    let place = c.args.place.now in
    let told = number_at c.self.inside.index in
    let some : told place ≡ Some c.in-Some.number = search rules in
    c.held_at.ensures ∙ ap (λ slots. held_in slots c.in-Some.number) c.deref.ensures.value
    ∙ file_found c.self.inside.slots.items told place c.in-Some.number c.self.invariant some ∙ ap (λ files. find files place) c.self.view_is

pub returns-in-None : goal.returns-in-None
returns-in-None c =
    let place = c.args.place.now in
    let slots = c.self.inside.slots.items in
    let told = number_at c.self.inside.index in
    let none : told place ≡ None = search rules in
    sym (find_free slots place (free_where slots told place c.self.invariant none)) ∙ ap (λ files. find files place) c.self.view_is
