use Rattle.std.proofs.Common.{◌≡◌, ◌∙◌, Some, None, ap, sym, subst, rules}
use Rattle.ice_store.specs.Files.{find, without}
use Rattle.store_memory.specs.Slots.{standing, number_at, AreNumbered}
use Rattle.store_memory.proofs.SlotLaws.{file_found, files_taken, find_free, without_free, free_where}
use Rattle.store_memory.proofs.files.Files.remove.Goals as goal

pub invariant_of-self : goal.invariant_of-self
invariant_of-self c =
    let place = c.args.place.now in
    let f = number_at c.self.inside.index in
    let g = number_at c.remove.new.self in
    let some : f place ≡ Some c.in-Some.number = search rules in
    let done = files_taken c.self.inside.slots.items f g place c.in-Some.number c.self.invariant some c.in-Some.ensures.index in
    subst (λ l. AreNumbered l g) (sym c.take_slot.ensures.slots) done.numbered

pub returns-in-Some-clause-value : goal.returns-in-Some-clause-value
returns-in-Some-clause-value c =
    let place = c.args.place.now in
    let f = number_at c.self.inside.index in
    let some : f place ≡ Some c.in-Some.number = search rules in
    c.take_slot.ensures.value ∙ file_found c.self.inside.slots.items f place c.in-Some.number c.self.invariant some ∙ ap (λ files. find files place) c.self.view_is

pub returns-in-Some-clause-files : goal.returns-in-Some-clause-files
returns-in-Some-clause-files c =
    let place = c.args.place.now in
    let f = number_at c.self.inside.index in
    let some : f place ≡ Some c.in-Some.number = search rules in
    let done = files_taken c.self.inside.slots.items f (number_at c.remove.new.self) place c.in-Some.number c.self.invariant some c.in-Some.ensures.index in
    ap standing c.take_slot.ensures.slots ∙ done.are ∙ ap (λ files. without files place) c.self.view_is

pub returns-in-None-clause-value : goal.returns-in-None-clause-value
returns-in-None-clause-value c =
    let place = c.args.place.now in
    let slots = c.self.inside.slots.items in
    let f = number_at c.self.inside.index in
    let none : f place ≡ None = search rules in
    sym (find_free slots place (free_where slots f place c.self.invariant none)) ∙ ap (λ files. find files place) c.self.view_is

pub returns-in-None-clause-files : goal.returns-in-None-clause-files
returns-in-None-clause-files c =
    let place = c.args.place.now in
    let slots = c.self.inside.slots.items in
    let f = number_at c.self.inside.index in
    let none : f place ≡ None = search rules in
    sym (without_free slots place (free_where slots f place c.self.invariant none)) ∙ ap (λ files. without files place) c.self.view_is
