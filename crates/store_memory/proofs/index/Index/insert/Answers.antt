use Rattle.std.proofs.Common.{Some, ap, ◌∙◌, subst}
use Rattle.ice_store.specs.Places.{Parts}
use Rattle.store_memory.specs.Slots.{Index, index_of, number_at, Tells}
use Rattle.store_memory.proofs.IndexLaws.{number_at-index_of, inserted}
use Rattle.store_memory.proofs.index.Index.insert.Goals as goal

pub returns-clause-old : goal.returns-clause-old
returns-clause-old c =
    let entries = c.self.inside.numbers.entries in
    c.in_ok-insert.ensures.old ∙ number_at-index_of c.in_ok-key.key.items entries
    ∙ ap (number_at (index_of entries)) (c.in_ok-key.ensures ∙ c.parts_of.ensures)
    ∙ ap (λ (l : Index). number_at l c.args.place.now) c.self.view_is

pub returns-clause-ok : goal.returns-clause-ok
returns-clause-ok c =
    let number = Some c.args.number in
    let new = number_at (index_of c.insert.new.self.entries) in
    let told = inserted c.self.inside.numbers.entries c.insert.new.self.entries c.in_ok-key.key c.args.number c.in_ok-insert.ensures.entries c.in_ok-insert.ensures.updates.1 in
    subst (λ (l : Index). Tells (number_at l) new c.args.place.now number) c.self.view_is
    (subst (λ (q : Parts). Tells (number_at (index_of c.self.inside.numbers.entries)) new q number) (c.in_ok-key.ensures ∙ c.parts_of.ensures) told)
