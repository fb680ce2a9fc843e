use Rattle.std.proofs.Common.{None, ap, ◌∙◌, subst}
use Rattle.ice_store.specs.Places.{Parts}
use Rattle.store_memory.specs.Slots.{Index, index_of, number_at, Tells}
use Rattle.store_memory.proofs.IndexLaws.{number_at-index_of, removed}
use Rattle.store_memory.proofs.index.Index.remove.Goals as goal

pub returns-clause-value : goal.returns-clause-value
returns-clause-value c =
    let entries = c.self.inside.numbers.entries in
    c.remove.ensures.value ∙ number_at-index_of c.parts_of.result.now entries
    ∙ ap (number_at (index_of entries)) c.parts_of.ensures
    ∙ ap (λ (l : Index). number_at l c.args.place.now) c.self.view_is

pub returns-clause-index : goal.returns-clause-index
returns-clause-index c =
    let new = number_at (index_of c.remove.new.self.entries) in
    let told = removed c.self.inside.numbers.entries c.remove.new.self.entries c.parts_of.result.now c.remove.ensures.entries c.remove.ensures.updates.1 in
    subst (λ (l : Index). Tells (number_at l) new c.args.place.now None) c.self.view_is
    (subst (λ (q : Parts). Tells (number_at (index_of c.self.inside.numbers.entries)) new q None) c.parts_of.ensures told)
