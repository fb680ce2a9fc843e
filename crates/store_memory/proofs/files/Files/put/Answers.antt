use Rattle.std.proofs.Common.{◌≡◌, ◌∙◌, ℕ, ◌∷◌, ◌++◌, [], length, Some, ap, sym, subst, rules}
use Rattle.ice_store.specs.Files.{put}
use Rattle.store_memory.specs.Slots.{standing, cleared, number_at, Tells, AreNumbered}
use Rattle.store_memory.proofs.SlotLaws.{files_put}
use Rattle.store_memory.proofs.files.Files.put.Goals as goal

pub invariant_of-self-2 : goal.invariant_of-self-2
invariant_of-self-2 c =
    let slots = c.self.inside.slots.items in
    let held = c.args.held in
    let f = number_at c.self.inside.index in
    let g = number_at c.insert.new.self in
    let is : c.push_reserved.new.slots.items ≡ cleared slots c.in_ok-old.old ++ Some held ∷ [] = search rules in
    let len : c.len.result ≡ length slots = search rules in
    let tells = subst (λ (n : ℕ). Tells f g held.place (Some n)) len c.in_ok-old.ensures.ok in
    let done = files_put slots f g held c.in_ok-old.old c.self.invariant c.in_ok-old.ensures.old tells in
    subst (λ l. AreNumbered l g) (sym is) done.numbered

pub returns-clause-ok : goal.returns-clause-ok
returns-clause-ok c =
    let slots = c.self.inside.slots.items in
    let held = c.args.held in
    let f = number_at c.self.inside.index in
    let g = number_at c.insert.new.self in
    let is : c.push_reserved.new.slots.items ≡ cleared slots c.in_ok-old.old ++ Some held ∷ [] = search rules in
    let len : c.len.result ≡ length slots = search rules in
    let tells = subst (λ (n : ℕ). Tells f g held.place (Some n)) len c.in_ok-old.ensures.ok in
    let done = files_put slots f g held c.in_ok-old.old c.self.invariant c.in_ok-old.ensures.old tells in
    ap standing is ∙ done.are ∙ ap (put held) c.self.view_is
