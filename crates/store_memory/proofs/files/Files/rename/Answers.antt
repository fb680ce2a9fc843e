use Rattle.std.proofs.Common.{◌≡◌, ◌∙◌, ◌∷◌, ◌++◌, [], ℕ, length, Some, None, slice_set, ap, sym, subst, rules}
use Rattle.ice_store.specs.Places.{Parts}
use Rattle.ice_store.specs.Files.{moved, renamed, renamed_by}
use Rattle.store_memory.specs.Slots.{standing, held_in, cleared, number_at, without_number, Tells, AreNumbered}
use Rattle.store_memory.proofs.SlotLaws.{AreNow, files_renamed, alone_where, find_free, free_where}
use Rattle.store_memory.proofs.files.Files.rename.Goals.{After-push_reserved}
use Rattle.store_memory.proofs.files.Files.rename.Goals as goal

now_renamed : (c : After-push_reserved) → AreNow c.push_reserved.new.slots.items (number_at c.rename.new.self) (renamed c.args.from.now c.args.to.now (standing c.self.inside.slots.items))
now_renamed c =
    let slots = c.self.inside.slots.items in
    let from = c.args.from.now in
    let to = c.args.to.now in
    let f = number_at c.self.inside.index in
    let g = number_at c.rename.new.self in
    let n = c.in-Some.number in
    let old = c.in_ok-old.old in
    let held = c.in-Some-take_slot.held in
    let some : f from ≡ Some n = search rules in
    let is : held_in slots n ≡ Some held = search rules in
    let len : c.len.result ≡ length slots = search rules in
    let tells = subst (λ (k : ℕ). Tells (without_number f from) g to (Some k)) len c.in_ok-old.ensures.ok in
    let rest : c.clear.new.slots.items ≡ cleared (slice_set slots n None) old = search rules in
    let all : c.push_reserved.new.slots.items ≡ cleared (slice_set slots n None) old ++ Some (moved to held) ∷ [] =
    c.push_reserved.ensures ∙ ap (λ (p : Parts). c.clear.new.slots.items ++ Some (moved p held) ∷ []) c.in_ok-place.ensures ∙ ap (λ l. l ++ Some (moved to held) ∷ []) rest in
    let done = files_renamed slots f g from to n held old c.self.invariant some is c.in_ok-old.ensures.old tells in
    record { numbered = subst (λ l. AreNumbered l g) (sym all) done.numbered; are = ap standing all ∙ done.are }

pub invariant_of-self-in-Some-take_slot : goal.invariant_of-self-in-Some-take_slot
invariant_of-self-in-Some-take_slot c = let done = now_renamed c in done.numbered

pub returns-in-Some-take_slot-clause-ok : goal.returns-in-Some-take_slot-clause-ok
returns-in-Some-take_slot-clause-ok c = let done = now_renamed c in done.are ∙ ap (renamed c.args.from.now c.args.to.now) c.self.view_is

pub invariant_of-self-in-None-take_slot : goal.invariant_of-self-in-None-take_slot
invariant_of-self-in-None-take_slot c =
    let slots = c.self.inside.slots.items in
    let f = number_at c.self.inside.index in
    let some : f c.args.from.now ≡ Some c.in-Some.number = search rules in
    let none : held_in slots c.in-Some.number ≡ None = search rules in
    let it = alone_where slots f c.args.from.now c.in-Some.number c.self.invariant some in
    absurd (cc (none, it.1.in_slot))

pub returns-in-None-clause-ok : goal.returns-in-None-clause-ok
returns-in-None-clause-ok c =
    let slots = c.self.inside.slots.items in
    let f = number_at c.self.inside.index in
    let some : f c.args.from.now ≡ Some c.in-Some.number = search rules in
    let none : held_in slots c.in-Some.number ≡ None = search rules in
    let it = alone_where slots f c.args.from.now c.in-Some.number c.self.invariant some in
    absurd (cc (none, it.1.in_slot))

pub returns-in_default-clause-ok : goal.returns-in_default-clause-ok
returns-in_default-clause-ok c =
    let slots = c.self.inside.slots.items in
    let from = c.args.from.now in
    let to = c.args.to.now in
    let f = number_at c.self.inside.index in
    let none : f from ≡ None = search rules in
    sym c.self.view_is ∙ sym (ap (λ o. renamed_by o from to (standing slots)) (find_free slots from (free_where slots f from c.self.invariant none))) ∙ ap (renamed from to) c.self.view_is
