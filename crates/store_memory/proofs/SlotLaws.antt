-- What a change of the slots is to the files that stand in them.
use Rattle.std.proofs.Common.{◌≡◌, ◌⊎◌, inl, inr, ℕ, zero, suc, true, false, List, [], ◌∷◌, ◌++◌, length, slice_set, Option, Some, None, option_map, refl, sym, ap, ◌∙◌, arith}
use Rattle.std.proofs.Math.ListN.{length-set}
use Rattle.ice_store.specs.Places.{Parts, same_place}
use Rattle.ice_store.specs.Files.{find, without, changed, put, moved, renamed, renamed_by}
use Rattle.ice_store.specs.declared.history.Held.{Held}
use Rattle.ice_store.proofs.FileLaws.{by_test, place_decides, not_same, find_head, find_tail, drop_head, keep_head, change_head, change_tail}
use Rattle.store_memory.specs.Slots.{standing, held_in, changed_in, cleared, without_number, Tells, AreNumbered}
use Rattle.store_memory.proofs.IndexLaws.{none_there, still_there}

-- a case for whether two numbers are one
by_number : {G : Type 0} (m n : ℕ) → (m ≡ n → G) → ((m ≡ n → ⊥) → G) → G
by_number zero zero same apart = same refl
by_number zero (suc n) same apart = apart (λ e. omega arith)
by_number (suc m) zero same apart = apart (λ e. omega arith)
by_number (suc m) (suc n) same apart = by_number m n (λ e. same (ap suc e)) (λ off. apart (λ e. off (omega arith)))

-- a case for whether two places are one
by_place : {G : Type 0} (p q : Parts) → (p ≡ q → G) → ((p ≡ q → ⊥) → G) → G
by_place p q same apart = by_test (same_place p q) (λ e. same ((place_decides p q).0 e)) (λ e. apart (λ at. absurd (cc (e, (place_decides p q).1 at))))

-- Slots where no file is of a place, or one alone.

abbrev pub IsFree : List (Option Held) → Parts → Type 0
IsFree slots place = (n : ℕ) (held : Held) → held_in slots n ≡ Some held → held.place ≡ place → ⊥

pub record IsAlone (slots : List (Option Held)) (n : ℕ) (held : Held) (place : Parts) : Type 0 where
  pub in_slot : held_in slots n ≡ Some held
  pub at_place : held.place ≡ place
  pub alone : (m : ℕ) (other : Held) → held_in slots m ≡ Some other → other.place ≡ place → m ≡ n

pub free_where : (slots : List (Option Held)) (told : Parts → Option ℕ) (p : Parts) → AreNumbered slots told → told p ≡ None → IsFree slots p
free_where slots told p numbered none n held is at = absurd (cc (none, numbered.each n held is, ap told at))

pub alone_where : (slots : List (Option Held)) (told : Parts → Option ℕ) (p : Parts) (n : ℕ) → AreNumbered slots told → told p ≡ Some n → (held : Held) × IsAlone slots n held p
alone_where slots told p n numbered some =
    let it = numbered.there p n some in
    (it.0, record { in_slot = it.1; at_place = it.2; alone = λ m other is at. cc (some, numbered.each m other is, ap told at) })

pub find_free : (slots : List (Option Held)) (p : Parts) → IsFree slots p → find (standing slots) p ≡ None
find_free [] p free = refl
find_free (None ∷ slots) p free = find_free slots p (λ n held. free (suc n) held)
find_free (Some h ∷ slots) p free = find_tail h (standing slots) p (not_same h.place p (free 0 h refl)) ∙ find_free slots p (λ n held. free (suc n) held)

pub without_free : (slots : List (Option Held)) (p : Parts) → IsFree slots p → without (standing slots) p ≡ standing slots
without_free [] p free = refl
without_free (None ∷ slots) p free = without_free slots p (λ n held. free (suc n) held)
without_free (Some h ∷ slots) p free =
    keep_head h (standing slots) p (not_same h.place p (free 0 h refl)) ∙ ap (λ (l : List Held). h ∷ l) (without_free slots p (λ n held. free (suc n) held))

pub changed_free : (change : Held → Held) (slots : List (Option Held)) (p : Parts) → IsFree slots p → changed change (standing slots) p ≡ standing slots
changed_free change [] p free = refl
changed_free change (None ∷ slots) p free = changed_free change slots p (λ n held. free (suc n) held)
changed_free change (Some h ∷ slots) p free =
    change_tail h (standing slots) p change (not_same h.place p (free 0 h refl)) ∙ ap (λ (l : List Held). h ∷ l) (changed_free change slots p (λ n held. free (suc n) held))

module _ (p : Parts) (h : Held) where
  behind : (slot : Option Held) (slots : List (Option Held)) (n : ℕ) → IsAlone (slot ∷ slots) (suc n) h p → IsAlone slots n h p
  behind slot slots n one = record { in_slot = one.in_slot; at_place = one.at_place; alone = λ m other is at. omega (arith, one.alone (suc m) other is at) }

  first_apart : (k : Held) (slots : List (Option Held)) (n : ℕ) → IsAlone (Some k ∷ slots) (suc n) h p → same_place k.place p ≡ false
  first_apart k slots n one = not_same k.place p (λ at. omega (arith, one.alone 0 k refl at))

  is_first : (k : Held) (slots : List (Option Held)) → IsAlone (Some k ∷ slots) 0 h p → k ≡ h
  is_first k slots one = cc one.in_slot

  first_there : (k : Held) (slots : List (Option Held)) → IsAlone (Some k ∷ slots) 0 h p → same_place k.place p ≡ true
  first_there k slots one = (place_decides k.place p).1 (ap (λ (x : Held). x.place) (is_first k slots one) ∙ one.at_place)

  rest_free : (slot : Option Held) (slots : List (Option Held)) → IsAlone (slot ∷ slots) 0 h p → IsFree slots p
  rest_free slot slots one = λ n held is at. omega (arith, one.alone (suc n) held is at)

  pub find_alone : (slots : List (Option Held)) (n : ℕ) → IsAlone slots n h p → find (standing slots) p ≡ Some h
  find_alone [] n one = absurd (cc one.in_slot)
  find_alone (None ∷ slots) zero one = absurd (cc one.in_slot)
  find_alone (None ∷ slots) (suc n) one = find_alone slots n (behind None slots n one)
  find_alone (Some k ∷ slots) zero one = find_head k (standing slots) p (first_there k slots one) ∙ one.in_slot
  find_alone (Some k ∷ slots) (suc n) one = find_tail k (standing slots) p (first_apart k slots n one) ∙ find_alone slots n (behind (Some k) slots n one)

  pub without_alone : (slots : List (Option Held)) (n : ℕ) → IsAlone slots n h p → without (standing slots) p ≡ standing (slice_set slots n None)
  without_alone [] n one = absurd (cc one.in_slot)
  without_alone (None ∷ slots) zero one = absurd (cc one.in_slot)
  without_alone (None ∷ slots) (suc n) one = without_alone slots n (behind None slots n one)
  without_alone (Some k ∷ slots) zero one = drop_head k (standing slots) p (first_there k slots one) ∙ without_free slots p (rest_free (Some k) slots one)
  without_alone (Some k ∷ slots) (suc n) one =
      keep_head k (standing slots) p (first_apart k slots n one) ∙ ap (λ (l : List Held). k ∷ l) (without_alone slots n (behind (Some k) slots n one))

  pub changed_alone : (change : Held → Held) (slots : List (Option Held)) (n : ℕ) → IsAlone slots n h p → changed change (standing slots) p ≡ standing (changed_in change slots n)
  changed_alone change [] n one = absurd (cc one.in_slot)
  changed_alone change (None ∷ slots) zero one = absurd (cc one.in_slot)
  changed_alone change (None ∷ slots) (suc n) one = changed_alone change slots n (behind None slots n one)
  changed_alone change (Some k ∷ slots) zero one = change_head k (standing slots) p change (first_there k slots one)
  changed_alone change (Some k ∷ slots) (suc n) one =
      change_tail k (standing slots) p change (first_apart k slots n one) ∙ ap (λ (l : List Held). k ∷ l) (changed_alone change slots n (behind (Some k) slots n one))

-- One slot after a change.

held_in-emptied : (slots : List (Option Held)) (n : ℕ) → held_in (slice_set slots n None) n ≡ None
held_in-emptied [] n = refl
held_in-emptied (slot ∷ slots) zero = refl
held_in-emptied (slot ∷ slots) (suc n) = held_in-emptied slots n

held_in-other : (slots : List (Option Held)) (n m : ℕ) (new : Option Held) → (n ≡ m → ⊥) → held_in (slice_set slots n new) m ≡ held_in slots m
held_in-other [] n m new apart = refl
held_in-other (slot ∷ slots) zero zero new apart = absurd (apart refl)
held_in-other (slot ∷ slots) zero (suc m) new apart = refl
held_in-other (slot ∷ slots) (suc n) zero new apart = refl
held_in-other (slot ∷ slots) (suc n) (suc m) new apart = held_in-other slots n m new (λ e. apart (ap suc e))

held_in-changed : (change : Held → Held) (slots : List (Option Held)) (n : ℕ) → held_in (changed_in change slots n) n ≡ option_map change (held_in slots n)
held_in-changed change [] n = refl
held_in-changed change (slot ∷ slots) zero = refl
held_in-changed change (slot ∷ slots) (suc n) = held_in-changed change slots n

held_in-unchanged : (change : Held → Held) (slots : List (Option Held)) (n m : ℕ) → (n ≡ m → ⊥) → held_in (changed_in change slots n) m ≡ held_in slots m
held_in-unchanged change [] n m apart = refl
held_in-unchanged change (slot ∷ slots) zero zero apart = absurd (apart refl)
held_in-unchanged change (slot ∷ slots) zero (suc m) apart = refl
held_in-unchanged change (slot ∷ slots) (suc n) zero apart = refl
held_in-unchanged change (slot ∷ slots) (suc n) (suc m) apart = held_in-unchanged change slots n m (λ e. apart (ap suc e))

pushed_old : (slots : List (Option Held)) (n : ℕ) (held : Held) (new : Option Held) → held_in slots n ≡ Some held → held_in (slots ++ new ∷ []) n ≡ Some held
pushed_old [] n held new is = absurd (cc)
pushed_old (slot ∷ slots) zero held new is = is
pushed_old (slot ∷ slots) (suc n) held new is = pushed_old slots n held new is

pushed_new : (slots : List (Option Held)) (new : Option Held) → held_in (slots ++ new ∷ []) (length slots) ≡ new
pushed_new [] new = refl
pushed_new (slot ∷ slots) new = pushed_new slots new

pushed_which : (slots : List (Option Held)) (n : ℕ) (h held : Held) → held_in (slots ++ Some h ∷ []) n ≡ Some held → (held_in slots n ≡ Some held) ⊎ ((n ≡ length slots) × (held ≡ h))
pushed_which [] zero h held is = inr (refl, cc)
pushed_which [] (suc n) h held is = absurd (cc)
pushed_which (slot ∷ slots) zero h held is = inl is
pushed_which (slot ∷ slots) (suc n) h held is = elim (pushed_which slots n h held is) [
  | inl old ↦ inl old
  | inr new ↦ inr (ap suc new.0, new.1)
]

standing-push : (slots : List (Option Held)) (h : Held) → standing (slots ++ Some h ∷ []) ≡ standing slots ++ h ∷ []
standing-push [] h = refl
standing-push (None ∷ slots) h = standing-push slots h
standing-push (Some k ∷ slots) h = ap (λ (l : List Held). k ∷ l) (standing-push slots h)

-- The numbers after a change.

pub numbered_empty : (told : Parts → Option ℕ) → ((p : Parts) → told p ≡ None) → AreNumbered [] told
numbered_empty told none = record { each = λ n held is. absurd (cc); there = λ p n is. absurd (cc (none p, is)) }

pub numbered_without : (slots : List (Option Held)) (f g : Parts → Option ℕ) (p : Parts) (n : ℕ) (h : Held) → AreNumbered slots f → IsAlone slots n h p → Tells f g p None → AreNumbered (slice_set slots n None) g
numbered_without slots f g p n h numbered one tells = record {
  each = λ m held is. by_number n m
      (λ e. absurd (cc (is, held_in-emptied slots n, ap (held_in (slice_set slots n None)) e)))
      (λ apart. let old : held_in slots m ≡ Some held = sym (held_in-other slots n m None apart) ∙ is in
      tells.others held.place (λ at. apart (sym (one.alone m held old (sym at)))) ∙ numbered.each m held old);
  there = λ q m is. by_place p q
      (λ at. absurd (cc (is, tells.here, ap g at)))
      (λ off. let it = numbered.there q m (sym (tells.others q off) ∙ is) in
      let one_file : n ≡ m → h ≡ it.0 = λ e. cc (one.in_slot, it.1, ap (held_in slots) e) in
      let apart : n ≡ m → ⊥ = λ e. off (sym one.at_place ∙ ap (λ (x : Held). x.place) (one_file e) ∙ it.2) in
      (it.0, held_in-other slots n m None apart ∙ it.1, it.2));
}

pub numbered_push : (slots : List (Option Held)) (f g : Parts → Option ℕ) (h : Held) → AreNumbered slots f → f h.place ≡ None → Tells f g h.place (Some (length slots)) → AreNumbered (slots ++ Some h ∷ []) g
numbered_push slots f g h numbered none tells = record {
  each = λ m held is. elim (pushed_which slots m h held is) [
    | inl old ↦ tells.others held.place (λ at. absurd (cc (none, numbered.each m held old, ap f at))) ∙ numbered.each m held old
    | inr new ↦ ap (λ (x : Held). g x.place) new.1 ∙ tells.here ∙ ap (λ (k : ℕ). Some k) (sym new.0)
  ];
  there = λ q m is. by_place h.place q
      (λ at. let e : length slots ≡ m = cc (is, tells.here, ap g at) in (h, ap (held_in (slots ++ Some h ∷ [])) (sym e) ∙ pushed_new slots (Some h), at))
      (λ off. let it = numbered.there q m (sym (tells.others q off) ∙ is) in (it.0, pushed_old slots m it.0 (Some h) it.1, it.2));
}

pub numbered_changed : (change : Held → Held) → ((x : Held) → (change x).place ≡ x.place) → (slots : List (Option Held)) (f : Parts → Option ℕ) (n : ℕ) → AreNumbered slots f → AreNumbered (changed_in change slots n) f
numbered_changed change stays slots f n numbered = record {
  each = λ m held is. by_number n m
      (λ e. let new : option_map change (held_in slots m) ≡ Some held = sym (ap (λ (k : ℕ). option_map change (held_in slots k)) e) ∙ sym (held_in-changed change slots n) ∙ ap (held_in (changed_in change slots n)) e ∙ is in
      changed_each m held (held_in slots m) refl new)
      (λ apart. numbered.each m held (sym (held_in-unchanged change slots n m apart) ∙ is));
  there = λ q m is.
      let it = numbered.there q m is in
      by_number n m
      (λ e. (change it.0, ap (held_in (changed_in change slots n)) (sym e) ∙ held_in-changed change slots n ∙ ap (λ (k : ℕ). option_map change (held_in slots k)) e ∙ ap (option_map change) it.1, stays it.0 ∙ it.2))
      (λ apart. (it.0, held_in-unchanged change slots n m apart ∙ it.1, it.2));
}
  where
    changed_each : (m : ℕ) (held : Held) (slot : Option Held) → held_in slots m ≡ slot → option_map change slot ≡ Some held → f held.place ≡ Some m
    changed_each m held None at new = absurd (cc)
    changed_each m held (Some k) at new = let same : held ≡ change k = cc new in ap (λ (x : Held). f x.place) same ∙ ap f (stays k) ∙ numbered.each m k at

-- The files after a change of the slots and the index.

pub record AreNow (slots : List (Option Held)) (told : Parts → Option ℕ) (files : List Held) : Type 0 where
  pub numbered : AreNumbered slots told
  pub are : standing slots ≡ files

erased : (f : Parts → Option ℕ) (p : Parts) → Tells f (without_number f p) p None
erased f p = record { here = none_there f p; others = λ q off. still_there f p q off }

pub files_taken : (slots : List (Option Held)) (f g : Parts → Option ℕ) (p : Parts) (n : ℕ) → AreNumbered slots f → f p ≡ Some n → Tells f g p None → AreNow (slice_set slots n None) g (without (standing slots) p)
files_taken slots f g p n numbered some tells =
    let it = alone_where slots f p n numbered some in
    record { numbered = numbered_without slots f g p n it.0 numbered it.1 tells; are = sym (without_alone p it.0 slots n it.1) }

pub file_found : (slots : List (Option Held)) (f : Parts → Option ℕ) (p : Parts) (n : ℕ) → AreNumbered slots f → f p ≡ Some n → held_in slots n ≡ find (standing slots) p
file_found slots f p n numbered some =
    let it = alone_where slots f p n numbered some in
    it.1.in_slot ∙ sym (find_alone p it.0 slots n it.1)

pub files_put : (slots : List (Option Held)) (f g : Parts → Option ℕ) (h : Held) (old : Option ℕ) → AreNumbered slots f → old ≡ f h.place → Tells f g h.place (Some (length slots))
    → AreNow (cleared slots old ++ Some h ∷ []) g (put h (standing slots))
files_put slots f g h None numbered is tells = record {
  numbered = numbered_push slots f g h numbered (sym is) tells;
  are = standing-push slots h ∙ ap (λ (l : List Held). l ++ h ∷ []) (sym (without_free slots h.place (free_where slots f h.place numbered (sym is))));
}
files_put slots f g h (Some n) numbered is tells =
    let rest = slice_set slots n None in
    let mid = files_taken slots f (without_number f h.place) h.place n numbered (sym is) (erased f h.place) in
    let more : Tells (without_number f h.place) g h.place (Some (length rest)) = record {
      here = tells.here ∙ ap (λ (k : ℕ). Some k) (sym (length-set slots n None));
      others = λ q off. tells.others q off ∙ sym (still_there f h.place q off);
    } in
    record {
      numbered = numbered_push rest (without_number f h.place) g h mid.numbered (none_there f h.place) more;
      are = standing-push rest h ∙ ap (λ (l : List Held). l ++ h ∷ []) mid.are;
    }

pub files_changed : (change : Held → Held) → ((x : Held) → (change x).place ≡ x.place) → (slots : List (Option Held)) (f : Parts → Option ℕ) (p : Parts) (n : ℕ) → AreNumbered slots f → f p ≡ Some n
    → AreNow (changed_in change slots n) f (changed change (standing slots) p)
files_changed change stays slots f p n numbered some =
    let it = alone_where slots f p n numbered some in
    record { numbered = numbered_changed change stays slots f n numbered; are = sym (changed_alone p it.0 change slots n it.1) }

pub files_renamed : (slots : List (Option Held)) (f g : Parts → Option ℕ) (from to : Parts) (n : ℕ) (h : Held) (old : Option ℕ) → AreNumbered slots f → f from ≡ Some n → held_in slots n ≡ Some h
    → old ≡ without_number f from to → Tells (without_number f from) g to (Some (length slots)) → AreNow (cleared (slice_set slots n None) old ++ Some (moved to h) ∷ []) g (renamed from to (standing slots))
files_renamed slots f g from to n h old numbered some is left tells =
    let rest = slice_set slots n None in
    let mid = files_taken slots f (without_number f from) from n numbered some (erased f from) in
    let more : Tells (without_number f from) g to (Some (length rest)) = record { here = tells.here ∙ ap (λ (k : ℕ). Some k) (sym (length-set slots n None)); others = tells.others } in
    let done = files_put rest (without_number f from) g (moved to h) old mid.numbered left more in
    let found : find (standing slots) from ≡ Some h = sym (file_found slots f from n numbered some) ∙ is in
    record {
      numbered = done.numbered;
      are = done.are ∙ ap (put (moved to h)) mid.are ∙ sym (ap (λ (o : Option Held). renamed_by o from to (standing slots)) found);
    }
