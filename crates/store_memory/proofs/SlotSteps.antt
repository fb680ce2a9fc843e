-- The slot with a number, as a `Vec` lends it.
use Rattle.std.proofs.Common.{◌≡◌, Bool, map, filter, ℕ, zero, suc, ◌+◌, ◌≤◌, ◌<◌, List, [], ◌∷◌, ◌++◌, length, take, get_or, slice_set, slice_get, Option, Some, None, option_map, refl, sym, ap, ◌∙◌, arith, add-one}
use Rattle.std.proofs.lemmas.List.{map-append}
use Rattle.std.proofs.lemmas.List.Elements.{filter-append}
use Rattle.ice_store.specs.declared.history.Held.{Held}
use Rattle.ice_store.specs.declared.store.Listed.{Listed}
use Rattle.ice_store.specs.Places.{Parts, same_place}
use Rattle.ice_store.specs.Files.{find, without}
use Rattle.ice_store.proofs.FileLaws.{by_test, find_head, find_tail, keep_head}
use Rattle.store_memory.specs.Slots.{standing, held_in, changed_in}

pub none_of : (o : Option Held) → ((x : Held) → o ≡ Some x → ⊥) → o ≡ None
none_of None away = refl
none_of (Some x) away = absurd (away x refl)

pub slot_at : (slots : List (Option Held)) (n : ℕ) (x : Option Held) → n < length slots → x ≡ get_or slots n x → x ≡ held_in slots n
slot_at [] n x lt is = absurd (omega arith)
slot_at (slot ∷ slots) zero x lt is = is
slot_at (slot ∷ slots) (suc n) x lt is = slot_at slots n x (omega arith) is

pub slot_past : (slots : List (Option Held)) (n : ℕ) → length slots ≤ n → None ≡ held_in slots n
slot_past [] n le = refl
slot_past (slot ∷ slots) zero le = absurd (omega arith)
slot_past (slot ∷ slots) (suc n) le = slot_past slots n (omega arith)

pub slot_got : (slots : List (Option Held)) (n : ℕ) (x : Option Held) → slice_get slots n ≡ Some x → x ≡ held_in slots n
slot_got [] n x is = absurd (cc)
slot_got (slot ∷ slots) zero x is = cc
slot_got (slot ∷ slots) (suc n) x is = slot_got slots n x is

pub slot_lacks : (slots : List (Option Held)) (n : ℕ) → slice_get slots n ≡ None → None ≡ held_in slots n
slot_lacks [] n is = refl
slot_lacks (slot ∷ slots) zero is = absurd (cc)
slot_lacks (slot ∷ slots) (suc n) is = slot_lacks slots n is

pub set_changed : (change : Held → Held) (slots : List (Option Held)) (n : ℕ) (x : Option Held) → n < length slots → x ≡ get_or slots n x → slice_set slots n (option_map change x) ≡ changed_in change slots n
set_changed change [] n x lt is = absurd (omega arith)
set_changed change (slot ∷ slots) zero x lt is = ap (λ (o : Option Held). option_map change o ∷ slots) is
set_changed change (slot ∷ slots) (suc n) x lt is = ap (λ (l : List (Option Held)). slot ∷ l) (set_changed change slots n x (omega arith) is)

pub past_changed : (change : Held → Held) (slots : List (Option Held)) (n : ℕ) → length slots ≤ n → slots ≡ changed_in change slots n
past_changed change [] n le = refl
past_changed change (slot ∷ slots) zero le = absurd (omega arith)
past_changed change (slot ∷ slots) (suc n) le = ap (λ (l : List (Option Held)). slot ∷ l) (past_changed change slots n (omega arith))

-- The slots one by one.

standing_suc : (slots : List (Option Held)) (n : ℕ) (x : Option Held) → n < length slots → x ≡ get_or slots n x → standing (take n slots) ++ standing (x ∷ []) ≡ standing (take (suc n) slots)
standing_suc [] n x lt is = absurd (omega arith)
standing_suc (slot ∷ slots) zero x lt is = ap (λ (o : Option Held). standing (o ∷ [])) is
standing_suc (None ∷ slots) (suc n) x lt is = standing_suc slots n x (omega arith) is
standing_suc (Some held ∷ slots) (suc n) x lt is = ap (λ (l : List Held). held ∷ l) (standing_suc slots n x (omega arith) is)

pub standing_more : (slots : List (Option Held)) (n : ℕ) (x : Option Held) → n < length slots → x ≡ get_or slots n x → standing (take n slots) ++ standing (x ∷ []) ≡ standing (take (n + 1) slots)
standing_more slots n x lt is = standing_suc slots n x lt is ∙ ap (λ (k : ℕ). standing (take k slots)) (sym (add-one n))

pub listed_more : (f : Held → Listed) (test : Held → Bool) (slots : List (Option Held)) (n : ℕ) (x : Option Held) → n < length slots → x ≡ get_or slots n x
    → map f (filter test (standing (take n slots))) ++ map f (filter test (standing (x ∷ []))) ≡ map f (filter test (standing (take (n + 1) slots)))
listed_more f test slots n x lt is =
    sym (map-append f (filter test (standing (take n slots))) (filter test (standing (x ∷ []))))
    ∙ ap (map f) (sym (filter-append test (standing (take n slots)) (standing (x ∷ []))))
    ∙ ap (λ (l : List Held). map f (filter test l)) (standing_more slots n x lt is)

-- A place where no file stands.

pub without_none : (files : List Held) (place : Parts) → find files place ≡ None → without files place ≡ files
without_none [] place none = refl
without_none (held ∷ files) place none = by_test (same_place held.place place)
    (λ e. absurd (cc (none, find_head held files place e)))
    (λ e. keep_head held files place e ∙ ap (λ (l : List Held). held ∷ l) (without_none files place (sym (find_tail held files place e) ∙ none)))
