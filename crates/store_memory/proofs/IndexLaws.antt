-- What an index tells behind a change of the map that keeps it.
use Rattle.std.proofs.Common.{◌≡◌, ℕ, Bool, true, false, cond, List, [], ◌∷◌, Option, Some, None, Ordering, Less, Equal, Greater, is_eq, nat_cmp, refl, sym, ap, ◌∙◌}
use Rattle.std.proofs.lemmas.Cmp.{nat_list_cmp_total, lists_total, tied_itself}
use Rattle.std.proofs.lemmas.Map.Lookups.{exact_bytes}
use Rattle.std.specs.Cmp.Lexicographic.{slice_cmp}
use Rattle.std.specs.Ordering.{match_ordering, ordering_then}
use Rattle.std.specs.Map.{lookup, remove_entry}
use Rattle.std.specs.BTreeMap.{insert_entry, is_at}
use Rattle.std.specs.Global.{Vec}
use Rattle.ice_store.specs.Places.{Parts, same_place}
use Rattle.ice_store.proofs.FileLaws.{by_test, place_decides, same_itself, not_same}
use Rattle.store_memory.specs.Slots.{Index, number_at, index_of, without_number, Tells}

abbrev Entry : Type 0
Entry = Vec (List ℕ) × ℕ

abbrev by_parts : Parts → Parts → Ordering
by_parts = slice_cmp (slice_cmp nat_cmp)

-- Places that tie in the order of their parts are one place.

both_equal : (o p : Ordering) → ordering_then o p ≡ Equal → (o ≡ Equal) × (p ≡ Equal)
both_equal Less p e = absurd (cc)
both_equal Equal p e = (refl, e)
both_equal Greater p e = absurd (cc)

exact_parts : (p q : Parts) → by_parts p q ≡ Equal → p ≡ q
exact_parts [] [] e = refl
exact_parts [] (y ∷ ys) e = absurd (cc)
exact_parts (x ∷ xs) [] e = absurd (cc)
exact_parts (x ∷ xs) (y ∷ ys) e =
    let both = both_equal (slice_cmp nat_cmp x y) (by_parts xs ys) e in
    let first : x ≡ y = exact_bytes x y both.0 in
    let rest : xs ≡ ys = exact_parts xs ys both.1 in
    λ i. first i ∷ rest i

is_equal : (o : Ordering) → is_eq o ≡ true → o ≡ Equal
is_equal Less e = absurd (cc)
is_equal Equal e = refl
is_equal Greater e = absurd (cc)

pub tied : (p : Parts) → is_at (by_parts p) p ≡ true
tied p = ap is_eq (tied_itself (lists_total nat_list_cmp_total) p)

pub untied : (p q : Parts) → (p ≡ q → ⊥) → is_at (by_parts p) q ≡ false
untied p q other = by_test (is_at (by_parts p) q)
    (λ e. absurd (other (exact_parts p q (is_equal (by_parts p q) e))))
    (λ e. e)

-- The map's entries, and the index that they are.

pub number_at-index_of : (p : Parts) (es : List Entry) → lookup (is_at (λ k. by_parts p k.items)) es ≡ number_at (index_of es) p
number_at-index_of p [] = refl
number_at-index_of p (e ∷ es) = rw (number_at-index_of p es) refl

index_of-match_ordering : (o : Ordering) (a b c : List Entry) → index_of (match_ordering o a b c) ≡ match_ordering o (index_of a) (index_of b) (index_of c)
index_of-match_ordering Less a b c = refl
index_of-match_ordering Equal a b c = refl
index_of-match_ordering Greater a b c = refl

index_of-insert_entry : (es : List Entry) (k : Vec (List ℕ)) (n : ℕ) → index_of (insert_entry (λ x y. by_parts x.items y.items) es k n) ≡ insert_entry by_parts (index_of es) k.items n
index_of-insert_entry [] k n = refl
index_of-insert_entry (e ∷ es) k n = index_of-match_ordering (by_parts k.items e.0.items) _ _ _ ∙ rw (index_of-insert_entry es k n) refl

index_of-cond : (b : Bool) (x y : List Entry) → index_of (cond b x y) ≡ cond b (index_of x) (index_of y)
index_of-cond true x y = refl
index_of-cond false x y = refl

index_of-remove_entry : (p : Parts) (es : List Entry) → index_of (remove_entry (is_at (λ k. by_parts p k.items)) es) ≡ remove_entry (is_at (by_parts p)) (index_of es)
index_of-remove_entry p [] = refl
index_of-remove_entry p (e ∷ es) = index_of-cond (is_at (λ k. by_parts p k.items) e.0) _ _ ∙ rw (index_of-remove_entry p es) refl

-- What is told at the other places.

inserted_other : (es : Index) (p q : Parts) (n : ℕ) → (p ≡ q → ⊥) → number_at (insert_entry by_parts es p n) q ≡ number_at es q
inserted_other [] p q n other = rw (untied q p (λ e. other (sym e))) refl
inserted_other (e ∷ es) p q n other =
    elim (by_parts p e.0) as (λ o. by_parts p e.0 ≡ o → number_at (match_ordering o ((p, n) ∷ e ∷ es) ((e.0, n) ∷ es) (e ∷ insert_entry by_parts es p n)) q ≡ number_at (e ∷ es) q) [
      | Less ↦ λ k. rw (untied q p (λ e. other (sym e))) refl
      | Equal ↦ λ k. rw (untied q e.0 (λ at. other (exact_parts p e.0 k ∙ sym at))) refl
      | Greater ↦ λ k. ap (λ (o : Option ℕ). cond (is_at (by_parts q) e.0) (Some e.1) o) (inserted_other es p q n other)
    ] refl

removed_other : (es : Index) (p q : Parts) → (p ≡ q → ⊥) → number_at (remove_entry (is_at (by_parts p)) es) q ≡ number_at es q
removed_other [] p q other = refl
removed_other (e ∷ es) p q other = by_test (is_at (by_parts p) e.0)
    (λ k. rw (k, untied q e.0 (λ at. other (exact_parts p e.0 (is_equal (by_parts p e.0) k) ∙ sym at))) refl)
    (λ k. rw k (ap (λ (o : Option ℕ). cond (is_at (by_parts q) e.0) (Some e.1) o) (removed_other es p q other)))

pub inserted : (es fs : List Entry) (k : Vec (List ℕ)) (n : ℕ) → fs ≡ insert_entry (λ x y. by_parts x.items y.items) es k n → lookup (is_at (λ j. by_parts k.items j.items)) fs ≡ Some n
    → Tells (number_at (index_of es)) (number_at (index_of fs)) k.items (Some n)
inserted es fs k n is found = record {
  here = sym (number_at-index_of k.items fs) ∙ found;
  others = λ q other. ap (λ (l : Index). number_at l q) (ap index_of is ∙ index_of-insert_entry es k n) ∙ inserted_other (index_of es) k.items q n other;
}

pub removed : (es fs : List Entry) (p : Parts) → fs ≡ remove_entry (is_at (λ k. by_parts p k.items)) es → lookup (is_at (λ k. by_parts p k.items)) fs ≡ None
    → Tells (number_at (index_of es)) (number_at (index_of fs)) p None
removed es fs p is none = record {
  here = sym (number_at-index_of p fs) ∙ none;
  others = λ q other. ap (λ (l : Index). number_at l q) (ap index_of is ∙ index_of-remove_entry p es) ∙ removed_other (index_of es) p q other;
}

-- One number less.

pub none_there : (told : Parts → Option ℕ) (p : Parts) → without_number told p p ≡ None
none_there told p = rw (same_itself p) refl

pub still_there : (told : Parts → Option ℕ) (p q : Parts) → (p ≡ q → ⊥) → without_number told p q ≡ told q
still_there told p q other = rw (not_same p q other) refl

pub renamed_same : (f g : Parts → Option ℕ) (from to : Parts) (number : Option ℕ) → from ≡ to → Tells f g to number → Tells (without_number f from) g to number
renamed_same f g from to number same tells = record {
  here = tells.here;
  others = λ q other. tells.others q other ∙ sym (still_there f from q (λ e. other (sym same ∙ e)));
}

pub renamed_other : (f g h : Parts → Option ℕ) (from to : Parts) (number : Option ℕ) → (from ≡ to → ⊥) → Tells f g to number → Tells g h from None → Tells (without_number f from) h to number
renamed_other f g h from to number apart first next = record {
  here = next.others to apart ∙ first.here;
  others = λ q other. by_test (same_place from q)
      (λ e. let at : from ≡ q = (place_decides from q).0 e in ap h (sym at) ∙ next.here ∙ sym (none_there f from) ∙ ap (without_number f from) at)
      (λ e. let off : from ≡ q → ⊥ = λ at. absurd (cc (e, (place_decides from q).1 at)) in next.others q off ∙ first.others q other ∙ sym (still_there f from q off));
}
