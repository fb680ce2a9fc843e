-- Pairs of the metadata in another order: where keys differ, each key keeps its value.
use Rattle.std.proofs.Common.{◌≡◌, ℕ, zero, suc, List, [], ◌∷◌, map, Some, None, refl, sym, ap, ◌∙◌, cond, Bool, true, false, subst, arith, ◌||◌}
use Rattle.std.specs.List.{find, Contains, AllByRecursion, IsDistinct, All, list_any}
use Rattle.std.specs.List.Sorted.{IsPermutation}
use Rattle.std.specs.Option.{option_map}
use Rattle.std.specs.Str.{bytes_eq}
use Rattle.std.proofs.lemmas.Slice.Eq.{bytes_eq-Decides}
use Rattle.std.proofs.lemmas.List.Sorted.{Contains-permutation, IsPermutation-sym, IsPermutation-reverse}
use mathlib.Core.List.{reverse}
use Rattle.avro_container.specs.Container.{Pair, value_of}

some_same : {A : Type 0} {x y : A} → Some x ≡ Some y → x ≡ y
some_same e = cc

module _ {A : Type 0} where
  -- the element found is in the list and passes
  pub find_some : (p : A → Bool) (xs : List A) (e : A) → find p xs ≡ Some e → Contains xs e × (p e ≡ true)
  find_some p [] e h = absurd cc
  find_some p (x ∷ xs) e h =
      elim (p x) as (λ t. p x ≡ t → cond t (Some x) (find p xs) ≡ Some e → Contains (x ∷ xs) e × (p e ≡ true)) [
        | true ↦ λ t h. (let same : x ≡ e = some_same h in ((0, omega arith, same), subst (λ y. p y ≡ true) same t))
        | false ↦ λ t h. (let more = find_some p xs e h in ((suc more.0.0, omega (arith, more.0.1), more.0.2), more.1))
      ] refl h

  no_head : (p : A → Bool) (x : A) (xs : List A) → find p (x ∷ xs) ≡ None → (p x ≡ false) × (find p xs ≡ None)
  no_head p x xs h = elim (p x) as (λ t. cond t (Some x) (find p xs) ≡ None → (t ≡ false) × (find p xs ≡ None)) [ true ↦ λ h. absurd cc | false ↦ λ h. (refl, h) ] h

  -- where none is found, none passes
  pub find_none : (p : A → Bool) (xs : List A) → find p xs ≡ None → (e : A) → Contains xs e → p e ≡ false
  find_none p [] h e (k, within, is) = absurd (omega arith)
  find_none p (x ∷ xs) h e (zero, within, is) = subst (λ y. p y ≡ false) is (no_head p x xs h).0
  find_none p (x ∷ xs) h e (suc k, within, is) = find_none p xs (no_head p x xs h).1 e (k, omega arith, is)

  -- where none passes, no test of any passes
  pub any_none : (p : A → Bool) (xs : List A) → list_any p xs ≡ false → (e : A) → Contains xs e → p e ≡ false
  any_none p [] h e (k, within, is) = absurd (omega arith)
  any_none p (x ∷ xs) h e (zero, within, is) = subst (λ y. p y ≡ false) is (first (p x) (list_any p xs) h)
    where
      first : (a b : Bool) → (a || b) ≡ false → a ≡ false
      first true b e = e
      first false b e = refl
  any_none p (x ∷ xs) h e (suc k, within, is) = any_none p xs (others (p x) (list_any p xs) h) e (k, omega arith, is)
    where
      others : (a b : Bool) → (a || b) ≡ false → b ≡ false
      others true b e = absurd cc
      others false b e = e

  -- where one passes, one is in the list
  pub any_some : (p : A → Bool) (xs : List A) → list_any p xs ≡ true → (e : A) × Contains xs e × (p e ≡ true)
  any_some p [] h = absurd cc
  any_some p (x ∷ xs) h =
      elim (p x) as (λ t. p x ≡ t → (t || list_any p xs) ≡ true → (e : A) × Contains (x ∷ xs) e × (p e ≡ true)) [
        | true ↦ λ t h. (x, (0, omega arith, refl), t)
        | false ↦ λ t h. (let more = any_some p xs h in (more.0, (suc more.1.0, omega (arith, more.1.1), more.1.2), more.2))
      ] refl h

  pub each_of : {B : Type 0} (P : B → Type 0) (f : A → B) (xs : List A) (e : A) → AllByRecursion P (map f xs) → Contains xs e → P (f e)
  each_of P f [] e h (k, within, is) = absurd (omega arith)
  each_of P f (x ∷ xs) e h (zero, within, is) = subst (λ y. P (f y)) is h.0
  each_of P f (x ∷ xs) e h (suc k, within, is) = each_of P f xs e h.1 (k, omega arith, is)

  pub all_by_recursion : (P : A → Type 0) (xs : List A) → All P xs → AllByRecursion P xs
  all_by_recursion P [] h = tt
  all_by_recursion P (x ∷ xs) h = (h 0 x (omega arith), all_by_recursion P xs (λ k d within. h (suc k) d (omega arith)))

-- a key stands in one pair alone
distinct_same : (xs : List Pair) (d e : Pair) → IsDistinct bytes_eq (map (λ p. p.0) xs) → Contains xs d → Contains xs e → d.0 ≡ e.0 → d ≡ e
unfolding IsDistinct
distinct_same [] d e h (k, within, is) i same = absurd (omega arith)
distinct_same (x ∷ xs) d e h (zero, a, is) (zero, b, are) same = sym is ∙ are
distinct_same (x ∷ xs) d e h (suc k, a, is) (suc j, b, are) same = distinct_same xs d e h.1 (k, omega arith, is) (j, omega arith, are) same
distinct_same (x ∷ xs) d e h (zero, a, is) (suc j, b, are) same =
    let differs : bytes_eq x.0 e.0 ≡ false = each_of (λ k. bytes_eq x.0 k ≡ false) (λ p. p.0) xs e h.0 (j, omega arith, are) in
    let equal : bytes_eq x.0 e.0 ≡ true = (bytes_eq-Decides x.0 e.0).1 (ap (λ p. p.0) is ∙ same) in absurd cc
distinct_same (x ∷ xs) d e h (suc k, a, is) (zero, b, are) same =
    let differs : bytes_eq x.0 d.0 ≡ false = each_of (λ k. bytes_eq x.0 k ≡ false) (λ p. p.0) xs d h.0 (k, omega arith, is) in
    let equal : bytes_eq x.0 d.0 ≡ true = (bytes_eq-Decides x.0 d.0).1 (ap (λ p. p.0) are ∙ sym same) in absurd cc

-- the pair whose value counts
pub value_pair : (key v : List ℕ) (xs : List Pair) → value_of key xs ≡ Some v → (e : Pair) × Contains xs e × (e.0 ≡ key) × (e.1 ≡ v)
value_pair key v xs h =
    elim (find (λ e. bytes_eq e.0 key) (reverse xs)) as (λ o. find (λ e. bytes_eq e.0 key) (reverse xs) ≡ o → option_map (λ e. e.1) o ≡ Some v → (e : Pair) × Contains xs e × (e.0 ≡ key) × (e.1 ≡ v)) [
      | None ↦ λ o h. absurd cc
      | Some e ↦ λ o h. (
          let found = find_some (λ e. bytes_eq e.0 key) (reverse xs) e o in
          (e, Contains-permutation (reverse xs) xs e (IsPermutation-sym xs (reverse xs) (IsPermutation-reverse xs)) found.0, (bytes_eq-Decides e.0 key).0 found.1, some_same h))
    ] refl h

pub value_none : (key : List ℕ) (xs : List Pair) → value_of key xs ≡ None → (e : Pair) → Contains xs e → e.0 ≡ key → ⊥
value_none key xs h e inside same =
    elim (find (λ e. bytes_eq e.0 key) (reverse xs)) as (λ o. find (λ e. bytes_eq e.0 key) (reverse xs) ≡ o → option_map (λ (e : Pair). e.1) o ≡ None → ⊥) [
      | None ↦ λ o h. (
          let fails = find_none (λ e. bytes_eq e.0 key) (reverse xs) o e (Contains-permutation xs (reverse xs) e (IsPermutation-reverse xs) inside) in
          let passes : bytes_eq e.0 key ≡ true = (bytes_eq-Decides e.0 key).1 same in absurd cc)
      | Some d ↦ λ o h. absurd cc
    ] refl h

-- the value of a key of which all pairs have one value
pub value_is : (key v : List ℕ) (xs : List Pair) → ((e : Pair) → Contains xs e → e.0 ≡ key → e.1 ≡ v) → (e : Pair) → Contains xs e → e.0 ≡ key → value_of key xs ≡ Some v
value_is key v xs each e inside same =
    elim (value_of key xs) as (λ o. value_of key xs ≡ o → o ≡ Some v) [
      | None ↦ λ o. absurd (value_none key xs o e inside same)
      | Some w ↦ λ o. (let p = value_pair key w xs o in ap Some (sym p.3 ∙ each p.0 p.1 p.2))
    ] refl

-- where keys differ, all pairs of a key have its value
pub one_value : (key v : List ℕ) (xs : List Pair) → IsDistinct bytes_eq (map (λ p. p.0) xs) → value_of key xs ≡ Some v → (e : Pair) → Contains xs e → e.0 ≡ key → e.1 ≡ v
one_value key v xs h is e inside same =
    let p = value_pair key v xs is in
    ap (λ d. d.1) (distinct_same xs e p.0 h inside p.1 (same ∙ sym p.2)) ∙ p.3

-- the same, in another order
pub value_moved : (key v : List ℕ) (xs ys : List Pair) → IsPermutation xs ys → ((e : Pair) → Contains xs e → e.0 ≡ key → e.1 ≡ v) → (e : Pair) → Contains xs e → e.0 ≡ key → value_of key ys ≡ Some v
value_moved key v xs ys moved each e inside same =
    value_is key v ys (λ d there. each d (Contains-permutation ys xs d (IsPermutation-sym xs ys moved) there)) e (Contains-permutation xs ys e moved inside) same
