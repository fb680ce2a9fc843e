-- Which number a name has.
use Rattle.std.proofs.Common.{◌≡◌, ℕ, true, false, List, [], ◌∷◌, ◌++◌, length, length-append, append_assoc, Option, Some, None, MatchOption, Bor, nat_eq, refl, sym, ap, ◌∙◌, arith}
use Rattle.std.specs.Cmp.Lexicographic.{pointwise}
use Rattle.std.proofs.lemmas.Slice.Eq.{bytes_eq-Decides}
use Rattle.std.proofs.lemmas.Bool.{eqb-true}
use Rattle.ice_store.specs.Places.{Parts, is_under}
use Rattle.ice_store.proofs.FileLaws.{by_test}
use Rattle.commit_history.specs.Versions.{ending, folder, before_ending, number_of, name_number, rest_number, number_in}
use Rattle.commit_versions.specs.Digits.{last_first}

too_long : (d : ℕ) (ds : List ℕ) → (d ∷ ds) ++ ending ≡ ending → ⊥
too_long d ds e = omega (arith, ap length e, length-append (d ∷ ds) ending)

-- what stands before the ending is found
before_ending-found : (front ds : List ℕ) → before_ending front (ds ++ ending) ≡ Some (last_first front ds)
before_ending-found front [] = refl
before_ending-found front (d ∷ ds) = by_test (pointwise nat_eq (d ∷ (ds ++ ending)) ending)
    (λ t. absurd (too_long d ds ((bytes_eq-Decides (d ∷ (ds ++ ending)) ending).0 t)))
    (λ t. miss t ∙ before_ending-found (d ∷ front) ds)
  where
    miss : pointwise nat_eq (d ∷ (ds ++ ending)) ending ≡ false → before_ending front (d ∷ (ds ++ ending)) ≡ before_ending (d ∷ front) (ds ++ ending)
    miss t = rw t refl

-- and nothing where the ending lacks
before_ending-none : (front s : List ℕ) → ((ds : List ℕ) → s ≡ ds ++ ending → ⊥) → before_ending front s ≡ None
before_ending-none front [] lacks = refl
before_ending-none front (c ∷ rest) lacks = by_test (pointwise nat_eq (c ∷ rest) ending)
    (λ t. absurd (lacks [] ((bytes_eq-Decides (c ∷ rest) ending).0 t)))
    (λ t. miss t ∙ before_ending-none (c ∷ front) rest (λ ds e. lacks (c ∷ ds) (ap (λ (l : List ℕ). c ∷ l) e)))
  where
    miss : pointwise nat_eq (c ∷ rest) ending ≡ false → before_ending front (c ∷ rest) ≡ before_ending (c ∷ front) rest
    miss t = rw t refl

pub name_number-ends : (ds : List ℕ) → name_number (118 ∷ (ds ++ ending)) ≡ number_of (Some (last_first [] ds))
name_number-ends ds = ap number_of (before_ending-found [] ds)

name_number-none : (rest : List ℕ) → ((ds : List ℕ) → rest ≡ ds ++ ending → ⊥) → name_number (118 ∷ rest) ≡ 0
name_number-none rest lacks = ap number_of (before_ending-none [] rest lacks)

-- a name that begins with another byte
pub name_number-other : (name : List ℕ) → ((rest : List ℕ) → name ≡ 118 ∷ rest → ⊥) → name_number name ≡ 0
name_number-other [] lacks = refl
name_number-other (c ∷ rest) lacks = by_test (nat_eq c 118)
    (λ t. absurd (lacks rest (ap (λ (x : ℕ). x ∷ rest) (eqb-true c 118 t))))
    (λ t. miss t)
  where
    miss : nat_eq c 118 ≡ false → name_number (c ∷ rest) ≡ 0
    miss t = rw t refl

-- a place under the table
pub number_in-under : (table rest : Parts) → number_in table (table ++ rest) ≡ rest_number rest
number_in-under [] rest = refl
number_in-under (t ∷ ts) rest = rw ((bytes_eq-Decides t t).1 refl) (number_in-under ts rest)

pub number_in-named : (table dir place : Parts) (name : List ℕ) → dir ≡ table ++ folder ∷ [] → place ≡ dir ++ name ∷ [] → number_in table place ≡ name_number name
number_in-named table dir place name is named =
    ap (number_in table) (named ∙ ap (λ (p : Parts). p ++ name ∷ []) is ∙ append_assoc table (folder ∷ []) (name ∷ [])) ∙ number_in-under table (folder ∷ name ∷ [])

-- and one elsewhere
pub number_in-outside : (table place : Parts) → is_under place table ≡ false → number_in table place ≡ 0
number_in-outside [] place e = absurd (cc (e))
number_in-outside (t ∷ ts) [] e = refl
number_in-outside (t ∷ ts) (part ∷ place) e = by_test (pointwise nat_eq t part)
    (λ k. on k ∙ number_in-outside ts place (sym (same k) ∙ e))
    (λ k. off k)
  where
    on : pointwise nat_eq t part ≡ true → number_in (t ∷ ts) (part ∷ place) ≡ number_in ts place
    on k = rw k refl

    same : pointwise nat_eq t part ≡ true → is_under (part ∷ place) (t ∷ ts) ≡ is_under place ts
    same k = rw k refl

    off : pointwise nat_eq t part ≡ false → number_in (t ∷ ts) (part ∷ place) ≡ 0
    off k = rw k refl

-- the digits in a name, as a reader finds them
pub name_number-read : (name rest : List ℕ) (r : Option (Bor (List ℕ))) → name ≡ 118 ∷ rest → MatchOption r ((front : List ℕ) → rest ≡ front ++ ending → ⊥) (λ x. rest ≡ x.now ++ ending)
    → MatchOption r (name_number name ≡ 0) (λ x. name_number name ≡ number_of (Some (last_first [] x.now)))
name_number-read name rest None is found = ap name_number is ∙ name_number-none rest found
name_number-read name rest (Some x) is found = ap name_number (is ∙ ap (λ (l : List ℕ). 118 ∷ l) found) ∙ name_number-ends x.now
