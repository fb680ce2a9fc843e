-- Of the version places that show a number beyond the limit one alone is the first.
use Rattle.std.proofs.Common.{◌≡◌, ℕ, ◌<◌, false, List, [], ◌∷◌, ◌++◌, Less, Equal, Greater, Ordering, refl, sym, ap, ◌∙◌, subst, append-nil, arith}
use Rattle.std.specs.Cmp.Lexicographic.{slice_cmp}
use Rattle.std.specs.FinMap.{slice_cmp-IsAntisymmetric, nat_cmp-IsAntisymmetric}
use Rattle.std.specs.Ordering.{nat_cmp, is_lt, ordering_reverse}
use Rattle.std.proofs.lemmas.Cmp.{nat_list_cmp_total}
use Rattle.std.proofs.lemmas.List.{append_cancel_left}
use Rattle.ice_store.specs.Places.{Parts, joined}
use Rattle.commit_history.specs.Versions.{number_in, folder}
use Rattle.commit_history.proofs.Numbering.{rest_of, same_part, same_number}
use Rattle.commit_versions.specs.Opening.{comes_before}

-- neither text comes before the other
same_text : (a b : List ℕ) → is_lt (slice_cmp nat_cmp a b) ≡ false → is_lt (slice_cmp nat_cmp b a) ≡ false → a ≡ b
same_text a b one two = by (slice_cmp nat_cmp a b) refl
  where
    by : (o : Ordering) → slice_cmp nat_cmp a b ≡ o → a ≡ b
    by Less e = let k : is_lt Less ≡ false = sym (ap is_lt e) ∙ one in absurd (cc (k))
    by Equal e = slice_cmp-IsAntisymmetric nat_cmp-IsAntisymmetric a b e
    by Greater e =
        let back : slice_cmp nat_cmp b a ≡ Less = nat_list_cmp_total.antisymm b a ∙ ap ordering_reverse e in
        let k : is_lt Less ≡ false = sym (ap is_lt back) ∙ two in absurd (cc (k))

joined_more : (part : List ℕ) (p : Parts) → joined (part ∷ p) ≡ (47 ∷ part) ++ joined p
joined_more part p = refl

joined_rest : (name : List ℕ) → joined (folder ∷ name ∷ []) ≡ (47 ∷ folder) ++ ((47 ∷ name) ++ [])
joined_rest name = refl

same_rest : (a b : List ℕ) → joined (folder ∷ a ∷ []) ≡ joined (folder ∷ b ∷ []) → a ≡ b
same_rest a b e =
    let tails : (47 ∷ a) ++ [] ≡ (47 ∷ b) ++ [] = append_cancel_left (47 ∷ folder) ((47 ∷ a) ++ []) ((47 ∷ b) ++ []) e in
    let whole : 47 ∷ a ≡ 47 ∷ b = sym (append-nil (47 ∷ a)) ∙ tails ∙ append-nil (47 ∷ b) in
    cc (whole)

same_place : (table p q : Parts) → 0 < number_in table p → 0 < number_in table q → joined p ≡ joined q → p ≡ q
same_place [] p q posp posq e =
    let x = rest_of p posp in
    let y = rest_of q posq in
    let names : x.name ≡ y.name = same_rest x.name y.name (sym (ap joined x.is) ∙ e ∙ ap joined y.is) in
    x.is ∙ ap (λ (n : List ℕ). folder ∷ n ∷ []) names ∙ sym y.is
same_place (t ∷ ts) [] q posp posq e = absurd (omega (arith, posp))
same_place (t ∷ ts) (a ∷ p) [] posp posq e = absurd (omega (arith, posq))
same_place (t ∷ ts) (a ∷ p) (b ∷ q) posp posq e =
    let ta = same_part t ts a p posp in
    let tb = same_part t ts b q posq in
    let ab : a ≡ b = sym ta ∙ tb in
    let shifted : (47 ∷ b) ++ joined p ≡ (47 ∷ b) ++ joined q = subst (λ (x : List ℕ). (47 ∷ x) ++ joined p ≡ (47 ∷ b) ++ joined q) ab e in
    let rest = same_place ts p q (subst (λ (n : ℕ). 0 < n) (same_number t ts a p posp) posp) (subst (λ (n : ℕ). 0 < n) (same_number t ts b q posq) posq) (append_cancel_left (47 ∷ b) (joined p) (joined q) shifted) in
    ap (λ (x : List ℕ). x ∷ p) ab ∙ ap (λ (x : Parts). b ∷ x) rest

pub one_first : (table p q : Parts) → 0 < number_in table p → 0 < number_in table q → comes_before p q ≡ false → comes_before q p ≡ false → p ≡ q
one_first table p q posp posq one two = same_place table p q posp posq (same_text (joined p) (joined q) one two)
