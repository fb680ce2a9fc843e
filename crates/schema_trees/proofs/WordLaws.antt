-- Numbers in texts, and the transforms that texts name.
use Rattle.std.proofs.Common.{◌≡◌, ◌≢◌, ℕ, ◌-◌, ◌+◌, ◌<◌, ◌^◌, ◌==◌, ◌&&◌, ◌++◌, List, [], ◌∷◌, length, take, nat_lt, cond, Bool, true, false, Option, Some, None, Result, Ok, refl, sym, ap, ◌∙◌, arith, ◌⊎◌, inl, inr, ◌≤◌}
use Rattle.std.proofs.lemmas.Bool.{ltb-true, lt-ltb}
use Rattle.std.proofs.lemmas.Fmt.{decimal_is_IsNumeral, parse-decimal}
use Rattle.std.proofs.lemmas.List.{length-append, drop_all}
use Rattle.std.proofs.lemmas.Slice.Eq.{bytes_eq-Decides}
use Rattle.std.proofs.Math.Seq.{take-append_seam}
use Rattle.std.specs.Fmt.{decimal}
use Rattle.std.specs.List.{before_first, position_or_len}
use Rattle.std.specs.Str.{bytes_eq}
use Rattle.std.specs.Str.Parse.{digits_value, ParsesUnsigned}
use Rattle.schema_types.specs.declared.types.Transform.TheVariants.{Unknown}
use Rattle.schema_trees.specs.Words.{number_of, front, number_before, bracketed, sized_transform}

both : (a b : Bool) → (a && b) ≡ true → (a ≡ true) × (b ≡ true)
both true b e = (refl, e)
both false b e = absurd cc

chosen_some : (b : Bool) (v n : ℕ) → ◌≡◌ {A = Option ℕ} (cond b (Some v) None) (Some n) → (b ≡ true) × (v ≡ n)
chosen_some true v n e = (refl, cc)
chosen_some false v n e = absurd cc

pub number_of-is : (t : List ℕ) (n : ℕ) → number_of t ≡ Some n → (t ≡ decimal n) × (n < 2 ^ 32)
unfolding number_of
number_of-is t n e =
    let got = chosen_some (bytes_eq (decimal (digits_value 10 t)) t && nat_lt (digits_value 10 t) (2 ^ 32)) (digits_value 10 t) n e in
    let is = both (bytes_eq (decimal (digits_value 10 t)) t) (nat_lt (digits_value 10 t) (2 ^ 32)) got.0 in
    let small : digits_value 10 t < 2 ^ 32 = ltb-true (digits_value 10 t) (2 ^ 32) is.1 in
    let same : digits_value 10 t ≡ n = got.1 in
    (sym ((bytes_eq-Decides (decimal (digits_value 10 t)) t).0 is.0) ∙ ap decimal same, rw same at small)

pub number_of-decimal : (n : ℕ) → n < 2 ^ 32 → number_of (decimal n) ≡ Some n
unfolding number_of
number_of-decimal n h =
    let wide : n < 2 ^ 64 = omega (arith, h) in
    ap (λ v. cond (bytes_eq (decimal v) (decimal n) && nat_lt v (2 ^ 32)) (Some v) None) (decimal_is_IsNumeral n wide).1
    ∙ ap (λ a. cond (a && nat_lt n (2 ^ 32)) (Some n) None) ((bytes_eq-Decides (decimal n) (decimal n)).1 refl)
    ∙ ap (λ b. cond b (Some n) None) (lt-ltb n (2 ^ 32) h)

option_cases : {X : Type 0} (o : Option X) → (o ≡ None) ⊎ ((x : X) × (o ≡ Some x))
option_cases None = inl refl
option_cases (Some x) = inr (x, refl)

-- what doesn't parse as a number that is written so is none
pub number_none : {E : Type 0} (t : List ℕ) (r : Result ℕ E) → ParsesUnsigned 32 10 t r → ((n : ℕ) → r ≡ Ok n → t ≡ decimal n → ⊥) → number_of t ≡ None
number_none t r parses other = elim (option_cases (number_of t)) [
  | inl none ↦ none
  | inr some ↦ (
      let is = number_of-is t some.0 some.1 in
      let small : some.0 < 2 ^ 32 = is.1 in
      absurd (other some.0 (parse-decimal 32 some.0 t r small (omega (arith, small)) is.0 parses) is.0))
]

front-append : (xs : List ℕ) (c : ℕ) → front (xs ++ (c ∷ [])) ≡ xs
front-append xs c =
    let long : length (xs ++ (c ∷ [])) - 1 ≡ length xs = omega (arith, length-append xs (c ∷ [])) in
    ap (λ k. take k (xs ++ (c ∷ []))) long ∙ take-append_seam xs (c ∷ [])

-- before its last character the text is what stands before it
pub number_before-closed : (c : ℕ) (xs : List ℕ) → number_before c (xs ++ (c ∷ [])) ≡ number_of xs
unfolding number_before
number_before-closed c xs =
    ap (λ f. cond (bytes_eq (f ++ (c ∷ [])) (xs ++ (c ∷ []))) (number_of f) None) (front-append xs c)
    ∙ ap (λ b. cond b (number_of xs) None) ((bytes_eq-Decides (xs ++ (c ∷ [])) (xs ++ (c ∷ []))).1 refl)

-- a text with another last character has no number before it
pub number_before-open : (c : ℕ) (t : List ℕ) → ((f : List ℕ) → t ≢ f ++ (c ∷ [])) → number_before c t ≡ None
unfolding number_before
number_before-open c t other = go (bytes_eq (front t ++ (c ∷ [])) t) refl
  where
    go : (b : Bool) → bytes_eq (front t ++ (c ∷ [])) t ≡ b → cond b (number_of (front t)) None ≡ None
    go true e = absurd (other (front t) (sym ((bytes_eq-Decides (front t ++ (c ∷ [])) t).0 e)))
    go false e = refl

-- a text without a bracket names no transform with a size
pub bracketed-none : (t : List ℕ) → position_or_len (λ b. b == 91) t ≡ length t → bracketed t ≡ Unknown
unfolding bracketed number_before
bracketed-none t none =
    let past : length t ≤ position_or_len (λ b. b == 91) t + 1 = omega (arith, none) in
    ap (λ rest. sized_transform (before_first (λ b. b == 91) t) (number_before 93 rest)) (drop_all (position_or_len (λ b. b == 91) t + 1) t past)
