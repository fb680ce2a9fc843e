-- The primitive types that texts name.
use Rattle.std.proofs.Common.{◌≡◌, ◌≢◌, ℕ, ◌+◌, ◌≤◌, ◌==◌, List, [], ◌∷◌, codes, length, cond, Bool, true, false, Option, Some, None, refl, ap, ◌∙◌, arith}
use Rattle.std.proofs.lemmas.List.{drop_all}
use Rattle.std.proofs.lemmas.Bool.{eqb-true}
use Rattle.std.specs.List.{before_first, after_first, position_or_len}
use Rattle.std.specs.Str.{bytes_eq}
use Rattle.schema_types.specs.declared.types.ColType.{ColType}
use Rattle.schema_trees.specs.Words.{number_of, number_before}
use Rattle.schema_trees.specs.TypeWords.{fixed_from, fixed_of, decimal_from, behind_space, numbers_of, decimal_of}

-- a text that doesn't begin with a space
pub behind_space-same : (t : List ℕ) → ((rest : List ℕ) → t ≢ 32 ∷ rest) → behind_space t ≡ t
behind_space-same [] other = refl
behind_space-same (b ∷ t) other = go (b == 32) refl
  where
    go : (e : Bool) → (b == 32) ≡ e → cond e t (b ∷ t) ≡ b ∷ t
    go true is = absurd (other t (ap (λ x. x ∷ t) (eqb-true b 32 is)))
    go false is = refl

-- nothing stands behind a character that a text lacks
nothing_after : (c : ℕ) (t : List ℕ) → position_or_len (λ b. b == c) t ≡ length t → after_first (λ b. b == c) t ≡ []
nothing_after c t none =
    let past : length t ≤ position_or_len (λ b. b == c) t + 1 = omega (arith, none) in
    drop_all (position_or_len (λ b. b == c) t + 1) t past

no_number : (c : ℕ) → number_before c [] ≡ None
unfolding number_before
no_number c = refl

pub fixed-none : (t : List ℕ) → position_or_len (λ b. b == 91) t ≡ length t → fixed_of t ≡ None
unfolding fixed_of
fixed-none t none = ap (fixed_from (before_first (λ b. b == 91) t)) (ap (number_before 93) (nothing_after 91 t none) ∙ no_number 93)

no_scale : (precision : Option ℕ) → decimal_from precision None ≡ None
no_scale None = refl
no_scale (Some n) = refl

pub numbers-none : (t : List ℕ) → position_or_len (λ b. b == 44) t ≡ length t → numbers_of t ≡ None
unfolding numbers_of
numbers-none t none =
    ap (λ rest. decimal_from (number_of (before_first (λ b. b == 44) t)) (number_before 41 (behind_space rest))) (nothing_after 44 t none)
    ∙ ap (decimal_from (number_of (before_first (λ b. b == 44) t))) (no_number 41) ∙ no_scale (number_of (before_first (λ b. b == 44) t))

pub decimal-is : (t word rest : List ℕ) (b : Bool) → word ≡ before_first (λ b. b == 40) t → rest ≡ after_first (λ b. b == 40) t → b ≡ bytes_eq word (codes "decimal") → cond b (numbers_of rest) None ≡ decimal_of t
unfolding decimal_of
decimal-is t word rest b before after is =
    ap (λ e. cond e (numbers_of rest) None) (is ∙ ap (λ w. bytes_eq w (codes "decimal")) before) ∙ ap (λ r. cond (bytes_eq (before_first (λ b. b == 40) t) (codes "decimal")) (numbers_of r) None) after

pub decimal-none : (t : List ℕ) → position_or_len (λ b. b == 40) t ≡ length t → decimal_of t ≡ None
unfolding decimal_of
decimal-none t none =
    ap (λ o. cond (bytes_eq (before_first (λ b. b == 40) t) (codes "decimal")) o None) (ap numbers_of (nothing_after 40 t none) ∙ numbers-none [] refl)
    ∙ either (bytes_eq (before_first (λ b. b == 40) t) (codes "decimal"))
  where
    either : (b : Bool) → ◌≡◌ {A = Option ColType} (cond b None None) None
    either true = refl
    either false = refl
