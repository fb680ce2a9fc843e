-- A token takes at least one byte.
use Rattle.std.proofs.Common.{◌≡◌, ℕ, ◌+◌, ◌<◌, ◌≤◌, Bool, true, false, cond, ltb, eqb, false-eqb, List, [], ◌∷◌, ◌++◌, length, take, drop, Option, Some, None, refl, sym, ap, arith, inl, inr}
use Rattle.std.specs.Prelude.{◌⊎◌, not, ◌||◌, ◌&&◌}
use Rattle.std.specs.Option.{option_map}
use Rattle.std.specs.List.{position_or_len}
use Rattle.std.proofs.lemmas.Option.{same_Some, option_and_then_some, cond_some}
use Rattle.std.specs.Char.{is_ascii_digit}
use Rattle.std.specs.Int.{is_in_range}
use Rattle.std.proofs.lemmas.List.{length-drop}
use Rattle.call_text.specs.declared.token.Token.{Token}
use Rattle.call_text.specs.declared.token.Token.TheVariants as tokens
use Rattle.call_text.specs.Characters.{begins_word, ends_word, is_backquote, is_quote, first_is, unescaped}
use Rattle.call_text.specs.Cutting.{from_first, with_front, string_of, quoted_of, number_len, number_of, mark_of, token_of}

-- an if-chain that gives something gives one of its arms
pub chosen : {A : Type 0} (b : Bool) (x y : Option A) (z : A) → cond b x y ≡ Some z → ((b ≡ true) × (x ≡ Some z)) ⊎ ((b ≡ false) × (y ≡ Some z))
chosen true x y z e = inl (refl, e)
chosen false x y z e = inr (refl, e)

pub mapped : {A B : Type 0} (f : A → B) (o : Option A) (z : B) → option_map f o ≡ Some z → (x : A) × (o ≡ Some x) × (f x ≡ z)
mapped f None z e = absurd cc
mapped f (Some x) z e = (x, refl, same_Some (f x) z e)

pub not_both : (u l d s : Bool) → ((u || l) || s) ≡ true → not (((d || u) || l) || s) ≡ false
not_both true l true s h = refl
not_both true l false s h = refl
not_both false true true s h = refl
not_both false true false s h = refl
not_both false false true true h = refl
not_both false false false true h = refl
not_both false false true false h = absurd cc
not_both false false false false h = absurd cc

pub string_shorter : (bs : List ℕ) (q : ℕ) (escape : Bool) (x : List ℕ × List ℕ) → string_of q escape bs ≡ Some x → length x.1 ≤ length bs
string_shorter [] q escape x e = absurd cc
string_shorter (b ∷ bs) q true x e =
    option_and_then_some (λ c. with_front (c ∷ []) (string_of q false bs)) (unescaped b) x e (λ c is e'.
    let m = mapped (λ (y : List ℕ × List ℕ). (c ∷ [] ++ y.0, y.1)) (string_of q false bs) x e' in
    let shorter = string_shorter bs q false m.0 m.1 in
    let same : m.0.1 ≡ x.1 = ap (λ (y : List ℕ × List ℕ). y.1) m.2 in
    omega (arith, ap length same))
string_shorter (b ∷ bs) q false x e = elim (chosen (eqb b q) (Some ([], bs)) (cond (eqb b 92) (string_of q true bs) (with_front (b ∷ []) (string_of q false bs))) x e) [
  | inl p ↦ let same = ap length (ap (λ (y : List ℕ × List ℕ). y.1) (same_Some ([], bs) x p.1)) in omega (arith, same)
  | inr p ↦ elim (chosen (eqb b 92) (string_of q true bs) (with_front (b ∷ []) (string_of q false bs)) x p.1) [
    | inl r ↦ omega (arith, string_shorter bs q true x r.1)
    | inr r ↦
        let m = mapped (λ (y : List ℕ × List ℕ). (b ∷ [] ++ y.0, y.1)) (string_of q false bs) x r.1 in
        let shorter = string_shorter bs q false m.0 m.1 in
        let same = ap length (ap (λ (y : List ℕ × List ℕ). y.1) m.2) in
        omega (arith, same, shorter)
  ]
]

dropped : (n : ℕ) (b : ℕ) (bs : List ℕ) → 0 < n → length (drop n (b ∷ bs)) < length (b ∷ bs)
dropped n b bs h = omega (arith, length-drop n (b ∷ bs))

none_some : (x : Token × List ℕ) → None ≡ Some x → ⊥
none_some x e = cc

ends_at : (t : Token) (b : ℕ) (bs rest : List ℕ) (x : Token × List ℕ) → Some (t, rest) ≡ Some x → length rest < length (b ∷ bs) → length x.1 < length (b ∷ bs)
ends_at t b bs rest x e h = let same = ap length (ap (λ (y : Token × List ℕ). y.1) (same_Some (t, rest) x e)) in omega (arith, same)

word_shorter : (b : ℕ) (bs : List ℕ) (x : Token × List ℕ) → begins_word b ≡ true → Some (tokens.Word (take (position_or_len ends_word (b ∷ bs)) (b ∷ bs)), from_first ends_word (b ∷ bs)) ≡ Some x → length x.1 < length (b ∷ bs)
word_shorter b bs x h e =
    let ends : ends_word b ≡ false = not_both (is_in_range 65 90 b) (is_in_range 97 122 b) (is_in_range 48 57 b) (eqb b 95) h in
    let some : position_or_len ends_word (b ∷ bs) ≡ 1 + position_or_len ends_word bs = rw ends refl in
    ends_at (tokens.Word (take (position_or_len ends_word (b ∷ bs)) (b ∷ bs))) b bs (from_first ends_word (b ∷ bs)) x e (dropped (position_or_len ends_word (b ∷ bs)) b bs (omega arith))

quoted_shorter : (b : ℕ) (bs : List ℕ) (x : Token × List ℕ) → option_map (λ (y : List ℕ × List ℕ). (tokens.Quoted y.0, y.1)) (quoted_of bs) ≡ Some x → length x.1 < length (b ∷ bs)
quoted_shorter b bs x e =
    let m = mapped (λ (y : List ℕ × List ℕ). (tokens.Quoted y.0, y.1)) (quoted_of bs) x e in
    let n = position_or_len is_backquote bs in
    let p = cond_some (ltb 0 n && ltb n (length bs)) (take n bs, drop (n + 1) bs) m.0 m.1 in
    let inner = ap length (ap (λ (y : List ℕ × List ℕ). y.1) p.1) in
    let same = ap length (ap (λ (y : Token × List ℕ). y.1) m.2) in
    omega (arith, same, inner, length-drop (n + 1) bs)

number_shorter : (b : ℕ) (bs : List ℕ) (x : Token × List ℕ) → number_of (b ∷ bs) ≡ Some x → length x.1 < length (b ∷ bs)
number_shorter b bs x e = elim (chosen (eqb (number_len (b ∷ bs)) 0) None (Some (tokens.Number (take (number_len (b ∷ bs)) (b ∷ bs)), drop (number_len (b ∷ bs)) (b ∷ bs))) x e) [
  | inl p ↦ absurd (none_some x p.1)
  | inr p ↦ ends_at (tokens.Number (take (number_len (b ∷ bs)) (b ∷ bs))) b bs (drop (number_len (b ∷ bs)) (b ∷ bs)) x p.1 (dropped (number_len (b ∷ bs)) b bs (omega (arith, false-eqb (number_len (b ∷ bs)) 0 (sym p.0))))
]

mark_shorter : (b : ℕ) (bs : List ℕ) (x : Token × List ℕ) → mark_of b bs ≡ Some x → length x.1 < length (b ∷ bs)
mark_shorter b bs x e = elim (chosen (eqb b 46) (Some (tokens.Dot, bs)) _ x e) [
  | inl p ↦ ends_at tokens.Dot b bs bs x p.1 (omega arith)
  | inr p ↦ elim (chosen (eqb b 44) (Some (tokens.Comma, bs)) _ x p.1) [
    | inl p ↦ ends_at tokens.Comma b bs bs x p.1 (omega arith)
    | inr p ↦ elim (chosen (eqb b 40) (Some (tokens.Open, bs)) _ x p.1) [
      | inl p ↦ ends_at tokens.Open b bs bs x p.1 (omega arith)
      | inr p ↦ elim (chosen (eqb b 41) (Some (tokens.Close, bs)) _ x p.1) [
        | inl p ↦ ends_at tokens.Close b bs bs x p.1 (omega arith)
        | inr p ↦ elim (chosen (eqb b 59) (Some (tokens.Semicolon, bs)) _ x p.1) [
          | inl p ↦ ends_at tokens.Semicolon b bs bs x p.1 (omega arith)
          | inr p ↦ elim (chosen (eqb b 61 && first_is (λ c. eqb c 62) bs) (Some (tokens.Arrow, drop 1 bs)) None x p.1) [
            | inl p ↦ ends_at tokens.Arrow b bs (drop 1 bs) x p.1 (omega (arith, length-drop 1 bs))
            | inr p ↦ absurd (none_some x p.1)
          ]
        ]
      ]
    ]
  ]
]

pub token_shorter : (bs : List ℕ) (x : Token × List ℕ) → token_of bs ≡ Some x → length x.1 < length bs
unfolding token_of
token_shorter [] x e = absurd cc
token_shorter (b ∷ bs) x e = elim (chosen (begins_word b) (Some (tokens.Word (take (position_or_len ends_word (b ∷ bs)) (b ∷ bs)), from_first ends_word (b ∷ bs))) _ x e) [
  | inl p ↦ word_shorter b bs x p.0 p.1
  | inr p ↦ elim (chosen (is_backquote b) (option_map (λ (y : List ℕ × List ℕ). (tokens.Quoted y.0, y.1)) (quoted_of bs)) _ x p.1) [
    | inl p ↦ quoted_shorter b bs x p.1
    | inr p ↦ elim (chosen (is_quote b) (option_map (λ (y : List ℕ × List ℕ). (tokens.Str y.0, y.1)) (string_of b false bs)) _ x p.1) [
      | inl p ↦
          let m = mapped (λ (y : List ℕ × List ℕ). (tokens.Str y.0, y.1)) (string_of b false bs) x p.1 in
          let shorter = string_shorter bs b false m.0 m.1 in
          let same = ap length (ap (λ (y : Token × List ℕ). y.1) m.2) in
          omega (arith, same, shorter)
      | inr p ↦ elim (chosen (eqb b 45 || is_ascii_digit b) (number_of (b ∷ bs)) (mark_of b bs) x p.1) [
        | inl p ↦ number_shorter b bs x p.1
        | inr p ↦ mark_shorter b bs x p.1
      ]
    ]
  ]
]
