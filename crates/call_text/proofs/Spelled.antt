-- What is cut off is spelled so.
use Rattle.std.proofs.Common.{◌≡◌, ℕ, zero, suc, ◌+◌, ◌<◌, ◌≤◌, Bool, true, false, cond, ltb, eqb, List, [], ◌∷◌, ◌++◌, length, get_or, take, drop, Option, Some, None, refl, sym, ◌∙◌, ap, subst, arith, inl, inr, append_assoc}
use Rattle.std.specs.Prelude.{◌⊎◌, not, ◌||◌, ◌&&◌, min}
use Rattle.std.specs.Option.{option_map}
use Rattle.std.specs.List.{position_or_len, AllByRecursion}
use Rattle.std.specs.Char.{is_ascii_digit}
use Rattle.std.specs.Int.{is_in_range}
use Rattle.std.proofs.lemmas.Option.{same_Some, option_and_then_some, cond_some}
use Rattle.std.proofs.lemmas.List.{length-take, length-append, take_at, drop_at, take-append-drop, drop-drop}
use Rattle.std.proofs.lemmas.List.Sums.{prefix_len-le-length, split_at_first, passes_at_first}
use Rattle.std.proofs.lemmas.Bool.{eqb-true, eqb-false, ltb-true, and_parts, or_cases}
use Rattle.call_text.specs.declared.token.Token.{Token}
use Rattle.call_text.specs.declared.token.Token.TheVariants as tokens
use Rattle.call_text.specs.Characters.{begins_word, ends_word, is_backquote, is_quote, is_no_digit, is_long_mark, first_is, unescaped}
use Rattle.call_text.specs.Cutting.{from_first, sign_len, long_mark_len, with_front, string_of, quoted_of, number_len, number_of, mark_of, token_of}
use Rattle.call_text.specs.Spelling.{IsContent, IsSpelled, IsFirstToken, HasNoToken}
use Rattle.call_text.proofs.Shorter.{chosen, mapped, not_both}
use Rattle.call_text.proofs.Longest.{Takes, takes, one_within}

pub record Cut (bytes : List ℕ) (x : Token × List ℕ) : Type 0 where
  pub front : List ℕ
  pub spelled : IsSpelled x.0 front
  pub is : bytes ≡ front ++ x.1

at_cut : (bytes : List ℕ) (y x : Token × List ℕ) → Some y ≡ Some x → Cut bytes y → Cut bytes x
at_cut bytes y x e h = subst (λ z. Cut bytes z) (same_Some y x e) h

prefix_at : (p : ℕ → Bool) (b : ℕ) (bs : List ℕ) (k : ℕ) (t : Bool) → p b ≡ t → suc k ≤ cond (not t) 0 0 + cond (not t) (1 + position_or_len p bs) 0 → (t ≡ false) × (k ≤ position_or_len p bs)
prefix_at p b bs k true e h = absurd (omega arith)
prefix_at p b bs k false e h = (refl, omega arith)

prefix_each : (p : ℕ → Bool) (bs : List ℕ) (k : ℕ) → k ≤ position_or_len p bs → AllByRecursion (λ b. p b ≡ false) (take k bs)
prefix_each p bs zero h = tt
prefix_each p [] (suc k) h = tt
prefix_each p (b ∷ bs) (suc k) h = let f = prefix_at p b bs k (p b) refl (omega (arith, h)) in (f.0, prefix_each p bs k f.1)

word_cut : (b : ℕ) (bs : List ℕ) (x : Token × List ℕ) → begins_word b ≡ true → Some (tokens.Word (take (position_or_len ends_word (b ∷ bs)) (b ∷ bs)), from_first ends_word (b ∷ bs)) ≡ Some x → Cut (b ∷ bs) x
word_cut b bs x h e =
    let n = position_or_len ends_word (b ∷ bs) in
    let ends : ends_word b ≡ false = not_both (is_in_range 65 90 b) (is_in_range 97 122 b) (is_in_range 48 57 b) (eqb b 95) h in
    let some : n ≡ suc (position_or_len ends_word bs) = rw ends (omega arith) in
    at_cut (b ∷ bs) (tokens.Word (take n (b ∷ bs)), drop n (b ∷ bs)) x e (record {
      front = take n (b ∷ bs);
      spelled = (refl, record { first = ap (λ k. first_is begins_word (take k (b ∷ bs))) some ∙ h; each = prefix_each ends_word (b ∷ bs) n (omega arith) });
      is = sym (take-append-drop n (b ∷ bs));
    })

quoted_cut : (b : ℕ) (bs : List ℕ) (x : Token × List ℕ) → is_backquote b ≡ true → option_map (λ (y : List ℕ × List ℕ). (tokens.Quoted y.0, y.1)) (quoted_of bs) ≡ Some x → Cut (b ∷ bs) x
quoted_cut b bs x h e =
    let m = mapped (λ (y : List ℕ × List ℕ). (tokens.Quoted y.0, y.1)) (quoted_of bs) x e in
    let n = position_or_len is_backquote bs in
    let p = cond_some (ltb 0 n && ltb n (length bs)) (take n bs, drop (n + 1) bs) m.0 m.1 in
    let parts = and_parts (ltb 0 n) (ltb n (length bs)) p.0 in
    let low : 0 < n = ltb-true 0 n parts.0 in
    let high : n < length bs = ltb-true n (length bs) parts.1 in
    let split = split_at_first is_backquote bs 0 high in
    let mark : get_or bs n 0 ≡ 96 = eqb-true (get_or bs n 0) 96 (passes_at_first is_backquote bs 0 high) in
    let whole : bs ≡ take n bs ++ 96 ∷ drop (n + 1) bs = split ∙ ap (λ c. take n bs ++ c ∷ drop (n + 1) bs) mark in
    let here : b ≡ 96 = eqb-true b 96 h in
    subst (λ z. Cut (b ∷ bs) z) (ap (λ (y : List ℕ × List ℕ). (tokens.Quoted y.0, y.1)) p.1 ∙ m.2) (record {
      front = 96 ∷ take n bs ++ 96 ∷ [];
      spelled = (refl, record { some = omega (arith, length-take n bs); each = prefix_each is_backquote bs n (omega arith) });
      is = cc (here, whole ∙ sym (append_assoc (take n bs) (96 ∷ []) (drop (n + 1) bs)));
    })

-- the content of a string, up to its quote
ContentCut : ℕ → Bool → List ℕ → List ℕ × List ℕ → Type 0
ContentCut q false bs x = (body : List ℕ) × IsContent q body x.0 × (bs ≡ body ++ q ∷ x.1)
ContentCut q true bs x = (e c : ℕ) × (cs rest : List ℕ) × (unescaped e ≡ Some c) × IsContent q rest cs × (x.0 ≡ c ∷ cs) × (bs ≡ e ∷ rest ++ q ∷ x.1)

content_at : (q : ℕ) (bs : List ℕ) (y x : List ℕ × List ℕ) → y ≡ x → ContentCut q false bs y → ContentCut q false bs x
content_at q bs y x e h = subst (λ z. ContentCut q false bs z) e h

content_cut : (bs : List ℕ) (q : ℕ) (escape : Bool) (x : List ℕ × List ℕ) → string_of q escape bs ≡ Some x → ContentCut q escape bs x
unfolding ContentCut
content_cut [] q escape x e = absurd cc
content_cut (b ∷ bs) q true x e =
    option_and_then_some (λ c. with_front (c ∷ []) (string_of q false bs)) (unescaped b) x e (λ c is e'.
    let m = mapped (λ (y : List ℕ × List ℕ). (c ∷ [] ++ y.0, y.1)) (string_of q false bs) x e' in
    let r = content_cut bs q false m.0 m.1 in
    (b, c, m.0.0, r.0, is, r.1, sym (ap (λ (y : List ℕ × List ℕ). y.0) m.2), ap (λ (y : List ℕ). b ∷ y) r.2 ∙ ap (λ (y : List ℕ × List ℕ). b ∷ r.0 ++ q ∷ y.1) m.2))
content_cut (b ∷ bs) q false x e = elim (chosen (eqb b q) (Some ([], bs)) (cond (eqb b 92) (string_of q true bs) (with_front (b ∷ []) (string_of q false bs))) x e) [
  | inl p ↦ content_at q (b ∷ bs) ([], bs) x (same_Some ([], bs) x p.1) ([], refl, ap (λ c. c ∷ bs) (eqb-true b q p.0))
  | inr p ↦ elim (chosen (eqb b 92) (string_of q true bs) (with_front (b ∷ []) (string_of q false bs)) x p.1) [
    | inl r ↦
        let f = content_cut bs q true x r.1 in
        (92 ∷ f.0 ∷ f.3, subst (IsContent q (92 ∷ f.0 ∷ f.3)) (sym f.6) (f.3, f.5, inr (f.0, f.4, refl)), ap (λ c. c ∷ bs) (eqb-true b 92 r.0) ∙ ap (λ (y : List ℕ). 92 ∷ y) f.7)
    | inr r ↦
        let m = mapped (λ (y : List ℕ × List ℕ). (b ∷ [] ++ y.0, y.1)) (string_of q false bs) x r.1 in
        let f = content_cut bs q false m.0 m.1 in
        content_at q (b ∷ bs) (b ∷ m.0.0, m.0.1) x m.2 (b ∷ f.0, (f.0, f.1, inl (refl, eqb-false b q p.0, eqb-false b 92 r.0)), ap (λ (y : List ℕ). b ∷ y) f.2)
  ]
]

string_cut : (b : ℕ) (bs : List ℕ) (x : Token × List ℕ) → is_quote b ≡ true → option_map (λ (y : List ℕ × List ℕ). (tokens.Str y.0, y.1)) (string_of b false bs) ≡ Some x → Cut (b ∷ bs) x
unfolding ContentCut
string_cut b bs x h e =
    let m = mapped (λ (y : List ℕ × List ℕ). (tokens.Str y.0, y.1)) (string_of b false bs) x e in
    let f = content_cut bs b false m.0 m.1 in
    subst (λ z. Cut (b ∷ bs) z) m.2 (record {
      front = b ∷ f.0 ++ b ∷ [];
      spelled = record { quote = b; body = f.0; is_quote_mark = h; is_content = f.1; is = refl };
      is = ap (λ (y : List ℕ). b ∷ y) (f.2 ∙ sym (append_assoc f.0 (b ∷ []) m.0.1));
    })

sign_at : (b : ℕ) (bs : List ℕ) (t : Bool) → eqb b 45 ≡ t → (take (cond t 1 0) (b ∷ bs) ≡ []) ⊎ (take (cond t 1 0) (b ∷ bs) ≡ 45 ∷ [])
sign_at b bs true e = inr (ap (λ c. c ∷ []) (eqb-true b 45 e))
sign_at b bs false e = inl refl

sign_is : (l : List ℕ) → (take (sign_len l) l ≡ []) ⊎ (take (sign_len l) l ≡ 45 ∷ [])
sign_is [] = inl refl
sign_is (b ∷ bs) = sign_at b bs (eqb b 45) refl

mark_at : (b : ℕ) (bs : List ℕ) (t : Bool) → is_long_mark b ≡ t → (take (cond t 1 0) (b ∷ bs) ≡ []) ⊎ ((take (cond t 1 0) (b ∷ bs) ≡ 76 ∷ []) ⊎ (take (cond t 1 0) (b ∷ bs) ≡ 108 ∷ []))
mark_at b bs true e = elim (or_cases (eqb b 76) (eqb b 108) e) [
  | inl p ↦ inr (inl (ap (λ c. c ∷ []) (eqb-true b 76 p)))
  | inr p ↦ inr (inr (ap (λ c. c ∷ []) (eqb-true b 108 p)))
]
mark_at b bs false e = inl refl

mark_is : (l : List ℕ) → (take (long_mark_len l) l ≡ []) ⊎ ((take (long_mark_len l) l ≡ 76 ∷ []) ⊎ (take (long_mark_len l) l ≡ 108 ∷ []))
mark_is [] = inl refl
mark_is (b ∷ bs) = mark_at b bs (is_long_mark b) refl

parts_at : (t : Bool) (d y : ℕ) → eqb d 0 ≡ t → (cond t 0 y ≡ 0 → ⊥) → (d ≡ 0 → ⊥) × (cond t 0 y ≡ y)
parts_at true d y e h = absurd (h refl)
parts_at false d y e h = (eqb-false d 0 e, refl)

number_parts : (l : List ℕ) → (number_len l ≡ 0 → ⊥) → (min (position_or_len is_no_digit (drop (sign_len l) l)) 39 ≡ 0 → ⊥) × (number_len l ≡ sign_len l + min (position_or_len is_no_digit (drop (sign_len l) l)) 39 + long_mark_len (drop (sign_len l + min (position_or_len is_no_digit (drop (sign_len l) l)) 39) l))
unfolding number_len
number_parts l h = parts_at (eqb (min (position_or_len is_no_digit (drop (sign_len l) l)) 39) 0) (min (position_or_len is_no_digit (drop (sign_len l) l)) 39) _ refl h

number_cut : (l : List ℕ) (x : Token × List ℕ) → number_of l ≡ Some x → Cut l x
number_cut l x e = elim (chosen (eqb (number_len l) 0) None (Some (tokens.Number (take (number_len l) l), drop (number_len l) l)) x e) [
  | inl p ↦ absurd (cc (p.1))
  | inr p ↦
      let s = sign_len l in
      let d = min (position_or_len is_no_digit (drop s l)) 39 in
      let m = long_mark_len (drop (s + d) l) in
      let parts = number_parts l (eqb-false (number_len l) 0 p.0) in
      let sign : List ℕ = take s l in
      let digits : List ℕ = take d (drop s l) in
      let mark : List ℕ = take m (drop (s + d) l) in
      let is_digits : length digits ≡ d = omega (arith, length-take d (drop s l), prefix_len-le-length (λ c. not (is_no_digit c)) (drop s l)) in
      let two : drop s l ≡ digits ++ drop (s + d) l = sym (take-append-drop d (drop s l)) ∙ ap (λ (y : List ℕ). digits ++ y) (drop-drop d s l) in
      let three : drop (s + d) l ≡ mark ++ drop (s + d + m) l = sym (take-append-drop m (drop (s + d) l)) ∙ ap (λ (y : List ℕ). mark ++ y) (drop-drop m (s + d) l) in
      let whole : l ≡ sign ++ (digits ++ (mark ++ drop (s + d + m) l)) = sym (take-append-drop s l) ∙ ap (λ (y : List ℕ). sign ++ y) (two ∙ ap (λ (y : List ℕ). digits ++ y) three) in
      let joined : l ≡ (sign ++ (digits ++ mark)) ++ drop (number_len l) l =
      whole ∙ ap (λ n. sign ++ (digits ++ (mark ++ drop n l))) (sym parts.1) ∙ ap (λ (y : List ℕ). sign ++ y) (sym (append_assoc digits mark (drop (number_len l) l))) ∙ sym (append_assoc sign (digits ++ mark) (drop (number_len l) l)) in
      let total : length (sign ++ (digits ++ mark)) ≡ number_len l = omega (arith, parts.1, length-append sign (digits ++ mark), length-append digits mark, is_digits, length-take s l, length-take m (drop (s + d) l), one_within (λ b. eqb b 45) l, one_within is_long_mark (drop (s + d) l)) in
      let front : take (number_len l) l ≡ sign ++ (digits ++ mark) = ap (take (number_len l)) joined ∙ take_at (sign ++ (digits ++ mark)) (drop (number_len l) l) (number_len l) total in
      at_cut l (tokens.Number (take (number_len l) l), drop (number_len l) l) x p.1 (record {
        front = take (number_len l) l;
        spelled = (
          refl,
          record {
            sign = sign;
            digits = digits;
            mark = mark;
            is_sign = sign_is l;
            are_digits = prefix_each is_no_digit (drop s l) d (omega arith);
            some = omega (arith, is_digits, parts.0);
            few = omega (arith, is_digits);
            is_mark = mark_is (drop (s + d) l);
            is = front;
          },
        );
        is = sym (take-append-drop (number_len l) l);
      })
]

mark_cut_at : (t : Token) (b k : ℕ) (bs : List ℕ) (x : Token × List ℕ) → eqb b k ≡ true → Some (t, bs) ≡ Some x → IsSpelled t (k ∷ []) → Cut (b ∷ bs) x
mark_cut_at t b k bs x h e is = at_cut (b ∷ bs) (t, bs) x e (record { front = k ∷ []; spelled = is; is = ap (λ c. c ∷ bs) (eqb-true b k h) })

arrow_cut : (b : ℕ) (bs : List ℕ) (x : Token × List ℕ) → (eqb b 61 && first_is (λ c. eqb c 62) bs) ≡ true → Some (tokens.Arrow, drop 1 bs) ≡ Some x → Cut (b ∷ bs) x
arrow_cut b [] x h e = let p = and_parts (eqb b 61) false h in absurd (cc (p.1))
arrow_cut b (c ∷ bs) x h e =
    let p = and_parts (eqb b 61) (eqb c 62) h in
    at_cut (b ∷ c ∷ bs) (tokens.Arrow, bs) x e (record { front = 61 ∷ 62 ∷ []; spelled = refl; is = cc (eqb-true b 61 p.0, eqb-true c 62 p.1) })

no_token : (x : Token × List ℕ) → None ≡ Some x → ⊥
no_token x e = cc

mark_cut : (b : ℕ) (bs : List ℕ) (x : Token × List ℕ) → mark_of b bs ≡ Some x → Cut (b ∷ bs) x
mark_cut b bs x e = elim (chosen (eqb b 46) (Some (tokens.Dot, bs)) _ x e) [
  | inl p ↦ mark_cut_at tokens.Dot b 46 bs x p.0 p.1 refl
  | inr p ↦ elim (chosen (eqb b 44) (Some (tokens.Comma, bs)) _ x p.1) [
    | inl p ↦ mark_cut_at tokens.Comma b 44 bs x p.0 p.1 refl
    | inr p ↦ elim (chosen (eqb b 40) (Some (tokens.Open, bs)) _ x p.1) [
      | inl p ↦ mark_cut_at tokens.Open b 40 bs x p.0 p.1 refl
      | inr p ↦ elim (chosen (eqb b 41) (Some (tokens.Close, bs)) _ x p.1) [
        | inl p ↦ mark_cut_at tokens.Close b 41 bs x p.0 p.1 refl
        | inr p ↦ elim (chosen (eqb b 59) (Some (tokens.Semicolon, bs)) _ x p.1) [
          | inl p ↦ mark_cut_at tokens.Semicolon b 59 bs x p.0 p.1 refl
          | inr p ↦ elim (chosen (eqb b 61 && first_is (λ c. eqb c 62) bs) (Some (tokens.Arrow, drop 1 bs)) None x p.1) [
            | inl p ↦ arrow_cut b bs x p.0 p.1
            | inr p ↦ absurd (no_token x p.1)
          ]
        ]
      ]
    ]
  ]
]

pub token_cut : (bs : List ℕ) (x : Token × List ℕ) → token_of bs ≡ Some x → Cut bs x
unfolding token_of
token_cut [] x e = absurd cc
token_cut (b ∷ bs) x e = elim (chosen (begins_word b) (Some (tokens.Word (take (position_or_len ends_word (b ∷ bs)) (b ∷ bs)), from_first ends_word (b ∷ bs))) _ x e) [
  | inl p ↦ word_cut b bs x p.0 p.1
  | inr p ↦ elim (chosen (is_backquote b) (option_map (λ (y : List ℕ × List ℕ). (tokens.Quoted y.0, y.1)) (quoted_of bs)) _ x p.1) [
    | inl p ↦ quoted_cut b bs x p.0 p.1
    | inr p ↦ elim (chosen (is_quote b) (option_map (λ (y : List ℕ × List ℕ). (tokens.Str y.0, y.1)) (string_of b false bs)) _ x p.1) [
      | inl p ↦ string_cut b bs x p.0 p.1
      | inr p ↦ elim (chosen (eqb b 45 || is_ascii_digit b) (number_of (b ∷ bs)) (mark_of b bs) x p.1) [
        | inl p ↦ number_cut (b ∷ bs) x p.1
        | inr p ↦ mark_cut b bs x p.1
      ]
    ]
  ]
]

pair : (p : Token × List ℕ) (t : Token) (l : List ℕ) → p.0 ≡ t → p.1 ≡ l → p ≡ (t, l)
pair (a, b) t l e k = cc

-- what is cut off is the first token by the longest match
pub first_token : (bytes : List ℕ) (t : Token) (after : List ℕ) → token_of bytes ≡ Some (t, after) → IsFirstToken bytes t after
first_token bytes t after e =
    let f = token_cut bytes (t, after) e in
    record {
      front = f.front;
      spelled = f.spelled;
      is = f.is;
      longest = λ u other rest is split.
          let k : Takes bytes u (length other) = subst (λ b. Takes b u (length other)) (sym split) (takes u other rest is) in
          let same : after ≡ k.found.1 = ap (λ (p : Token × List ℕ). p.1) (same_Some (t, after) k.found (sym e ∙ k.is)) in
          omega (arith, k.at_least, ap length same, ap length f.is, length-append f.front after);
    }

pub token_first : (bytes : List ℕ) (t : Token) (after : List ℕ) → IsFirstToken bytes t after → token_of bytes ≡ Some (t, after)
token_first bytes t after h =
    let k : Takes bytes t (length h.front) = subst (λ b. Takes b t (length h.front)) (sym h.is) (takes t h.front after h.spelled) in
    let f = token_cut bytes k.found k.is in
    let longest = h.longest k.found.0 f.front k.found.1 f.spelled f.is in
    let lengths : length bytes ≡ length f.front + length k.found.1 = ap length f.is ∙ length-append f.front k.found.1 in
    let token : k.found.0 ≡ t = k.same (omega (arith, k.at_least, lengths, longest)) in
    let one : drop (length h.front) bytes ≡ after = ap (drop (length h.front)) h.is ∙ drop_at h.front after (length h.front) refl in
    let two : drop (length h.front) bytes ≡ k.found.1 = ap (drop (length h.front)) f.is ∙ drop_at f.front k.found.1 (length h.front) (omega (arith, k.at_least, lengths, longest)) in
    k.is ∙ ap (λ (p : Token × List ℕ). Some p) (pair k.found t after token (sym two ∙ one))

pub none_none : (bytes : List ℕ) → token_of bytes ≡ None → HasNoToken bytes
none_none bytes e = λ u other rest is split.
    let k : Takes bytes u (length other) = subst (λ b. Takes b u (length other)) (sym split) (takes u other rest is) in
    no_token k.found (sym e ∙ k.is)

none_at : (bytes : List ℕ) (o : Option (Token × List ℕ)) → token_of bytes ≡ o → HasNoToken bytes → o ≡ None
none_at bytes None e h = refl
none_at bytes (Some x) e h = let f = token_cut bytes x e in absurd (h x.0 f.front x.1 f.spelled f.is)

pub none_first : (bytes : List ℕ) → HasNoToken bytes → token_of bytes ≡ None
none_first bytes h = none_at bytes (token_of bytes) refl h
