-- The token that is cut off is spelled so, and nothing longer is.
use Rattle.std.proofs.Common.{◌≡◌, ℕ, suc, ◌+◌, ◌<◌, ◌≤◌, Bool, true, false, cond, ltb, eqb, List, [], ◌∷◌, ◌++◌, length, take, drop, Some, None, refl, sym, ◌∙◌, ap, subst, arith, inl, inr, append_assoc}
use Rattle.std.specs.Prelude.{◌≢◌, ◌⊎◌, not, ◌||◌, min}
use Rattle.std.specs.Option.{option_map}
use Rattle.std.specs.List.{position_or_len, AllByRecursion}
use Rattle.std.specs.Char.{is_ascii_digit}
use Rattle.std.proofs.lemmas.List.{length-drop, length-append, take_at, drop_at}
use Rattle.std.proofs.lemmas.List.Sums.{prefix_len-le-length}
use Rattle.std.proofs.lemmas.Bool.{eqb-true, eq-eqb, ne_eqb, lt-ltb, or_cases, cases_lt}
use Rattle.std.proofs.lemmas.Bool.Decides.{nat_tests}
use Rattle.call_text.specs.declared.token.Token.{Token}
use Rattle.call_text.specs.declared.token.Token.TheVariants as tokens
use Rattle.call_text.specs.Characters.{begins_word, ends_word, is_backquote, is_quote, is_no_digit, is_long_mark, first_is, unescaped}
use Rattle.call_text.specs.Cutting.{sign_len, long_mark_len, with_front, string_of, quoted_of, number_len, number_of, mark_of, token_of}
use Rattle.call_text.specs.Spelling.{IsWord, IsContent, IsString, IsNumber, IsSpelled}

-- ---- what a token spells is read again, as it or as something longer

-- the front of bytes that fail the test, and more of them
front_passes : (p : ℕ → Bool) (w more : List ℕ) → AllByRecursion (λ b. p b ≡ false) w → position_or_len p (w ++ more) ≡ length w + position_or_len p more
front_passes p [] more h = omega arith
front_passes p (b ∷ w) more h = let rest = front_passes p w more h.1 in rw (h.0) (omega (arith, rest))

pub record Takes (bytes : List ℕ) (u : Token) (len : ℕ) : Type 0 where
  pub found : Token × List ℕ
  pub is : token_of bytes ≡ Some found
  pub at_least : length found.1 + len ≤ length bytes
  pub same : length found.1 + len ≡ length bytes → found.0 ≡ u

plain_again : (c : ℕ) (text : List ℕ) (q : ℕ) (cs more : List ℕ) → c ≢ q → c ≢ 92 → string_of q false text ≡ Some (cs, more) → string_of q false (c ∷ text) ≡ Some (c ∷ cs, more)
plain_again c text q cs more one two e = rw (ne_eqb c q one, ne_eqb c 92 two, e) refl

escape_again : (c e : ℕ) (text : List ℕ) (q : ℕ) (cs more : List ℕ) → (92 ≡ q → ⊥) → unescaped e ≡ Some c → string_of q false text ≡ Some (cs, more) → string_of q false (92 ∷ e ∷ text) ≡ Some (c ∷ cs, more)
escape_again c e text q cs more other is k = rw (ne_eqb 92 q other, is, k) refl

-- a string's content
pub content_again : (cs body : List ℕ) (q : ℕ) (more : List ℕ) → (92 ≡ q → ⊥) → IsContent q body cs → string_of q false (body ++ q ∷ more) ≡ Some (cs, more)
content_again [] body q more h k =
    ap (λ (x : List ℕ). string_of q false (x ++ q ∷ more)) k
    ∙ ap (λ b. cond b (Some ([], more)) (cond (eqb q 92) (string_of q true more) (with_front (q ∷ []) (string_of q false more)))) (eq-eqb q q refl)
content_again (c ∷ cs) body q more h k = elim k.2 [
  | inl p ↦ ap (λ (x : List ℕ). string_of q false (x ++ q ∷ more)) p.0 ∙ plain_again c (k.0 ++ q ∷ more) q cs more p.1 p.2 (content_again cs k.0 q more h k.1)
  | inr p ↦ ap (λ (x : List ℕ). string_of q false (x ++ q ∷ more)) p.2 ∙ escape_again c p.0 (k.0 ++ q ∷ more) q cs more h p.1 (content_again cs k.0 q more h k.1)
]

whole_again : (t : Token) (other rest : List ℕ) → token_of (other ++ rest) ≡ Some (t, rest) → Takes (other ++ rest) t (length other)
whole_again t other rest e = record { found = (t, rest); is = e; at_least = omega (arith, length-append other rest); same = λ _. refl }

word_again : (w rest : List ℕ) → IsWord w → Takes (w ++ rest) (tokens.Word w) (length w)
unfolding token_of
word_again [] rest h = absurd (cc (h.first))
word_again (b ∷ w) rest h =
    let l : List ℕ = (b ∷ w) ++ rest in
    let n = position_or_len ends_word l in
    let long = front_passes ends_word (b ∷ w) rest h.each in
    let within = prefix_len-le-length (λ x. not (ends_word x)) l in
    record {
      found = (tokens.Word (take n l), drop n l);
      is = ap (λ t. cond t (Some (tokens.Word (take n l), drop n l)) (cond (is_backquote b) (option_map (λ (x : List ℕ × List ℕ). (tokens.Quoted x.0, x.1)) (quoted_of (w ++ rest))) (cond (is_quote b) (option_map (λ (x : List ℕ × List ℕ). (tokens.Str x.0, x.1)) (string_of b false (w ++ rest))) (cond (eqb b 45 || is_ascii_digit b) (number_of l) (mark_of b (w ++ rest)))))) h.first;
      at_least = omega (arith, length-drop n l, long, within);
      same = λ e. ap (λ (x : List ℕ). tokens.Word x) (take_at (b ∷ w) rest n (omega (arith, length-drop n l, long, within, e)));
    }

quoted_again : (w rest : List ℕ) → 0 < length w → AllByRecursion (λ b. is_backquote b ≡ false) w → quoted_of (w ++ 96 ∷ rest) ≡ Some (w, rest)
quoted_again w rest some each =
    let n : position_or_len is_backquote (w ++ 96 ∷ rest) ≡ length w = front_passes is_backquote w (96 ∷ rest) each ∙ omega arith in
    let one : ltb 0 (length w) ≡ true = lt-ltb 0 (length w) some in
    let two : ltb (length w) (length (w ++ 96 ∷ rest)) ≡ true = lt-ltb (length w) (length (w ++ 96 ∷ rest)) (omega (arith, length-append w (96 ∷ rest))) in
    let front : take (length w) (w ++ 96 ∷ rest) ≡ w = take_at w (96 ∷ rest) (length w) refl in
    let back : drop (length w + 1) (w ++ 96 ∷ rest) ≡ rest = ap (λ (x : List ℕ). drop (length w + 1) x) (sym (append_assoc w (96 ∷ []) rest)) ∙ drop_at (w ++ 96 ∷ []) rest (length w + 1) (length-append w (96 ∷ [])) in
    rw (n, one, two, front, back) refl

digit_begins : (d : ℕ) → is_no_digit d ≡ false → (begins_word d ≡ false) × (is_backquote d ≡ false) × (is_quote d ≡ false) × ((eqb d 45 || is_ascii_digit d) ≡ true) × (eqb d 45 ≡ false)
digit_begins d h = (grind (arith, nat_tests, h), grind (arith, nat_tests, h), grind (arith, nat_tests, h), grind (arith, nat_tests, h), grind (arith, nat_tests, h))

-- the number's length, where a sign, digits and a mark stand in front
pub len_of : ℕ → List ℕ → ℕ
len_of sign bytes =
    let digits = min (position_or_len is_no_digit (drop sign bytes)) 39 in
    cond (eqb digits 0) 0 (sign + digits + long_mark_len (drop (sign + digits) bytes))

mark_fits : (mark rest : List ℕ) → (mark ≡ []) ⊎ ((mark ≡ 76 ∷ []) ⊎ (mark ≡ 108 ∷ [])) → length mark ≤ long_mark_len (mark ++ rest)
mark_fits mark rest h = elim h [
  | inl e ↦ rw e (omega arith)
  | inr k ↦ elim k [ inl e ↦ rw e (omega arith) | inr e ↦ rw e (omega arith) ]
]

mark_short : (mark : List ℕ) → (mark ≡ []) ⊎ ((mark ≡ 76 ∷ []) ⊎ (mark ≡ 108 ∷ [])) → length mark ≤ 1
mark_short mark h = elim h [
  | inl e ↦ rw e (omega arith)
  | inr k ↦ elim k [ inl e ↦ rw e (omega arith) | inr e ↦ rw e (omega arith) ]
]

pub len_at : (sign : ℕ) (bytes : List ℕ) (d : ℕ) → min (position_or_len is_no_digit (drop sign bytes)) 39 ≡ d → 0 < d → len_of sign bytes ≡ sign + d + long_mark_len (drop (sign + d) bytes)
unfolding len_of
len_at sign bytes d e some = rw (e, ne_eqb d 0 (λ z. omega arith)) refl

len_long : (sign digits mark rest : List ℕ) → AllByRecursion (λ b. is_no_digit b ≡ false) digits → 0 < length digits → length digits ≤ 39 → (mark ≡ []) ⊎ ((mark ≡ 76 ∷ []) ⊎ (mark ≡ 108 ∷ []))
    → length sign + (length digits + length mark) ≤ len_of (length sign) (sign ++ (digits ++ (mark ++ rest)))
len_long sign digits mark rest each some few is_mark =
    let bytes : List ℕ = sign ++ (digits ++ (mark ++ rest)) in
    let unsigned : drop (length sign) bytes ≡ digits ++ (mark ++ rest) = drop_at sign (digits ++ (mark ++ rest)) (length sign) refl in
    let p = position_or_len is_no_digit (mark ++ rest) in
    let n : position_or_len is_no_digit (drop (length sign) bytes) ≡ length digits + p = ap (position_or_len is_no_digit) unsigned ∙ front_passes is_no_digit digits (mark ++ rest) each in
    let d = min (length digits + p) 39 in
    let is = len_at (length sign) bytes d (ap (λ x. min x 39) n) (omega arith) in
    elim (cases_lt (length digits) d) [
      | inl more ↦ omega (arith, is, mark_short mark is_mark)
      | inr exact ↦
          let dl : d ≡ length digits = omega arith in
          let behind : drop (length sign + d) bytes ≡ mark ++ rest =
          ap (λ x. drop (length sign + x) bytes) dl
          ∙ ap (drop (length sign + length digits)) (sym (append_assoc sign digits (mark ++ rest)))
          ∙ drop_at (sign ++ digits) (mark ++ rest) (length sign + length digits) (length-append sign digits) in
          omega (arith, is, dl, mark_fits mark rest is_mark, ap long_mark_len behind)
    ]

pub number_is_len : (bytes : List ℕ) (s : ℕ) → sign_len bytes ≡ s → number_len bytes ≡ len_of s bytes
unfolding number_len len_of
number_is_len bytes s e = ap (λ x. len_of x bytes) e

-- bytes that begin as a number does are cut as a number
number_cut : (b : ℕ) (bs : List ℕ) → (begins_word b ≡ false) × (is_backquote b ≡ false) × (is_quote b ≡ false) × ((eqb b 45 || is_ascii_digit b) ≡ true) → token_of (b ∷ bs) ≡ number_of (b ∷ bs)
unfolding token_of
number_cut b bs h = rw (h.0, h.1, h.2, h.3) refl

one_at : (t : Bool) (n : ℕ) → cond t 1 0 ≤ suc n
one_at true n = omega arith
one_at false n = omega arith

cond_le : (t : Bool) (x y : ℕ) → x ≤ y → cond t 0 x ≤ y
cond_le true x y h = omega arith
cond_le false x y h = h

pub one_within : (p : ℕ → Bool) (bytes : List ℕ) → cond (first_is p bytes) 1 0 ≤ length bytes
one_within p [] = omega arith
one_within p (b ∷ bytes) = one_at (p b) (length bytes)

len_of_within : (s : ℕ) (bytes : List ℕ) → s ≤ length bytes → len_of s bytes ≤ length bytes
unfolding len_of
len_of_within s bytes h =
    let n = position_or_len is_no_digit (drop s bytes) in
    let d = min n 39 in
    cond_le (eqb d 0) (s + d + long_mark_len (drop (s + d) bytes)) (length bytes)
    (omega (arith, prefix_len-le-length (λ x. not (is_no_digit x)) (drop s bytes), length-drop s bytes, one_within is_long_mark (drop (s + d) bytes), length-drop (s + d) bytes))

len_within : (bytes : List ℕ) → number_len bytes ≤ length bytes
len_within bytes = subst (λ n. n ≤ length bytes) (sym (number_is_len bytes (sign_len bytes) refl)) (len_of_within (sign_len bytes) bytes (one_within (λ b. eqb b 45) bytes))

number_takes : (n rest : List ℕ) (b : ℕ) (bs : List ℕ) → n ++ rest ≡ b ∷ bs → (begins_word b ≡ false) × (is_backquote b ≡ false) × (is_quote b ≡ false) × ((eqb b 45 || is_ascii_digit b) ≡ true) → 0 < length n → length n ≤ number_len (n ++ rest) → Takes (n ++ rest) (tokens.Number n) (length n)
number_takes n rest b bs e h some long =
    let l : List ℕ = n ++ rest in
    let cut : token_of l ≡ number_of l = ap token_of e ∙ number_cut b bs h ∙ ap number_of (sym e) in
    let not_none : eqb (number_len l) 0 ≡ false = ne_eqb (number_len l) 0 (λ z. omega arith) in
    record {
      found = (tokens.Number (take (number_len l) l), drop (number_len l) l);
      is = cut ∙ ap (λ t. cond t None (Some (tokens.Number (take (number_len l) l), drop (number_len l) l))) not_none;
      at_least = omega (arith, length-drop (number_len l) l, len_within l);
      same = λ e. ap (λ (x : List ℕ). tokens.Number x) (take_at n rest (number_len l) (omega (arith, length-drop (number_len l) l, len_within l, e)));
    }

front_of : (n sign digits mark rest : List ℕ) → n ≡ sign ++ (digits ++ mark) → n ++ rest ≡ sign ++ (digits ++ (mark ++ rest))
front_of n sign digits mark rest is = ap (λ (x : List ℕ). x ++ rest) is ∙ append_assoc sign (digits ++ mark) rest ∙ ap (λ (x : List ℕ). sign ++ x) (append_assoc digits mark rest)

length_of : (n sign digits mark : List ℕ) → n ≡ sign ++ (digits ++ mark) → length n ≡ length sign + (length digits + length mark)
length_of n sign digits mark is = omega (arith, ap length is, length-append sign (digits ++ mark), length-append digits mark)

long_enough : (n sign digits mark rest : List ℕ) → sign_len (n ++ rest) ≡ length sign → AllByRecursion (λ b. is_no_digit b ≡ false) digits → 0 < length digits → length digits ≤ 39 → (mark ≡ []) ⊎ ((mark ≡ 76 ∷ []) ⊎ (mark ≡ 108 ∷ [])) → n ≡ sign ++ (digits ++ mark) → length n ≤ number_len (n ++ rest)
long_enough n sign digits mark rest s each some few is_mark is =
    let k = len_long sign digits mark rest each some few is_mark in
    omega (arith, length_of n sign digits mark is, number_is_len (n ++ rest) (length sign) s, ap (len_of (length sign)) (front_of n sign digits mark rest is), k)

signed_again : (n sign digits mark rest : List ℕ) → (sign ≡ []) ⊎ (sign ≡ 45 ∷ []) → AllByRecursion (λ b. is_no_digit b ≡ false) digits → 0 < length digits → length digits ≤ 39 → (mark ≡ []) ⊎ ((mark ≡ 76 ∷ []) ⊎ (mark ≡ 108 ∷ [])) → n ≡ sign ++ (digits ++ mark) → Takes (n ++ rest) (tokens.Number n) (length n)
signed_again n sign [] mark rest is_sign each some few is_mark is = absurd (omega arith)
signed_again n sign (d ∷ digits) mark rest is_sign each some few is_mark is =
    let lens = length_of n sign (d ∷ digits) mark is in
    let begins = digit_begins d each.0 in
    elim is_sign [
      | inl e ↦
          let bytes : n ++ rest ≡ d ∷ (digits ++ (mark ++ rest)) = front_of n sign (d ∷ digits) mark rest is ∙ ap (λ (x : List ℕ). x ++ (d ∷ digits ++ (mark ++ rest))) e in
          let s : sign_len (n ++ rest) ≡ length sign = ap sign_len bytes ∙ ap (λ t. cond t 1 0) begins.4 ∙ sym (ap length e) in
          number_takes n rest d (digits ++ (mark ++ rest)) bytes (begins.0, begins.1, begins.2, begins.3) (omega (arith, lens)) (long_enough n sign (d ∷ digits) mark rest s each some few is_mark is)
      | inr e ↦
          let bytes : n ++ rest ≡ 45 ∷ (d ∷ digits ++ (mark ++ rest)) = front_of n sign (d ∷ digits) mark rest is ∙ ap (λ (x : List ℕ). x ++ (d ∷ digits ++ (mark ++ rest))) e in
          let s : sign_len (n ++ rest) ≡ length sign = ap sign_len bytes ∙ sym (ap length e) in
          number_takes n rest 45 (d ∷ digits ++ (mark ++ rest)) bytes (refl, refl, refl, refl) (omega (arith, lens)) (long_enough n sign (d ∷ digits) mark rest s each some few is_mark is)
    ]

number_again : (n rest : List ℕ) → IsNumber n → Takes (n ++ rest) (tokens.Number n) (length n)
number_again n rest h = signed_again n h.sign h.digits h.mark rest h.is_sign h.are_digits h.some h.few h.is_mark h.is

at_front : (a b rest : List ℕ) (u : Token) → a ≡ b → Takes (b ++ rest) u (length b) → Takes (a ++ rest) u (length a)
at_front a b rest u e h = subst (λ (x : List ℕ). Takes (x ++ rest) u (length x)) (sym e) h

string_cut : (q : ℕ) (bs : List ℕ) → is_quote q ≡ true → (92 ≡ q → ⊥) × (token_of (q ∷ bs) ≡ option_map (λ (x : List ℕ × List ℕ). (tokens.Str x.0, x.1)) (string_of q false bs))
unfolding token_of
string_cut q bs h = elim (or_cases (eqb q 39) (eqb q 34) h) [
  | inl e ↦ let is : 39 ≡ q = sym (eqb-true q 39 e) in subst (λ x. (92 ≡ x → ⊥) × (token_of (x ∷ bs) ≡ option_map (λ (y : List ℕ × List ℕ). (tokens.Str y.0, y.1)) (string_of x false bs))) is ((λ z. absurd (omega arith)), refl)
  | inr e ↦ let is : 34 ≡ q = sym (eqb-true q 34 e) in subst (λ x. (92 ≡ x → ⊥) × (token_of (x ∷ bs) ≡ option_map (λ (y : List ℕ × List ℕ). (tokens.Str y.0, y.1)) (string_of x false bs))) is ((λ z. absurd (omega arith)), refl)
]

string_again : (text s rest : List ℕ) → IsString text s → token_of (text ++ rest) ≡ Some (tokens.Str s, rest)
string_again text s rest h =
    let cut = string_cut h.quote (h.body ++ h.quote ∷ rest) h.is_quote_mark in
    ap token_of (ap (λ (x : List ℕ). x ++ rest) h.is ∙ ap (λ (x : List ℕ). h.quote ∷ x) (append_assoc h.body (h.quote ∷ []) rest))
    ∙ cut.1 ∙ ap (option_map (λ (x : List ℕ × List ℕ). (tokens.Str x.0, x.1))) (content_again s h.body h.quote rest cut.0 h.is_content)

quoted_token : (w rest : List ℕ) → 0 < length w → AllByRecursion (λ b. is_backquote b ≡ false) w → token_of ((96 ∷ w ++ 96 ∷ []) ++ rest) ≡ Some (tokens.Quoted w, rest)
unfolding token_of
quoted_token w rest some each = ap (λ (x : List ℕ). option_map (λ (y : List ℕ × List ℕ). (tokens.Quoted y.0, y.1)) (quoted_of x)) (append_assoc w (96 ∷ []) rest) ∙ ap (option_map (λ (y : List ℕ × List ℕ). (tokens.Quoted y.0, y.1))) (quoted_again w rest some each)

mark_token : (u : Token) (front rest : List ℕ) → token_of (front ++ rest) ≡ Some (u, rest) → (other : List ℕ) → other ≡ front → Takes (other ++ rest) u (length other)
mark_token u front rest e other is = at_front other front rest u is (whole_again u front rest e)

pub takes : (u : Token) (other rest : List ℕ) → IsSpelled u other → Takes (other ++ rest) u (length other)
unfolding token_of
takes (tokens.Word w) other rest h = at_front other w rest (tokens.Word w) h.0 (word_again w rest h.1)
takes (tokens.Quoted w) other rest h = at_front other (96 ∷ w ++ 96 ∷ []) rest (tokens.Quoted w) h.0 (whole_again (tokens.Quoted w) (96 ∷ w ++ 96 ∷ []) rest (quoted_token w rest h.1.some h.1.each))
takes (tokens.Str s) other rest h = whole_again (tokens.Str s) other rest (string_again other s rest h)
takes (tokens.Number n) other rest h = at_front other n rest (tokens.Number n) h.0 (number_again n rest h.1)
takes tokens.Dot other rest h = mark_token tokens.Dot (46 ∷ []) rest refl other h
takes tokens.Comma other rest h = mark_token tokens.Comma (44 ∷ []) rest refl other h
takes tokens.Open other rest h = mark_token tokens.Open (40 ∷ []) rest refl other h
takes tokens.Close other rest h = mark_token tokens.Close (41 ∷ []) rest refl other h
takes tokens.Arrow other rest h = mark_token tokens.Arrow (61 ∷ 62 ∷ []) rest refl other h
takes tokens.Semicolon other rest h = mark_token tokens.Semicolon (59 ∷ []) rest refl other h

-- ---- behind a word and a number something stands that doesn't go on with it

abbrev pub is_wordy : Token → Bool
is_wordy (tokens.Word w) = true
is_wordy (tokens.Number n) = true
is_wordy _ = false

abbrev pub Ends : List ℕ → Type 0
Ends rest = (rest ≡ []) ⊎ (first_is ends_word rest ≡ true)

ends_no_digit : (b : ℕ) → ends_word b ≡ true → (is_no_digit b ≡ true) × (is_long_mark b ≡ false)
ends_no_digit b h = (grind (arith, nat_tests, h), grind (arith, nat_tests, h))

ends_len : (p : ℕ → Bool) (rest : List ℕ) → ((b : ℕ) → ends_word b ≡ true → p b ≡ true) → Ends rest → position_or_len p rest ≡ 0
ends_len p [] h e = refl
ends_len p (b ∷ rest) h e = elim e [
  | inl k ↦ absurd cc
  | inr k ↦ rw (h b k) refl
]

ends_mark : (rest : List ℕ) → Ends rest → long_mark_len rest ≡ 0
ends_mark [] e = refl
ends_mark (b ∷ rest) e = elim e [
  | inl k ↦ absurd cc
  | inr k ↦ ap (λ t. cond t 1 0) (ends_no_digit b k).1
]

both : (a b : List ℕ) → ◌≡◌ {A = List ℕ × List ℕ} (take (length a) (a ++ b), drop (length a) (a ++ b)) (a, b)
both a b = rw (take_at a b (length a) refl, drop_at a b (length a) refl) refl

word_exact : (w rest : List ℕ) → IsWord w → Ends rest → token_of (w ++ rest) ≡ Some (tokens.Word w, rest)
unfolding token_of
word_exact [] rest h e = absurd (cc (h.first))
word_exact (b ∷ w) rest h e =
    let l : List ℕ = (b ∷ w) ++ rest in
    let n : position_or_len ends_word l ≡ length (b ∷ w) = front_passes ends_word (b ∷ w) rest h.each ∙ omega (arith, ends_len ends_word rest (λ c k. k) e) in
    ap (λ t. cond t (Some (tokens.Word (take (position_or_len ends_word l) l), drop (position_or_len ends_word l) l)) (cond (is_backquote b) (option_map (λ (x : List ℕ × List ℕ). (tokens.Quoted x.0, x.1)) (quoted_of (w ++ rest))) (cond (is_quote b) (option_map (λ (x : List ℕ × List ℕ). (tokens.Str x.0, x.1)) (string_of b false (w ++ rest))) (cond (eqb b 45 || is_ascii_digit b) (number_of l) (mark_of b (w ++ rest)))))) h.first
    ∙ ap (λ k. Some (tokens.Word (take k l), drop k l)) n
    ∙ ap (λ (p : List ℕ × List ℕ). Some (tokens.Word p.0, p.1)) (both (b ∷ w) rest)

mark_exact : (mark rest : List ℕ) → (mark ≡ []) ⊎ ((mark ≡ 76 ∷ []) ⊎ (mark ≡ 108 ∷ [])) → Ends rest → (position_or_len is_no_digit (mark ++ rest) ≡ 0) × (long_mark_len (mark ++ rest) ≡ length mark)
mark_exact mark rest h e = elim h [
  | inl k ↦ rw k (ends_len is_no_digit rest (λ c d. (ends_no_digit c d).0) e, ends_mark rest e)
  | inr k ↦ elim k [ inl m ↦ rw m (refl, refl) | inr m ↦ rw m (refl, refl) ]
]

len_exact : (sign digits mark rest : List ℕ) → AllByRecursion (λ b. is_no_digit b ≡ false) digits → 0 < length digits → length digits ≤ 39 → (mark ≡ []) ⊎ ((mark ≡ 76 ∷ []) ⊎ (mark ≡ 108 ∷ [])) → Ends rest
    → len_of (length sign) (sign ++ (digits ++ (mark ++ rest))) ≡ length sign + (length digits + length mark)
len_exact sign digits mark rest each some few is_mark e =
    let bytes : List ℕ = sign ++ (digits ++ (mark ++ rest)) in
    let m = mark_exact mark rest is_mark e in
    let unsigned : drop (length sign) bytes ≡ digits ++ (mark ++ rest) = drop_at sign (digits ++ (mark ++ rest)) (length sign) refl in
    let n : position_or_len is_no_digit (drop (length sign) bytes) ≡ length digits = ap (position_or_len is_no_digit) unsigned ∙ front_passes is_no_digit digits (mark ++ rest) each ∙ omega (arith, m.0) in
    let is = len_at (length sign) bytes (length digits) (ap (λ x. min x 39) n ∙ omega arith) some in
    let behind : drop (length sign + length digits) bytes ≡ mark ++ rest = ap (drop (length sign + length digits)) (sym (append_assoc sign digits (mark ++ rest))) ∙ drop_at (sign ++ digits) (mark ++ rest) (length sign + length digits) (length-append sign digits) in
    omega (arith, is, m.1, ap long_mark_len behind)

-- where the length is that of the text, the number is the text
number_whole : (n rest : List ℕ) → token_of (n ++ rest) ≡ number_of (n ++ rest) → number_len (n ++ rest) ≡ length n → 0 < length n → token_of (n ++ rest) ≡ Some (tokens.Number n, rest)
number_whole n rest cut e some =
    let l : List ℕ = n ++ rest in
    cut
    ∙ ap (λ t. cond t None (Some (tokens.Number (take (number_len l) l), drop (number_len l) l))) (ne_eqb (number_len l) 0 (λ z. omega arith))
    ∙ ap (λ k. Some (tokens.Number (take k l), drop k l)) e
    ∙ ap (λ (p : List ℕ × List ℕ). Some (tokens.Number p.0, p.1)) (both n rest)

number_begins : (n sign digits mark rest : List ℕ) → (sign ≡ []) ⊎ (sign ≡ 45 ∷ []) → AllByRecursion (λ b. is_no_digit b ≡ false) digits → 0 < length digits → n ≡ sign ++ (digits ++ mark) → (token_of (n ++ rest) ≡ number_of (n ++ rest)) × (sign_len (n ++ rest) ≡ length sign)
number_begins n sign [] mark rest is_sign each some is = absurd (omega arith)
number_begins n sign (d ∷ digits) mark rest is_sign each some is =
    let begins = digit_begins d each.0 in
    elim is_sign [
      | inl e ↦
          let bytes : n ++ rest ≡ d ∷ (digits ++ (mark ++ rest)) = front_of n sign (d ∷ digits) mark rest is ∙ ap (λ (x : List ℕ). x ++ (d ∷ digits ++ (mark ++ rest))) e in
          (ap token_of bytes ∙ number_cut d (digits ++ (mark ++ rest)) (begins.0, begins.1, begins.2, begins.3) ∙ ap number_of (sym bytes), ap sign_len bytes ∙ ap (λ t. cond t 1 0) begins.4 ∙ sym (ap length e))
      | inr e ↦
          let bytes : n ++ rest ≡ 45 ∷ (d ∷ digits ++ (mark ++ rest)) = front_of n sign (d ∷ digits) mark rest is ∙ ap (λ (x : List ℕ). x ++ (d ∷ digits ++ (mark ++ rest))) e in
          (ap token_of bytes ∙ number_cut 45 (d ∷ digits ++ (mark ++ rest)) (refl, refl, refl, refl) ∙ ap number_of (sym bytes), ap sign_len bytes ∙ sym (ap length e))
    ]

number_exact : (n rest : List ℕ) → IsNumber n → Ends rest → token_of (n ++ rest) ≡ Some (tokens.Number n, rest)
number_exact n rest h e =
    let b = number_begins n h.sign h.digits h.mark rest h.is_sign h.are_digits h.some h.is in
    let lens = length_of n h.sign h.digits h.mark h.is in
    let total : number_len (n ++ rest) ≡ length n =
    number_is_len (n ++ rest) (length h.sign) b.1 ∙ ap (len_of (length h.sign)) (front_of n h.sign h.digits h.mark rest h.is) ∙ len_exact h.sign h.digits h.mark rest h.are_digits h.some h.few h.is_mark e ∙ sym lens in
    number_whole n rest b.0 total (omega (arith, lens, h.some))

-- what spells a token is read as it, where nothing goes on with it
pub again : (u : Token) (text rest : List ℕ) → IsSpelled u text → (is_wordy u ≡ true → Ends rest) → token_of (text ++ rest) ≡ Some (u, rest)
unfolding token_of
again (tokens.Word w) text rest h e = ap (λ (x : List ℕ). token_of (x ++ rest)) h.0 ∙ word_exact w rest h.1 (e refl)
again (tokens.Quoted w) text rest h e = ap (λ (x : List ℕ). token_of (x ++ rest)) h.0 ∙ quoted_token w rest h.1.some h.1.each
again (tokens.Str s) text rest h e = string_again text s rest h
again (tokens.Number n) text rest h e = ap (λ (x : List ℕ). token_of (x ++ rest)) h.0 ∙ number_exact n rest h.1 (e refl)
again tokens.Dot text rest h e = ap (λ (x : List ℕ). token_of (x ++ rest)) h
again tokens.Comma text rest h e = ap (λ (x : List ℕ). token_of (x ++ rest)) h
again tokens.Open text rest h e = ap (λ (x : List ℕ). token_of (x ++ rest)) h
again tokens.Close text rest h e = ap (λ (x : List ℕ). token_of (x ++ rest)) h
again tokens.Arrow text rest h e = ap (λ (x : List ℕ). token_of (x ++ rest)) h
again tokens.Semicolon text rest h e = ap (λ (x : List ℕ). token_of (x ++ rest)) h
