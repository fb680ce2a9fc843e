-- A text without its ending slashes.
use Rattle.std.proofs.Common.{◌≡◌, ◌⊎◌, inl, inr, ℕ, zero, suc, ◌+◌, ◌-◌, ◌^◌, ◌<◌, ◌≤◌, true, false, List, [], ◌∷◌, ◌++◌, length, length-append, take, get_or, nat_eq, nat_lt, refl, sym, ap, ◌∙◌, subst, arith}
use Rattle.std.proofs.lemmas.Bool.{eqb-true}
use Rattle.std.proofs.lemmas.Bool.Decides.{nat_tests}
use Rattle.std.proofs.lemmas.List.{take_more}
use Rattle.std.proofs.Math.Seq.{take-append_seam, get_or-append_seam}
use Rattle.std.proofs.lemmas.Str.{IsUtf8-append, IsUtf8-from_ascii, IsUtf8-take, IsCharBoundary-before_ascii, IsAscii-append}
use Rattle.std.proofs.lemmas.Fmt.{IsAscii-decimal}
use Rattle.std.specs.Prelude.{codes}
use Rattle.std.specs.List.{list_all}
use Rattle.std.specs.Fmt.{decimal}
use Rattle.std.specs.Str.{IsUtf8, IsAscii}
use Rattle.commit_history.specs.Versions.{ending}
use Rattle.ice_store.proofs.FileLaws.{by_test}
use Rattle.commit_versions.specs.Names.{kept, unslashed, version_name, version_text_of}

pub unslashed-slash : (text : List ℕ) → unslashed (text ++ 47 ∷ []) ≡ unslashed text
unslashed-slash [] = refl
unslashed-slash (b ∷ text) = ap (kept b) (unslashed-slash text)

kept_before : (b c : ℕ) (text : List ℕ) → kept b (text ++ c ∷ []) ≡ b ∷ (text ++ c ∷ [])
kept_before b c [] = refl
kept_before b c (d ∷ text) = refl

pub unslashed-other : (text : List ℕ) (c : ℕ) → nat_eq c 47 ≡ false → unslashed (text ++ c ∷ []) ≡ text ++ c ∷ []
unslashed-other [] c e = rw e refl
unslashed-other (b ∷ text) c e = ap (kept b) (unslashed-other text c e) ∙ kept_before b c text

-- slashes are all that is dropped
abbrev Splits : List ℕ → List ℕ → Type 0
Splits text front = (text ≡ front) ⊎ ((rest : List ℕ) × (text ≡ front ++ 47 ∷ rest))

split_more : (b : ℕ) (text front : List ℕ) → Splits text front → Splits (b ∷ text) (kept b front)
split_more b text (c ∷ front) (inl e) = inl (ap (λ (l : List ℕ). b ∷ l) e)
split_more b text (c ∷ front) (inr s) = inr (s.0, ap (λ (l : List ℕ). b ∷ l) s.1)
split_more b text [] s = by_test (nat_eq b 47)
    (λ t. inr (text, ap (λ (x : ℕ). x ∷ text) (eqb-true b 47 t) ∙ ap (λ (l : List ℕ). l ++ 47 ∷ text) (sym (dropped t))))
    (λ t. other t s)
  where
    dropped : nat_eq b 47 ≡ true → kept b [] ≡ []
    dropped t = rw t refl

    stays : nat_eq b 47 ≡ false → kept b [] ≡ b ∷ []
    stays t = rw t refl

    other : nat_eq b 47 ≡ false → Splits text [] → Splits (b ∷ text) (kept b [])
    other t (inl e) = inl (ap (λ (l : List ℕ). b ∷ l) e ∙ sym (stays t))
    other t (inr s) = inr (s.0, ap (λ (l : List ℕ). b ∷ l) s.1 ∙ ap (λ (l : List ℕ). l ++ 47 ∷ s.0) (sym (stays t)))

splits : (text : List ℕ) → Splits text (unslashed text)
splits [] = inl refl
splits (b ∷ text) = split_more b text (unslashed text) (splits text)

-- the end of a text, which has slashes taken off
module _ (text : List ℕ) (n : ℕ) (pos : 0 < n) (le : n ≤ length text) where
  last : take n text ≡ take (n - 1) text ++ get_or text (n - 1) 0 ∷ []
  last = let k : n ≡ n - 1 + 1 = omega arith in ap (λ (m : ℕ). take m text) k ∙ take_more text (n - 1) 0 (omega arith)

  pub slash_taken : (v : List ℕ) → get_or text (n - 1) 0 ≡ 47 → unslashed (take n text) ≡ v → unslashed (take (n - 1) text) ≡ v
  slash_taken v slash is =
      sym (ap unslashed last ∙ ap (λ (b : ℕ). unslashed (take (n - 1) text ++ b ∷ [])) slash ∙ unslashed-slash (take (n - 1) text)) ∙ is

  pub no_slash : (v : List ℕ) → (get_or text (n - 1) 0 ≡ 47 → ⊥) → unslashed (take n text) ≡ v → take n text ≡ v
  no_slash v other is =
      let differs : nat_eq (get_or text (n - 1) 0) 47 ≡ false = grind (arith, nat_tests) in
      last ∙ sym (ap unslashed last ∙ unslashed-other (take (n - 1) text) (get_or text (n - 1) 0) differs) ∙ is

pub nothing_left : (text : List ℕ) (n : ℕ) (v : List ℕ) → n ≤ 0 → unslashed (take n text) ≡ v → take n text ≡ v
nothing_left text zero v le is = is
nothing_left text (suc n) v le is = absurd (omega arith)

-- UTF-8 stays UTF-8.

front_utf8 : (text front rest : List ℕ) → text ≡ front ++ 47 ∷ rest → IsUtf8 text → IsUtf8 front
front_utf8 text front rest is utf8 =
    let whole : IsUtf8 (front ++ 47 ∷ rest) = subst IsUtf8 is utf8 in
    let slash = get_or-append_seam front 47 rest 0 in
    let cut = IsCharBoundary-before_ascii (front ++ 47 ∷ rest) (length front) (omega (arith, length-append front (47 ∷ rest), length-cons)) (omega (arith, slash)) in
    subst IsUtf8 (take-append_seam front (47 ∷ rest)) (IsUtf8-take (front ++ 47 ∷ rest) (length front) whole cut)
  where
    length-cons : length (47 ∷ rest) ≡ suc (length rest)
    length-cons = refl

unslashed_utf8 : (text : List ℕ) → Splits text (unslashed text) → IsUtf8 text → IsUtf8 (unslashed text)
unslashed_utf8 text (inl is) utf8 = subst IsUtf8 is utf8
unslashed_utf8 text (inr s) utf8 = front_utf8 text (unslashed text) s.0 s.1 utf8

ascii_by_test : (text : List ℕ) → list_all (λ b. nat_lt b 128) text ≡ true → IsAscii text
ascii_by_test [] e i = omega arith
ascii_by_test (b ∷ text) e zero = grind (arith, nat_tests)
ascii_by_test (b ∷ text) e (suc i) = ascii_by_test text (grind (arith, nat_tests)) i

pub IsUtf8-version_text : (location : List ℕ) (n : ℕ) → n < 2 ^ 64 → IsUtf8 location → IsUtf8 (version_text_of location n)
IsUtf8-version_text location n lt utf8 =
    IsUtf8-append (unslashed location) (codes "/metadata/" ++ version_name n) (unslashed_utf8 location (splits location) utf8)
    (IsUtf8-from_ascii (codes "/metadata/" ++ version_name n) (IsAscii-append (codes "/metadata/") (version_name n) (ascii_by_test (codes "/metadata/") refl)
    (IsAscii-append (118 ∷ decimal n) ending (IsAscii-append (118 ∷ []) (decimal n) (ascii_by_test (118 ∷ []) refl) (IsAscii-decimal n lt)) (ascii_by_test ending refl))))
