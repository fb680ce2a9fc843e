-- How a text is put in runs, with an escape behind each but the last.
use Rattle.std.proofs.Common.{◌≡◌, ℕ, suc, ◌+◌, ◌-◌, ◌≤◌, ◌<◌, List, [], ◌∷◌, ◌++◌, length, take, drop, get_or, IsErr, slice_range, get_or-drop, length-drop, Option, Result, Ok, Err, refl, sym, ap, ◌∙◌, subst, arith, append_assoc}
use Rattle.std.proofs.Math.Seq.{drop-cons, take-length}
use Rattle.std.proofs.Math.ListN.{drop_of_length-le}
use Rattle.std.proofs.lemmas.List.{take_more}
use Rattle.std.proofs.lemmas.List.Folds.{drop_split}
use Rattle.ice_store.specs.declared.outside.Failed.{Failed}
use Rattle.run_answers.specs.Escapes.{escape, escaped}
use Rattle.run_answers.specs.Puts.{IsPut}
use Rattle.run_answers.proofs.PutLaws.{nothing_put, put_on, put_lost}

-- the bytes before `start` are put, and those from there to `i` stand for themselves
pub record Reached (before now : Option (List ℕ)) (earlier later : ℕ) (text : List ℕ) (start i : ℕ) : Type 0 where
  pub written : List ℕ
  pub put : IsPut before now earlier later written (Ok tt)
  pub behind : start ≤ i
  pub whole : escaped text ≡ written ++ (slice_range text start i ++ escaped (drop i text))

pub reached_nothing : (a : Option (List ℕ)) (m : ℕ) (text : List ℕ) → Reached a a m m text 0 0
reached_nothing a m text = record { written = []; put = nothing_put a m tt; behind = omega arith; whole = refl }

escaped_more : (b : ℕ) (rest : List ℕ) → escaped (b ∷ rest) ≡ escape b ++ escaped rest
unfolding escaped
escaped_more b rest = refl

escaped_none : escaped [] ≡ []
unfolding escaped
escaped_none = refl

one_more : (i : ℕ) → suc i ≡ i + 1
one_more i = omega arith

nothing : (i : ℕ) → i - i ≡ 0
nothing i = omega arith

back : (start i : ℕ) → start ≤ i → start + (i - start) ≡ i
back start i le = omega arith

-- the byte at `i`, and what is behind it
escaped_at : (text : List ℕ) (i d : ℕ) → i < length text → escaped (drop i text) ≡ escape (get_or text i d) ++ escaped (drop (i + 1) text)
escaped_at text i d lt =
    ap escaped (drop-cons text i d lt) ∙ escaped_more (get_or text i d) (drop (suc i) text)
    ∙ ap (λ (n : ℕ). escape (get_or text i d) ++ escaped (drop n text)) (one_more i)

slice_more : (text : List ℕ) (start i d : ℕ) → start ≤ i → i < length text → slice_range text start (i + 1) ≡ slice_range text start i ++ get_or text i d ∷ []
slice_more text start i d le lt =
    let k : i + 1 - start ≡ (i - start) + 1 = omega arith in
    let inside : i - start < length (drop start text) = omega (arith, length-drop start text) in
    let byte : get_or (drop start text) (i - start) d ≡ get_or text i d = get_or-drop start text (i - start) d ∙ ap (λ (n : ℕ). get_or text n d) (back start i le) in
    ap (λ (n : ℕ). take n (drop start text)) k ∙ take_more (drop start text) (i - start) d inside
    ∙ ap (λ (b : ℕ). slice_range text start i ++ b ∷ []) byte

slice_nothing : (text : List ℕ) (i : ℕ) → slice_range text i i ≡ []
slice_nothing text i = ap (λ (n : ℕ). take n (drop i text)) (nothing i)

-- three runs and a rest, from the left
regrouped : (a b c d : List ℕ) → a ++ (b ++ (c ++ d)) ≡ ((a ++ b) ++ c) ++ d
regrouped a b c d = sym (append_assoc (a ++ b) c d ∙ append_assoc a b (c ++ d))

pub whole_rest : (start : ℕ) (text : List ℕ) → take (length text - start) (drop start text) ≡ drop start text
whole_rest start text = ap (λ (n : ℕ). take n (drop start text)) (sym (length-drop start text)) ∙ take-length (drop start text)

module _ (a b : Option (List ℕ)) (m n : ℕ) (text : List ℕ) (start i : ℕ) (reached : Reached a b m n text start i) where
  run : List ℕ
  run = slice_range text start i

  -- a byte that stands for itself
  pub reached_plain : (d : ℕ) → i < length text → escape (get_or text i d) ≡ get_or text i d ∷ [] → Reached a b m n text start (i + 1)
  unfolding run
  reached_plain d lt plain =
      let x = get_or text i d in
      let rest = escaped (drop (i + 1) text) in
      let behind_it : escaped (drop i text) ≡ x ∷ [] ++ rest = escaped_at text i d lt ∙ ap (λ (l : List ℕ). l ++ rest) plain in
      record {
        written = reached.written;
        put = reached.put;
        behind = let le = reached.behind in omega arith;
        whole = reached.whole
            ∙ ap (λ (l : List ℕ). reached.written ++ (run ++ l)) behind_it
            ∙ ap (λ (l : List ℕ). reached.written ++ l) (sym (append_assoc run (x ∷ []) rest) ∙ ap (λ (l : List ℕ). l ++ rest) (sym (slice_more text start i d reached.behind lt)));
      }

  module _ (c : Option (List ℕ)) (k d : ℕ) (lt : i < length text) (written : List ℕ) (is : escape (get_or text i d) ≡ written) where
    rest : List ℕ
    rest = escaped (drop (i + 1) text)

    all : escaped text ≡ ((reached.written ++ run) ++ written) ++ rest
    unfolding run rest
    all = reached.whole
        ∙ ap (λ (l : List ℕ). reached.written ++ (run ++ l)) (escaped_at text i d lt ∙ ap (λ (l : List ℕ). l ++ rest) is)
        ∙ regrouped reached.written run written rest

    -- an escape, and the run before it
    pub reached_escape : (e : Option (List ℕ)) (j : ℕ) → IsPut b c n k (slice_range text start i) (Ok tt) → IsPut c e k j written (Ok tt) → Reached a e m j text (i + 1) (i + 1)
    unfolding run rest
    reached_escape e j first second = record {
      written = (reached.written ++ run) ++ written;
      put = put_on a c e m k j (reached.written ++ run) written tt (Ok tt) (put_on a b c m n k reached.written run tt (Ok tt) reached.put first) second;
      behind = omega arith;
      whole = all ∙ ap (λ (l : List ℕ). ((reached.written ++ run) ++ written) ++ (l ++ rest)) (sym (slice_nothing text (i + 1)));
    }

    pub lost_run : (f : Failed) (r : Result (Unit {0}) Failed) → IsPut b c n k (slice_range text start i) (Err f) → IsErr r → IsPut a c m k (escaped text) r
    unfolding run rest
    lost_run f r lost err =
        subst (λ (l : List ℕ). IsPut a c m k l r) (sym (all ∙ append_assoc (reached.written ++ run) written rest))
        (put_lost a c m k (reached.written ++ run) (written ++ rest) f r (put_on a b c m n k reached.written run tt (Err f) reached.put lost) err)

    pub lost_escape : (e : Option (List ℕ)) (j : ℕ) (f : Failed) (r : Result (Unit {0}) Failed) → IsPut b c n k (slice_range text start i) (Ok tt) → IsPut c e k j written (Err f) → IsErr r
        → IsPut a e m j (escaped text) r
    unfolding run rest
    lost_escape e j f r first lost err =
        subst (λ (l : List ℕ). IsPut a e m j l r) (sym all)
        (put_lost a e m j ((reached.written ++ run) ++ written) rest f r
        (put_on a c e m k j (reached.written ++ run) written tt (Err f) (put_on a b c m n k reached.written run tt (Ok tt) reached.put first) lost) err)

  -- the last run
  pub finished : (c : Option (List ℕ)) (k : ℕ) (r : Result (Unit {0}) Failed) → length text ≤ i → IsPut b c n k (drop start text) r → IsPut a c m k (escaped text) r
  finished c k r ge last =
      let none : drop i text ≡ [] = drop_of_length-le text ge in
      let left : slice_range text start i ++ escaped (drop i text) ≡ drop start text =
      ap (λ (l : List ℕ). slice_range text start i ++ l) (ap escaped none ∙ escaped_none ∙ sym none) ∙ sym (drop_split text start i reached.behind) in
      subst (λ (l : List ℕ). IsPut a c m k l r) (sym (reached.whole ∙ ap (λ (l : List ℕ). reached.written ++ l) left))
      (put_on a b c m n k reached.written (drop start text) tt r reached.put last)
