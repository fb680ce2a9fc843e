-- How a text is cut into the parts of a place.
use Rattle.std.proofs.Common.{◌≡◌, ◌≢◌, MatchOption, Bor, ℕ, suc, ◌+◌, ◌-◌, ◌≤◌, ◌<◌, true, false, List, [], ◌∷◌, ◌++◌, length, take, drop, get_or, slice_range, get_or-drop, length-drop, Option, Some, None, Result, Ok, Err, refl, sym, ap, ◌∙◌, subst, arith, nat_eq, append_assoc, append-nil}
use Rattle.std.proofs.Math.Seq.{drop-cons, take-length}
use Rattle.std.proofs.Math.ListN.{drop_of_length-le}
use Rattle.std.proofs.lemmas.List.{take_more, length-take-le}
use Rattle.std.proofs.lemmas.List.Folds.{drop_split, list_any-append}
use Rattle.std.proofs.lemmas.List.Elements.{filter-append}
use Rattle.std.proofs.lemmas.Bool.Decides.{nat_tests}
use Rattle.std.specs.List.{list_any, filter}
use Rattle.std.specs.Cmp.Lexicographic.{pointwise}
use Rattle.std.proofs.lemmas.Slice.Eq.{starts_is, bytes_eq-Decides}
use Rattle.ice_store.proofs.FileLaws.{by_test}
use Rattle.ice_store.specs.Places.{Parts, is_under, pieces, onto_first, is_filled, is_barred, first_barred, unless, parts_from, below, AddsPiece, AddsParts}
use Rattle.ice_store.specs.declared.place.PlaceErr.{PlaceErr}
use Rattle.ice_store.specs.declared.place.PlaceErr.TheVariants.{Bad, Memory}

-- a front without a slash is the first piece
pub pieces_cut : (front rest : List ℕ) → list_any (λ b. nat_eq b 47) front ≡ false → pieces (front ++ 47 ∷ rest) ≡ front ∷ pieces rest
pieces_cut [] rest clear = refl
pieces_cut (b ∷ bs) rest clear = elim (nat_eq b 47) as (λ t. nat_eq b 47 ≡ t → pieces (b ∷ (bs ++ 47 ∷ rest)) ≡ (b ∷ bs) ∷ pieces rest) [
  | true ↦ λ e. absurd (let k = rw e at clear in cc)
  | false ↦ λ e. rw e (ap (onto_first b) (pieces_cut bs rest (rw e at clear)))
] refl

-- and the last one, where nothing follows
pub pieces_end : (front : List ℕ) → list_any (λ b. nat_eq b 47) front ≡ false → pieces front ≡ front ∷ []
pieces_end [] clear = refl
pieces_end (b ∷ bs) clear = elim (nat_eq b 47) as (λ t. nat_eq b 47 ≡ t → pieces (b ∷ bs) ≡ (b ∷ bs) ∷ []) [
  | true ↦ λ e. absurd (let k = rw e at clear in cc)
  | false ↦ λ e. rw e (ap (onto_first b) (pieces_end bs (rw e at clear)))
] refl

-- a part before the rest
below_more : (old front : Parts) (o : Option ℕ) (rest : Parts) → below old (unless o (front ++ rest)) ≡ below (old ++ front) (unless o rest)
below_more old front None rest = ap (λ (l : Parts). Ok l) (sym (append_assoc old front rest))
below_more old front (Some at) rest = refl

-- a good piece is taken off the front
pub piece_taken : (old : Parts) (at : ℕ) (piece rest : List ℕ) → list_any (λ b. nat_eq b 47) piece ≡ false → is_barred piece ≡ false
    → below old (parts_from at (piece ++ 47 ∷ rest)) ≡ below (old ++ filter is_filled (piece ∷ [])) (parts_from (at + length piece + 1) rest)
piece_taken old at piece rest clear good =
    rw (pieces_cut piece rest clear, good)
    (ap (λ (l : Parts). below old (unless (first_barred (at + length piece + 1) (pieces rest)) l)) (filter-append is_filled (piece ∷ []) (pieces rest))
    ∙ below_more old (filter is_filled (piece ∷ [])) (first_barred (at + length piece + 1) (pieces rest)) (filter is_filled (pieces rest)))

-- a barred one refuses the text
pub piece_refused : (at : ℕ) (piece rest : List ℕ) → list_any (λ b. nat_eq b 47) piece ≡ false → is_barred piece ≡ true
    → parts_from at (piece ++ 47 ∷ rest) ≡ Err at
piece_refused at piece rest clear bad = rw (pieces_cut piece rest clear, bad) refl

pub last_taken : (old : Parts) (at : ℕ) (piece : List ℕ) → list_any (λ b. nat_eq b 47) piece ≡ false → is_barred piece ≡ false
    → below old (parts_from at piece) ≡ Ok (old ++ filter is_filled (piece ∷ []))
last_taken old at piece clear good = rw (pieces_end piece clear, good) refl

pub last_refused : (at : ℕ) (piece : List ℕ) → list_any (λ b. nat_eq b 47) piece ≡ false → is_barred piece ≡ true → parts_from at piece ≡ Err at
last_refused at piece clear bad = rw (pieces_end piece clear, bad) refl

pub below_err : (old : Parts) (r : Result Parts ℕ) (at : ℕ) → below old r ≡ Err at → r ≡ Err at
below_err old (Ok parts) at is = absurd (cc)
below_err old (Err a) at is = cc

one_more : (i : ℕ) → suc i ≡ i + 1
one_more i = omega arith

nothing : (i : ℕ) → i - i ≡ 0
nothing i = omega arith

back : (start i : ℕ) → start ≤ i → start + (i - start) ≡ i
back start i le = omega arith

pub length_piece : (text : List ℕ) (start i : ℕ) → start ≤ i → i ≤ length text → start + length (slice_range text start i) ≡ i
length_piece text start i le lt = let fits : i - start ≤ length (drop start text) = omega (arith, length-drop start text) in omega (arith, length-take-le (i - start) (drop start text) fits)

-- a slash ends the piece that began before it
pub cut_at : (text : List ℕ) (start i d : ℕ) → start ≤ i → i < length text → get_or text i d ≡ 47 → drop start text ≡ slice_range text start i ++ 47 ∷ drop (i + 1) text
cut_at text start i d le lt is =
    drop_split text start i le ∙ ap (λ (l : List ℕ). slice_range text start i ++ l) (drop-cons text i d lt ∙ ap (λ (b : ℕ). b ∷ drop (suc i) text) is ∙ ap (λ (n : ℕ). 47 ∷ drop n text) (one_more i))

pub clear_none : (text : List ℕ) (i : ℕ) → list_any (λ b. nat_eq b 47) (slice_range text i i) ≡ false
clear_none text i = ap (λ (n : ℕ). list_any (λ b. nat_eq b 47) (take n (drop i text))) (nothing i)

-- one byte more that is no slash
pub clear_more : (text : List ℕ) (start i d : ℕ) → start ≤ i → i < length text → (get_or text i d ≡ 47 → ⊥) → list_any (λ b. nat_eq b 47) (slice_range text start i) ≡ false
    → list_any (λ b. nat_eq b 47) (slice_range text start (i + 1)) ≡ false
clear_more text start i d le lt other clear =
    let k : i + 1 - start ≡ (i - start) + 1 = omega arith in
    let inside : i - start < length (drop start text) = omega (arith, length-drop start text) in
    let more : slice_range text start (i + 1) ≡ slice_range text start i ++ get_or (drop start text) (i - start) d ∷ [] =
    ap (λ (n : ℕ). take n (drop start text)) k ∙ take_more (drop start text) (i - start) d inside in
    let byte : get_or (drop start text) (i - start) d ≡ get_or text i d = get_or-drop start text (i - start) d ∙ ap (λ (n : ℕ). get_or text n d) (back start i le) in
    let no_slash : nat_eq (get_or text i d) 47 ≡ false = grind (arith, nat_tests) in
    ap (list_any (λ b. nat_eq b 47)) (more ∙ ap (λ (b : ℕ). slice_range text start i ++ b ∷ []) byte)
    ∙ list_any-append (λ b. nat_eq b 47) (slice_range text start i) (get_or text i d ∷ []) ∙ rw (clear, no_slash) refl

below_is : {m n : ℕ} → m < n → m ≤ n
below_is lt = omega arith

-- what is cut so far, and what is still to be cut, are the whole
module _ (text : List ℕ) (from start i : ℕ) (old initial : Parts) (le : start ≤ i) (clear : list_any (λ b. nat_eq b 47) (slice_range text start i) ≡ false)
    (whole : below old (parts_from (from + start) (drop start text)) ≡ below initial (parts_from from text)) where
  pub cut_on : (new : Parts) → i < length text → get_or text i 0 ≡ 47 → is_barred (slice_range text start i) ≡ false → new ≡ old ++ filter is_filled (slice_range text start i ∷ [])
      → below new (parts_from (from + (i + 1)) (drop (i + 1) text)) ≡ below initial (parts_from from text)
  cut_on new lt slash good is =
      let piece = slice_range text start i in
      let place : from + start + length piece + 1 ≡ from + (i + 1) = omega (arith, length_piece text start i le (below_is lt)) in
      ap (λ (p : Parts). below p (parts_from (from + (i + 1)) (drop (i + 1) text))) is
      ∙ ap (λ (n : ℕ). below (old ++ filter is_filled (piece ∷ [])) (parts_from n (drop (i + 1) text))) (sym place)
      ∙ sym (piece_taken old (from + start) piece (drop (i + 1) text) clear good)
      ∙ ap (λ (l : List ℕ). below old (parts_from (from + start) l)) (sym (cut_at text start i 0 le lt slash))
      ∙ whole

  pub cut_refused : i < length text → get_or text i 0 ≡ 47 → is_barred (slice_range text start i) ≡ true → parts_from from text ≡ Err (from + start)
  cut_refused lt slash bad = below_err initial (parts_from from text) (from + start) (sym whole
      ∙ ap (λ (l : List ℕ). below old (parts_from (from + start) l)) (cut_at text start i 0 le lt slash)
      ∙ ap (below old) (piece_refused (from + start) (slice_range text start i) (drop (i + 1) text) clear bad))

  all_left : length text ≤ i → slice_range text start i ≡ drop start text
  all_left ge = sym (drop_split text start i le ∙ ap (λ (l : List ℕ). slice_range text start i ++ l) (drop_of_length-le text ge) ∙ append-nil (slice_range text start i))

  pub cut_ended : (new : Parts) (result : Result (Unit {0}) PlaceErr) → length text ≤ i → AddsPiece (drop start text) (from + start) old new result → AddsParts (parts_from from text) initial new result
  cut_ended new (Ok u) ge adds = sym whole ∙ last_taken old (from + start) (drop start text) (subst (λ (l : List ℕ). list_any (λ b. nat_eq b 47) l ≡ false) (all_left ge) clear) adds.0 ∙ ap (λ (p : Parts). Ok p) (sym adds.1)
  cut_ended new (Err (Bad at)) ge adds = below_err initial (parts_from from text) at (sym whole
      ∙ ap (below old) (last_refused (from + start) (drop start text) (subst (λ (l : List ℕ). list_any (λ b. nat_eq b 47) l ≡ false) (all_left ge) clear) adds.0 ∙ ap (λ (n : ℕ). Err n) (sym adds.1)))
  cut_ended new (Err Memory) ge adds = tt

  pub cut_failed : (new : Parts) (e : PlaceErr) → i < length text → get_or text i 0 ≡ 47 → AddsPiece (slice_range text start i) (from + start) old new (Err e) → AddsParts (parts_from from text) initial new (Err e)
  cut_failed new (Bad at) lt slash adds = cut_refused lt slash adds.0 ∙ ap (λ (n : ℕ). Err n) (sym adds.1)
  cut_failed new Memory lt slash adds = tt

pub below_nothing : (r : Result Parts ℕ) → below [] r ≡ r
below_nothing (Ok parts) = refl
below_nothing (Err at) = refl

pub whole_rest : (start : ℕ) (text : List ℕ) → take (length text - start) (drop start text) ≡ drop start text
whole_rest start text = ap (λ (n : ℕ). take n (drop start text)) (sym (length-drop start text)) ∙ take-length (drop start text)

-- the parts behind a folder's, where they are looked for
pub parts_below : (parts dir : Parts) (r : Option (Bor Parts)) → MatchOption r ((rest : Parts) → parts ≢ dir ++ rest) (λ x. parts ≡ dir ++ x.now)
    → MatchOption r (is_under parts dir ≡ false) (λ x. parts ≡ dir ++ x.now)
parts_below parts dir (Some x) found = found
parts_below parts dir None found = by_test (is_under parts dir)
    (λ t. absurd (found (drop (length dir) parts) ((starts_is {E = pointwise nat_eq} bytes_eq-Decides parts dir (is_under parts dir) refl).0 t)))
    (λ t. t)
