-- Which names version files and drafts have.
use Rattle.std.proofs.Common.{◌≡◌, ℕ, zero, suc, ◌+◌, ◌/◌, ◌%◌, ◌^◌, ◌<◌, ◌≤◌, Bool, true, false, List, [], ◌∷◌, ◌++◌, length, Some, nat_eq, refl, ap, ◌∙◌, arith}
use Rattle.std.specs.List.{list_all, list_any}
use Rattle.std.specs.Bool.{if◌then◌else◌}
use Rattle.std.specs.Fmt.{decimal}
use Rattle.std.specs.Int.{to_be_bytes, w128}
use Rattle.std.proofs.lemmas.Fmt.{decimal_by_steps}
use Rattle.std.proofs.lemmas.List.Folds.{list_all-append}
use Rattle.std.proofs.lemmas.Bool.Decides.{nat_tests}
use Rattle.uuid.specs.Text.{by_index, hyphenated_text, hex_digit, nibble, digit_place, is_hyphen_place, lower}
use Rattle.uuid.proofs.TextLemmas.{nibble_small, by_index_length}
use Rattle.ice_store.specs.Places.{is_name}
use Rattle.commit_history.specs.Versions.{is_digit, is_numeral, value, ending, name_number, number_of}
use Rattle.commit_versions.specs.Digits.{last_first}
use Rattle.commit_versions.specs.Names.{version_name, draft_name}
use Rattle.commit_versions.proofs.DigitLaws.{Spells, last_first-push, is_digit-below, not_zero}
use Rattle.commit_versions.proofs.NumberLaws.{name_number-ends, name_number-other}

-- Decimal digits.

digit_first : (n : ℕ) → n < 10 → Spells n ((48 + n) ∷ [])
digit_first n lt = record {
  digits = rw (is_digit-below n lt) refl;
  numeral = λ pos. rw (is_digit-below n lt, not_zero n pos) refl;
  worth = omega arith;
}

numeral_more : (d : ℕ) (ds : List ℕ) → is_digit d ≡ true → is_numeral ds ≡ true → is_numeral (d ∷ ds) ≡ true
numeral_more d [] good more = absurd (cc (more))
numeral_more d (e ∷ ds) good more = rw (good, more) refl

digit_more : (n : ℕ) (ds : List ℕ) → 10 ≤ n → Spells (n / 10) ds → Spells n (ds ++ (48 + n % 10) ∷ [])
digit_more n ds le spells =
    let good : is_digit (48 + n % 10) ≡ true = is_digit-below (n % 10) (omega arith) in
    let turned = last_first-push [] ds (48 + n % 10) in
    record {
      digits = list_all-append is_digit ds ((48 + n % 10) ∷ []) ∙ rw (spells.digits, good) refl;
      numeral = λ pos. ap is_numeral turned ∙ numeral_more (48 + n % 10) (last_first [] ds) good (spells.numeral (omega arith));
      worth = ap value turned ∙ worth spells.worth;
    }
  where
    worth : value (last_first [] ds) ≡ n / 10 → value ((48 + n % 10) ∷ last_first [] ds) ≡ n
    worth e = omega (arith, e)

spells_decimal : (n : ℕ) → n < 2 ^ 64 → Spells n (decimal n)
spells_decimal n lt = decimal_by_steps Spells digit_first digit_more n lt

pub name_number-version : (n : ℕ) → 0 < n → n < 2 ^ 64 → name_number (version_name n) ≡ n
name_number-version n pos lt = let s = spells_decimal n lt in name_number-ends (decimal n) ∙ hit (s.numeral pos) ∙ s.worth
  where
    hit : is_numeral (last_first [] (decimal n)) ≡ true → number_of (Some (last_first [] (decimal n))) ≡ value (last_first [] (decimal n))
    hit e = rw e refl

-- Names of parts.

-- bytes that a name of a part may have anywhere
abbrev pub Plain : List ℕ → Type 0
Plain [] = Unit {0}
Plain (b ∷ bs) = (nat_eq b 0 ≡ false) × (nat_eq b 47 ≡ false) × Plain bs

plain-append : (xs ys : List ℕ) → Plain xs → Plain ys → Plain (xs ++ ys)
plain-append [] ys a b = b
plain-append (x ∷ xs) ys a b = (a.0, a.1, plain-append xs ys a.2 b)

holds_no_nul : (bs : List ℕ) → Plain bs → list_any (λ b. nat_eq b 0) bs ≡ false
holds_no_nul [] p = refl
holds_no_nul (b ∷ bs) p = rw (p.0, holds_no_nul bs p.2) refl

holds_no_slash : (bs : List ℕ) → Plain bs → list_any (λ b. nat_eq b 47) bs ≡ false
holds_no_slash [] p = refl
holds_no_slash (b ∷ bs) p = rw (p.1, holds_no_slash bs p.2) refl

is_name-plain : (b : ℕ) (bs : List ℕ) → nat_eq b 46 ≡ false → Plain (b ∷ bs) → is_name (b ∷ bs) ≡ true
is_name-plain b bs dot p = rw (dot, holds_no_nul (b ∷ bs) p, holds_no_slash (b ∷ bs) p) refl

plain-digits : (ds : List ℕ) → list_all is_digit ds ≡ true → Plain ds
plain-digits [] e = tt
plain-digits (d ∷ ds) e = (grind (arith, nat_tests), grind (arith, nat_tests), plain-digits ds (grind (arith, nat_tests)))

plain-ending : Plain ending
plain-ending = (refl, refl, (refl, refl, (refl, refl, (refl, refl, (refl, refl, (refl, refl, (refl, refl, (refl, refl, (refl, refl, (refl, refl, (refl, refl, (refl, refl, (refl, refl, (refl, refl, tt))))))))))))))

pub is_name-version : (n : ℕ) → n < 2 ^ 64 → is_name (version_name n) ≡ true
is_name-version n lt =
    is_name-plain 118 (decimal n ++ ending) refl (refl, refl, plain-append (decimal n) ending (plain-digits (decimal n) (spells_decimal n lt).digits) plain-ending)

-- Drafts.

-- a hyphen or a hex digit in lower case
record IsMark (b : ℕ) : Type 0 where
  low : 45 ≤ b
  high : b ≤ 102
  dot : nat_eq b 46 ≡ false
  slash : nat_eq b 47 ≡ false

hex_mark : (d : ℕ) → d < 16 → IsMark (hex_digit lower d)
hex_mark d lt = record {
  low = grind (arith, nat_tests);
  high = grind (arith, nat_tests);
  dot = grind (arith, nat_tests);
  slash = grind (arith, nat_tests);
}

mark_of : (t : Bool) (b : ℕ) → IsMark b → IsMark (if t then 45 else b)
mark_of true b m = record { low = omega arith; high = omega arith; dot = refl; slash = refl }
mark_of false b m = m

Marks : List ℕ → Type 0
Marks [] = Unit {0}
Marks (b ∷ bs) = IsMark b × Marks bs

marks-push : (bs : List ℕ) (b : ℕ) → Marks bs → IsMark b → Marks (bs ++ b ∷ [])
unfolding Marks
marks-push [] b ms m = (m, tt)
marks-push (c ∷ bs) b ms m = (ms.0, marks-push bs b ms.1 m)

marks-by_index : (n : ℕ) (f : ℕ → ℕ) → ((k : ℕ) → IsMark (f k)) → Marks (by_index n f)
unfolding Marks by_index
marks-by_index zero f each = tt
marks-by_index (suc n) f each = marks-push (by_index n f) (f n) (marks-by_index n f each) (each n)

marks-hyphenated : (xs : List ℕ) → Marks (hyphenated_text lower xs)
marks-hyphenated xs = marks-by_index 36 (λ k. if is_hyphen_place k then 45 else hex_digit lower (nibble xs (digit_place k)))
    (λ k. mark_of (is_hyphen_place k) (hex_digit lower (nibble xs (digit_place k))) (hex_mark (nibble xs (digit_place k)) (nibble_small xs (digit_place k))))

plain-marks : (bs : List ℕ) → Marks bs → Plain bs
unfolding Marks
plain-marks [] ms = tt
plain-marks (b ∷ bs) ms = (let low = ms.0.low in grind (arith, nat_tests), ms.0.slash, plain-marks bs ms.1)

-- a name of marks and the ending names a part, and no version
pub record IsDraft (name : List ℕ) : Type 0 where
  pub names : is_name name ≡ true
  pub plain : name_number name ≡ 0

draft-marks : (marks : List ℕ) → Marks marks → 0 < length marks → IsDraft (marks ++ ending)
unfolding Marks
draft-marks [] ms pos = absurd (omega arith)
draft-marks (b ∷ bs) ms pos =
    let high = ms.0.high in
    record {
      names = is_name-plain b (bs ++ ending) ms.0.dot (plain-append (b ∷ bs) ending (plain-marks (b ∷ bs) ms) plain-ending);
      plain = name_number-other (b ∷ (bs ++ ending)) (λ rest e. let is : b ≡ 118 = cc (e) in omega arith);
    }

pub draft : (id : ℕ) → IsDraft (draft_name id)
draft id =
    let bytes = to_be_bytes w128 id in
    let long : length (hyphenated_text lower bytes) ≡ 36 = by_index_length 36 (λ k. if is_hyphen_place k then 45 else hex_digit lower (nibble bytes (digit_place k))) in
    draft-marks (hyphenated_text lower bytes) (marks-hyphenated bytes) (omega arith)
