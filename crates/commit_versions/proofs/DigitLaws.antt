-- Numerals, read from their first digit on.
use Rattle.std.proofs.Common.{◌≡◌, ℕ, suc, ◌+◌, ◌-◌, ◌*◌, ◌^◌, ◌<◌, ◌≤◌, Bool, true, false, not, ◌&&◌, List, [], ◌∷◌, ◌++◌, length, drop, get_or, nat_eq, refl, sym, ap, ◌∙◌, arith}
use Rattle.std.proofs.Math.Seq.{drop-cons}
use Rattle.std.proofs.Math.ListN.{drop_of_length-le}
use Rattle.std.specs.List.{list_all}
use Rattle.std.proofs.lemmas.Bool.Decides.{nat_tests}
use Rattle.commit_history.specs.Versions.{is_digit, is_numeral, value}
use Rattle.commit_versions.specs.Digits.{last_first}

-- the number of more digits behind those of a number
abbrev pub read : ℕ → List ℕ → ℕ
read n [] = n
read n (d ∷ ds) = read (10 * n + (d - 48)) ds

swapped : (a b : ℕ) → a + b ≡ b + a
swapped a b = omega arith

pub value-read : (front ds : List ℕ) → value (last_first front ds) ≡ read (value front) ds
value-read front [] = refl
value-read front (d ∷ ds) = value-read (d ∷ front) ds ∙ ap (λ (n : ℕ). read n ds) (swapped (d - 48) (10 * value front))

pub read_grows : (n : ℕ) (ds : List ℕ) → n ≤ read n ds
read_grows n [] = omega arith
read_grows n (d ∷ ds) = let k = read_grows (10 * n + (d - 48)) ds in omega (arith, k)

one_more : (i : ℕ) → suc i ≡ i + 1
one_more i = omega arith

-- a loop over the digits
module _ (n : ℕ) (ds : List ℕ) (i v : ℕ) (left : read n (drop i ds) ≡ v) where
  next_digit : i < length ds → read (10 * n + (get_or ds i 0 - 48)) (drop (i + 1) ds) ≡ v
  next_digit lt = sym (ap (read n) (drop-cons ds i 0 lt) ∙ ap (λ (k : ℕ). read (10 * n + (get_or ds i 0 - 48)) (drop k ds)) (one_more i)) ∙ left

  pub read_on : (m : ℕ) → i < length ds → m ≡ 10 * n + (get_or ds i 0 - 48) → read m (drop (i + 1) ds) ≡ v
  read_on m lt is = ap (λ (k : ℕ). read k (drop (i + 1) ds)) is ∙ next_digit lt

  pub read_past : i < length ds → 2 ^ 64 ≤ 10 * n + (get_or ds i 0 - 48) → 2 ^ 64 ≤ v
  read_past lt le = let grows = read_grows (10 * n + (get_or ds i 0 - 48)) (drop (i + 1) ds) in omega (arith, grows, next_digit lt)

  pub read_all : length ds ≤ i → n ≡ v
  read_all le = sym (ap (read n) (drop_of_length-le ds le)) ∙ left

regrouped : (a b c : Bool) → (a && (b && c)) ≡ ((b && a) && c)
regrouped true true c = refl
regrouped true false c = refl
regrouped false true c = refl
regrouped false false c = refl

-- digits before a numeral, the last one first
digits_before : (e : ℕ) (front ds : List ℕ) → is_numeral (last_first (e ∷ front) ds) ≡ (list_all is_digit ds && is_numeral (e ∷ front))
digits_before e front [] = refl
digits_before e front (d ∷ ds) = digits_before d (e ∷ front) ds ∙ regrouped (list_all is_digit ds) (is_digit d) (is_numeral (e ∷ front))

turned : (a b c : Bool) → (a && (b && c)) ≡ (c && (b && a))
turned true true true = refl
turned true true false = refl
turned true false true = refl
turned true false false = refl
turned false true true = refl
turned false true false = refl
turned false false true = refl
turned false false false = refl

-- a numeral is digits of which the first isn't 0
pub is_numeral-digits : (d : ℕ) (ds : List ℕ) → is_numeral (last_first [] (d ∷ ds)) ≡ (not (nat_eq d 48) && list_all is_digit (d ∷ ds))
is_numeral-digits d ds = digits_before d [] ds ∙ turned (list_all is_digit ds) (is_digit d) (not (nat_eq d 48))

pub numeral_head : (ds : List ℕ) → 1 ≤ length ds → is_numeral (last_first [] ds) ≡ (not (nat_eq (get_or ds 0 0) 48) && list_all is_digit ds)
numeral_head [] le = absurd (omega arith)
numeral_head (d ∷ ds) le = is_numeral-digits d ds

-- one digit more
pub last_first-push : (front ds : List ℕ) (d : ℕ) → last_first front (ds ++ d ∷ []) ≡ d ∷ last_first front ds
last_first-push front [] d = refl
last_first-push front (e ∷ ds) d = last_first-push (e ∷ front) ds d

pub is_digit-below : (d : ℕ) → d < 10 → is_digit (48 + d) ≡ true
is_digit-below d lt = grind (arith, nat_tests)

pub not_zero : (d : ℕ) → 0 < d → not (nat_eq (48 + d) 48) ≡ true
not_zero d lt = grind (arith, nat_tests)

-- a text of digits spells a number: they are its numeral, where it isn't 0
pub record Spells (n : ℕ) (ds : List ℕ) : Type 0 where
  pub digits : list_all is_digit ds ≡ true
  pub numeral : 0 < n → is_numeral (last_first [] ds) ≡ true
  pub worth : value (last_first [] ds) ≡ n
