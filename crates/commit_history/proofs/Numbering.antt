-- No two places have one version number.
use Rattle.std.proofs.Common.{◌≡◌, ℕ, ◌+◌, ◌-◌, ◌*◌, ◌<◌, ◌≤◌, Bool, true, false, not, ◌&&◌, List, [], ◌∷◌, Option, Some, None, nat_eq, leb, refl, sym, ap, ◌∙◌, subst, arith}
use Rattle.std.specs.Cmp.Lexicographic.{pointwise}
use Rattle.std.proofs.lemmas.Bool.{leb-true, eqb-true, eq-eqb}
use Rattle.std.proofs.lemmas.Slice.Eq.{bytes_eq-Decides}
use Rattle.ice_store.specs.Places.{Parts}
use Rattle.ice_store.proofs.FileLaws.{by_test}
use Rattle.commit_history.specs.Tables.{IsNumbering}
use Rattle.commit_history.specs.Versions.{is_digit, is_numeral, value, ending, folder, before_ending, number_of, name_number, rest_number, number_in}

both : (a b : Bool) → (a && b) ≡ true → (a ≡ true) × (b ≡ true)
both true true e = (refl, refl)
both true false e = absurd (cc (e))
both false b e = absurd (cc (e))

digit : (d : ℕ) → is_digit d ≡ true → (48 ≤ d) × (d ≤ 57)
digit d e = let h = both (leb 48 d) (leb d 57) e in (leb-true 48 d h.0, leb-true d 57 h.1)

not_zero : (d : ℕ) → not (nat_eq d 48) ≡ true → d ≡ 48 → ⊥
not_zero d e is = let k : nat_eq d 48 ≡ true = eq-eqb d 48 is in let m : not true ≡ true = ap not (sym k) ∙ e in absurd (cc (m))

-- a numeral: its first byte is a digit, and it is no zero, or more follows
positive : (ds : List ℕ) → is_numeral ds ≡ true → 0 < value ds
positive [] e = absurd (cc (e))
positive (d ∷ []) e =
    let h = both (is_digit d) (not (nat_eq d 48)) e in
    let k = digit d h.0 in
    let n : d ≡ 48 → ⊥ = not_zero d h.1 in
    omega (arith, k, n)
positive (d ∷ e ∷ ds) h = let k = positive (e ∷ ds) (both (is_digit d) (is_numeral (e ∷ ds)) h).1 in omega (arith, k)

same_digit : (d e a b : ℕ) → (48 ≤ d) × (d ≤ 57) → (48 ≤ e) × (e ≤ 57) → (d - 48) + 10 * a ≡ (e - 48) + 10 * b → (d ≡ e) × (a ≡ b)
same_digit d e a b h k is = let s : a ≡ b = omega arith in (omega arith, s)

single_value : (ds es : List ℕ) → is_numeral ds ≡ true → is_numeral es ≡ true → value ds ≡ value es → ds ≡ es
single_value [] es h k is = absurd (cc (h))
single_value (d ∷ ds) [] h k is = absurd (cc (k))
single_value (d ∷ []) (e ∷ []) h k is =
    let s = same_digit d e 0 0 (digit d (both (is_digit d) (not (nat_eq d 48)) h).0) (digit e (both (is_digit e) (not (nat_eq e 48)) k).0) is in ap (λ (x : ℕ). x ∷ []) s.0
single_value (d ∷ []) (e ∷ f ∷ es) h k is =
    let kk = both (is_digit e) (is_numeral (f ∷ es)) k in
    let s = same_digit d e 0 (value (f ∷ es)) (digit d (both (is_digit d) (not (nat_eq d 48)) h).0) (digit e kk.0) is in
    let p = positive (f ∷ es) kk.1 in absurd (omega (arith, s.1, p))
single_value (d ∷ f ∷ ds) (e ∷ []) h k is =
    let hh = both (is_digit d) (is_numeral (f ∷ ds)) h in
    let s = same_digit d e (value (f ∷ ds)) 0 (digit d hh.0) (digit e (both (is_digit e) (not (nat_eq e 48)) k).0) is in
    let p = positive (f ∷ ds) hh.1 in absurd (omega (arith, s.1, p))
single_value (d ∷ f ∷ ds) (e ∷ g ∷ es) h k is =
    let hh = both (is_digit d) (is_numeral (f ∷ ds)) h in
    let kk = both (is_digit e) (is_numeral (g ∷ es)) k in
    let s = same_digit d e (value (f ∷ ds)) (value (g ∷ es)) (digit d hh.0) (digit e kk.0) is in
    let r = single_value (f ∷ ds) (g ∷ es) hh.1 kk.1 s.1 in
    ap (λ (x : ℕ). x ∷ f ∷ ds) s.0 ∙ ap (λ (l : List ℕ). e ∷ l) r

-- front, turned round, and then back
onto : List ℕ → List ℕ → List ℕ
onto [] back = back
onto (c ∷ front) back = onto front (c ∷ back)

rebuilt : (front s ds : List ℕ) → before_ending front s ≡ Some ds → onto front s ≡ onto ds ending
unfolding onto
rebuilt front [] ds e = absurd (cc (e))
rebuilt front (c ∷ rest) ds e = by_test (pointwise nat_eq (c ∷ rest) ending)
    (λ t. let k : Some front ≡ Some ds = sym (hit t) ∙ e in let f : front ≡ ds = cc (k) in let same : (c ∷ rest) ≡ ending = (bytes_eq-Decides (c ∷ rest) ending).0 t in
    ap (onto front) same ∙ ap (λ (l : List ℕ). onto l ending) f)
    (λ t. rebuilt (c ∷ front) rest ds (sym (miss t) ∙ e))
  where
    hit : pointwise nat_eq (c ∷ rest) ending ≡ true → before_ending front (c ∷ rest) ≡ Some front
    hit t = rw t refl

    miss : pointwise nat_eq (c ∷ rest) ending ≡ false → before_ending front (c ∷ rest) ≡ before_ending (c ∷ front) rest
    miss t = rw t refl

-- a name with a number
record Named (name : List ℕ) (n : ℕ) : Type 0 where
  digits : List ℕ
  numeral : is_numeral digits ≡ true
  worth : value digits ≡ n
  is : name ≡ 118 ∷ onto digits ending

from_digits : (rest : List ℕ) (c : ℕ) (o : Option (List ℕ)) → c ≡ 118 → before_ending [] rest ≡ o → 0 < number_of o → Named (c ∷ rest) (number_of o)
unfolding onto
from_digits rest c None v e pos = absurd (omega arith)
from_digits rest c (Some ds) v e pos = by_test (is_numeral ds)
    (λ t. record { digits = ds; numeral = t; worth = sym (worth_is t); is = ap (λ (x : ℕ). x ∷ rest) v ∙ ap (λ (l : List ℕ). 118 ∷ l) (rebuilt [] rest ds e) })
    (λ t. absurd (omega (arith, none t)))
  where
    worth_is : is_numeral ds ≡ true → number_of (Some ds) ≡ value ds
    worth_is t = rw t refl

    none : is_numeral ds ≡ false → number_of (Some ds) ≡ 0
    none t = rw t refl

named : (name : List ℕ) → 0 < name_number name → Named name (name_number name)
named [] pos = absurd (omega arith)
named (c ∷ rest) pos = by_test (nat_eq c 118)
    (λ t. let e = hit t in subst (λ (n : ℕ). Named (c ∷ rest) n) (sym e) (from_digits rest c (before_ending [] rest) (eqb-true c 118 t) refl (omega (arith, e))))
    (λ t. absurd (omega (arith, miss t)))
  where
    hit : nat_eq c 118 ≡ true → name_number (c ∷ rest) ≡ number_of (before_ending [] rest)
    hit t = rw t refl

    miss : nat_eq c 118 ≡ false → name_number (c ∷ rest) ≡ 0
    miss t = rw t refl

single_name : (a b : List ℕ) → 0 < name_number a → name_number a ≡ name_number b → a ≡ b
single_name a b pos e =
    let x = named a pos in
    let y = named b (omega (arith, e)) in
    let d : x.digits ≡ y.digits = single_value x.digits y.digits x.numeral y.numeral (x.worth ∙ e ∙ sym y.worth) in
    x.is ∙ ap (λ (l : List ℕ). 118 ∷ onto l ending) d ∙ sym y.is

-- a rest with a number
pub record Rest (p : Parts) : Type 0 where
  pub name : List ℕ
  pub is : p ≡ folder ∷ name ∷ []
  pub worth : rest_number p ≡ name_number name

pub rest_of : (p : Parts) → 0 < rest_number p → Rest p
rest_of [] pos = absurd (omega arith)
rest_of (dir ∷ []) pos = absurd (omega arith)
rest_of (dir ∷ name ∷ []) pos = by_test (pointwise nat_eq dir folder)
    (λ t. record { name = name; is = ap (λ (d : List ℕ). d ∷ name ∷ []) ((bytes_eq-Decides dir folder).0 t); worth = hit t })
    (λ t. absurd (omega (arith, miss t)))
  where
    hit : pointwise nat_eq dir folder ≡ true → rest_number (dir ∷ name ∷ []) ≡ name_number name
    hit t = rw t refl

    miss : pointwise nat_eq dir folder ≡ false → rest_number (dir ∷ name ∷ []) ≡ 0
    miss t = rw t refl
rest_of (dir ∷ name ∷ more ∷ rest) pos = absurd (omega arith)

single_rest : (p q : Parts) → 0 < rest_number p → rest_number p ≡ rest_number q → p ≡ q
single_rest p q pos e =
    let x = rest_of p pos in
    let y = rest_of q (omega (arith, e)) in
    let n : x.name ≡ y.name = single_name x.name y.name (omega (arith, x.worth)) (sym x.worth ∙ e ∙ y.worth) in
    x.is ∙ ap (λ (l : List ℕ). folder ∷ l ∷ []) n ∙ sym y.is

module _ (t : List ℕ) (ts : Parts) (part : List ℕ) (p : Parts) where
  on : pointwise nat_eq t part ≡ true → number_in (t ∷ ts) (part ∷ p) ≡ number_in ts p
  on e = rw e refl

  off : pointwise nat_eq t part ≡ false → number_in (t ∷ ts) (part ∷ p) ≡ 0
  off e = rw e refl

  pub same_part : 0 < number_in (t ∷ ts) (part ∷ p) → t ≡ part
  same_part pos = by_test (pointwise nat_eq t part) (λ e. (bytes_eq-Decides t part).0 e) (λ e. absurd (omega (arith, off e)))

  pub same_number : 0 < number_in (t ∷ ts) (part ∷ p) → number_in (t ∷ ts) (part ∷ p) ≡ number_in ts p
  same_number pos = by_test (pointwise nat_eq t part) (λ e. on e) (λ e. absurd (omega (arith, off e)))

single_place : (table p q : Parts) → 0 < number_in table p → number_in table p ≡ number_in table q → p ≡ q
single_place [] p q pos e = single_rest p q pos e
single_place (t ∷ ts) [] q pos e = absurd (omega arith)
single_place (t ∷ ts) (part ∷ p) [] pos e = absurd (omega (arith, e))
single_place (t ∷ ts) (part ∷ p) (other ∷ q) pos e =
    let qpos : 0 < number_in (t ∷ ts) (other ∷ q) = omega (arith, e) in
    let a = same_number t ts part p pos in
    let b = same_number t ts other q qpos in
    let rest = single_place ts p q (omega (arith, a)) (sym a ∙ e ∙ b) in
    let first : part ≡ other = sym (same_part t ts part p pos) ∙ same_part t ts other q qpos in
    ap (λ (x : List ℕ). x ∷ p) first ∙ ap (λ (l : Parts). other ∷ l) rest

pub numbering : (table : Parts) → IsNumbering (number_in table)
numbering table = record { single = single_place table }
