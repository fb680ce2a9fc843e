-- What is read is spelled so, and what is spelled so is read.
use Rattle.std.proofs.Common.{◌≡◌, ℕ, zero, suc, ℤ, pos, negsuc, ◌+◌, ◌-◌, ◌*◌, ◌/◌, ◌%◌, ◌<◌, ◌≤◌, ◌^◌, List, [], ◌∷◌, ◌++◌, length, drop, Result, Ok, Err, refl, sym, ap, ◌∙◌, arith, lt-ltb, le-ltb, ltb-true, ltb-false, eqb-true, nat_lt, true, false, cond, ◌==◌, subst, IfOk, OnErr}
use Rattle.std.proofs.lemmas.Bool.{eqb-false}
use Rattle.std.proofs.lemmas.List.{append_cancel_right}
use Rattle.avro_container.specs.Long.{IsGroups, zigzag, SpellsLong, IsLongAt, NoLongAt, LongsAreApart}
use Rattle.avro_container.specs.LongReading.{with_low, groups_at, of_64_bits, unsigned_at, with_sign, long_at, unzigzag, GivesNumber}
use Rattle.avro_container.specs.declared.fault.NumErr.{NumErr}
use Rattle.avro_container.specs.declared.fault.NumErr.TheVariants.{TooLong}

ok_same : {A : Type 0} {x y : A} → ◌≡◌ {A = Result A NumErr} (Ok x) (Ok y) → x ≡ y
ok_same e = cc

-- the parts of equal answers are equal
pub ok_value : {A B : Type 0} {x y : A × B} → ◌≡◌ {A = Result (A × B) NumErr} (Ok x) (Ok y) → x.0 ≡ y.0
ok_value e = ap (λ p. p.0) (ok_same e)

pub ok_rest : {A B : Type 0} {x y : A × B} → ◌≡◌ {A = Result (A × B) NumErr} (Ok x) (Ok y) → x.1 ≡ y.1
ok_rest e = ap (λ p. p.1) (ok_same e)

lower : (b n h : ℕ) → 128 ≤ b → n + 128 ≡ b + 128 * h → b - 128 + 128 * h ≡ n
lower b n h k e = omega arith

-- what is spelled so is read, whatever follows
groups_read : (k : ℕ) (front rest : List ℕ) (n : ℕ) → IsGroups front n → length front ≤ k → groups_at k (front ++ rest) ≡ Ok (n, rest)
unfolding groups_at
groups_read k [] rest n h few = absurd h
groups_read zero (b ∷ front) rest n h few = absurd (omega arith)
groups_read (suc k) (b ∷ []) rest n h few = rw (lt-ltb b 128 h.0, h.1) refl
groups_read (suc k) (b ∷ c ∷ front) rest n h few =
    let again : groups_at k (c ∷ front ++ rest) ≡ Ok (h.1.0, rest) = groups_read k (c ∷ front) rest h.1.0 h.1.2 (omega arith) in
    rw (le-ltb b 128 h.0, again, lower b n h.1.0 h.0 h.1.1) refl

-- a front that spells the number
abbrev Front : ℕ → List ℕ → ℕ → List ℕ → Type 0
Front k bytes n rest = (front : List ℕ) × IsGroups front n × (length front ≤ k) × (bytes ≡ front ++ rest)

cons_group : (b h : ℕ) (front : List ℕ) → 128 ≤ b → IsGroups front h → IsGroups (b ∷ front) (b - 128 + 128 * h)
cons_group b h [] high g = absurd g
cons_group b h (c ∷ front) high g = (high, (h, omega arith, g))

groups_found : (k : ℕ) (bytes : List ℕ) (n : ℕ) (rest : List ℕ) → groups_at k bytes ≡ Ok (n, rest) → Front k bytes n rest
unfolding groups_at
groups_found zero bytes n rest e = cc
groups_found (suc k) [] n rest e = cc
groups_found (suc k) (b ∷ bs) n rest e =
    elim (nat_lt b 128) as (λ t. nat_lt b 128 ≡ t → cond t (Ok (b, bs)) (with_low b (groups_at k bs)) ≡ Ok (n, rest) → Front (suc k) (b ∷ bs) n rest) [
      | true ↦ λ t e. (
          let num : b ≡ n = ok_value e in
          let tail : bs ≡ rest = ok_rest e in
          (b ∷ [], (ltb-true b 128 t, sym num), omega arith, ap (λ r. b ∷ r) tail))
      | false ↦ λ t e.
          elim (groups_at k bs) as (λ r. groups_at k bs ≡ r → with_low b r ≡ Ok (n, rest) → Front (suc k) (b ∷ bs) n rest) [
            | Ok x ↦ λ r e. (
                let num : b - 128 + 128 * x.0 ≡ n = ok_value e in
                let tail : x.1 ≡ rest = ok_rest e in
                let more = groups_found k bs x.0 x.1 r in
                (b ∷ more.0, subst (λ m. IsGroups (b ∷ more.0) m) num (cons_group b x.0 more.0 (ltb-false b 128 t) more.1), omega (arith, more.2), ap (λ r. b ∷ r) (more.3 ∙ ap (λ r. more.0 ++ r) tail)))
            | Err f ↦ λ r e. cc
          ] refl e
    ] refl e

zig_even : (n : ℕ) → n % 2 ≡ 0 → 2 * (n / 2) ≡ n
zig_even n h = omega arith

zig_odd : (n : ℕ) → (n % 2 ≡ 0 → ⊥) → 2 * (n / 2) + 1 ≡ n
zig_odd n h = omega arith

zigzag-unzigzag : (n : ℕ) → zigzag (unzigzag n) ≡ n
zigzag-unzigzag n = elim (n % 2 == 0) as (λ t. (n % 2 == 0) ≡ t → zigzag (cond t (pos (n / 2)) (negsuc (n / 2))) ≡ n) [
  | true ↦ λ t. zig_even n (eqb-true _ _ t)
  | false ↦ λ t. zig_odd n (eqb-false _ _ t)
] refl

unzigzag-zigzag : (z : ℤ) → unzigzag (zigzag z) ≡ z
unzigzag-zigzag (pos n) =
    let half : (2 * n) / 2 ≡ n = omega arith in
    let rem : (2 * n) % 2 ≡ 0 = omega arith in
    rw (rem, half) refl
unzigzag-zigzag (negsuc n) =
    let half : (2 * n + 1) / 2 ≡ n = omega arith in
    let rem : (2 * n + 1) % 2 ≡ 1 = omega arith in
    rw (rem, half) refl

-- what is spelled is read, whatever follows
pub long_read : (front rest : List ℕ) (z : ℤ) → SpellsLong front z → long_at (front ++ rest) ≡ Ok (z, rest)
unfolding long_at unsigned_at
long_read front rest z s =
    let fits : zigzag z < 2 ^ 64 = s.fits in
    rw (groups_read 10 front rest (zigzag z) s.groups s.few, lt-ltb (zigzag z) (2 ^ 64) fits, unzigzag-zigzag z) refl

abbrev pub LongFront : List ℕ → ℤ → List ℕ → Type 0
LongFront bytes z rest = (front : List ℕ) × SpellsLong front z × (bytes ≡ front ++ rest)

spelled_by : (bytes front rest : List ℕ) (n : ℕ) → IsGroups front n → length front ≤ 10 → bytes ≡ front ++ rest → n < 2 ^ 64 → LongFront bytes (unzigzag n) rest
spelled_by bytes front rest n g few is small = (
  front,
  record {
    groups = subst (λ m. IsGroups front m) (sym (zigzag-unzigzag n)) g;
    few = few;
    fits = rw (zigzag-unzigzag n) small;
  },
  is,
)

-- what is read is spelled so
pub long_found : (bytes rest : List ℕ) (z : ℤ) → long_at bytes ≡ Ok (z, rest) → LongFront bytes z rest
unfolding long_at unsigned_at
long_found bytes rest z e =
    elim (groups_at 10 bytes) as (λ r. groups_at 10 bytes ≡ r → with_sign (of_64_bits r) ≡ Ok (z, rest) → LongFront bytes z rest) [
      | Ok x ↦ λ r. elim (nat_lt x.0 (2 ^ 64)) as (λ t. nat_lt x.0 (2 ^ 64) ≡ t → with_sign (cond t (Ok x) (Err TooLong)) ≡ Ok (z, rest) → LongFront bytes z rest) [
        | true ↦ λ t e. (
            let front = groups_found 10 bytes x.0 x.1 r in
            let num : unzigzag x.0 ≡ z = ok_value e in
            let tail : x.1 ≡ rest = ok_rest e in
            subst (λ m. LongFront bytes m rest) num (subst (λ r. LongFront bytes (unzigzag x.0) r) tail (spelled_by bytes front.0 x.1 x.0 front.1 front.2 front.3 (ltb-true _ _ t))))
        | false ↦ λ t e. cc
      ] refl
      | Err f ↦ λ r e. cc
    ] refl e

pub one_long : LongsAreApart
one_long a b x y m n s t e =
    let both = sym (long_read a x m s) ∙ ap long_at e ∙ long_read b y n t in
    let nums : m ≡ n = ok_value both in
    let rests : x ≡ y = ok_rest both in
    (append_cancel_right a b x (e ∙ ap (λ r. b ++ r) (sym rests)), nums)

pub found_at : (bytes : List ℕ) (at : ℕ) (r : Result (ℤ × ℕ) NumErr) → GivesNumber bytes r (long_at (drop at bytes)) → IfOk r (λ x. IsLongAt bytes at x.1 x.0)
found_at bytes at (Ok x) g = let front = long_found (drop at bytes) (drop x.1 bytes) x.0 g.0 in (front.0, front.1, front.2, g.1)
found_at bytes at (Err e) g = tt

pub none_at : (bytes : List ℕ) (at : ℕ) (r : Result (ℤ × ℕ) NumErr) → GivesNumber bytes r (long_at (drop at bytes)) → OnErr r (NoLongAt bytes at)
none_at bytes at (Ok x) g = tt
none_at bytes at (Err e) g = λ z front rest s is.
    let read : long_at (drop at bytes) ≡ Ok (z, rest) = ap long_at is ∙ long_read front rest z s in cc
