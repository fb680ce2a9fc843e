use Rattle.std.proofs.Common.{◌≡◌, ℕ, suc, ◌+◌, ◌-◌, ◌*◌, ◌<◌, ◌≤◌, ◌^◌, List, [], ◌∷◌, Result, Ok, Err, refl, sym, ap, ◌∙◌, arith, lt-ltb, le-ltb, ltb-true, ltb-false, nat_lt, true, false}
use Rattle.std.proofs.Math.Pow.{pow_mono}
use Rattle.std.proofs.Math.Nat.{mul-le-mul_left}
use Rattle.std.proofs.lemmas.Nat.{pow-add}
use Rattle.avro_container.specs.LongReading.{with_low, groups_at, of_64_bits, unsigned_at}
use Rattle.avro_container.specs.declared.fault.NumErr.{NumErr}
use Rattle.avro_container.specs.declared.fault.NumErr.TheVariants.{Short, TooLong}

-- what has been read so far, under what is read from the rest
abbrev pub scaled : ℕ → ℕ → Result (ℕ × List ℕ) NumErr → Result (ℕ × List ℕ) NumErr
scaled v s (Ok x) = Ok (v + s * x.0, x.1)
scaled v s (Err e) = Err e

moved : (v s c n : ℕ) → v + s * (c + 128 * n) ≡ v + s * c + s * 128 * n
moved v s c n = omega arith

scaled-with_low : (v s b : ℕ) (r : Result (ℕ × List ℕ) NumErr) → scaled v s (with_low b r) ≡ scaled (v + s * (b - 128)) (s * 128) r
scaled-with_low v s b (Ok x) = ap (λ n. Ok (n, x.1)) (moved v s (b - 128) x.0)
scaled-with_low v s b (Err e) = refl

last_group : (v s k b : ℕ) (bs : List ℕ) → b < 128 → scaled v s (groups_at (suc k) (b ∷ bs)) ≡ Ok (v + s * b, bs)
unfolding groups_at
last_group v s k b bs h = rw (lt-ltb b 128 h) refl

-- one group more
pub more_groups : (v s k b : ℕ) (bs : List ℕ) → 128 ≤ b → scaled v s (groups_at (suc k) (b ∷ bs)) ≡ scaled (v + s * (b - 128)) (s * 128) (groups_at k bs)
unfolding groups_at
more_groups v s k b bs h = rw (le-ltb b 128 h) (scaled-with_low v s b (groups_at k bs))

no_group : (v s k : ℕ) → scaled v s (groups_at (suc k) []) ≡ Err Short
unfolding groups_at
no_group v s k = refl

pub scale_at : (s c : ℕ) → s ≡ 2 ^ (7 * c) → c < 9 → s ≤ 2 ^ 56
scale_at s c e h = rw e (pow_mono {i = 7 * c} {j = 56} (omega arith))

pub scale_more : (s c : ℕ) → s ≡ 2 ^ (7 * c) → s * 128 ≡ 2 ^ (7 * (c + 1))
scale_more s c e =
    let again : 7 * (c + 1) ≡ 7 * c + 7 = omega arith in
    rw (again, pow-add 2 (7 * c) 7, e) refl

pub low_fits : (v s b : ℕ) → v < s → b < 128 → v + s * b < s * 128
low_fits v s b h k =
    let most : s * b ≤ s * 127 = mul-le-mul_left s (omega arith) in omega arith

-- where the number ends
pub ends : (v s k b : ℕ) (xs rest bs : List ℕ) → scaled v s (groups_at (suc k) rest) ≡ groups_at 10 xs → rest ≡ b ∷ bs → b < 128 → v + s * b < 2 ^ 64
    → unsigned_at xs ≡ Ok (v + s * b, bs)
unfolding unsigned_at
ends v s k b xs rest bs so is low small =
    let read : groups_at 10 xs ≡ Ok (v + s * b, bs) = sym so ∙ ap (λ r. scaled v s (groups_at (suc k) r)) is ∙ last_group v s k b bs low in
    rw (read, lt-ltb (v + s * b) (2 ^ 64) small) refl

pub is_short : (v s k : ℕ) (xs rest : List ℕ) → scaled v s (groups_at (suc k) rest) ≡ groups_at 10 xs → rest ≡ [] → unsigned_at xs ≡ Err Short
unfolding unsigned_at
is_short v s k xs rest so is = ap of_64_bits (sym so ∙ ap (λ r. scaled v s (groups_at (suc k) r)) is ∙ no_group v s k)

no_eleventh : (v s b : ℕ) (bs : List ℕ) → 128 ≤ b → scaled v s (groups_at 1 (b ∷ bs)) ≡ Err TooLong
unfolding groups_at
no_eleventh v s b bs h = rw (le-ltb b 128 h) refl

-- the tenth group is 0 or 1
pub too_long : (v b : ℕ) (xs rest bs : List ℕ) → scaled v (2 ^ 63) (groups_at 1 rest) ≡ groups_at 10 xs → rest ≡ b ∷ bs → 1 < b → unsigned_at xs ≡ Err TooLong
unfolding unsigned_at
too_long v b xs rest bs so is high =
    elim (nat_lt b 128) as (λ t. nat_lt b 128 ≡ t → of_64_bits (groups_at 10 xs) ≡ Err TooLong) [
      | true ↦ λ e. (
          let read : groups_at 10 xs ≡ Ok (v + 2 ^ 63 * b, bs) = sym so ∙ ap (λ r. scaled v (2 ^ 63) (groups_at 1 r)) is ∙ last_group v (2 ^ 63) 0 b bs (ltb-true b 128 e) in
          rw (read, le-ltb (v + 2 ^ 63 * b) (2 ^ 64) (omega arith)) refl)
      | false ↦ λ e. ap of_64_bits (sym so ∙ ap (λ r. scaled v (2 ^ 63) (groups_at 1 r)) is ∙ no_eleventh v (2 ^ 63) b bs (ltb-false b 128 e))
    ] refl

pub scale_end : (s c : ℕ) → c ≤ 9 → 9 ≤ c → s ≡ 2 ^ (7 * c) → s ≡ 2 ^ 63
scale_end s c h k e = let nine : c ≡ 9 = omega arith in e ∙ ap (λ n. 2 ^ (7 * n)) nine

pub at_end : (v s c : ℕ) (xs rest : List ℕ) → c ≤ 9 → 9 ≤ c → s ≡ 2 ^ (7 * c) → scaled v s (groups_at (suc (9 - c)) rest) ≡ groups_at 10 xs
    → scaled v (2 ^ 63) (groups_at 1 rest) ≡ groups_at 10 xs
at_end v s c xs rest h k e so =
    let none : 9 - c ≡ 0 = omega arith in
    ap (λ t. scaled v t (groups_at 1 rest)) (sym (scale_end s c h k e)) ∙ ap (λ n. scaled v s (groups_at (suc n) rest)) (sym none) ∙ so

pub goes_on : (v s c b : ℕ) (xs rest bs : List ℕ) → c < 9 → 128 ≤ b → rest ≡ b ∷ bs → scaled v s (groups_at (suc (9 - c)) rest) ≡ groups_at 10 xs
    → scaled (v + s * (b - 128)) (s * 128) (groups_at (suc (9 - (c + 1))) bs) ≡ groups_at 10 xs
goes_on v s c b xs rest bs few high is so =
    let left : 9 - c ≡ suc (9 - (c + 1)) = omega arith in
    ap (λ n. scaled (v + s * (b - 128)) (s * 128) (groups_at n bs)) (sym left)
    ∙ sym (more_groups v s (9 - c) b bs high) ∙ ap (λ r. scaled v s (groups_at (suc (9 - c)) r)) (sym is) ∙ so

-- a number of one byte
pub one_group : (b : ℕ) (xs bs : List ℕ) → xs ≡ b ∷ bs → b < 128 → unsigned_at xs ≡ Ok (b, bs)
unfolding unsigned_at groups_at
one_group b xs bs is low = rw (is, lt-ltb b 128 low, lt-ltb b (2 ^ 64) (omega arith)) refl

pub no_byte : (xs : List ℕ) → xs ≡ [] → unsigned_at xs ≡ Err Short
unfolding unsigned_at groups_at
no_byte xs is = rw is refl

-- numbers of two and of three bytes
pub two_groups : (b c : ℕ) (xs ys bs : List ℕ) → xs ≡ b ∷ ys → ys ≡ c ∷ bs → 128 ≤ b → b < 256 → c < 128 → unsigned_at xs ≡ Ok (b - 128 + 128 * c, bs)
unfolding unsigned_at groups_at
two_groups b c xs ys bs is next high byte low = rw (is, next, le-ltb b 128 high, lt-ltb c 128 low, lt-ltb (b - 128 + 128 * c) (2 ^ 64) (omega arith)) refl

pub three_groups : (b c d : ℕ) (xs ys zs bs : List ℕ) → xs ≡ b ∷ ys → ys ≡ c ∷ zs → zs ≡ d ∷ bs → 128 ≤ b → b < 256 → 128 ≤ c → c < 256 → d < 128
    → unsigned_at xs ≡ Ok (b - 128 + 128 * (c - 128) + 16384 * d, bs)
unfolding unsigned_at groups_at
three_groups b c d xs ys zs bs is next last high byte more second low =
    let value : b - 128 + 128 * (c - 128 + 128 * d) ≡ b - 128 + 128 * (c - 128) + 16384 * d = omega arith in
    rw (is, next, last, le-ltb b 128 high, le-ltb c 128 more, lt-ltb d 128 low, value, lt-ltb (b - 128 + 128 * (c - 128) + 16384 * d) (2 ^ 64) (omega arith)) refl
