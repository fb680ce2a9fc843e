-- Writing the groups of a number one after the other.
use Rattle.std.proofs.Common.{◌≡◌, ℕ, zero, suc, ◌+◌, ◌-◌, ◌*◌, ◌/◌, ◌%◌, ◌<◌, ◌≤◌, ◌^◌, List, [], ◌∷◌, ◌++◌, refl, sym, ap, ◌∙◌, arith, lt-ltb, le-ltb, append_assoc, ltb-true, ltb-false, nat_lt, cond, true, false, length, ℤ, subst}
use Rattle.std.proofs.Math.Nat.{mul-le-mul_left}
use Rattle.std.proofs.lemmas.Nat.{pow-add}
use Rattle.avro_container.specs.Long.{AreBytes, WrittenLongIsShortest, groups_of, written_long, IsGroups, SpellsLong, zigzag}

pub last_written : (front : List ℕ) (k n : ℕ) → n < 128 → front ++ groups_of (suc k) n ≡ front ++ n ∷ []
unfolding groups_of
last_written front k n h = rw (lt-ltb n 128 h) refl

pub one_written : (front : List ℕ) (c n : ℕ) → c < 9 → 128 ≤ n → (front ++ (n % 128 + 128) ∷ []) ++ groups_of (suc (9 - (c + 1))) (n / 128) ≡ front ++ groups_of (suc (9 - c)) n
unfolding groups_of
one_written front c n h high =
    let k : 9 - c ≡ suc (9 - (c + 1)) = omega arith in
    append_assoc front ((n % 128 + 128) ∷ []) _ ∙ sym (rw (le-ltb n 128 high, k) refl)

pub still_fits : (c n : ℕ) → n * 2 ^ (7 * c) < 2 ^ 64 → (n / 128) * 2 ^ (7 * (c + 1)) < 2 ^ 64
still_fits c n h =
    let again : 7 * (c + 1) ≡ 7 * c + 7 = omega arith in
    let part : 2 ^ (7 * (c + 1)) ≡ 2 ^ (7 * c) * 128 = ap (λ n. 2 ^ n) again ∙ pow-add 2 (7 * c) 7 in
    rw part (below (2 ^ (7 * c)) n h)
  where
    below : (p n : ℕ) → n * p < 2 ^ 64 → (n / 128) * (p * 128) < 2 ^ 64
    below p n h = let most : p * ((n / 128) * 128) ≤ p * n = mul-le-mul_left p (omega arith) in omega (arith, most)

pub last_fits : (c n : ℕ) → c ≤ 9 → 9 ≤ c → n * 2 ^ (7 * c) < 2 ^ 64 → n < 128
last_fits c n h k f = let nine : c ≡ 9 = omega arith in let g : n * 2 ^ (7 * 9) < 2 ^ 64 = rw nine at f in omega (arith, g)

-- numbers of two and of three bytes
pub two_written : (front : List ℕ) (k n : ℕ) → 128 ≤ n → n / 128 < 128 → front ++ groups_of (suc (suc k)) n ≡ (front ++ (n % 128 + 128) ∷ []) ++ (n / 128) ∷ []
unfolding groups_of
two_written front k n high low = rw (le-ltb n 128 high, lt-ltb (n / 128) 128 low) (sym (append_assoc front ((n % 128 + 128) ∷ []) ((n / 128) ∷ [])))

pub three_written : (front : List ℕ) (k n : ℕ) → 128 ≤ n → 128 ≤ n / 128 → n / 128 / 128 < 128
    → front ++ groups_of (suc (suc (suc k))) n ≡ ((front ++ (n % 128 + 128) ∷ []) ++ (n / 128 % 128 + 128) ∷ []) ++ (n / 128 / 128) ∷ []
unfolding groups_of
three_written front k n high more low =
    rw (le-ltb n 128 high) (sym (append_assoc front ((n % 128 + 128) ∷ []) (groups_of (suc (suc k)) (n / 128))) ∙ two_written (front ++ (n % 128 + 128) ∷ []) k (n / 128) more low)

-- The written spelling is one.

groups_sound : (k n : ℕ) → 0 < k → n < 2 ^ (7 * k) → IsGroups (groups_of k n) n × (length (groups_of k n) ≤ k)
unfolding groups_of
groups_sound zero n pos small = absurd (omega arith)
groups_sound (suc k) n pos small =
    elim (nat_lt n 128) as (λ t. nat_lt n 128 ≡ t → IsGroups (cond t (n ∷ []) ((n % 128 + 128) ∷ groups_of k (n / 128))) n × (length (cond t (n ∷ []) ((n % 128 + 128) ∷ groups_of k (n / 128))) ≤ suc k)) [
      | true ↦ λ t. ((ltb-true n 128 t, refl), omega arith)
      | false ↦ λ t. (
          let high : 128 ≤ n = ltb-false n 128 t in
          let more = groups_sound k (n / 128) (room k n high small) (smaller k n small) in
          (put (groups_of k (n / 128)) n more.0, omega (arith, more.1)))
    ] refl
  where
    room : (k n : ℕ) → 128 ≤ n → n < 2 ^ (7 * suc k) → 0 < k
    room zero n h s = absurd (omega arith)
    room (suc k) n h s = omega arith

    smaller : (k n : ℕ) → n < 2 ^ (7 * suc k) → n / 128 < 2 ^ (7 * k)
    smaller k n s =
        let again : 7 * suc k ≡ 7 * k + 7 = omega arith in
        let part : 2 ^ (7 * suc k) ≡ 2 ^ (7 * k) * 128 = ap (λ n. 2 ^ n) again ∙ pow-add 2 (7 * k) 7 in
        let below : n < 2 ^ (7 * k) * 128 = rw part at s in omega (arith, below)

    put : (gs : List ℕ) (n : ℕ) → IsGroups gs (n / 128) → IsGroups ((n % 128 + 128) ∷ gs) n
    put [] n g = absurd g
    put (c ∷ gs) n g = (omega arith, (n / 128, omega arith, g))

pub written_spells : (z : ℤ) → zigzag z < 2 ^ 64 → SpellsLong (written_long z) z
unfolding written_long
written_spells z fits =
    let sound = groups_sound 10 (zigzag z) (omega arith) (omega arith) in
    record { groups = sound.0; few = sound.1; fits = fits }

few_groups : (k n : ℕ) (b : List ℕ) → AreBytes b → IsGroups b n → length b ≤ k → length (groups_of k n) ≤ length b
unfolding groups_of
few_groups k n [] bytes g few = absurd g
few_groups zero n (x ∷ b) bytes g few = absurd (omega arith)
few_groups (suc k) n (x ∷ []) bytes g few = let low : n < 128 = omega (arith, g.0, g.1) in rw (lt-ltb n 128 low) (omega arith)
few_groups (suc k) n (x ∷ c ∷ b) bytes g few =
    elim (nat_lt n 128) as (λ t. nat_lt n 128 ≡ t → length (cond t (n ∷ []) ((n % 128 + 128) ∷ groups_of k (n / 128))) ≤ length (x ∷ c ∷ b)) [
      | true ↦ λ t. omega arith
      | false ↦ λ t. (
          let same : g.1.0 ≡ n / 128 = omega (arith, g.0, g.1.1, bytes.0) in
          let more = few_groups k (n / 128) (c ∷ b) bytes.1 (subst (λ h. IsGroups (c ∷ b) h) same g.1.2) (omega arith) in
          omega (arith, more))
    ] refl

pub fewest : WrittenLongIsShortest
unfolding written_long
fewest b z bytes s = few_groups 10 (zigzag z) b bytes s.groups s.few
