-- The table of decimals' sizes is the definition's.
use Rattle.std.proofs.Common.{◌≡◌, ℕ, zero, suc, ◌+◌, ◌-◌, ◌*◌, ◌^◌, ◌<◌, ◌≤◌, List, [], ◌∷◌, Bool, true, false, None, refl, subst, arith, rules, get_or}
use Rattle.std.specs.Prelude.{find}
use Rattle.std.proofs.Math.Nat.{pow-le-pow_right}
use Rattle.std.proofs.lemmas.Bool.{le-ltb, ltb-false}
use Rattle.ice_schema.specs.Mapping.{holds_digits, decimal_sizes, decimal_size, DecimalSizesAreLeast}

-- the sizes of decimals of 0, 1, 2 and so on digits
abbrev pub sizes : List ℕ
sizes = 0 ∷ (1 ∷ (1 ∷ (2 ∷ (2 ∷ (3 ∷ (3 ∷ (4 ∷ (4 ∷ (4 ∷ (5 ∷ (5 ∷ (6 ∷ (6 ∷ (6 ∷ (7 ∷ (7 ∷ (8 ∷ (8 ∷ (9 ∷ (9 ∷ (9 ∷ (10 ∷ (10 ∷ (11 ∷ (11 ∷ (11 ∷ (12 ∷ (12 ∷ (13 ∷ (13 ∷ (13 ∷ (14 ∷ (14 ∷ (15 ∷ (15 ∷ (16 ∷ (16 ∷ (16 ∷ []))))))))))))))))))))))))))))))))))))))

-- the table is right from a number of digits on, so often
abbrev IsRight : ℕ → ℕ → Type 0
IsRight start zero = Unit {0}
IsRight start (suc count) = (get_or sizes start 0 ≡ decimal_size start) × IsRight (suc start) count

right_at : (count start more : ℕ) → more < count → IsRight start count → get_or sizes (start + more) 0 ≡ decimal_size (start + more)
right_at zero start more few is = absurd (omega arith)
right_at (suc count) start zero few is =
    let same : start ≡ start + 0 = omega arith in
    subst (λ n. get_or sizes n 0 ≡ decimal_size n) same is.0
right_at (suc count) start (suc more) few is =
    let same : suc start + more ≡ start + suc more = omega arith in
    subst (λ n. get_or sizes n 0 ≡ decimal_size n) same (right_at count (suc start) more (omega arith) is.1)

is_right : IsRight 0 39
unfolding decimal_size
is_right = (refl, (refl, (refl, (refl, (refl, (refl, (refl, (refl, (refl, (refl, (refl, (refl, (refl, (refl, (refl, (refl, (refl, (refl, (refl, (refl, (refl, (refl, (refl, (refl, (refl, (refl, (refl, (refl, (refl, (refl, (refl, (refl, (refl, (refl, (refl, (refl, (refl, (refl, (refl, tt)))))))))))))))))))))))))))))))))))))))

pub size_in_table : (digits : ℕ) → digits < 39 → get_or sizes digits 0 ≡ decimal_size digits
size_in_table digits few =
    let same : 0 + digits ≡ digits = omega arith in
    subst (λ n. get_or sizes n 0 ≡ decimal_size n) same (right_at 39 0 digits few is_right)

-- more digits than 38 are too many for 16 bytes
too_many : (digits bytes : ℕ) → 39 ≤ digits → bytes ≤ 16 → holds_digits digits bytes ≡ false
too_many digits bytes many few =
    let less : 2 ^ (8 * bytes - 1) ≤ 2 ^ 127 = pow-le-pow_right (omega arith) {i = 8 * bytes - 1} {j = 127} (omega arith) in
    let more : 10 ^ 39 ≤ 10 ^ digits = pow-le-pow_right (omega arith) {i = 39} {j = digits} many in
    le-ltb (10 ^ digits - 1) (2 ^ (8 * bytes - 1)) (omega arith)

abbrev AreFew : List ℕ → Type 0
AreFew [] = Unit {0}
AreFew (n ∷ ns) = (n ≤ 16) × AreFew ns

none_found : (digits : ℕ) (ns : List ℕ) → 39 ≤ digits → AreFew ns → find (holds_digits digits) ns ≡ None
none_found digits [] many few = refl
none_found digits (n ∷ ns) many few = rw (too_many digits n many few.0) (none_found digits ns many few.1)

pub size_beyond : (digits : ℕ) → 39 ≤ digits → 16 ≡ decimal_size digits
unfolding decimal_size
size_beyond digits many = rw (none_found digits decimal_sizes many (search rules)) refl

-- one byte less than a size holds the digits
abbrev one_less : ℕ → ℕ → Bool
one_less digits zero = false
one_less digits (suc size) = holds_digits digits size

abbrev one_less_holds : ℕ → Bool
one_less_holds digits = one_less digits (decimal_size digits)

-- the sizes are the least from a number of digits on, so often
abbrev AreLeast : ℕ → ℕ → Type 0
AreLeast start zero = Unit {0}
AreLeast start (suc count) = ((holds_digits start (decimal_size start) ≡ true) × (one_less_holds start ≡ false)) × AreLeast (suc start) count

least_at : (count start more : ℕ) → more < count → AreLeast start count → (holds_digits (start + more) (decimal_size (start + more)) ≡ true) × (one_less_holds (start + more) ≡ false)
least_at zero start more few are = absurd (omega arith)
least_at (suc count) start zero few are =
    let same : start ≡ start + 0 = omega arith in
    subst (λ n. (holds_digits n (decimal_size n) ≡ true) × (one_less_holds n ≡ false)) same are.0
least_at (suc count) start (suc more) few are =
    let same : suc start + more ≡ start + suc more = omega arith in
    subst (λ n. (holds_digits n (decimal_size n) ≡ true) × (one_less_holds n ≡ false)) same (least_at count (suc start) more (omega arith) are.1)

are_least : AreLeast 0 39
unfolding decimal_size
are_least = ((refl, refl), ((refl, refl), ((refl, refl), ((refl, refl), ((refl, refl), ((refl, refl), ((refl, refl), ((refl, refl), ((refl, refl), ((refl, refl), ((refl, refl), ((refl, refl), ((refl, refl), ((refl, refl), ((refl, refl), ((refl, refl), ((refl, refl), ((refl, refl), ((refl, refl), ((refl, refl), ((refl, refl), ((refl, refl), ((refl, refl), ((refl, refl), ((refl, refl), ((refl, refl), ((refl, refl), ((refl, refl), ((refl, refl), ((refl, refl), ((refl, refl), ((refl, refl), ((refl, refl), ((refl, refl), ((refl, refl), ((refl, refl), ((refl, refl), ((refl, refl), ((refl, refl), tt)))))))))))))))))))))))))))))))))))))))

-- fewer bytes than too few are too few
none_below : (digits size : ℕ) → one_less digits size ≡ false → (fewer : ℕ) → fewer < size → holds_digits digits fewer ≡ false
none_below digits zero small fewer less = absurd (omega arith)
none_below digits (suc size) small fewer less =
    let enough : 2 ^ (8 * size - 1) ≤ 10 ^ digits - 1 = ltb-false (10 ^ digits - 1) (2 ^ (8 * size - 1)) small in
    let below : 2 ^ (8 * fewer - 1) ≤ 2 ^ (8 * size - 1) = pow-le-pow_right (omega arith) {i = 8 * fewer - 1} {j = 8 * size - 1} (omega arith) in
    le-ltb (10 ^ digits - 1) (2 ^ (8 * fewer - 1)) (omega arith)

pub sizes_are_least : DecimalSizesAreLeast
sizes_are_least digits few =
    let both = least_at 39 0 digits (omega arith) are_least in
    let same : 0 + digits ≡ digits = omega arith in
    let facts = subst (λ n. (holds_digits n (decimal_size n) ≡ true) × (one_less_holds n ≡ false)) same both in
    record { holds = facts.0; least = none_below digits (decimal_size digits) facts.1 }
