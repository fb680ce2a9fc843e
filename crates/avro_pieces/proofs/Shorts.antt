-- Short lengths and positions.
use Rattle.std.proofs.Common.{◌≡◌, ℕ, pos, ◌/◌, ◌%◌, ◌<◌, ◌≤◌, ◌+◌, ◌-◌, ◌*◌, ◌^◌, List, ◌∷◌, length, drop, get_or, add-one, drop-cons, Ok, refl, ap, ◌∙◌, arith, lt-ltb, eq-eqb}
use Rattle.avro_container.specs.LongReading.{long_at, with_sign}
use Rattle.avro_container.specs.Reading.{◌>>=◌, as_read, number_at, natural, length_at}
use Rattle.avro_container.proofs.LongGroups.{one_group, two_groups}
use Rattle.avro_pieces.specs.declared.fault.DatumCause.{DatumCause}
use Rattle.avro_pieces.specs.Pieces.{causes, position, position_at}

pub front_at : (bs : List ℕ) (i : ℕ) → i < length bs → drop i bs ≡ get_or bs i 0 ∷ drop (i + 1) bs
front_at bs i h = rw add-one (drop-cons bs i 0 h)

pub one_byte : (b : ℕ) (xs rest : List ℕ) → xs ≡ b ∷ rest → b < 128 → b % 2 ≡ 0 → number_at causes xs ≡ Ok (pos (b / 2), rest)
unfolding number_at long_at
one_byte b xs rest is low even =
    ap (λ r. as_read causes (length xs) (with_sign r)) (one_group b xs rest is low) ∙ rw (eq-eqb (b % 2) 0 even) refl

pub two_bytes : (b c : ℕ) (xs ys rest : List ℕ) → xs ≡ b ∷ ys → ys ≡ c ∷ rest → 128 ≤ b → b < 256 → c < 128 → b % 2 ≡ 0 → number_at causes xs ≡ Ok (pos (b / 2 - 64 + 64 * c), rest)
unfolding number_at long_at
two_bytes b c xs ys rest is next high byte low even =
    let half : (b - 128 + 128 * c) / 2 ≡ b / 2 - 64 + 64 * c = omega arith in
    let still : (b - 128 + 128 * c) % 2 ≡ 0 = omega arith in
    ap (λ r. as_read causes (length xs) (with_sign r)) (two_groups b c xs ys rest is next high byte low) ∙ rw (eq-eqb ((b - 128 + 128 * c) % 2) 0 still, half) refl

pub as_length : (xs rest : List ℕ) (n : ℕ) → number_at causes xs ≡ Ok (pos n, rest) → length_at causes xs ≡ Ok (n, rest)
unfolding length_at
as_length xs rest n e = ap (λ r. r >>= natural causes (length xs)) e

pub short_place : (above : DatumCause) (count n : ℕ) (xs rest : List ℕ) → number_at causes xs ≡ Ok (pos n, rest) → n < count → n < 64 → position_at above count xs ≡ Ok (n, rest)
unfolding position_at
short_place above count n xs rest e below small =
    let fits : n < 2 ^ 32 = omega arith in
    ap (λ r. r >>= position above count (length xs)) e ∙ rw (lt-ltb n count below, lt-ltb n (2 ^ 32) fits) refl
