-- The head of a block of items, with the faults of a container and with those of a value.
use Rattle.std.proofs.Common.{◌≡◌, ℕ, suc, ℤ, pos, negsuc, List, length, Ok, Err, refl, Option, Some, None, Bool, true, false, nat_lt, cond}
use Rattle.avro_container.specs.declared.fault.ContainerCause.{ContainerCause}
use Rattle.avro_container.specs.declared.fault.ContainerCause.TheVariants.{TooMany}
use Rattle.avro_container.specs.declared.fault.NumErr.TheVariants as number
use Rattle.avro_container.specs.LongReading.{long_at}
use Rattle.avro_container.specs.Reading.{Fault, Read, ◌>>=◌, as_read, number_at, allowed, head_at}
use Rattle.avro_container.specs.ContainerReading.{causes as in_container}
use Rattle.avro_pieces.specs.declared.fault.DatumCause.{DatumCause}
use Rattle.avro_pieces.specs.Pieces.{causes, of_head}

-- the number of items, and what was read as their size
abbrev with_size : {C : Type 0} → ℕ → ℤ × List ℕ → Read C (ℕ × Option ℤ)
with_size n size = Ok ((suc n, Some size.0), size.1)

-- the same with a value's fault
abbrev pub told : {A : Type 0} → Read ContainerCause A → Read DatumCause A
told (Ok x) = Ok x
told (Err e) = Err (of_head e.0, e.1)

by_test : {A : Type 0} (t : Bool) (e : Fault ContainerCause) (r : Read ContainerCause A) (s : Read DatumCause A) → s ≡ told r → cond t (Err (of_head e.0, e.1)) s ≡ told (cond t (Err e) r)
by_test true e r s h = refl
by_test false e r s h = h

size_told : (n : ℕ) (bytes : List ℕ) → (number_at causes bytes >>= with_size n) ≡ told (number_at in_container bytes >>= with_size n)
unfolding number_at
size_told n bytes = elim (long_at bytes) as (λ r. (as_read causes (length bytes) r >>= with_size n) ≡ told (as_read in_container (length bytes) r >>= with_size n)) [
  | Ok x ↦ refl
  | Err number.Short ↦ refl
  | Err number.TooLong ↦ refl
]

allowed_told : (room left : ℕ) (n : ℤ × List ℕ) → allowed causes room left n ≡ told (allowed in_container room left n)
allowed_told room left (pos n, rest) = by_test (nat_lt room n) (TooMany, left) (Ok ((n, None), rest)) (Ok ((n, None), rest)) refl
allowed_told room left (negsuc n, rest) = by_test (nat_lt room (suc n)) (TooMany, left) (number_at in_container rest >>= with_size n) (number_at causes rest >>= with_size n) (size_told n rest)

pub head_told : (room : ℕ) (bytes : List ℕ) → head_at causes room bytes ≡ told (head_at in_container room bytes)
unfolding head_at number_at
head_told room bytes = elim (long_at bytes) as (λ r. (as_read causes (length bytes) r >>= allowed causes room (length bytes)) ≡ told (as_read in_container (length bytes) r >>= allowed in_container room (length bytes))) [
  | Ok x ↦ allowed_told room (length bytes) x
  | Err number.Short ↦ refl
  | Err number.TooLong ↦ refl
]
