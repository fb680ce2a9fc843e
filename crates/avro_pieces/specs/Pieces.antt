-- The parts of which values are made, read from left to right, with the first fault that is met (Apache Avro 1.11, "Binary Encoding").
use Rattle.std.specs.Prelude.{◌≡◌, ℕ, zero, suc, ℤ, pos, negsuc, ◌-◌, ◌≤◌, List, [], ◌∷◌, length, drop, Result, Ok, Err, Bool, true, false, nat_lt, ◌&&◌, ◌^◌, if◌then◌else◌}
use Rattle.std.specs.Borrow.{Bor}
use Rattle.avro_container.specs.Reading.{Causes, Read, ◌>>=◌, number_at}
use Rattle.avro_container.specs.declared.fault.ContainerCause.{ContainerCause}
use Rattle.avro_container.specs.declared.fault.ContainerCause.TheVariants as container
use Rattle.avro_pieces.specs.declared.fault.DatumCause.{DatumCause}
use Rattle.avro_pieces.specs.declared.fault.DatumCause.TheVariants.{Short, NumberTooLong, BadUtf8, BadBool, NegativeLength, BadSize, TooMany}
use Rattle.avro_pieces.specs.declared.fault.SkipErr.{SkipErr}

-- The faults of what a value is made of.
abbrev pub causes : Causes DatumCause
causes = record { short = Short; too_long = NumberTooLong; bad_utf8 = BadUtf8; negative_length = NegativeLength; bad_size = BadSize; too_many = TooMany }

-- A fault of a container's part, where it is one that the head of a block of items has.
abbrev pub of_head : ContainerCause → DatumCause
of_head container.TooLong = NumberTooLong
of_head container.TooMany = TooMany
of_head _ = Short

-- a number of 32 bits
abbrev pub narrow : ℕ → ℤ × List ℕ → Read DatumCause ℤ
narrow left (pos n, rest) = if nat_lt n (2 ^ 31) then Ok (pos n, rest) else Err (NumberTooLong, left)
narrow left (negsuc n, rest) = if nat_lt n (2 ^ 31) then Ok (negsuc n, rest) else Err (NumberTooLong, left)

-- A number of 32 bits.
unfoldable pub int_at : List ℕ → Read DatumCause ℤ
int_at bytes = number_at causes bytes >>= narrow (length bytes)

-- a position below count, of 32 bits
abbrev pub position : DatumCause → ℕ → ℕ → ℤ × List ℕ → Read DatumCause ℕ
position above count left (pos n, rest) = if nat_lt n count && nat_lt n (2 ^ 32) then Ok (n, rest) else Err (above, left)
position above count left (negsuc n, rest) = Err (above, left)

-- A position below count.
unfoldable pub position_at : DatumCause → ℕ → List ℕ → Read DatumCause ℕ
position_at above count bytes = number_at causes bytes >>= position above count (length bytes)

-- one byte, 0 or 1
unfoldable pub bool_at : List ℕ → Read DatumCause Bool
bool_at [] = Err (Short, 0)
bool_at (zero ∷ rest) = Ok (false, rest)
bool_at (suc zero ∷ rest) = Ok (true, rest)
bool_at (suc (suc b) ∷ rest) = Err (BadBool, length (suc (suc b) ∷ rest))

-- What a function returned is what reading gives, or its first fault; a place is told by what is left there.
abbrev pub Gives : {A : Type 0} → List ℕ → Result (A × ℕ) SkipErr → Read DatumCause A → Type 0
Gives bytes (Ok x) read = (read ≡ Ok (x.0, drop x.1 bytes)) × (x.1 ≤ length bytes)
Gives bytes (Err e) read = (read ≡ Err (e.cause, length bytes - e.at)) × (e.at ≤ length bytes)

-- The same, where what was read is seen by a view.
abbrev pub GivesBy : {A B : Type 0} → (A → B) → List ℕ → Result (A × ℕ) SkipErr → Read DatumCause B → Type 0
GivesBy view bytes (Ok x) read = (read ≡ Ok (view x.0, drop x.1 bytes)) × (x.1 ≤ length bytes)
GivesBy view bytes (Err e) read = (read ≡ Err (e.cause, length bytes - e.at)) × (e.at ≤ length bytes)

-- The same, where what was read is lent.
abbrev pub Lends : {A : Type 0} → List ℕ → Result (Bor A × ℕ) SkipErr → Read DatumCause A → Type 0
Lends bytes (Ok x) read = (read ≡ Ok (x.0.now, drop x.1 bytes)) × (x.1 ≤ length bytes)
Lends bytes (Err e) read = (read ≡ Err (e.cause, length bytes - e.at)) × (e.at ≤ length bytes)
