-- The same parts read from left to right, with the first fault that is met, for any kind of item and any type of causes.
use Rattle.std.specs.Prelude.{ℕ, zero, suc, ℤ, pos, negsuc, ◌-◌, List, [], ◌∷◌, ◌++◌, length, take, drop, Result, Ok, Err, Option, Some, None, Bool, true, false, nat_lt, ◌==◌, if◌then◌else◌}
use Rattle.std.specs.Str.{is_utf8}
use Rattle.avro_container.specs.declared.fault.NumErr.{NumErr}
use Rattle.avro_container.specs.declared.fault.NumErr.TheVariants as number
use Rattle.avro_container.specs.LongReading.{long_at}

-- the causes of the faults that every format has
pub record Causes (C : Type 0) : Type 0 where
  pub short : C
  pub too_long : C
  pub bad_utf8 : C
  pub negative_length : C
  pub bad_size : C
  pub too_many : C

-- a cause, and how many bytes are left at its place
abbrev pub Fault : Type 0 → Type 0
Fault C = C × ℕ

-- a value and the bytes behind it, or the first fault
abbrev pub Read : Type 0 → Type 0 → Type 0
Read C A = Result (A × List ℕ) (Fault C)

infixl 10 ◌>>=◌
-- The second reading goes on where the first one ended; the first fault is the fault.
abbrev pub ◌>>=◌ : {C A B : Type 0} → Result A (Fault C) → (A → Result B (Fault C)) → Result B (Fault C)
(Ok x) >>= f = f x
(Err e) >>= f = Err e

-- A number's fault, as one of these causes.
abbrev pub as_read : {C : Type 0} → Causes C → ℕ → Result (ℤ × List ℕ) NumErr → Read C ℤ
as_read c left (Ok x) = Ok x
as_read c left (Err number.Short) = Err (c.short, 0)
as_read c left (Err number.TooLong) = Err (c.too_long, left)

-- A number at the front of the bytes.
unfoldable pub number_at : {C : Type 0} → Causes C → List ℕ → Read C ℤ
number_at c bytes = as_read c (length bytes) (long_at bytes)

-- A number that isn't negative.
abbrev pub natural : {C : Type 0} → Causes C → ℕ → ℤ × List ℕ → Read C ℕ
natural c left (pos n, rest) = Ok (n, rest)
natural c left (negsuc n, rest) = Err (c.negative_length, left)

-- A length: a number that isn't negative.
unfoldable pub length_at : {C : Type 0} → Causes C → List ℕ → Read C ℕ
length_at c bytes = number_at c bytes >>= natural c (length bytes)

-- so many bytes
unfoldable pub bytes_at : {C : Type 0} → Causes C → ℕ → List ℕ → Read C (List ℕ)
bytes_at c n bytes = if nat_lt (length bytes) n then Err (c.short, 0) else Ok (take n bytes, drop n bytes)

-- a length, and so many bytes
unfoldable pub blob_at : {C : Type 0} → Causes C → List ℕ → Read C (List ℕ)
blob_at c bytes = length_at c bytes >>= λ n. bytes_at c n.0 n.1

-- the same, where they are UTF-8
unfoldable pub string_at : {C : Type 0} → Causes C → List ℕ → Read C (List ℕ)
string_at c bytes = blob_at c bytes >>= λ s. if is_utf8 s.0 then Ok s else Err (c.bad_utf8, length bytes)

-- What is read, with these items before it.
abbrev pub with_front : {C A : Type 0} → List A → Read C (List A) → Read C (List A)
with_front front read = read >>= λ x. Ok (front ++ x.0, x.1)

-- an item, and those behind it
abbrev pub ahead : {C A : Type 0} → Read C A → (List ℕ → Read C (List A)) → Read C (List A)
ahead read more = read >>= λ d. with_front (d.0 ∷ []) (more d.1)

-- so many items, one behind the other
unfoldable pub items_at : {C A : Type 0} → (List ℕ → Read C A) → ℕ → List ℕ → Read C (List A)
items_at item zero bytes = Ok ([], bytes)
items_at item (suc n) bytes = ahead (item bytes) (items_at item n)

-- the number of items of a block, of which no more than `room` may come, and its number of bytes where it states one
abbrev pub allowed : {C : Type 0} → Causes C → ℕ → ℕ → ℤ × List ℕ → Read C (ℕ × Option ℤ)
allowed c room left (pos n, rest) = if nat_lt room n then Err (c.too_many, left) else Ok ((n, None), rest)
allowed c room left (negsuc n, rest) = if nat_lt room (suc n) then Err (c.too_many, left) else (number_at c rest >>= λ size. Ok ((suc n, Some size.0), size.1))

-- The head of a block of items: their count, within the room, and their size where it is stated.
unfoldable pub head_at : {C : Type 0} → Causes C → ℕ → List ℕ → Read C (ℕ × Option ℤ)
head_at c room bytes = number_at c bytes >>= allowed c room (length bytes)

-- whether so many bytes are what was stated
abbrev pub is_size : Option ℤ → ℕ → Bool
is_size None len = true
is_size (Some (pos size)) len = size == len
is_size (Some (negsuc n)) len = false

-- items that were read from the bytes, where these are as many as was stated
abbrev pub sized : {C A : Type 0} → Causes C → Option ℤ → List ℕ → List A × List ℕ → Read C (List A)
sized c size bytes x = if is_size size (length bytes - length x.1) then Ok x else Err (c.bad_size, length bytes)

-- what follows the head of a block; `more` reads the blocks behind it
abbrev pub block_at : {C A : Type 0} → Causes C → (List ℕ → Read C A) → (ℕ → List ℕ → Read C (List A)) → ℕ → (ℕ × Option ℤ) × List ℕ → Read C (List A)
block_at c item more room head = if head.0.0 == 0 then Ok ([], head.1)
    else (items_at item head.0.0 head.1 >>= sized c head.0.1 head.1 >>= λ ds. with_front ds.0 (more (room - head.0.0) ds.1))

-- at most so many blocks, in all of no more than `room` items, up to one of no items
unfoldable pub blocks_at : {C A : Type 0} → Causes C → (List ℕ → Read C A) → ℕ → ℕ → List ℕ → Read C (List A)
blocks_at c item zero room bytes = Err (c.short, 0)
blocks_at c item (suc k) room bytes = head_at c room bytes >>= block_at c item (blocks_at c item k) room

-- where reading ends
abbrev pub end_of : {C A : Type 0} → Read C A → Result (List ℕ) (Fault C)
end_of (Ok x) = Ok x.1
end_of (Err e) = Err e
