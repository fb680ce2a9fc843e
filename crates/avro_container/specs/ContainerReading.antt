-- The parts of a container read from left to right, with the first fault that is met.
use Rattle.std.specs.Prelude.{◌≡◌, ℕ, ℤ, pos, negsuc, ◌-◌, ◌≤◌, suc, List, length, take, drop, reverse, find, map, codes, Result, Ok, Err, Option, Some, None, nat_lt, if◌then◌else◌, slice_range}
use Rattle.std.specs.Borrow.{Bor}
use Rattle.std.specs.Str.{bytes_eq, is_utf8}
use Rattle.avro_container.specs.declared.fault.ContainerCause.{ContainerCause}
use Rattle.avro_container.specs.declared.fault.ContainerCause.TheVariants.{BadMagic, Short, TooLong, BadUtf8, BadSync, NegativeCount, NegativeLength, BadSize, Codec, BlockTooLarge, TooMany, NoSchema}
use Rattle.avro_container.specs.declared.fault.BlockErr.{BlockErr}
use Rattle.avro_container.specs.declared.fault.ContainerErr.{ContainerErr}
use Rattle.avro_container.specs.declared.fault.ContainerErr.TheVariants as errors
use Rattle.avro_container.specs.declared.metadata.Entry.{Entry}
use Rattle.avro_container.specs.declared.blocks.Block.{Block}
use Rattle.avro_container.specs.declared.header.Header.{Header}
use Rattle.avro_container.specs.Reading.{Causes, Fault, Read, ◌>>=◌, number_at, bytes_at, blob_at, string_at, with_front, blocks_at}
use Rattle.avro_container.specs.Container.{magic, most_items, most_block_bytes, Pair}

-- The faults of what a container file is made of.
abbrev pub causes : Causes ContainerCause
causes = record { short = Short; too_long = TooLong; bad_utf8 = BadUtf8; negative_length = NegativeLength; bad_size = BadSize; too_many = TooMany }

-- a number from 0 to most
abbrev pub bounded : ℕ → ContainerCause → ℕ → ℤ × List ℕ → Read ContainerCause ℕ
bounded most above left (pos n, rest) = if nat_lt most n then Err (above, left) else Ok (n, rest)
bounded most above left (negsuc n, rest) = Err (NegativeCount, left)

-- A count of objects, within its limit.
unfoldable pub count_at : List ℕ → Read ContainerCause ℕ
count_at bytes = number_at causes bytes >>= bounded most_items TooMany (length bytes)

-- A size of a block's body in bytes, within its limit.
unfoldable pub size_at : List ℕ → Read ContainerCause ℕ
size_at bytes = number_at causes bytes >>= bounded most_block_bytes BlockTooLarge (length bytes)

-- these very bytes
unfoldable pub marker_at : List ℕ → List ℕ → Read ContainerCause (Unit {0})
marker_at sync bytes = bytes_at causes (length sync) bytes >>= λ m. if bytes_eq m.0 sync then Ok (tt, m.1) else Err (BadSync, length bytes)

-- the count of a block's objects, and its body
unfoldable pub container_block_at : List ℕ → List ℕ → Read ContainerCause (ℕ × List ℕ)
container_block_at sync bytes = count_at bytes >>= λ n. size_at n.1 >>= λ s. bytes_at causes s.0 s.1 >>= λ b. marker_at sync b.1 >>= λ m. Ok ((n.0, b.0), m.1)

-- `Obj` and 1. What is less than these four bytes, and begins as they do, is too short.
unfoldable pub magic_at : List ℕ → Read ContainerCause (Unit {0})
magic_at bytes = if bytes_eq (take 4 bytes) magic then Ok (tt, drop 4 bytes)
    else (if bytes_eq bytes (take (length bytes) magic) then Err (Short, 0) else Err (BadMagic, length bytes))

-- a key in UTF-8 and a value, with the place where the value begins in the n bytes of the whole
unfoldable pub entry_at : ℕ → List ℕ → Read ContainerCause Entry
entry_at n bytes = string_at causes bytes >>= λ k. blob_at causes k.1 >>= λ v. Ok (record { key = k.0; value = v.0; at = n - length k.1 }, v.1)

-- The entries of the metadata, in n bytes in all.
unfoldable pub entries_at : ℕ → List ℕ → Read ContainerCause (List Entry)
entries_at n bytes = blocks_at causes (entry_at n) (suc (length bytes)) most_items bytes

-- An entry without its place.
abbrev pub pair_of : Entry → Pair
pair_of e = (e.key, e.value)

-- the last entry of a key
abbrev pub last_of : List ℕ → List Entry → Option Entry
last_of key entries = find (λ e. bytes_eq e.key key) (reverse entries)

-- the schema's text
abbrev pub text_of : ℕ → Entry → Result (List ℕ) (Fault ContainerCause)
text_of n s = if is_utf8 s.value then Ok s.value else Err (BadUtf8, n - s.at)

-- Of a codec that isn't `null` and a schema that isn't UTF-8 the earlier one is the fault.
abbrev pub judged : ℕ → Option Entry → Entry → Result (List ℕ) (Fault ContainerCause)
judged n None s = text_of n s
judged n (Some c) s = if bytes_eq c.value (codes "null") then text_of n s
    else (if is_utf8 s.value then Err (Codec, n - c.at) else (if nat_lt c.at s.at then Err (Codec, n - c.at) else Err (BadUtf8, n - s.at)))

-- The schema's text, where there is one.
abbrev pub with_schema : ℕ → Option Entry → Option Entry → Result (List ℕ) (Fault ContainerCause)
with_schema n codec None = Err (NoSchema, n - 4)
with_schema n codec (Some s) = judged n codec s

-- the schema's text, of metadata in n bytes
unfoldable pub schema_of : ℕ → List Entry → Result (List ℕ) (Fault ContainerCause)
schema_of n entries = with_schema n (last_of (codes "avro.codec") entries) (last_of (codes "avro.schema") entries)

-- what a header says: its schema's text, its metadata and its marker
abbrev pub Said : Type 0
Said = List ℕ × List Pair × List ℕ

-- The magic bytes, the metadata and the marker.
unfoldable pub header_at : List ℕ → Read ContainerCause Said
header_at bytes = magic_at bytes >>= λ m. entries_at (length bytes) m.1 >>= λ e. schema_of (length bytes) e.0 >>= λ text. bytes_at causes 16 e.1 >>= λ s. Ok ((text, map pair_of e.0, s.0), s.1)

-- What a function returned, seen by view, is what reading gives. A place is told by what is left there.
abbrev pub Gives : {A B : Type 0} → (A → B) → List ℕ → Result (A × ℕ) BlockErr → Read ContainerCause B → Type 0
Gives view bytes (Ok x) read = (read ≡ Ok (view x.0, drop x.1 bytes)) × (x.1 ≤ length bytes)
Gives view bytes (Err e) read = (read ≡ Err (e.cause, length bytes - e.at)) × (e.at ≤ length bytes)

-- What a refusal says, unless memory ran out.
abbrev pub Fails : {A : Type 0} → List ℕ → ContainerErr → Result A (Fault ContainerCause) → Type 0
Fails bytes errors.Memory read = Unit {0}
Fails bytes (errors.Bad at cause) read = (read ≡ Err (cause, length bytes - at)) × (at ≤ length bytes)

-- The same as `Gives`, where memory can run out.
abbrev pub Makes : {A B : Type 0} → (A → B) → List ℕ → Result (A × ℕ) ContainerErr → Read ContainerCause B → Type 0
Makes view bytes (Ok x) read = (read ≡ Ok (view x.0, drop x.1 bytes)) × (x.1 ≤ length bytes)
Makes view bytes (Err e) read = Fails bytes e read

-- What was lent is the schema's text, or its fault is the first one in n bytes.
abbrev pub Judges : ℕ → Result (Bor (List ℕ)) BlockErr → Result (List ℕ) (Fault ContainerCause) → Type 0
Judges n (Ok s) read = read ≡ Ok s.now
Judges n (Err e) read = (read ≡ Err (e.cause, n - e.at)) × (e.at ≤ n)

-- What was read stands at the end of a list.
abbrev pub Adds : {A : Type 0} → List ℕ → List A → List A → Result ℕ ContainerErr → Read ContainerCause (List A) → Type 0
Adds bytes old new (Ok end) read = (with_front old read ≡ Ok (new, drop end bytes)) × (end ≤ length bytes)
Adds bytes old new (Err e) read = Fails bytes e read

-- What holds of a refusal that isn't want of memory.
abbrev pub OnFault : {A : Type 0} → Result A ContainerErr → Type 0 → Type 0
OnFault (Ok x) P = Unit {0}
OnFault (Err errors.Memory) P = Unit {0}
OnFault (Err (errors.Bad at cause)) P = P

-- A header is what reading gives, or the first fault and its place.
abbrev pub GivesHeader : List ℕ → Result Header ContainerErr → Type 0
GivesHeader bytes (Ok h) = (header_at bytes ≡ Ok ((h.schema_text, h.meta, h.sync), drop h.end bytes)) × (h.end ≤ length bytes)
GivesHeader bytes (Err e) = Fails bytes e (header_at bytes)

-- A block is what reading gives, or the first fault and its place.
abbrev pub GivesBlock : List ℕ → List ℕ → ℕ → Result (Option Block) BlockErr → Type 0
GivesBlock sync bytes at (Ok None) = at ≡ length bytes
GivesBlock sync bytes at (Ok (Some b)) = (container_block_at sync (drop at bytes) ≡ Ok ((b.count, slice_range bytes b.from b.to), drop b.next bytes)) × (b.next ≤ length bytes)
GivesBlock sync bytes at (Err e) = (container_block_at sync (drop at bytes) ≡ Err (e.cause, length bytes - e.at)) × (e.at ≤ length bytes)
