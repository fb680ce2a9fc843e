-- A value read from left to right, with the first fault that is met.
use Rattle.std.specs.Prelude.{◌≡◌, ℕ, zero, suc, ◌-◌, ◌≤◌, List, [], ◌∷◌, length, drop, Result, Ok, Err, Option, Some, None}
use Rattle.avro_schema.specs.Form.{Form, null, boolean, int, long, float4, float8, bytes as blob, string, fixed, choice, array, pairs, fields, union, Forms, no_forms, form}
use Rattle.avro_container.specs.Reading.{Read, ◌>>=◌, number_at, bytes_at, blob_at, string_at, with_front, ahead, blocks_at, end_of}
use Rattle.avro_pieces.specs.declared.fault.DatumCause.{DatumCause}
use Rattle.avro_pieces.specs.declared.fault.DatumCause.TheVariants.{BadBranch, BadEnum}
use Rattle.avro_pieces.specs.Pieces.{causes, int_at, position_at, bool_at}
use Rattle.avro_datum.specs.declared.fault.DatumErr.{DatumErr}
use Rattle.avro_datum.specs.declared.fault.DatumErr.TheVariants as errors
use Rattle.avro_pieces.specs.declared.fault.SkipErr.{SkipErr}
use Rattle.avro_datum.specs.declared.datum.Datum.{Datum}
use Rattle.avro_datum.specs.declared.datum.Datum.TheVariants.{Null, Bool as Truth, Int, Long, Float4, Float8, Blob, Str, Fix, Choice, List as Array, Pairs, Fields, Branch}
use Rattle.avro_datum.specs.Spelling.{most_items}

-- a key and its value
unfoldable pub entry_at : (List ℕ → Read DatumCause Datum) → List ℕ → Read DatumCause (List ℕ × Datum)
entry_at value bytes = string_at causes bytes >>= λ k. value k.1 >>= λ d. Ok ((k.0, d.0), d.1)

-- How many forms there are.
abbrev pub count_of : Forms → ℕ
count_of no_forms = 0
count_of (form f fs) = suc (count_of fs)

unfoldable mutual
  -- The value that the bytes begin with under a schema's form, and what is left; or the first fault.
  pub read : Form → List ℕ → Read DatumCause Datum
  read null bytes = Ok (Null, bytes)
  read boolean bytes = bool_at bytes >>= λ b. Ok (Truth b.0, b.1)
  read int bytes = int_at bytes >>= λ n. Ok (Int n.0, n.1)
  read long bytes = number_at causes bytes >>= λ n. Ok (Long n.0, n.1)
  read float4 bytes = bytes_at causes 4 bytes >>= λ b. Ok (Float4 b.0, b.1)
  read float8 bytes = bytes_at causes 8 bytes >>= λ b. Ok (Float8 b.0, b.1)
  read blob bytes = blob_at causes bytes >>= λ b. Ok (Blob b.0, b.1)
  read string bytes = string_at causes bytes >>= λ s. Ok (Str s.0, s.1)
  read (fixed n) bytes = bytes_at causes n bytes >>= λ b. Ok (Fix b.0, b.1)
  read (choice n) bytes = position_at BadEnum n bytes >>= λ k. Ok (Choice k.0, k.1)
  read (array f) bytes = blocks_at causes (read f) (suc (length bytes)) most_items bytes >>= λ ds. Ok (Array ds.0, ds.1)
  read (pairs f) bytes = blocks_at causes (entry_at (read f)) (suc (length bytes)) most_items bytes >>= λ ds. Ok (Pairs ds.0, ds.1)
  read (fields fs) bytes = read_all fs bytes >>= λ ds. Ok (Fields ds.0, ds.1)
  read (union fs) bytes = position_at BadBranch (count_of fs) bytes >>= λ n. read_nth fs n.0 n.1 >>= λ d. Ok (Branch n.0 d.0, d.1)

  -- A value under each form, in order.
  pub read_all : Forms → List ℕ → Read DatumCause (List Datum)
  read_all no_forms bytes = Ok ([], bytes)
  read_all (form f fs) bytes = ahead (read f bytes) (read_all fs)

  -- A value under the form at a position.
  pub read_nth : Forms → ℕ → List ℕ → Read DatumCause Datum
  read_nth no_forms n bytes = Err (BadBranch, length bytes)
  read_nth (form f fs) zero bytes = read f bytes
  read_nth (form f fs) (suc n) bytes = read_nth fs n bytes

-- a list of the one value that was read
abbrev pub listed : {A : Type 0} → Read DatumCause A → Read DatumCause (List A)
listed read = read >>= λ d. Ok (d.0 ∷ [], d.1)

-- What a refusal says, unless memory ran out. A place is told by what is left there.
abbrev pub Fails : {A : Type 0} → List ℕ → DatumErr → Read DatumCause A → Type 0
Fails bytes errors.Memory read = Unit {0}
Fails bytes (errors.Bad at cause) read = (read ≡ Err (cause, length bytes - at)) × (at ≤ length bytes)

-- What a function returned is what reading gives.
abbrev pub Makes : {A : Type 0} → List ℕ → Result (A × ℕ) DatumErr → Read DatumCause A → Type 0
Makes bytes (Ok x) read = (read ≡ Ok (x.0, drop x.1 bytes)) × (x.1 ≤ length bytes)
Makes bytes (Err e) read = Fails bytes e read

-- The same, where what was read stands at the end of a list.
abbrev pub Adds : {A : Type 0} → List ℕ → List A → List A → Result ℕ DatumErr → Read DatumCause (List A) → Type 0
Adds bytes old new (Ok end) read = (with_front old read ≡ Ok (new, drop end bytes)) × (end ≤ length bytes)
Adds bytes old new (Err e) read = Fails bytes e read

-- What holds of a refusal that isn't want of memory.
abbrev pub OnFault : {A : Type 0} → Result A DatumErr → Type 0 → Type 0
OnFault (Ok x) P = Unit {0}
OnFault (Err errors.Memory) P = Unit {0}
OnFault (Err (errors.Bad at cause)) P = P

-- What a function returned is where reading ends, or its fault.
abbrev pub Ends : {A : Type 0} → List ℕ → Result ℕ SkipErr → Read DatumCause A → Type 0
Ends bytes (Ok end) read = (end_of read ≡ Ok (drop end bytes)) × (end ≤ length bytes)
Ends bytes (Err e) read = (end_of read ≡ Err (e.cause, length bytes - e.at)) × (e.at ≤ length bytes)

-- A function's answer, where its fault is put aside.
abbrev pub told : {A : Type 0} → Option A → SkipErr → Result A SkipErr
told (Some x) fault = Ok x
told None fault = Err fault
