-- Values of columns as they are written.
use Rattle.std.specs.Prelude.{ℕ, ℤ, List, [], ◌∷◌, map, Option, Some, None}
use Rattle.avro_datum.specs.declared.datum.Datum.{Datum}
use Rattle.avro_datum.specs.declared.datum.Datum.TheVariants.{Null, Int, Long, Blob, List as Array, Fields, Branch}

-- A field that may lack: a union, null first.
abbrev pub optional : Option Datum → Datum
optional None = Branch 0 Null
optional (Some d) = Branch 1 d

-- an int and a long, as a record of the two
abbrev pub int_long_record : ℤ × ℤ → Datum
int_long_record p = Fields (Int p.0 ∷ Long p.1 ∷ [])

-- an int and bytes, in the same way
abbrev pub int_bytes_record : ℤ × List ℕ → Datum
int_bytes_record p = Fields (Int p.0 ∷ Blob p.1 ∷ [])

-- items as an array of records
abbrev pub array_of : {A : Type 0} → (A → Datum) → List A → Datum
array_of record_of xs = Array (map record_of xs)
