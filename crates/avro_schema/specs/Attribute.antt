-- Attributes of a schema's JSON object (Apache Avro specification, "Schema Declaration").
use Rattle.std.specs.Prelude.{ℕ, ℤ, pos, negsuc, ◌^◌, List, Bool, false, nat_lt, if◌then◌else◌, Option, Some, None, option_and_then, unwrap_or}
use Rattle.std.specs.Str.{bytes_eq}
use Rattle.serde_json.specs.Data.{Data}
use Rattle.serde_json.specs.Find.{get, as_bool, as_number, as_str, as_i64, as_u64}

-- the text under a key
abbrev pub text_at : List ℕ → Data → Option (List ℕ)
text_at key d = option_and_then as_str (get key d)

-- a text that is there and is this one
abbrev pub is_text : List ℕ → Option (List ℕ) → Bool
is_text wanted None = false
is_text wanted (Some t) = bytes_eq t wanted

-- a number of 32 bits
abbrev pub narrow_unsigned : ℕ → Option ℕ
narrow_unsigned n = if nat_lt n (2 ^ 32) then Some n else None

-- a number of 32 bits
abbrev pub narrow_signed : ℤ → Option ℤ
narrow_signed (pos n) = if nat_lt n (2 ^ 31) then Some (pos n) else None
narrow_signed (negsuc n) = if nat_lt n (2 ^ 31) then Some (negsuc n) else None

-- a whole number from 0 on, of 32 bits
abbrev pub u32_of : Data → Option ℕ
u32_of d = option_and_then narrow_unsigned (option_and_then as_u64 (as_number d))

-- an id that the Iceberg specification puts beside a type; what is no whole number of 32 bits is none
unfoldable pub id_at : List ℕ → Data → Option ℤ
id_at key d = option_and_then narrow_signed (option_and_then as_i64 (option_and_then as_number (get key d)))

-- the truth under a key, false where there is none
abbrev pub flag_at : List ℕ → Data → Bool
flag_at key d = unwrap_or (option_and_then as_bool (get key d)) false
