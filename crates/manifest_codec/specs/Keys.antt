-- What the metadata of a manifest's file says (Apache Iceberg specification, "Manifests").
use Rattle.std.specs.Prelude.{◌≡◌, ℕ, ℤ, pos, List, [], Option, Some, None, codes, if◌then◌else◌, ◌⊎◌, FitsSigned}
use Rattle.std.specs.Int.{w32}
use Rattle.std.specs.Str.{bytes_eq, is_utf8}
use Rattle.std.specs.Fmt.{signed_decimal}
use Rattle.avro_container.specs.Container.{Pair, value_of}
use Rattle.manifest_codec.specs.declared.manifest.Manifest.{Manifest}

-- the text of these bytes, empty where they aren't UTF-8
abbrev pub as_text : List ℕ → List ℕ
as_text v = if is_utf8 v then v else []

-- the same of a value that may lack
abbrev pub text_in : Option (List ℕ) → List ℕ
text_in None = []
text_in (Some v) = as_text v

-- The text of a key's value, empty where it lacks or isn't UTF-8.
abbrev pub text_at : List ℕ → List Pair → List ℕ
text_at key meta = text_in (value_of key meta)

-- The text is the number, an i32, in decimal; the number is 0 where the text is no i32 in decimal.
abbrev pub NumberIs : List ℕ → ℤ → Type 0
NumberIs text n = (text ≡ signed_decimal n) ⊎ ((n ≡ pos 0) × ((m : ℤ) → FitsSigned w32 m → text ≡ signed_decimal m → ⊥))

-- the number that the text is in decimal, where it is one
abbrev pub IsParsed : List ℕ → ℤ → Type 0
IsParsed text n = (m : ℤ) → FitsSigned w32 m → text ≡ signed_decimal m → n ≡ m

-- The manifest has what the keys say.
pub record HasKeys (meta : List Pair) (m : Manifest) : Type 0 where
  pub spec_id : NumberIs (text_at (codes "partition-spec-id") meta) m.spec_id
  pub is_deletes : m.is_deletes ≡ bytes_eq (text_at (codes "content") meta) (codes "deletes")
  pub schema_text : m.schema_text ≡ text_at (codes "schema") meta
  pub schema_id : m.schema_id ≡ text_at (codes "schema-id") meta
  pub spec_text : m.spec_text ≡ text_at (codes "partition-spec") meta
