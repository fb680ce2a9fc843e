-- Which bytes spell the parts of a container file (Apache Avro 1.11, "Object Container Files").
use Rattle.std.specs.Prelude.{◌≡◌, ℕ, pos, ◌≤◌, List, [], ◌∷◌, ◌++◌, length, drop, reverse, find, slice_range, codes, Option, Some, IfSome}
use Rattle.std.specs.Option.{option_map}
use Rattle.std.specs.Str.{IsUtf8, bytes_eq}
use Rattle.avro_container.specs.Long.{SpellsLong}
use Rattle.avro_container.specs.Spelling.{Joins, SpellsText, SpellsBlocks}

-- Objects in a block, and items of the metadata map.
abbrev pub most_items : ℕ
most_items = 16777216

-- Bytes of a block's objects.
abbrev pub most_block_bytes : ℕ
most_block_bytes = 67108864

-- The count of a block's objects, the size of its body in bytes, the body and the marker.
pub record SpellsBlock (sync : List ℕ) (count : ℕ) (body : List ℕ) (b : List ℕ) : Type 0 where
  pub head : List ℕ
  pub size : List ℕ
  pub counts : SpellsLong head (pos count)
  pub sizes : SpellsLong size (pos (length body))
  pub few : count ≤ most_items
  pub small : length body ≤ most_block_bytes
  pub is : b ≡ head ++ (size ++ (body ++ sync))

-- A block begins at `at` and ends at `next`, and its body lies from `from` to `to`.
abbrev pub IsBlockAt : List ℕ → List ℕ → ℕ → ℕ → ℕ → ℕ → ℕ → Type 0
IsBlockAt sync bytes at count from to next = (front : List ℕ) × SpellsBlock sync count (slice_range bytes from to) front × (drop at bytes ≡ front ++ drop next bytes) × (next ≤ length bytes)

-- No front of the bytes from `at` spells a block.
abbrev pub NoBlockAt : List ℕ → List ℕ → ℕ → Type 0
NoBlockAt sync bytes at = (count : ℕ) (body front rest : List ℕ) → SpellsBlock sync count body front → drop at bytes ≡ front ++ rest → ⊥

-- No block begins another, and each has one count and one body.
abbrev pub BlocksAreApart : Type 0
BlocksAreApart = (sync : List ℕ) (m n : ℕ) (v w a b x y : List ℕ) → SpellsBlock sync m v a → SpellsBlock sync n w b → a ++ x ≡ b ++ y → (a ≡ b) × (m ≡ n) × (v ≡ w)

-- A pair of the metadata: a key in UTF-8, and a value of any bytes.
abbrev pub Pair : Type 0
Pair = List ℕ × List ℕ

-- The key and the value, each with its length before it.
unfoldable pub SpellsPair : Pair → List ℕ → Type 0
SpellsPair e b = IsUtf8 e.0 × Joins (SpellsText e.0) (SpellsText e.1) b

-- The metadata as a block of pairs.
abbrev pub SpellsMeta : List Pair → List ℕ → Type 0
SpellsMeta meta b = SpellsBlocks SpellsPair most_items meta b

-- The value of a key, of equal keys the last one's.
abbrev pub value_of : List ℕ → List Pair → Option (List ℕ)
value_of key meta = option_map (λ e. e.1) (find (λ e. bytes_eq e.0 key) (reverse meta))

-- `Obj` and 1
abbrev pub magic : List ℕ
magic = 79 ∷ 98 ∷ 106 ∷ 1 ∷ []

-- The magic bytes, the metadata and the marker. No codec is named but `null`, and the schema's text is UTF-8.
pub record SpellsHeader (schema : List ℕ) (meta : List Pair) (sync : List ℕ) (b : List ℕ) : Type 0 where
  pub middle : List ℕ
  pub map : SpellsMeta meta middle
  pub codec : IfSome (value_of (codes "avro.codec") meta) (λ c. c ≡ codes "null")
  pub text : value_of (codes "avro.schema") meta ≡ Some schema
  pub utf8 : IsUtf8 schema
  pub marker : length sync ≡ 16
  pub is : b ≡ magic ++ (middle ++ sync)

-- The bytes begin with a header that ends at `end`.
abbrev pub IsHeaderOf : List ℕ → List ℕ → List Pair → List ℕ → ℕ → Type 0
IsHeaderOf bytes schema meta sync end = (front : List ℕ) × SpellsHeader schema meta sync front × (bytes ≡ front ++ drop end bytes) × (end ≤ length bytes)

-- No front of the bytes is a header.
abbrev pub NoHeader : List ℕ → Type 0
NoHeader bytes = (schema : List ℕ) (meta : List Pair) (sync front rest : List ℕ) → SpellsHeader schema meta sync front → bytes ≡ front ++ rest → ⊥

-- No header begins another, and each has one schema, one list of metadata and one marker.
abbrev pub HeadersAreApart : Type 0
HeadersAreApart = (s t : List ℕ) (v w : List Pair) (p q a b x y : List ℕ) → SpellsHeader s v p a → SpellsHeader t w q b → a ++ x ≡ b ++ y → (a ≡ b) × (s ≡ t) × (v ≡ w) × (p ≡ q)
