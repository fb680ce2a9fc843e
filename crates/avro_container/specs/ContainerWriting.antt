-- The written spelling of a header and a block (Apache Avro 1.11, "Object Container Files").
use Rattle.std.specs.Prelude.{◌≡◌, ℕ, pos, List, ◌∷◌, ◌++◌, length, codes, Some, if◌then◌else◌, IsPermutation, IsSortedByKey}
use Rattle.std.specs.Cmp.Lexicographic.{slice_cmp}
use Rattle.std.specs.Ordering.{nat_cmp}
use Rattle.std.specs.List.{list_any}
use Rattle.std.specs.Str.{bytes_eq}
use Rattle.avro_container.specs.Long.{written_long}
use Rattle.avro_container.specs.Writing.{written_text, written_blocks}
use Rattle.avro_container.specs.Container.{Pair, magic, value_of, SpellsHeader}

-- The count, the body's size, the body and the marker.
abbrev pub written_block : List ℕ → ℕ → List ℕ → List ℕ
written_block sync count body = written_long (pos count) ++ (written_long (pos (length body)) ++ (body ++ sync))

-- The key and the value, each with its length before it.
abbrev pub written_pair : Pair → List ℕ
written_pair e = written_text e.0 ++ written_text e.1

-- The metadata with a codec, which is `null` where none is named.
abbrev pub with_codec : List Pair → List Pair
with_codec meta = if list_any (λ e. bytes_eq e.0 (codes "avro.codec")) meta then meta else (codes "avro.codec", codes "null") ∷ meta

-- The metadata as they are written: with a codec, in the byte order of their keys.
pub record IsInOrder (meta pairs : List Pair) : Type 0 where
  pub same : IsPermutation (with_codec meta) pairs
  pub ordered : IsSortedByKey (λ e. e.0) (slice_cmp nat_cmp) pairs

-- The magic bytes, the metadata in at most one block, and the marker.
abbrev pub written_header : List Pair → List ℕ → List ℕ
written_header pairs sync = magic ++ (written_blocks written_pair pairs ++ sync)

-- New is old with the written header behind it, and that spells a header.
pub record AppendsHeader (meta : List Pair) (sync old new : List ℕ) : Type 0 where
  pub pairs : List Pair
  pub in_order : IsInOrder meta pairs
  pub is : new ≡ old ++ written_header pairs sync
  pub spells : (text : List ℕ) × (value_of (codes "avro.schema") meta ≡ Some text) × SpellsHeader text pairs sync (written_header pairs sync)
