-- Which objects of a written container stand in one block, and the container's bytes (Apache Avro 1.11, "Object Container Files").
use Rattle.std.specs.Prelude.{◌≡◌, ℕ, ◌+◌, List, [], ◌∷◌, ◌++◌, length, Bool, true, false, ◌||◌, ◌==◌, nat_le, nat_lt, if◌then◌else◌, Result, Ok, Err}
use Rattle.std.specs.List.{list_any}
use Rattle.avro_container.specs.Container.{Pair, most_block_bytes}
use Rattle.avro_container.specs.Writing.{written_each}
use Rattle.avro_container.specs.ContainerWriting.{written_block, AppendsHeader}
use Rattle.manifest_blocks.specs.declared.fault.WriteErr.{WriteErr}
use Rattle.manifest_blocks.specs.declared.fault.WriteErr.TheVariants as errors

-- a block: how many objects it has, and their bytes
abbrev pub Block : Type 0
Block = ℕ × List ℕ

-- the bytes, and the objects, with which a block is full
abbrev pub most : ℕ
most = 64000

-- The block has so many objects, or so many bytes.
abbrev pub is_full : Block → Bool
is_full b = nat_le most b.0 || nat_le most (length b.1)

-- The block with one more object.
abbrev pub with_object : Block → List ℕ → Block
with_object b object = (b.0 + 1, b.1 ++ object)

-- without an object
abbrev pub no_objects : Block
no_objects = (0, [])

-- The last block, where it has an object.
abbrev pub last_block : Block → List Block
last_block b = if b.0 == 0 then [] else b ∷ []

-- The blocks of the objects of a block that is open and of those behind it: each is closed with the object with which it is full.
unfoldable pub blocks_from : Block → List (List ℕ) → List Block
blocks_from b [] = last_block b
blocks_from b (object ∷ objects) =
    if is_full (with_object b object) then with_object b object ∷ blocks_from no_objects objects else blocks_from (with_object b object) objects

-- The blocks of the objects.
abbrev pub blocks_of : List (List ℕ) → List Block
blocks_of objects = blocks_from no_objects objects

-- The block has more bytes than a block may have.
abbrev pub is_too_large : Block → Bool
is_too_large b = nat_lt most_block_bytes (length b.1)

-- Some block of the objects has more bytes than a block may have.
abbrev pub some_too_large : List (List ℕ) → Bool
some_too_large objects = list_any is_too_large (blocks_of objects)

-- The bytes of blocks, one behind the other.
abbrev pub bytes_of : List ℕ → List Block → List ℕ
bytes_of sync blocks = written_each (λ (b : Block). written_block sync b.0 b.1) blocks

-- The bytes are the written container of the objects: its header with these metadata, and its blocks.
pub record IsWritten (meta : List Pair) (sync : List ℕ) (objects : List (List ℕ)) (bytes : List ℕ) : Type 0 where
  pub head : List ℕ
  pub header : AppendsHeader meta sync [] head
  pub is : bytes ≡ head ++ bytes_of sync (blocks_of objects)
  pub fits : some_too_large objects ≡ false

-- The container of the objects was written, or one of its blocks would be too large.
abbrev pub Writes : List Pair → List ℕ → List (List ℕ) → Result (List ℕ) WriteErr → Type 0
Writes meta sync objects (Ok bytes) = IsWritten meta sync objects bytes
Writes meta sync objects (Err errors.Memory) = Unit {0}
Writes meta sync objects (Err errors.TooLarge) = some_too_large objects ≡ true
