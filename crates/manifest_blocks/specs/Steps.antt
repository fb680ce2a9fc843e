-- What is written of a container object by object.
use Rattle.std.specs.Prelude.{◌≡◌, ◌≤◌, ◌<◌, ℕ, List, [], ◌∷◌, ◌++◌, length, Bool, true, false, Result, Ok, Err}
use Rattle.std.specs.List.{list_any}
use Rattle.avro_container.specs.Container.{most_block_bytes}
use Rattle.avro_container.specs.ContainerWriting.{written_block}
use Rattle.manifest_blocks.specs.declared.blocks.Blocks.{Blocks}
use Rattle.manifest_blocks.specs.declared.fault.WriteErr.{WriteErr}
use Rattle.manifest_blocks.specs.declared.fault.WriteErr.TheVariants as errors
use Rattle.manifest_blocks.specs.Blocks.{Block, blocks_of, blocks_from, bytes_of, is_too_large, some_too_large}

-- Of the objects all but `rest` are written: those of the closed blocks stand behind the head in the file, the others in the open block.
pub record IsSoFar (head sync : List ℕ) (objects : List (List ℕ)) (file : List ℕ) (open_block : Block) (rest : List (List ℕ)) : Type 0 where
  pub closed : List Block
  pub are : blocks_of objects ≡ closed ++ blocks_from open_block rest
  pub is : file ≡ head ++ bytes_of sync closed
  pub fit : list_any is_too_large closed ≡ false

-- the objects of the open block
abbrev pub open_in : Blocks → Block
open_in blocks = (blocks.count, blocks.body.items)

-- The open block was closed, or is too large.
abbrev pub Closes : List ℕ → Blocks → Blocks → Result (Unit {0}) WriteErr → Type 0
Closes sync old new (Ok done) = (new.file.items ≡ old.file.items ++ written_block sync old.count old.body.items) × (new.body.items ≡ []) × (new.count ≡ 0) × (length old.body.items ≤ most_block_bytes)
Closes sync old new (Err errors.Memory) = Unit {0}
Closes sync old new (Err errors.TooLarge) = most_block_bytes < length old.body.items

-- The objects were written up to one, and so they are with it, or one of their blocks is too large.
abbrev pub GoesOn : (head sync : List ℕ) (objects : List (List ℕ)) (rest : List (List ℕ)) → Blocks → Result (Unit {0}) WriteErr → Type 0
GoesOn head sync objects rest new (Ok done) = IsSoFar head sync objects new.file.items (open_in new) rest
GoesOn head sync objects rest new (Err errors.Memory) = Unit {0}
GoesOn head sync objects rest new (Err errors.TooLarge) = some_too_large objects ≡ true

-- An object, whose bytes stand behind those of the open block, was counted among its objects.
abbrev pub Counts : List ℕ → Blocks → Blocks → Result (Unit {0}) WriteErr → Type 0
Counts sync old new result = (head : List ℕ) (objects rest : List (List ℕ)) (before object : List ℕ) → old.body.items ≡ before ++ object
    → IsSoFar head sync objects old.file.items (old.count, before) (object ∷ rest) → GoesOn head sync objects rest new result

-- The bytes are those of the whole container, or one of its blocks is too large.
abbrev pub Ends : List ℕ → List ℕ → List (List ℕ) → Result (List ℕ) WriteErr → Type 0
Ends head sync objects (Ok bytes) = (bytes ≡ head ++ bytes_of sync (blocks_of objects)) × (some_too_large objects ≡ false)
Ends head sync objects (Err errors.Memory) = Unit {0}
Ends head sync objects (Err errors.TooLarge) = some_too_large objects ≡ true

-- What was written of all objects is closed.
abbrev pub Finishes : List ℕ → Blocks → Result (List ℕ) WriteErr → Type 0
Finishes sync blocks result = (head : List ℕ) (objects : List (List ℕ)) → IsSoFar head sync objects blocks.file.items (open_in blocks) [] → Ends head sync objects result
