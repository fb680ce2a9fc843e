-- Written files: the text of their schema, and how their objects are put.
use Rattle.std.specs.Prelude.{ℕ, List, [], ◌∷◌, Result}
use Rattle.serde_json.specs.Written.{compact_text}
use Rattle.avro_schema.specs.declared.schema.Schema.{Schema}
use Rattle.avro_schema.specs.Writing.{written_schema}
use Rattle.manifest_blocks.specs.declared.blocks.Blocks.{Blocks}
use Rattle.manifest_blocks.specs.declared.fault.WriteErr.{WriteErr}
use Rattle.manifest_blocks.specs.Steps.{IsSoFar, GoesOn, open_in}

-- The text of a schema: its written tree as compact JSON (Apache Avro specification, "Schema Declaration").
unfoldable pub schema_text : Schema → List ℕ
schema_text s = compact_text (written_schema s)

-- The object that comes next was put into its block, or one of the blocks is too large.
abbrev pub Puts : List ℕ → List ℕ → Blocks → Blocks → Result (Unit {0}) WriteErr → Type 0
Puts sync object old new result = (head : List ℕ) (objects rest : List (List ℕ)) → IsSoFar head sync objects old.file.items (open_in old) (object ∷ rest) → GoesOn head sync objects rest new result

-- All these objects were put into their blocks, or one of the blocks is too large.
abbrev pub PutsAll : List ℕ → List (List ℕ) → Blocks → Blocks → Result (Unit {0}) WriteErr → Type 0
PutsAll sync more old new result = (head : List ℕ) (objects : List (List ℕ)) → IsSoFar head sync objects old.file.items (open_in old) more → GoesOn head sync objects [] new result
