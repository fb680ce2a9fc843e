-- How deep trees and the types that they spell nest.
use Rattle.std.specs.Prelude.{ℕ, ◌≤◌}
use Rattle.serde_json.specs.Data.{Data, depth}
use Rattle.schema_types.specs.declared.types.ColType.{ColType}
use Rattle.schema_trees.specs.TypeSpelling.{SpellsWithin}

-- The limit on types within one another is met by no tree that nests at most 127 deep, as all JSON texts do: what it spells at any
-- depth it spells within the limit.
abbrev pub LimitIsEnough : Type 0
LimitIsEnough = (most : ℕ) (d : Data) (t : ColType) → depth d ≤ 127 → SpellsWithin most d t → SpellsWithin 128 d t
