use Rattle.std.proofs.Common.{◌≡◌, take, map}
use Rattle.serde_json.specs.View.{view}
use Rattle.schema_trees.specs.Writing.{field_tree}
use Rattle.schema_trees.proofs.spec_writing.field_trees.Given as goal

abbrev pub invariant-loop-field : goal.invariant-loop-field
invariant-loop-field l = map view l.trees.items ≡ map field_tree (take l.field-index l.fields)
