use Rattle.std.proofs.Common.{◌≡◌, take, map}
use Rattle.serde_json.specs.View.{view}
use Rattle.schema_trees.specs.TypeWriting.{column_tree}
use Rattle.schema_trees.proofs.schema_writing.+write.Given as goal

abbrev pub invariant-write_columns-loop-column : goal.invariant-write_columns-loop-column
invariant-write_columns-loop-column l = map view l.trees.items ≡ map column_tree (take l.column-index l.columns)
