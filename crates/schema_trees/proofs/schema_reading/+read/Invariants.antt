use Rattle.std.proofs.Common.{◌≡◌, ◌+◌, ◌*◌, drop}
use Rattle.serde_json.specs.View.{items_view}
use Rattle.schema_trees.specs.Reading.{each}
use Rattle.schema_trees.specs.TypeReading.{column_at, read}
use Rattle.schema_trees.proofs.Lists.{with_front}
use Rattle.schema_trees.proofs.schema_reading.+read.Given as goal

abbrev pub decreases-read_type : goal.decreases-read_type
decreases-read_type l = 8 * l.most

abbrev pub decreases-read_level : goal.decreases-read_level
decreases-read_level l = 8 * l.left + 6

abbrev pub decreases-read_object : goal.decreases-read_object
decreases-read_object l = 8 * l.left + 5

abbrev pub decreases-read_struct : goal.decreases-read_struct
decreases-read_struct l = 8 * l.left + 4

abbrev pub decreases-read_columns : goal.decreases-read_columns
decreases-read_columns l = 8 * l.left + 3

abbrev pub decreases-read_column : goal.decreases-read_column
decreases-read_column l = 8 * l.left + 2

abbrev pub decreases-read_inner : goal.decreases-read_inner
decreases-read_inner l = 8 * l.left + 1

abbrev pub decreases-read_list : goal.decreases-read_list
decreases-read_list l = 8 * l.left + 2

abbrev pub decreases-read_map : goal.decreases-read_map
decreases-read_map l = 8 * l.left + 2

abbrev pub invariant-read_columns-loop-index : goal.invariant-read_columns-loop-index
invariant-read_columns-loop-index l = with_front l.columns (each (column_at (read l.left)) l.path l.index (items_view (drop l.index l.trees)) l.seen) ≡ each (column_at (read l.left)) l.path 0 (items_view l.trees) l.initial.seen
