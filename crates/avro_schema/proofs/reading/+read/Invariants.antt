use Rattle.std.proofs.Common.{◌≡◌, ◌+◌, ◌*◌, ◌-◌, drop}
use Rattle.serde_json.specs.View.{items_view}
use Rattle.avro_schema.specs.Reading.{each, field_at, read}
use Rattle.avro_schema.proofs.Lists.{with_front}
use Rattle.avro_schema.proofs.reading.+read.Given as goal

abbrev pub decreases-read_type : goal.decreases-read_type
decreases-read_type l = 8 * l.most

abbrev pub decreases-read_level : goal.decreases-read_level
decreases-read_level l = 8 * l.most - 1

abbrev pub decreases-read_object : goal.decreases-read_object
decreases-read_object l = 8 * l.most - 2

abbrev pub decreases-read_record : goal.decreases-read_record
decreases-read_record l = 8 * l.left + 4

abbrev pub decreases-read_fields : goal.decreases-read_fields
decreases-read_fields l = 8 * l.left + 3

abbrev pub decreases-read_field : goal.decreases-read_field
decreases-read_field l = 8 * l.left + 2

abbrev pub decreases-read_inner : goal.decreases-read_inner
decreases-read_inner l = 8 * l.left + 1

abbrev pub decreases-read_array : goal.decreases-read_array
decreases-read_array l = 8 * l.left + 2

abbrev pub decreases-read_map : goal.decreases-read_map
decreases-read_map l = 8 * l.left + 2

abbrev pub decreases-read_union : goal.decreases-read_union
decreases-read_union l = 8 * l.left + 2

abbrev pub decreases-read_branches : goal.decreases-read_branches
decreases-read_branches l = 8 * l.left + 1

abbrev pub invariant-read_fields-loop-index : goal.invariant-read_fields-loop-index
invariant-read_fields-loop-index l = with_front l.fields (each (field_at (read l.left)) l.path l.index (items_view (drop l.index l.trees)) l.scope) ≡ each (field_at (read l.left)) l.path 0 (items_view l.trees) l.initial.scope

abbrev pub invariant-read_branches-loop-index : goal.invariant-read_branches-loop-index
invariant-read_branches-loop-index l = with_front l.branches (each (read l.left) l.path l.index (items_view (drop l.index l.trees)) l.scope) ≡ each (read l.left) l.path 0 (items_view l.trees) l.initial.scope
