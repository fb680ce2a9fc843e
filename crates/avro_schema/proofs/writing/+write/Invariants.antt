use Rattle.std.proofs.Common.{◌≡◌, map, drop}
use Rattle.serde_json.specs.View.{view}
use Rattle.avro_schema.specs.Writing.{written_each, written_type, written_field}
use Rattle.avro_schema.proofs.WriteLists.{behind}
use Rattle.avro_schema.proofs.writing.+write.Given as goal

abbrev pub invariant-write_branches-loop-branch : goal.invariant-write_branches-loop-branch
invariant-write_branches-loop-branch l = behind (map view l.trees.items) (written_each (map written_type (drop l.branch-index l.branches)) l.written) ≡ written_each (map written_type l.branches) l.initial.written

abbrev pub invariant-write_fields-loop-field : goal.invariant-write_fields-loop-field
invariant-write_fields-loop-field l = behind (map view l.trees.items) (written_each (map written_field (drop l.field-index l.fields)) l.written) ≡ written_each (map written_field l.fields) l.initial.written
