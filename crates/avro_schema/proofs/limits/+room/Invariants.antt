use Rattle.std.proofs.Common.{◌≡◌, drop, map}
use Rattle.avro_schema.specs.Form.{form_of, field_form, forms_of, field_widths, branch_widths, room_behind}
use Rattle.avro_schema.proofs.limits.+room.Given as goal

abbrev pub invariant-room_behind_fields-loop-field : goal.invariant-room_behind_fields-loop-field
invariant-room_behind_fields-loop-field l = room_behind (field_widths (forms_of (map field_form (drop l.field-index l.fields)))) l.left ≡ room_behind (field_widths (forms_of (map field_form l.fields))) l.room

abbrev pub invariant-room_behind_branches-loop-branch : goal.invariant-room_behind_branches-loop-branch
invariant-room_behind_branches-loop-branch l = room_behind (branch_widths (forms_of (map form_of (drop l.branch-index l.branches)))) l.left ≡ room_behind (branch_widths (forms_of (map form_of l.branches))) l.room
