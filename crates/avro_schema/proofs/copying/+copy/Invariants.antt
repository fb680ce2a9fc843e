use Rattle.std.proofs.Common.{◌≡◌, take}
use Rattle.avro_schema.proofs.copying.+copy.Given as goal

abbrev pub invariant-copy_fields-loop-field : goal.invariant-copy_fields-loop-field
invariant-copy_fields-loop-field l = l.copied ≡ take l.field-index l.fields

abbrev pub invariant-copy_branches-loop-branch : goal.invariant-copy_branches-loop-branch
invariant-copy_branches-loop-branch l = l.copied ≡ take l.branch-index l.branches
