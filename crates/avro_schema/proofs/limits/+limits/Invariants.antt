use Rattle.std.proofs.Common.{◌≤◌, drop, map, ◌↔◌}
use Rattle.avro_schema.specs.Form.{form_of, field_form, forms_of, deepest}
use Rattle.avro_schema.proofs.limits.+limits.Given as goal

abbrev pub invariant-are_fields_within-loop-field : goal.invariant-are_fields_within-loop-field
invariant-are_fields_within-loop-field l = (deepest (forms_of (map field_form (drop l.field-index l.fields))) ≤ l.most) ↔ (deepest (forms_of (map field_form l.fields)) ≤ l.most)

abbrev pub invariant-are_branches_within-loop-branch : goal.invariant-are_branches_within-loop-branch
invariant-are_branches_within-loop-branch l = (deepest (forms_of (map form_of (drop l.branch-index l.branches))) ≤ l.most) ↔ (deepest (forms_of (map form_of l.branches)) ≤ l.most)
