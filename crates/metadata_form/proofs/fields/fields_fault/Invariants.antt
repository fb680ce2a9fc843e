use Rattle.std.proofs.Common.{◌≡◌, drop}
use Rattle.serde_json.specs.View.{view}
use Rattle.metadata_form.specs.Fields.{fields_fault}
use Rattle.metadata_form.proofs.fields.fields_fault.Given as goal

abbrev pub invariant-loop-field : goal.invariant-loop-field
invariant-loop-field l = fields_fault l.fields (view l.tree) ≡ fields_fault (drop l.field-index l.fields) (view l.tree)
