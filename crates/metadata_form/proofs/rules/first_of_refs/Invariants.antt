use Rattle.std.proofs.Common.{◌≡◌}
use Rattle.serde_json.specs.View.{members_view}
use Rattle.metadata_form.specs.Form.{members_fault}
use Rattle.metadata_form.specs.Fields.{record_fault, ref_fields}
use Rattle.metadata_form.proofs.rules.first_of_refs.Given as goal

abbrev pub invariant-loop-key : goal.invariant-loop-key
invariant-loop-key l = members_fault (record_fault ref_fields) (members_view l.members.entries) ≡ members_fault (record_fault ref_fields) (members_view l.key-iterator)
