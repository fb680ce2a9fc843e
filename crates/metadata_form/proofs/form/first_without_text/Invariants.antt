use Rattle.std.proofs.Common.{◌≡◌}
use Rattle.serde_json.specs.View.{members_view}
use Rattle.metadata_form.specs.Form.{members_fault, text_fault}
use Rattle.metadata_form.proofs.form.first_without_text.Given as goal

abbrev pub invariant-loop-key : goal.invariant-loop-key
invariant-loop-key l = members_fault text_fault (members_view l.members.entries) ≡ members_fault text_fault (members_view l.key-iterator)
