use Rattle.std.proofs.Common.{◌≡◌, drop, map}
use Rattle.serde_json.specs.View.{view}
use Rattle.metadata_form.specs.Form.{items_fault, is_object_fault}
use Rattle.metadata_form.proofs.form.first_without_object.Given as goal

abbrev pub invariant-loop-i : goal.invariant-loop-i
invariant-loop-i l = items_fault is_object_fault 0 (map view l.items) ≡ items_fault is_object_fault l.i (map view (drop l.i l.items))
