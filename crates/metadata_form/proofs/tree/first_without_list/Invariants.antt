use Rattle.std.proofs.Common.{◌≡◌, drop, map}
use Rattle.serde_json.specs.View.{view}
use Rattle.metadata_form.specs.Form.{items_fault}
use Rattle.metadata_form.specs.Fault.{list_fault}
use Rattle.metadata_form.proofs.tree.first_without_list.Given as goal

abbrev pub invariant-loop-i : goal.invariant-loop-i
invariant-loop-i l = items_fault list_fault 0 (map view l.snapshots) ≡ items_fault list_fault l.i (map view (drop l.i l.snapshots))
