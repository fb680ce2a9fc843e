use Rattle.std.proofs.Common.{◌≡◌, drop, map}
use Rattle.serde_json.specs.View.{view}
use Rattle.metadata_form.specs.Form.{items_fault}
use Rattle.metadata_form.specs.Fields.{statistics_fault}
use Rattle.metadata_form.proofs.rules.first_of_statistics.Given as goal

abbrev pub invariant-loop-i : goal.invariant-loop-i
invariant-loop-i l = items_fault statistics_fault 0 (map view l.items) ≡ items_fault statistics_fault l.i (map view (drop l.i l.items))
