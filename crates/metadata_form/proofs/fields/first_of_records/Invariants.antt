use Rattle.std.proofs.Common.{◌≡◌, drop, map}
use Rattle.serde_json.specs.View.{view}
use Rattle.metadata_form.specs.Form.{items_fault}
use Rattle.metadata_form.specs.Fields.{record_fault}
use Rattle.metadata_form.proofs.fields.first_of_records.Given as goal

abbrev pub invariant-loop-i : goal.invariant-loop-i
invariant-loop-i l = items_fault (record_fault l.fields) 0 (map view l.items) ≡ items_fault (record_fault l.fields) l.i (map view (drop l.i l.items))
