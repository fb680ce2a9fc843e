use Rattle.std.proofs.Common.{◌≡◌, drop, map}
use Rattle.serde_json.specs.View.{view}
use Rattle.metadata_form.specs.Fields.{has_id}
use Rattle.metadata_form.proofs.rules.has_id.Given as goal

abbrev pub invariant-loop-item : goal.invariant-loop-item
invariant-loop-item l = has_id l.name l.id (map view l.items) ≡ has_id l.name l.id (map view (drop l.item-index l.items))
