use Rattle.std.proofs.Common.{◌≡◌, drop}
use Rattle.serde_json.specs.View.{items_view}
use Rattle.schema_trees.specs.Reading.{each, field_at}
use Rattle.schema_trees.proofs.Lists.{with_front}
use Rattle.schema_trees.proofs.spec_reading.read_fields.Given as goal

abbrev pub invariant-loop-index : goal.invariant-loop-index
invariant-loop-index l = with_front l.fields (each field_at l.path l.index (items_view (drop l.index l.trees)) l.seen) ≡ each field_at l.path 0 (items_view l.trees) l.initial.seen
