use Rattle.std.proofs.Common.{◌≡◌, drop}
use Rattle.metadata_view.specs.View.{value_in}
use Rattle.table_metadata.proofs.meta.value_of.Given as goal

abbrev pub invariant-loop-property : goal.invariant-loop-property
invariant-loop-property l = value_in l.name l.properties ≡ value_in l.name (drop l.property-index l.properties)
