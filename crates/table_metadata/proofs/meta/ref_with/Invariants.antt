use Rattle.std.proofs.Common.{◌≡◌, drop}
use Rattle.metadata_view.specs.View.{ref_with}
use Rattle.table_metadata.proofs.meta.ref_with.Given as goal

abbrev pub invariant-loop-reference : goal.invariant-loop-reference
invariant-loop-reference l = ref_with l.refs l.name ≡ ref_with (drop l.reference-index l.refs) l.name
