use Rattle.std.proofs.Common.{◌≡◌, drop}
use Rattle.metadata_snapshots.specs.Conditions.{leaves_whole}
use Rattle.table_metadata.proofs.conditions.leaves_whole.Given as goal

abbrev pub invariant-loop-reference : goal.invariant-loop-reference
invariant-loop-reference l = leaves_whole l.ids l.names l.refs ≡ leaves_whole l.ids l.names (drop l.reference-index l.refs)
