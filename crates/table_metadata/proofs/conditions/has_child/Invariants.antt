use Rattle.std.proofs.Common.{◌≡◌, drop}
use Rattle.metadata_snapshots.specs.Conditions.{has_child}
use Rattle.table_metadata.proofs.conditions.has_child.Given as goal

abbrev pub invariant-loop-snapshot : goal.invariant-loop-snapshot
invariant-loop-snapshot l = has_child l.snapshots l.id ≡ has_child (drop l.snapshot-index l.snapshots) l.id
