use Rattle.std.proofs.Common.{◌≡◌, take}
use Rattle.metadata_view.specs.Steps.{parents_among}
use Rattle.metadata_view.proofs.steps.parents.Given as goal

abbrev pub invariant-loop-snapshot : goal.invariant-loop-snapshot
invariant-loop-snapshot l = l.found.items ≡ parents_among l.snapshots (take l.snapshot-index l.snapshots)
