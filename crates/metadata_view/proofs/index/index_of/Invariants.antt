use Rattle.std.proofs.Common.{◌≡◌, take, drop, []}
use Rattle.metadata_view.specs.Index.{IsIndex, double_behind}
use Rattle.metadata_view.proofs.index.index_of.Given as goal

abbrev pub invariant-loop-i : goal.invariant-loop-i
invariant-loop-i l = (double_behind [] l.snapshots ≡ double_behind (take l.i l.snapshots) (drop l.i l.snapshots)) × IsIndex l.index (take l.i l.snapshots)
