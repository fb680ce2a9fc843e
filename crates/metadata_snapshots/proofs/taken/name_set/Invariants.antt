use Rattle.std.proofs.Common.{take}
use Rattle.metadata_snapshots.specs.Sets.{IsNameSet}
use Rattle.metadata_snapshots.proofs.taken.name_set.Given as goal

abbrev pub invariant-loop-name : goal.invariant-loop-name
invariant-loop-name l = IsNameSet l.found (take l.name-index l.names)
