use Rattle.std.proofs.Common.{take}
use Rattle.metadata_snapshots.specs.Sets.{IsIdSet}
use Rattle.metadata_snapshots.proofs.taken.id_set.Given as goal

abbrev pub invariant-loop-id : goal.invariant-loop-id
invariant-loop-id l = IsIdSet l.found (take l.id-index l.ids)
