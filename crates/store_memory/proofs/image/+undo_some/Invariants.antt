use Rattle.std.proofs.Common.{length}
use Rattle.store_memory.proofs.image.+undo_some.Given as goal

abbrev pub decreases-undo_some : goal.decreases-undo_some
decreases-undo_some l = length l.pending.now
