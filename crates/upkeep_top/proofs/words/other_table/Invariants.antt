use Rattle.std.proofs.Common.{take}
use Rattle.upkeep_top.specs.Words.{AreOf}
use Rattle.upkeep_top.proofs.words.other_table.Given as goal

abbrev pub invariant-loop-at : goal.invariant-loop-at
invariant-loop-at l = AreOf l.table (take l.at l.tasks)
