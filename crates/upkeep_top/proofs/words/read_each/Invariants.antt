use Rattle.std.proofs.Common.{take}
use Rattle.upkeep_top.specs.Words.{AskFrom}
use Rattle.upkeep_top.proofs.words.read_each.Given as goal

abbrev pub invariant-loop-word : goal.invariant-loop-word
invariant-loop-word l = AskFrom 0 (take l.word l.words) l.tasks
