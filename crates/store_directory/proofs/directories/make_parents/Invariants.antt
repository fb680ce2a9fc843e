use Rattle.store_directory.specs.Noted.{KeepsNoted}
use Rattle.store_directory.proofs.directories.make_parents.Given as goal

abbrev pub invariant-loop-end : goal.invariant-loop-end
invariant-loop-end l = KeepsNoted l.fn.changed l.changed
