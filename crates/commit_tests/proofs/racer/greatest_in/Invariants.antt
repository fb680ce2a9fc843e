use Rattle.std.proofs.Common.{◌≡◌, take}
use Rattle.commit_history.specs.Versions.{number_in}
use Rattle.commit_history.specs.Listings.{greatest}
use Rattle.commit_tests.proofs.racer.greatest_in.Given as goal

abbrev pub invariant-loop-i : goal.invariant-loop-i
invariant-loop-i l = l.last ≡ greatest (number_in l.table) (take l.i l.listed)
