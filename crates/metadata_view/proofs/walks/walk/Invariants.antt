use Rattle.std.proofs.Common.{◌≡◌, ◌++◌, ◌-◌}
use Rattle.metadata_view.specs.Walk.{walk}
use Rattle.metadata_view.proofs.walks.walk.Given as goal

abbrev pub invariant-loop : goal.invariant-loop
invariant-loop l = l.found.items ++ walk l.snapshots (l.end - l.counter) l.next ≡ walk l.snapshots l.end l.fn.from
