use Rattle.std.proofs.Common.{◌≡◌, ◌-◌}
use Rattle.metadata_view.specs.Walk.{walk, has_id}
use Rattle.metadata_view.proofs.walks.on_walk.Given as goal

abbrev pub invariant-loop : goal.invariant-loop
invariant-loop l = has_id l.id (walk l.snapshots (l.end - l.counter) l.next) ≡ has_id l.id (walk l.snapshots l.end l.fn.from)
