use Rattle.std.proofs.Common.{◌≡◌, ◌≤◌, length, drop, map, false}
use Rattle.std.specs.List.{list_any}
use Rattle.serde_json.specs.View.{view}
use Rattle.metadata_snapshots.specs.Sets.{is_in}
use Rattle.metadata_snapshots.proofs.taken.history_end.Given as goal

abbrev pub invariant-loop-end : goal.invariant-loop-end
invariant-loop-end l = (l.end ≤ length l.items) × (list_any (is_in l.ids) (map view (drop l.end l.items)) ≡ false)

abbrev pub decreases-loop-end : goal.decreases-loop-end
decreases-loop-end l = l.end
