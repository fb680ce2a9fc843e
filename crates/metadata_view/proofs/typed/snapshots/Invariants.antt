use Rattle.std.proofs.Common.{◌≡◌, map, take}
use Rattle.serde_json.specs.View.{view}
use Rattle.metadata_view.specs.View.{snapshot_of}
use Rattle.metadata_view.proofs.typed.snapshots.Given as goal

abbrev pub invariant-loop-item : goal.invariant-loop-item
invariant-loop-item l = l.found.items ≡ map (λ v. snapshot_of (view v)) (take l.item-index l.list)
