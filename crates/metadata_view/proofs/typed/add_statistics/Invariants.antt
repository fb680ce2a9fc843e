use Rattle.std.proofs.Common.{◌≡◌, ◌++◌, map, take}
use Rattle.serde_json.specs.View.{view}
use Rattle.metadata_view.specs.View.{statistics_file_of}
use Rattle.metadata_view.proofs.typed.add_statistics.Given as goal

abbrev pub invariant-loop-item : goal.invariant-loop-item
invariant-loop-item l = l.longer.items ≡ l.fn.found.items ++ map (λ v. statistics_file_of (view v)) (take l.item-index l.list)
