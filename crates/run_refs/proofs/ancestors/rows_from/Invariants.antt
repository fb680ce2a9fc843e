use Rattle.std.proofs.Common.{◌≡◌, map, take}
use Rattle.serde_json.specs.View.{view}
use Rattle.metadata_view.specs.View.{snapshots_of}
use Rattle.run_refs.specs.Ancestors.{row_of}
use Rattle.run_refs.proofs.ancestors.rows_from.Given as goal

abbrev pub invariant-loop-id : goal.invariant-loop-id
invariant-loop-id l = l.rows.items ≡ map (row_of (snapshots_of (view l.meta))) (take l.id-index l.id-items)
