use Rattle.std.proofs.Common.{◌≡◌, map, take}
use Rattle.manifest_cells.specs.Cells.{record_cells}
use Rattle.manifest_rows.specs.Rows.{summary_cells}
use Rattle.manifest_rows.proofs.summaries.summaries_of.Given as goal

abbrev pub invariant-loop-item : goal.invariant-loop-item
invariant-loop-item l = map summary_cells l.summaries ≡ map (record_cells l.places) (take l.item-index l.items)
