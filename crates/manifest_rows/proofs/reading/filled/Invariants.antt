use Rattle.std.proofs.Common.{◌≡◌, ◌<◌, ◌^◌, take}
use Rattle.manifest_rows.specs.Rows.{cells, held_cells}
use Rattle.manifest_rows.proofs.reading.filled.Given as goal

abbrev pub invariant-loop-place : goal.invariant-loop-place
invariant-loop-place l = (take l.place (cells l.row) ≡ take l.place (held_cells l.slots l.items)) × (l.row.manifest_length < 2 ^ 63)
