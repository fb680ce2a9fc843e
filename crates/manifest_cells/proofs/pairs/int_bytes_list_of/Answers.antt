use Rattle.std.proofs.Common.{rules, ◌≡◌, ◌<◌, Some, ap, ◌∙◌, sym, arith}
use Rattle.std.specs.List.{slice_get}
use Rattle.std.proofs.lemmas.Option.{slice_get-get_or}
use Rattle.manifest_cells.specs.Cells.{int_bytes_cells, record_cells}
use Rattle.manifest_cells.proofs.Whole.{no_list}
use Rattle.manifest_cells.proofs.pairs.int_bytes_list_of.Goals as goal

pub returns-in_default : goal.returns-in_default
returns-in_default c =
    let at : slice_get c.args.items.now c.loop-item.item-index ≡ Some c.item-item.result = slice_get-get_or c.args.items.now c.loop-item.item-index c.item-item.result (omega (arith, c.loop-item-test.true)) ∙ sym (ap Some c.item-item.is) in
    no_list int_bytes_cells (record_cells c.args.places.now) c.args.items.now c.loop-item.item-index c.item-item.result at (rw c.in_default.is at c.in_ok-pair.ensures)
