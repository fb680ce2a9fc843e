use Rattle.std.proofs.Common.{rules, ◌≡◌}
use Rattle.manifest_cells.proofs.InOrder.{stays}
use Rattle.manifest_rows.proofs.Order.{fills_list}
use Rattle.manifest_rows.proofs.reading.fill.Goals as goal

pub returns-in-7 : goal.returns-in-7
returns-in-7 c = record {
  fills = fills_list c.set_summaries.result c.args.place c.args.slot.now c.args.items.now _ c.args.row.now c.set_summaries.new.to c.in-7.is c.held-found.ensures c.set_summaries.ensures;
  length = stays c.set_summaries.result c.requires.length;
}
