use Rattle.std.proofs.Common.{rules, ◌≡◌}
use Rattle.avro_datum.specs.declared.datum.Datum.TheVariants.{Int}
use Rattle.manifest_cells.proofs.Whole.{no_array}
use Rattle.manifest_cells.proofs.lists.set_int_items.Goals as goal

pub returns-in_default : goal.returns-in_default
returns-in_default c = no_array Int c.args.items.now (rw c.in_default.is at c.in_ok-ints.ensures)
