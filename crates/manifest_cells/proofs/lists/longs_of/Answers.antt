use Rattle.std.proofs.Common.{rules, ◌≡◌, ◌<◌, Some, ap, ◌∙◌, sym, arith}
use Rattle.std.specs.List.{slice_get}
use Rattle.std.proofs.lemmas.Option.{slice_get-get_or}
use Rattle.avro_datum.specs.declared.datum.Datum.TheVariants.{Long}
use Rattle.manifest_cells.proofs.Whole.{no_items}
use Rattle.manifest_cells.proofs.lists.longs_of.Goals as goal

pub returns-in_default : goal.returns-in_default
returns-in_default c =
    let at : slice_get c.args.items.now c.loop-item.item-index ≡ Some c.item-item.result = slice_get-get_or c.args.items.now c.loop-item.item-index c.item-item.result (omega (arith, c.loop-item-test.true)) ∙ sym (ap Some c.item-item.is) in
    no_items Long c.args.items.now c.loop-item.item-index c.item-item.result at c.in_default.ensures
