use Rattle.std.proofs.Common.{rules, ◌≡◌, ◌<◌, ◌+◌, length, arith, sym, ap, Some, ◌∙◌, FitsSigned, w32}
use Rattle.std.proofs.lemmas.Int.{to_z-of_z}
use Rattle.std.proofs.Math.Numerals.{add-one}
use Rattle.manifest_columns.specs.declared.column.Kind.TheVariants.{Bool as Truth}
use Rattle.manifest_cells.proofs.InOrder.{step, not_at, on_true}
use Rattle.manifest_rows.specs.Rows.{cells, row_kinds}
use Rattle.manifest_rows.proofs.Order.{was_set, was_not_set, width, all_filled}
use Rattle.manifest_rows.proofs.reading.filled.Goals as goal

pub returns-then-not-fits : goal.returns-then-not-fits
returns-then-not-fits c =
    let fits : FitsSigned w32 c.id_at.result = search rules in
    record {
      exact = record {
        place = c.loop-place.place;
        has_id = c.id_at.ensures ∙ ap Some (sym (to_z-of_z w32 c.id_at.result fits));
        fits_before = (c.loop-place.row, c.loop-place.invariant.0);
        fits_not = λ row. not_at row_kinds c.args.slots.now c.args.items.now Truth _ c.loop-place.place (cells row) (omega (arith, c.loop-place-test.true, c.requires)) c.loop-place-test.true c.index-slots-place.is (was_not_set _ _ c.loop-place.row c.fill.new.row _ c.in_ok-fits.ensures.fills c.if-not-fits.true row);
      };
      length = tt;
    }

pub loop-place-preserved : goal.loop-place-preserved
loop-place-preserved c = (step row_kinds c.args.slots.now c.args.items.now Truth _ c.loop-place.place (c.loop-place.place + 1) (cells c.loop-place.row) (cells c.fill.new.row) (add-one _) (sym c.requires) c.loop-place-test.true c.index-slots-place.is (omega (arith, c.loop-place-test.true, c.requires, width c.loop-place.row)) c.loop-place.invariant.0 (was_set _ _ c.loop-place.row c.fill.new.row _ c.in_ok-fits.ensures.fills c.if-not-fits.false), on_true _ c.in_ok-fits.ensures.length c.if-not-fits.false)

pub returns : goal.returns
returns c = record { exact = all_filled c.args.slots.now c.args.items.now c.loop-place.place c.loop-place.row c.requires (omega (arith, c.loop-place-test.false)) c.loop-place.invariant.0; length = c.loop-place.invariant.1 }
