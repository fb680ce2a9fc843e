use Rattle.std.proofs.Common.{rules, ◌+◌, arith, sym, ap, Some, ◌∙◌, FitsSigned, w32}
use Rattle.std.proofs.lemmas.Int.{to_z-of_z}
use Rattle.std.proofs.Math.Numerals.{add-one}
use Rattle.manifest_columns.specs.declared.column.Kind.TheVariants.{Bool as Truth}
use Rattle.manifest_cells.proofs.InOrder.{on_true}
use Rattle.manifest_files.proofs.InOrder.{step, not_at}
use Rattle.manifest_files.specs.Files.{file_cells, file_kinds}
use Rattle.manifest_files.proofs.Order.{was_set, was_not_set, width, all_filled}
use Rattle.manifest_files.proofs.reading.file_of.Goals as goal

pub returns-then-not-fits : goal.returns-then-not-fits
returns-then-not-fits c =
    let fits : FitsSigned w32 c.id_at.result = search rules in
    record {
      exact = record {
        place = c.loop-place.place;
        has_id = c.id_at.ensures ∙ ap Some (sym (to_z-of_z w32 c.id_at.result fits));
        fits_before = (c.loop-place.file, c.loop-place.invariant.0);
        fits_not = λ file. not_at c.args.parts.now c.args.items.now file_kinds c.args.slots.now Truth _ c.loop-place.place (file_cells file) (omega (arith, c.loop-place-test.true, c.requires)) c.loop-place-test.true c.index-slots-place.is (was_not_set _ _ c.loop-place.file c.fill.new.file _ c.in_ok-fits.ensures.fills c.if-not-fits.true file);
      };
      counts = tt;
    }

pub loop-place-preserved : goal.loop-place-preserved
loop-place-preserved c = (step c.args.parts.now c.args.items.now file_kinds c.args.slots.now Truth _ c.loop-place.place (c.loop-place.place + 1) (file_cells c.loop-place.file) (file_cells c.fill.new.file) (add-one _) (sym c.requires) c.loop-place-test.true c.index-slots-place.is (omega (arith, c.loop-place-test.true, c.requires, width c.loop-place.file)) c.loop-place.invariant.0 (was_set _ _ c.loop-place.file c.fill.new.file _ c.in_ok-fits.ensures.fills c.if-not-fits.false), on_true _ c.in_ok-fits.ensures.counts c.if-not-fits.false)

pub returns : goal.returns
returns c = record { exact = all_filled c.args.slots.now c.args.parts.now c.args.items.now c.loop-place.place c.loop-place.file c.requires (omega (arith, c.loop-place-test.false)) c.loop-place.invariant.0; counts = c.loop-place.invariant.1 }
