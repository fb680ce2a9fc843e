use Rattle.manifest_cells.proofs.InOrder.{stays}
use Rattle.manifest_files.proofs.Order.{fills_column_sizes, fills_value_counts, fills_null_value_counts, fills_lower_bounds, fills_upper_bounds, fills_nan_value_counts}
use Rattle.manifest_files.proofs.reading.fill.Goals as goal

pub returns-in-5 : goal.returns-in-5
returns-in-5 c = record { fills = fills_column_sizes c.set_int_longs_at.result c.args.place c.args.slot.now c.args.parts.now c.args.items.now c.args.file.now c.set_int_longs_at.new.to c.in-5.is c.set_int_longs_at.ensures; counts = stays c.set_int_longs_at.result c.requires.counts }

pub returns-in-6 : goal.returns-in-6
returns-in-6 c = record { fills = fills_value_counts c.set_int_longs_at-in-6.result c.args.place c.args.slot.now c.args.parts.now c.args.items.now c.args.file.now c.set_int_longs_at-in-6.new.to c.in-6.is c.set_int_longs_at-in-6.ensures; counts = stays c.set_int_longs_at-in-6.result c.requires.counts }

pub returns-in-7 : goal.returns-in-7
returns-in-7 c = record { fills = fills_null_value_counts c.set_int_longs_at-in-7.result c.args.place c.args.slot.now c.args.parts.now c.args.items.now c.args.file.now c.set_int_longs_at-in-7.new.to c.in-7.is c.set_int_longs_at-in-7.ensures; counts = stays c.set_int_longs_at-in-7.result c.requires.counts }

pub returns-in-8 : goal.returns-in-8
returns-in-8 c = record { fills = fills_lower_bounds c.set_int_bytes_at.result c.args.place c.args.slot.now c.args.parts.now c.args.items.now c.args.file.now c.set_int_bytes_at.new.to c.in-8.is c.set_int_bytes_at.ensures; counts = stays c.set_int_bytes_at.result c.requires.counts }

pub returns-in-9 : goal.returns-in-9
returns-in-9 c = record { fills = fills_upper_bounds c.set_int_bytes_at-in-9.result c.args.place c.args.slot.now c.args.parts.now c.args.items.now c.args.file.now c.set_int_bytes_at-in-9.new.to c.in-9.is c.set_int_bytes_at-in-9.ensures; counts = stays c.set_int_bytes_at-in-9.result c.requires.counts }

pub returns-in-14 : goal.returns-in-14
returns-in-14 c = record { fills = fills_nan_value_counts c.set_int_longs_at-in-14.result c.args.place c.args.slot.now c.args.parts.now c.args.items.now c.args.file.now c.set_int_longs_at-in-14.new.to c.in-14.is c.set_int_longs_at-in-14.ensures; counts = stays c.set_int_longs_at-in-14.result c.requires.counts }
