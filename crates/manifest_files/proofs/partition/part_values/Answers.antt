use Rattle.std.proofs.Common.{◌∙◌, map, take_all, ap, arith}
use Rattle.std.proofs.lemmas.Option.{slice_get-get_or}
use Rattle.manifest_files.specs.Partitions.{part_in}
use Rattle.manifest_files.proofs.Parts.{all_are_there, one_lacks}
use Rattle.manifest_files.proofs.partition.part_values.Goals as goal

pub returns-in_default : goal.returns-in_default
returns-in_default c = one_lacks (part_in c.args.fields.now) c.args.slots.now c.loop-slot.slot-index _ (slice_get-get_or c.args.slots.now c.loop-slot.slot-index _ (omega (arith, c.loop-slot-test.true))) (rw c.in_default.is at c.in_ok-value.ensures)

pub returns : goal.returns
returns c = all_are_there c.loop-slot.values (map (part_in c.args.fields.now) c.args.slots.now) (c.loop-slot.invariant ∙ ap (map (part_in c.args.fields.now)) (take_all c.loop-slot.slot-index c.args.slots.now (omega (arith, c.loop-slot-test.false))))
