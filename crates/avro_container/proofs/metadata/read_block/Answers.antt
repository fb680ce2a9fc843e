use Rattle.std.proofs.Common.{◌-◌, ◌+◌, length, drop, ap, ◌∙◌}
use Rattle.avro_container.specs.Reading.{with_front, items_at}
use Rattle.avro_container.specs.ContainerReading.{entry_at}
use Rattle.avro_container.proofs.Loops.{items_go_on}
use Rattle.avro_container.proofs.metadata.read_block.Goals as goal

pub loop-preserved : goal.loop-preserved
loop-preserved c = record {
  within = c.in_ok-found.ensures.1;
  so_far = ap (λ ds. with_front ds (items_at (entry_at (length c.args.bytes.now)) (c.args.count - (c.loop.counter + 1)) (drop c.in_ok-found.after c.args.bytes.now))) c.in_ok-push.ensures.items
      ∙ items_go_on (entry_at (length c.args.bytes.now)) c.loop.to.items c.args.count c.loop.counter _ c.in_ok-found.found _ _ c.loop-test.true c.in_ok-found.ensures.0 c.loop.invariant.so_far;
}
