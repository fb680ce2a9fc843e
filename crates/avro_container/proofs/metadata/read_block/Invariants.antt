use Rattle.std.proofs.Common.{◌≡◌, ◌≤◌, ◌-◌, length, drop}
use Rattle.avro_container.specs.Reading.{with_front, items_at}
use Rattle.avro_container.specs.ContainerReading.{entry_at}
use Rattle.avro_container.proofs.metadata.read_block.Given as goal

abbrev pub invariant-loop : goal.invariant-loop
invariant-loop l = record {
  within : l.end ≤ length l.bytes;
  so_far : with_front l.to.items (items_at (entry_at (length l.bytes)) (l.count - l.counter) (drop l.end l.bytes)) ≡ with_front l.initial.to.items (items_at (entry_at (length l.bytes)) l.count (drop l.at l.bytes));
}
