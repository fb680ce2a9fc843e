use Rattle.std.proofs.Common.{◌≡◌, ◌≤◌, ◌-◌, suc, length, drop}
use Rattle.avro_container.specs.Container.{most_items}
use Rattle.avro_container.specs.Reading.{with_front, blocks_at}
use Rattle.avro_container.specs.ContainerReading.{causes, entry_at}
use Rattle.avro_container.proofs.metadata.read_blocks.Given as goal

abbrev pub invariant-loop : goal.invariant-loop
invariant-loop l = record {
  within : l.end ≤ length l.bytes;
  so_far : with_front l.entries.items (blocks_at causes (entry_at (length l.bytes)) (l.turns - l.counter) l.room (drop l.end l.bytes)) ≡ blocks_at causes (entry_at (length l.bytes)) (suc (length (drop l.at l.bytes))) most_items (drop l.at l.bytes);
}
