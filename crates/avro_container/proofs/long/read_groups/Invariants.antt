use Rattle.std.proofs.Common.{◌≡◌, suc, ◌-◌, ◌*◌, ◌<◌, ◌^◌, drop}
use Rattle.avro_container.specs.LongReading.{groups_at}
use Rattle.avro_container.proofs.LongGroups.{scaled}
use Rattle.avro_container.proofs.long.read_groups.Given as goal

abbrev pub invariant-loop : goal.invariant-loop
invariant-loop l = record {
  below : l.value < l.scale;
  power : l.scale ≡ 2 ^ (7 * l.counter);
  so_far : scaled l.value l.scale (groups_at (suc (9 - l.counter)) (drop l.end l.bytes)) ≡ groups_at 10 (drop l.at l.bytes);
}
