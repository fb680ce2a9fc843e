use Rattle.std.proofs.Common.{◌≡◌, ◌<◌, ◌*◌, ◌-◌, ◌^◌, ◌++◌, suc}
use Rattle.avro_container.specs.Growth.{Grows}
use Rattle.avro_container.specs.Long.{groups_of}
use Rattle.avro_container.proofs.long.write_groups.Given as goal

abbrev pub invariant-loop : goal.invariant-loop
invariant-loop l = record {
  fits : l.rest * 2 ^ (7 * l.counter) < 2 ^ 64;
  grows : Grows l.initial.to.items l.to.items;
  so_far : l.to.items ++ groups_of (suc (9 - l.counter)) l.rest ≡ l.initial.to.items ++ groups_of 10 l.n;
}
