use Rattle.std.proofs.Common.{◌<◌, length}
use Rattle.avro_bench.proofs.rows.recoded_in.Given as goal

abbrev pub invariant-loop : goal.invariant-loop
invariant-loop l = record {
  bytes : length l.blocks.body.items < 64000;
  rows : l.blocks.count < 64000;
}
