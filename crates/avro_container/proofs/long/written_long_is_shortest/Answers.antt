use Rattle.avro_container.proofs.LongWritten.{fewest}
use Rattle.avro_container.proofs.long.written_long_is_shortest.Goals as goal

pub returns : goal.returns
returns c = fewest
