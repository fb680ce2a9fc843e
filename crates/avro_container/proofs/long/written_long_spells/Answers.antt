use Rattle.avro_container.proofs.LongWritten.{written_spells}
use Rattle.avro_container.proofs.long.written_long_spells.Goals as goal

pub returns : goal.returns
returns c = written_spells
