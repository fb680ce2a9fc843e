use Rattle.avro_container.proofs.LongLaws.{one_long}
use Rattle.avro_container.proofs.long.longs_are_apart.Goals as goal

pub returns : goal.returns
returns c = one_long
