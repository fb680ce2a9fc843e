use Rattle.avro_container.proofs.BlockLaws.{apart}
use Rattle.avro_container.proofs.blocks.blocks_are_apart.Goals as goal

pub returns : goal.returns
returns c = apart
