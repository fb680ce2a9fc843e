use Rattle.avro_container.proofs.BlockLaws.{block_written}
use Rattle.avro_container.proofs.blocks.write_block.Goals as goal

pub returns-in-Ok-clause-spells : goal.returns-in-Ok-clause-spells
returns-in-Ok-clause-spells c = block_written _ _ _ c.requires.few c.requires.small

pub returns-in-Err-clause-spells : goal.returns-in-Err-clause-spells
returns-in-Err-clause-spells c = block_written _ _ _ c.requires.few c.requires.small
