use Rattle.avro_container.proofs.HeaderLaws.{is_header, no_header}
use Rattle.avro_container.proofs.header.read_header.Goals as goal

pub returns-clause-found : goal.returns-clause-found
returns-clause-found c = is_header _ _ c.whole_header.ensures

pub returns-clause-none : goal.returns-clause-none
returns-clause-none c = no_header _ _ c.whole_header.ensures
