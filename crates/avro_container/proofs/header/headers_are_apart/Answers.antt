use Rattle.avro_container.proofs.HeaderLaws.{apart}
use Rattle.avro_container.proofs.header.headers_are_apart.Goals as goal

pub returns : goal.returns
returns c = apart
