use Rattle.avro_datum.proofs.Public.{apart}
use Rattle.avro_datum.proofs.calls.values_are_apart.Goals as goal

pub returns : goal.returns
returns c = apart
