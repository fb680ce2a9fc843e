use Rattle.avro_container.proofs.LongLaws.{found_at, none_at}
use Rattle.avro_container.proofs.long.read_long.Goals as goal

pub returns-clause-found : goal.returns-clause-found
returns-clause-found c = found_at _ _ _ c.read_signed.ensures

pub returns-clause-none : goal.returns-clause-none
returns-clause-none c = none_at _ _ _ c.read_signed.ensures
