use Rattle.avro_datum.proofs.Public.{passed_at, none_passed}
use Rattle.avro_datum.proofs.calls.skip.Goals as goal

pub returns-clause-found : goal.returns-clause-found
returns-clause-found c = passed_at _ _ _ _ c.past_from.ensures

pub returns-clause-none : goal.returns-clause-none
returns-clause-none c = none_passed _ _ _ _ c.past_from.ensures
