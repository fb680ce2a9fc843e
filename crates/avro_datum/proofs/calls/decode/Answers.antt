use Rattle.avro_datum.proofs.Public.{found_at, of_schema, none_at}
use Rattle.avro_datum.proofs.calls.decode.Goals as goal

pub returns-clause-found : goal.returns-clause-found
returns-clause-found c = found_at _ _ _ _ c.value_from.ensures

pub returns-clause-of_schema : goal.returns-clause-of_schema
returns-clause-of_schema c = of_schema _ _ c.args.at _ c.value_from.ensures

pub returns-clause-none : goal.returns-clause-none
returns-clause-none c = none_at _ _ _ _ c.value_from.ensures
