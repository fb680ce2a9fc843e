use Rattle.serde_json.specs.View.{view}
use Rattle.avro_schema.proofs.Public.{schema_from, found_of, none_of, only_of}
use Rattle.avro_schema.proofs.calls.read_schema.Goals as goal

pub returns-clause-fault : goal.returns-clause-fault
returns-clause-fault c = schema_from (view c.args.tree.now) c.read_type.result c.read_type.new.scope (rw c.new.ensures at c.read_type.ensures)

pub returns-clause-found : goal.returns-clause-found
returns-clause-found c = found_of (view c.args.tree.now) c.read_type.result (schema_from (view c.args.tree.now) c.read_type.result c.read_type.new.scope (rw c.new.ensures at c.read_type.ensures))

pub returns-clause-none : goal.returns-clause-none
returns-clause-none c = none_of (view c.args.tree.now) c.read_type.result (schema_from (view c.args.tree.now) c.read_type.result c.read_type.new.scope (rw c.new.ensures at c.read_type.ensures))

pub returns-clause-only : goal.returns-clause-only
returns-clause-only c = only_of (view c.args.tree.now) c.read_type.result (schema_from (view c.args.tree.now) c.read_type.result c.read_type.new.scope (rw c.new.ensures at c.read_type.ensures))
