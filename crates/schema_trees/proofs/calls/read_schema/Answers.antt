use Rattle.serde_json.specs.View.{view}
use Rattle.schema_trees.proofs.Public.{schema_found_of, schema_none_of, schema_only_of}
use Rattle.schema_trees.proofs.calls.read_schema.Goals as goal

pub returns-clause-found : goal.returns-clause-found
returns-clause-found c = schema_found_of (view c.args.tree.now) c.read.result c.read.ensures

pub returns-clause-only : goal.returns-clause-only
returns-clause-only c = schema_only_of (view c.args.tree.now) c.read.result c.read.ensures

pub returns-clause-none : goal.returns-clause-none
returns-clause-none c = schema_none_of (view c.args.tree.now) c.read.result c.read.ensures
