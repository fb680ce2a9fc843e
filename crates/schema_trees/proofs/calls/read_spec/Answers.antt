use Rattle.serde_json.specs.View.{view}
use Rattle.schema_trees.proofs.Public.{found_of, none_of, only_of}
use Rattle.schema_trees.proofs.calls.read_spec.Goals as goal

pub returns-clause-found : goal.returns-clause-found
returns-clause-found c = found_of (view c.args.tree.now) c.read.result c.read.ensures

pub returns-clause-only : goal.returns-clause-only
returns-clause-only c = only_of (view c.args.tree.now) c.read.result c.read.ensures

pub returns-clause-none : goal.returns-clause-none
returns-clause-none c = none_of (view c.args.tree.now) c.read.result c.read.ensures
