use Rattle.schema_trees.proofs.TypeRewritten.{schema_spelled_of, schema_again_of}
use Rattle.schema_trees.proofs.calls.schema_tree.Goals as goal

pub returns-clause-spelled : goal.returns-clause-spelled
returns-clause-spelled c = schema_spelled_of c.args.schema.now c.tree_of.result c.tree_of.ensures

pub returns-clause-again : goal.returns-clause-again
returns-clause-again c = schema_again_of c.args.schema.now c.tree_of.result c.tree_of.ensures
