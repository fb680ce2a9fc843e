use Rattle.schema_trees.proofs.Rewritten.{spelled_of, again_of}
use Rattle.schema_trees.proofs.calls.spec_tree.Goals as goal

pub returns-clause-spelled : goal.returns-clause-spelled
returns-clause-spelled c = spelled_of c.args.spec.now c.tree_of.result c.tree_of.ensures

pub returns-clause-again : goal.returns-clause-again
returns-clause-again c = again_of c.args.spec.now c.tree_of.result c.tree_of.ensures
