use Rattle.schema_trees.proofs.KnownLaws.{known_at}
use Rattle.schema_trees.proofs.spec_writing.field_trees.Goals as goal

pub field_tree-requires : goal.field_tree-requires
field_tree-requires c = known_at c.args.fields.now c.loop-field.field-index c.field-item.result c.loop-field-test.true c.field-item.is c.requires
