use Rattle.std.proofs.Common.{◌∙◌}
use Rattle.serde_json.specs.View.{view}
use Rattle.metadata_view.proofs.SoundLaws.{sound}
use Rattle.table_metadata.proofs.meta.written.Goals as goal

pub returns-clause-text : goal.returns-clause-text
returns-clause-text c = c.new.ensures ∙ c.in_ok-to_vec.ensures.text (sound (view c.args.tree.now) c.requires.sound).no_float
