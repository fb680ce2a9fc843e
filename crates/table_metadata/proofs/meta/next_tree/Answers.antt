use Rattle.std.proofs.lemmas.Result.{IfOk-weaker}
use Rattle.serde_json.specs.View.{view}
use Rattle.metadata_view.proofs.SoundLaws.{sound, no_fault}
use Rattle.table_metadata.proofs.EditLaws.{sound-next, shallow-next}
use Rattle.table_metadata.proofs.meta.next_tree.Goals as goal

pub returns-clause-sound : goal.returns-clause-sound
returns-clause-sound c =
    IfOk-weaker c.next_version.result _ _ (λ t e. rw e (no_fault _ (sound-next _ c.args.most c.args.ms _ c.requires.moment (sound (view c.args.tree) c.requires.sound) c.requires.shallow))) c.next_version.ensures

pub returns-clause-shallow : goal.returns-clause-shallow
returns-clause-shallow c =
    IfOk-weaker c.next_version.result _ _ (λ t e. rw e (shallow-next _ c.args.most c.args.ms _ (sound (view c.args.tree) c.requires.sound).no_float c.requires.shallow)) c.next_version.ensures
