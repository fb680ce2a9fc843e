use Rattle.std.proofs.Common.{◌≡◌, drop}
use Rattle.serde_json.specs.Data.{no_members}
use Rattle.serde_json.specs.View.{members_view}
use Rattle.metadata_snapshots.specs.Edits.{put_texts}
use Rattle.metadata_snapshots.proofs.added.members_of.Given as goal

abbrev pub invariant-loop-pair : goal.invariant-loop-pair
invariant-loop-pair l = put_texts (drop l.pair-index l.texts) (members_view l.members.entries) ≡ put_texts l.texts no_members
