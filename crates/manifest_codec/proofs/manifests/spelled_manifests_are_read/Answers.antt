use Rattle.manifest_codec.proofs.Whole.{manifests_read}
use Rattle.manifest_codec.proofs.manifests.spelled_manifests_are_read.Goals as goal

pub returns : goal.returns
returns c = manifests_read
