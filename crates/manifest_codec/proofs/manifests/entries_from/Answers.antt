use Rattle.manifest_codec.specs.Manifests.{IsEntryAt, IsBadEntry}
use Rattle.manifest_codec.proofs.Records.{all_read}
use Rattle.manifest_codec.proofs.manifests.entries_from.Goals as goal

pub returns : goal.returns
returns c =
    all_read (IsEntryAt c.args.slots.now) (IsBadEntry c.args.slots.now) c.args.file.now c.args.bytes.now c.loop-entries.place _ c.in_ok-at.field-0 _ c.loop-entries.entries
    c.loop-entries.invariant.goes_on c.in_ok-at.ensures.steps c.in_default.is
