use Rattle.manifest_codec.specs.Lists.{IsRowAt, IsBadRow}
use Rattle.manifest_codec.proofs.Records.{all_read}
use Rattle.manifest_codec.proofs.lists.rows_from.Goals as goal

pub returns : goal.returns
returns c =
    all_read (IsRowAt c.args.slots.now) (IsBadRow c.args.slots.now) c.args.file.now c.args.bytes.now c.loop-rows.place _ c.in_ok-at.field-0 _ c.loop-rows.rows
    c.loop-rows.invariant.goes_on c.in_ok-at.ensures.steps c.in_default.is
