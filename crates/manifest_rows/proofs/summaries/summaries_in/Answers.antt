use Rattle.std.proofs.Common.{rules, ◌≡◌}
use Rattle.manifest_rows.proofs.summaries.summaries_in.Goals as goal

pub returns : goal.returns
returns c = rw c.as_slice.ensures at c.summaries_of.ensures
