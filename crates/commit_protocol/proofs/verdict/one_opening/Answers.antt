use Rattle.commit_protocol.proofs.UniqueLaws.{one_opening_of}
use Rattle.commit_protocol.proofs.verdict.one_opening.Goals as goal

pub returns : goal.returns
returns c = one_opening_of c.args.table.now
