use Rattle.commit_protocol.proofs.ReopenLaws.{reopens}
use Rattle.commit_protocol.proofs.verdict.stops_are_reopened.Goals as goal

pub returns : goal.returns
returns c = reopens c.args.table.now
