use Rattle.commit_history.specs.Versions.{number_in}
use Rattle.commit_history.proofs.Acknowledging.{standing_commits, standing_open}
use Rattle.commit_history.proofs.commits_stand.Goals as goal

pub returns-clause-all : goal.returns-clause-all
returns-clause-all c = standing_commits (number_in c.args.table.now)

pub returns-clause-open_ones : goal.returns-clause-open_ones
returns-clause-open_ones c = standing_open (number_in c.args.table.now)
