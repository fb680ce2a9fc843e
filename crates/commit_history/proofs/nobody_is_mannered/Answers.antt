use Rattle.commit_history.specs.Readings.{reading_of}
use Rattle.commit_history.proofs.Manners.{nobody_mannered}
use Rattle.commit_history.proofs.nobody_is_mannered.Goals as goal

pub returns : goal.returns
returns g c = nobody_mannered (reading_of g.R.TableReading.content c.args.table.now)
