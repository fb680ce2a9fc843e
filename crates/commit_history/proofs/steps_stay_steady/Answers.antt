use Rattle.commit_history.specs.Readings.{reading_of}
use Rattle.commit_history.proofs.Numbering.{numbering}
use Rattle.commit_history.proofs.Manners.{step_steady}
use Rattle.commit_history.proofs.steps_stay_steady.Goals as goal

pub returns : goal.returns
returns g c past step may ms steady = step_steady (reading_of g.R.TableReading.content c.args.table.now) (numbering c.args.table.now) (g.R.TableReading.localized c.args.table.now) past ms steady step may
