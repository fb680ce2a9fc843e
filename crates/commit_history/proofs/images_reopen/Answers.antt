use Rattle.commit_history.specs.Readings.{reading_of}
use Rattle.commit_history.proofs.Numbering.{numbering}
use Rattle.commit_history.proofs.Manners.{law}
use Rattle.commit_history.proofs.images_reopen.Goals as goal

pub returns : goal.returns
returns g c = law (reading_of g.R.TableReading.content c.args.table.now) (numbering c.args.table.now) (g.R.TableReading.localized c.args.table.now)
