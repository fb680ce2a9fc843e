use Rattle.std.proofs.Common.{◌≡◌, sym}
use Rattle.commit_versions.proofs.LatestLaws.{at_index}
use Rattle.commit_versions.proofs.open.place_at.Goals as goal

pub returns-in-Ok-clause-place : goal.returns-in-Ok-clause-place
returns-in-Ok-clause-place c = at_index (λ l. l.place ≡ c.in-Ok.place) c.args.listed.now c.args.index c.index-listed-index.result c.requires (sym c.in-Ok.ensures)
