use Rattle.std.proofs.Common.{◌++◌, ◌∷◌, []}
use Rattle.commit_history.specs.Versions.{number_in, folder}
use Rattle.commit_history.proofs.ListingLaws.{listing_version, inside}
use Rattle.commit_history.proofs.listing_tells.Goals as goal

pub returns : goal.returns
returns c = listing_version (number_in c.args.table.now) (c.args.table.now ++ folder ∷ []) (inside c.args.table.now)
