use Rattle.std.proofs.Common.{sym, ◌∙◌, rules}
use Rattle.ice_store.proofs.PlaceLemmas.{below_nothing}
use Rattle.ice_store.proofs.place.Place.read.Goals as goal

pub returns : goal.returns
returns c = sym (below_nothing _) ∙ search rules
