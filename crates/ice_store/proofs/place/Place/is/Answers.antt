use Rattle.std.proofs.Common.{rules, nat_eq}
use Rattle.std.specs.Cmp.Lexicographic.{pointwise}
use Rattle.std.proofs.lemmas.Slice.Eq.{slice_eq-Decides, bytes_eq-Decides}
use Rattle.ice_store.proofs.place.Place.is.Goals as goal

pub returns-clause-same : goal.returns-clause-same
returns-clause-same c = rw (← c.self.view_is, ← c.other.view_is) (slice_eq-Decides {E = pointwise nat_eq} bytes_eq-Decides _ _ _ (search rules))
