use Rattle.std.proofs.Common.{rules, nat_eq}
use Rattle.std.specs.Cmp.Lexicographic.{pointwise}
use Rattle.std.proofs.lemmas.Slice.Eq.{strip_prefix_is, bytes_eq-Decides}
use Rattle.ice_store.proofs.PlaceLemmas.{parts_below}
use Rattle.ice_store.proofs.place.Place.below.Goals as goal

pub returns : goal.returns
returns c =
    let parts = c.self.inside.parts.items in
    let dir = c.dir.inside.parts.items in
    rw (← c.self.view_is, ← c.dir.view_is)
    (parts_below parts dir c.strip_prefix.result (strip_prefix_is {E = pointwise nat_eq} bytes_eq-Decides parts dir c.strip_prefix.result (search rules)))
