use Rattle.std.proofs.Common.{◌≡◌, take}
use Rattle.ice_store.specs.Places.{joined}
use Rattle.ice_store.proofs.place.Place.of_parts.Given as goal

abbrev pub invariant-loop-part : goal.invariant-loop-part
invariant-loop-part l = l.joined.items ≡ joined (take l.part-index l.fn.parts.items)
