use Rattle.std.proofs.Common.{◌≡◌, drop}
use Rattle.manifest_columns.specs.Places.{place_of, place_from}
use Rattle.manifest_columns.proofs.places.place_of.Given as goal

abbrev pub invariant-loop-place : goal.invariant-loop-place
invariant-loop-place l = place_from l.place l.id (drop l.place l.fields) ≡ place_of l.id l.fields
