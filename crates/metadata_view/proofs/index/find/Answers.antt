use Rattle.std.proofs.Common.{◌≡◌, Some, None, sym, ◌∙◌, FitsSigned, w64, arith}
use Rattle.std.proofs.lemmas.Int.{to_z-of_z}
use Rattle.metadata_view.specs.Walk.{place_with}
use Rattle.metadata_view.proofs.IndexLaws.{got-with, none_with, place_within}
use Rattle.metadata_view.proofs.index.find.Goals as goal

pub returns-in-Some : goal.returns-in-Some
returns-in-Some c =
    let fits : FitsSigned w64 c.args.id = c.ranges.id in
    let ss = c.args.snapshots.now in
    let at : place_with ss c.args.id ≡ Some c.in-Some.i = sym (simp to_z-of_z at c.place.ensures) ∙ c.in-Some.is in
    let within = place_within ss c.args.id c.in-Some.i at in
    got-with ss c.args.id c.in-Some.i c.get.result at (c.get.ensures.lookup.2 within) (c.get.ensures.lookup.4 (omega arith))

pub returns-in-None : goal.returns-in-None
returns-in-None c =
    let fits : FitsSigned w64 c.args.id = c.ranges.id in
    let at : place_with c.args.snapshots.now c.args.id ≡ None = sym (simp to_z-of_z at c.place.ensures) ∙ c.in-None.is in
    sym (none_with c.args.snapshots.now c.args.id at)
