use Rattle.std.proofs.Common.{◌∙◌, FitsSigned, w64}
use Rattle.std.proofs.lemmas.Int.{to_z-of_z}
use Rattle.metadata_view.proofs.index.place.Goals as goal

pub returns : goal.returns
returns c =
    let fits : FitsSigned w64 c.args.id = c.ranges.id in
    c.copied.ensures ∙ (simp to_z-of_z at c.get.ensures.value) ∙ c.requires c.args.id
