use Rattle.std.proofs.Common.{◌∙◌, ap, FitsSigned, w64}
use Rattle.std.specs.Ordering.{int_cmp}
use Rattle.std.specs.BTreeSet.{contains}
use Rattle.std.proofs.lemmas.Int.{to_z-of_z}
use Rattle.metadata_snapshots.proofs.taken.is_in.Goals as goal

pub returns : goal.returns
returns c =
    let fits : FitsSigned w64 c.signed_or_zero.result = record { sfits = c.signed_or_zero.type_inv } in
    (simp to_z-of_z at c.contains.ensures) ∙ ap (contains int_cmp c.args.ids.now) c.signed_or_zero.ensures
