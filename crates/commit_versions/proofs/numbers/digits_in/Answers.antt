use Rattle.std.proofs.Common.{[], ◌∷◌, Some, nat_eq}
use Rattle.std.proofs.lemmas.Bool.Decides.{Decides-eqb}
use Rattle.std.proofs.lemmas.Slice.Eq.{strip_prefix_is, strip_suffix_is}
use Rattle.commit_history.specs.Versions.{ending}
use Rattle.commit_versions.proofs.NumberLaws.{name_number-read}
use Rattle.commit_versions.proofs.numbers.digits_in.Goals as goal

pub returns : goal.returns
returns c =
    let name = c.args.name.now in
    let rest = c.in_ok-strip_prefix.field-0 in
    name_number-read name rest.now c.strip_suffix.result
    (strip_prefix_is {E = nat_eq} Decides-eqb name (118 ∷ []) (Some rest) c.in_ok-strip_prefix.ensures.cases)
    (strip_suffix_is {E = nat_eq} Decides-eqb rest.now ending c.strip_suffix.result c.strip_suffix.ensures.cases)
