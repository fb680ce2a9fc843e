use Rattle.std.proofs.Common.{◌≡◌, ◌∙◌, ap, sym}
use Rattle.commit_history.specs.Versions.{number_in, rest_number}
use Rattle.commit_versions.proofs.NumberLaws.{number_in-under, number_in-outside}
use Rattle.commit_versions.proofs.numbers.version_number.Goals as goal

pub returns-in-Some : goal.returns-in-Some
returns-in-Some c =
    let same : number_in c.args.table.now c.args.place.now ≡ rest_number c.in-Some.rest.now = ap (number_in c.args.table.now) c.in-Some.ensures ∙ number_in-under c.args.table.now c.in-Some.rest.now in
    rw same c.number_of_rest.ensures

pub returns-in-None : goal.returns-in-None
returns-in-None c = sym (number_in-outside c.args.table.now c.args.place.now c.in-None.ensures)
