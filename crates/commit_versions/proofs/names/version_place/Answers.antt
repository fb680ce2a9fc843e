use Rattle.std.proofs.Common.{ap, ◌∙◌, arith}
use Rattle.std.proofs.lemmas.Result.{IfOk-weaker}
use Rattle.ice_store.specs.Places.{is_name}
use Rattle.commit_history.specs.Versions.{name_number}
use Rattle.commit_versions.proofs.NameLaws.{is_name-version, name_number-version}
use Rattle.commit_versions.proofs.NumberLaws.{number_in-named}
use Rattle.commit_versions.proofs.names.version_place.Goals as goal

pub child-requires : goal.child-requires
child-requires c = ap is_name (c.as_bytes.ensures.value ∙ c.in_ok-name.ensures) ∙ is_name-version c.args.number (omega arith)

pub returns-clause-number : goal.returns-clause-number
returns-clause-number c = IfOk-weaker c.child-2.result _ _
    (λ p is. number_in-named c.args.table.now c.in_ok-metadata_folder.field-0 p c.as_bytes.result.now c.in_ok-metadata_folder.ensures is
    ∙ ap name_number (c.as_bytes.ensures.value ∙ c.in_ok-name.ensures) ∙ name_number-version c.args.number c.requires (omega arith))
    c.child-2.ensures
