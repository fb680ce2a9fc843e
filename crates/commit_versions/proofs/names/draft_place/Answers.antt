use Rattle.std.proofs.Common.{ap, ◌∙◌}
use Rattle.std.proofs.lemmas.Result.{IfOk-weaker}
use Rattle.ice_store.specs.Places.{is_name}
use Rattle.commit_history.specs.Versions.{name_number}
use Rattle.commit_versions.proofs.NameLaws.{draft}
use Rattle.commit_versions.proofs.NumberLaws.{number_in-named}
use Rattle.commit_versions.proofs.names.draft_place.Goals as goal

pub child-requires : goal.child-requires
child-requires c = ap is_name (c.deref.ensures.value ∙ c.in_ok-name.ensures) ∙ (draft c.args.id).names

pub returns-clause-plain : goal.returns-clause-plain
returns-clause-plain c = IfOk-weaker c.child-2.result _ _
    (λ p is. number_in-named c.args.table.now c.in_ok-metadata_folder.field-0 p c.deref.result.now c.in_ok-metadata_folder.ensures is
    ∙ ap name_number (c.deref.ensures.value ∙ c.in_ok-name.ensures) ∙ (draft c.args.id).plain)
    c.child-2.ensures
