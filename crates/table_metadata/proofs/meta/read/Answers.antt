use Rattle.std.proofs.Common.{◌≡◌, inr, Some, sym, subst, ◌∙◌}
use Rattle.serde_json.specs.View.{view}
use Rattle.metadata_form.specs.Fault.{form_fault}
use Rattle.metadata_view.specs.Fault.{fault_of}
use Rattle.table_metadata.specs.Spelling.{IsRefused}
use Rattle.metadata_view.proofs.SoundLaws.{form-first}
use Rattle.table_metadata.proofs.meta.read.Goals as goal

pub returns-in-Some-clause-err : goal.returns-in-Some-clause-err
returns-in-Some-clause-err c =
    let d = view c.in_ok-tree.tree in
    let form : form_fault d ≡ Some c.in-Some.fault = sym c.in_ok-fault.ensures ∙ c.in-Some.is in
    let whole : fault_of d ≡ Some c.in-Some.fault = form-first d c.in-Some.fault form in
    subst (IsRefused c.args.bytes.now) (sym c.refusal.ensures) (inr (d, c.in_ok-tree.ensures.ok.0, c.in_ok-tree.ensures.ok.1, whole))
