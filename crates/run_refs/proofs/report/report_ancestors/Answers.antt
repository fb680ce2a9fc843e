use Rattle.std.proofs.Common.{◌≡◌, IfOk, List, ℕ, subst}
use Rattle.run_answers.specs.Reports.{report_text}
use Rattle.run_refs.specs.Reports.{ancestor_columns}
use Rattle.run_refs.proofs.report.report_ancestors.Goals as goal

pub returns : goal.returns
returns c =
    let names = c.in_ok-names.ensures in
    let rows = c.in_ok-rows.ensures in
    let one = subst (λ (x : List (List ℕ)). IfOk c.report.result (λ text. text ≡ report_text x c.in_ok-rows.rows)) names c.report.ensures in
    subst (λ (x : List (List (List ℕ))). IfOk c.report.result (λ text. text ≡ report_text ancestor_columns x)) rows one
