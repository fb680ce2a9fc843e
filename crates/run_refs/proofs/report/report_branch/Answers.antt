use Rattle.std.proofs.Common.{◌≡◌, ◌∷◌, [], IfOk, ℕ, ℤ, List, subst, FitsSigned, w64}
use Rattle.std.proofs.lemmas.Int.{to_z-of_z}
use Rattle.run_answers.specs.Reports.{report_text}
use Rattle.run_refs.specs.Reports.{branch_columns, ref_row}
use Rattle.run_refs.proofs.report.report_branch.Goals as goal

pub returns : goal.returns
returns c =
    let fits : FitsSigned w64 c.args.id = c.ranges.id in
    let row = subst (λ (z : ℤ). c.in_ok-row.row.items ≡ c.args.branch.now ∷ ref_row c.args.previous z) (to_z-of_z w64 c.args.id fits) c.in_ok-row.ensures in
    subst (λ (r : List (List ℕ)). IfOk c.one_row.result (λ text. text ≡ report_text branch_columns (r ∷ []))) row c.one_row.ensures
