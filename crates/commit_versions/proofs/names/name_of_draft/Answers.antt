use Rattle.std.proofs.Common.{◌≡◌, List, ℕ, ◌++◌, ap, ◌∙◌, rules}
use Rattle.uuid.specs.Text.{hyphenated_text, lower}
use Rattle.commit_history.specs.Versions.{ending}
use Rattle.commit_versions.proofs.names.name_of_draft.Goals as goal

pub returns : goal.returns
returns c =
    let copied : c.in_ok-name.name.items ≡ c.as_bytes.result.now = search rules in
    c.in_ok-extend_from_slice.ensures.items ∙ ap (λ (front : List ℕ). front ++ ending)
    (copied ∙ c.as_bytes.ensures.value ∙ c.encode_lower-text.ensures.text ∙ ap (hyphenated_text lower) (c.hyphenated.ensures ∙ c.from_u128.ensures))
