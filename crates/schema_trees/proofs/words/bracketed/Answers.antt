use Rattle.std.proofs.Common.{◌==◌, Some, None, sym, ap, ◌∙◌, lit<}
use Rattle.std.proofs.lemmas.Str.Pattern.{split_once_first}
use Rattle.std.specs.List.{after_first}
use Rattle.schema_trees.specs.Words.{number_before, sized_transform, bracketed}
use Rattle.schema_trees.proofs.WordLaws.{bracketed-none}
use Rattle.schema_trees.proofs.words.bracketed.Goals as goal

pub returns-in_ok-number_before-in-Some : goal.returns-in_ok-number_before-in-Some
unfolding bracketed
returns-in_ok-number_before-in-Some c =
    let parts = split_once_first 91 c.args.text.now (Some (c.in-Some.word, c.in-Some.rest)) c.in-Some.ensures.cases (lit< tt) in
    c.sized_transform.ensures
    ∙ ap (sized_transform c.in-Some.word.now) (c.in_ok-number_before-in-Some.ensures ∙ ap (number_before 93) parts.2)
    ∙ ap (λ w. sized_transform w (number_before 93 (after_first (λ b. b == 91) c.args.text.now))) parts.1

pub returns-in-None : goal.returns-in-None
returns-in-None c = sym (bracketed-none c.args.text.now (split_once_first 91 c.args.text.now None c.in-None.ensures.cases (lit< tt)))
