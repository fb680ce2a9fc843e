use Rattle.std.proofs.Common.{◌==◌, Some, None, sym, ap, ◌∙◌, lit<}
use Rattle.std.proofs.lemmas.Str.Pattern.{split_once_first}
use Rattle.std.specs.List.{before_first}
use Rattle.schema_trees.specs.Words.{number_of, number_before}
use Rattle.schema_trees.specs.TypeWords.{decimal_from, behind_space, numbers_of}
use Rattle.schema_trees.proofs.TypeWordLaws.{numbers-none}
use Rattle.schema_trees.proofs.type_words.numbers_of.Goals as goal

pub returns-in_ok-scale-in-Some : goal.returns-in_ok-scale-in-Some
unfolding numbers_of
returns-in_ok-scale-in-Some c =
    let parts = split_once_first 44 c.args.text.now (Some (c.in-Some.digits, c.in-Some.rest)) c.in-Some.ensures.cases (lit< tt) in
    c.decimal_from.ensures
    ∙ ap (λ p. decimal_from p c.in_ok-scale-in-Some.scale) (c.in_ok-precision-in-Some.ensures ∙ ap number_of parts.1)
    ∙ ap (decimal_from (number_of (before_first (λ b. b == 44) c.args.text.now))) (c.in_ok-scale-in-Some.ensures ∙ ap (number_before 41) (c.behind_space.ensures ∙ ap behind_space parts.2))

pub returns-in-None : goal.returns-in-None
returns-in-None c = sym (numbers-none c.args.text.now (split_once_first 44 c.args.text.now None c.in-None.ensures.cases (lit< tt)))
