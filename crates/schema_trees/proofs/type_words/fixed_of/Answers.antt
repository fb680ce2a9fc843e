use Rattle.std.proofs.Common.{◌==◌, Some, None, sym, ap, ◌∙◌, lit<}
use Rattle.std.proofs.lemmas.Str.Pattern.{split_once_first}
use Rattle.std.specs.List.{after_first}
use Rattle.schema_trees.specs.Words.{number_before}
use Rattle.schema_trees.specs.TypeWords.{fixed_from, fixed_of}
use Rattle.schema_trees.proofs.TypeWordLaws.{fixed-none}
use Rattle.schema_trees.proofs.type_words.fixed_of.Goals as goal

pub returns-in_ok-number_before-in-Some : goal.returns-in_ok-number_before-in-Some
unfolding fixed_of
returns-in_ok-number_before-in-Some c =
    let parts = split_once_first 91 c.args.text.now (Some (c.in-Some.word, c.in-Some.rest)) c.in-Some.ensures.cases (lit< tt) in
    c.fixed_from.ensures
    ∙ ap (fixed_from c.in-Some.word.now) (c.in_ok-number_before-in-Some.ensures ∙ ap (number_before 93) parts.2)
    ∙ ap (λ w. fixed_from w (number_before 93 (after_first (λ b. b == 91) c.args.text.now))) parts.1

pub returns-in-None : goal.returns-in-None
returns-in-None c = sym (fixed-none c.args.text.now (split_once_first 91 c.args.text.now None c.in-None.ensures.cases (lit< tt)))
