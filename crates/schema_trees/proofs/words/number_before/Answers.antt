use Rattle.std.proofs.Common.{◌≡◌, Some, None, IfOk, sym, ap, ◌∙◌, subst}
use Rattle.std.proofs.lemmas.Str.Pattern.{strip_suffix_char}
use Rattle.schema_trees.specs.Words.{number_before}
use Rattle.schema_trees.proofs.WordLaws.{number_before-closed, number_before-open}
use Rattle.schema_trees.proofs.words.number_before.Goals as goal

pub returns-in-Some : goal.returns-in-Some
returns-in-Some c =
    let is = strip_suffix_char c.args.closing c.args.text.now (Some c.in-Some.digits) c.in-Some.ensures.cases c.requires in
    subst (λ x. IfOk c.number_of.result (λ o. o ≡ x)) (sym (ap (number_before c.args.closing) is ∙ number_before-closed c.args.closing c.in-Some.digits.now)) c.number_of.ensures

pub returns-in-None : goal.returns-in-None
returns-in-None c = sym (number_before-open c.args.closing c.args.text.now (strip_suffix_char c.args.closing c.args.text.now None c.in-None.ensures.cases c.requires))
