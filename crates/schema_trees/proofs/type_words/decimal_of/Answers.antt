use Rattle.std.proofs.Common.{◌≡◌, Some, None, true, false, IfOk, sym, lit<, subst}
use Rattle.std.proofs.lemmas.Str.Pattern.{split_once_first}
use Rattle.schema_trees.proofs.TypeWordLaws.{decimal-is, decimal-none}
use Rattle.schema_trees.proofs.type_words.decimal_of.Goals as goal

pub returns-then-eq : goal.returns-then-eq
returns-then-eq c =
    let parts = split_once_first 40 c.args.text.now (Some (c.in-Some.word, c.in-Some.rest)) c.in-Some.ensures.cases (lit< tt) in
    subst (λ x. IfOk c.numbers_of.result (λ o. o ≡ x)) (decimal-is c.args.text.now c.in-Some.word.now c.in-Some.rest.now true parts.1 parts.2 c.if-eq.ensures) c.numbers_of.ensures

pub returns-else-eq : goal.returns-else-eq
returns-else-eq c =
    let parts = split_once_first 40 c.args.text.now (Some (c.in-Some.word, c.in-Some.rest)) c.in-Some.ensures.cases (lit< tt) in
    decimal-is c.args.text.now c.in-Some.word.now c.in-Some.rest.now false parts.1 parts.2 c.if-eq.ensures

pub returns-in-None : goal.returns-in-None
returns-in-None c = sym (decimal-none c.args.text.now (split_once_first 40 c.args.text.now None c.in-None.ensures.cases (lit< tt)))
