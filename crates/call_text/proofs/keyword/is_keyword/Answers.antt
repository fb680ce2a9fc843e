use Rattle.std.proofs.Common.{◌∙◌, ap}
use Rattle.call_text.specs.Keywords.{is_keyword}
use Rattle.call_text.proofs.KeywordLaws.{word_test}
use Rattle.call_text.proofs.keyword.is_keyword.Goals as goal

pub returns : goal.returns
returns c =
    word_test c.eq_ignore_ascii_case.result c.deref.result.now c.spelling.result.now c.args.keyword c.spelling.ensures c.eq_ignore_ascii_case.ensures.test
    ∙ ap (is_keyword c.args.keyword) (c.deref.ensures.value ∙ c.inner.ensures)
