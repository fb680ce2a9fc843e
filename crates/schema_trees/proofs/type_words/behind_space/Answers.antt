use Rattle.std.proofs.Common.{None, sym, lit<}
use Rattle.std.proofs.lemmas.Str.Pattern.{strip_prefix_char}
use Rattle.schema_trees.proofs.TypeWordLaws.{behind_space-same}
use Rattle.schema_trees.proofs.type_words.behind_space.Goals as goal

pub returns-in-None : goal.returns-in-None
returns-in-None c = sym (behind_space-same c.args.text.now (strip_prefix_char 32 c.args.text.now None c.in-None.ensures.cases (lit< tt)))
