use Rattle.std.proofs.Common.{◌≡◌, sym, subst, arith}
use Rattle.std.proofs.lemmas.Grind.{common_steps}
use Rattle.std.specs.Str.{IsUtf8}
use Rattle.commit_versions.specs.Names.{version_text_of}
use Rattle.commit_versions.proofs.SlashLaws.{IsUtf8-version_text}
use Rattle.commit_versions.proofs.names.version_text.Goals as goal

pub returns-clause-utf8 : goal.returns-clause-utf8
returns-clause-utf8 c =
    let is : c.new.result ≡ version_text_of c.args.location.now c.args.number = grind (arith, common_steps) in
    subst IsUtf8 (sym is) (IsUtf8-version_text c.args.location.now c.args.number (omega arith) c.requires)
