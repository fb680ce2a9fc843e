use Rattle.std.proofs.Common.{◌↔◌, IsTrue, sym, subst}
use Rattle.std.specs.List.{All}
use Rattle.std.specs.Str.{IsUtf8}
use Rattle.avro_container.specs.Container.{Pair}
use Rattle.avro_container.proofs.Texts.{keys_decided}
use Rattle.avro_container.proofs.writing.keys_are_text.Goals as goal

pub returns : goal.returns
returns c = subst (λ b. IsTrue b ↔ All (λ e. IsUtf8 e.0) c.args.meta.now) (sym c.all_keys_pass.ensures) (keys_decided {A = Pair} (λ e. e.0) c.args.meta.now)
