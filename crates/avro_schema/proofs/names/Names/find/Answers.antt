use Rattle.std.proofs.Common.{ap, ◌∙◌}
use Rattle.avro_schema.specs.Names.{find}
use Rattle.avro_schema.proofs.NameLaws.{find-names_of}
use Rattle.avro_schema.proofs.names.Names.find.Goals as goal

pub returns : goal.returns
returns c = c.get.ensures.value ∙ find-names_of c.args.name.now c.self.inside.known.entries ∙ ap (find c.args.name.now) c.self.view_is
