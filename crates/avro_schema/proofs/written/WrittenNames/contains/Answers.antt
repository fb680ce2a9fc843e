use Rattle.std.proofs.Common.{ap, ◌∙◌}
use Rattle.avro_schema.specs.Writing.{is_written}
use Rattle.avro_schema.proofs.WriteLists.{is_written-map}
use Rattle.avro_schema.proofs.written.WrittenNames.contains.Goals as goal

pub returns : goal.returns
returns c = c.contains.ensures ∙ is_written-map c.args.name.now c.self.inside.names.keys ∙ ap (is_written c.args.name.now) c.self.view_is
