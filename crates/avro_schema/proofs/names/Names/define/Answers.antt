use Rattle.std.proofs.Common.{string_bytes, ap, ◌∙◌}
use Rattle.avro_schema.specs.Names.{define, names_of}
use Rattle.avro_schema.proofs.NameLaws.{names_of-insert_entry}
use Rattle.avro_schema.proofs.names.Names.define.Goals as goal

pub returns : goal.returns
returns c = ap names_of c.in_ok-insert.ensures.entries ∙ names_of-insert_entry c.self.inside.known.entries c.args.name c.args.known ∙ ap (define (string_bytes c.args.name) c.args.known) c.self.view_is
