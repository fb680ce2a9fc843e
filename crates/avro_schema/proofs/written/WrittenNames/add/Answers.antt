use Rattle.std.proofs.Common.{map, string_bytes, ap, ◌∙◌}
use Rattle.avro_schema.specs.Writing.{with_name}
use Rattle.avro_schema.proofs.WriteLists.{map-insert_key}
use Rattle.avro_schema.proofs.written.WrittenNames.add.Goals as goal

pub returns : goal.returns
returns c = ap (map string_bytes) c.in_ok-insert.ensures.keys ∙ map-insert_key c.self.inside.names.keys c.args.name ∙ ap (with_name (string_bytes c.args.name)) c.self.view_is
