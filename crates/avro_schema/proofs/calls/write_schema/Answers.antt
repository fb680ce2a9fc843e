use Rattle.avro_schema.proofs.Public.{spelled_of, again_of}
use Rattle.avro_schema.proofs.calls.write_schema.Goals as goal

pub returns-clause-spelled : goal.returns-clause-spelled
returns-clause-spelled c = spelled_of c.args.schema.now c.write_type.result c.write_type.new.written (rw c.new-written.ensures at c.write_type.ensures)

pub returns-clause-again : goal.returns-clause-again
returns-clause-again c = again_of c.args.schema.now c.write_type.result c.write_type.new.written (rw c.new-written.ensures at c.write_type.ensures)
