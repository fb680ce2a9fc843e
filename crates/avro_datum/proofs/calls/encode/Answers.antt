use Rattle.std.proofs.Common.{arith}
use Rattle.avro_datum.proofs.Again.{again}
use Rattle.avro_datum.proofs.Values.{is_written, shorter}
use Rattle.avro_datum.proofs.calls.encode.Goals as goal

pub returns-in-Ok-clause-spells : goal.returns-in-Ok-clause-spells
returns-in-Ok-clause-spells c = is_written _ _ c.requires (shorter c.args.to.now.items c.put.new.to.items _ c.in-Ok.ensures.ok (omega (arith, c.put.new.to.small, c.put.new.to.ok)))

pub returns-in-Ok-clause-again : goal.returns-in-Ok-clause-again
returns-in-Ok-clause-again c = λ rest.
    again _ _ _ rest (is_written _ _ c.requires (shorter c.args.to.now.items c.put.new.to.items _ c.in-Ok.ensures.ok (omega (arith, c.put.new.to.small, c.put.new.to.ok))))
