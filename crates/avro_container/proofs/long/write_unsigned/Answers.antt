use Rattle.std.proofs.Common.{sym, arith}
use Rattle.avro_container.proofs.LongWritten.{two_written, three_written}
use Rattle.avro_container.proofs.long.write_unsigned.Goals as goal

pub returns-then-rest-lt128-clause-ok : goal.returns-then-rest-lt128-clause-ok
returns-then-rest-lt128-clause-ok c =
    rw (c.push_reserved-then-rest-lt128.ensures.items, c.push_reserved-2.ensures.items, c.in_ok-reserve.ensures.items) (sym (two_written c.args.to.now.items 8 c.args.n c.if-n-lt128.false c.if-rest-lt128.true))

pub returns-clause-ok : goal.returns-clause-ok
returns-clause-ok c =
    rw (c.push_reserved-4.ensures.items, c.push_reserved-3.ensures.items, c.push_reserved-2.ensures.items, c.in_ok-reserve.ensures.items)
    (sym (three_written c.args.to.now.items 7 c.args.n c.if-n-lt128.false c.if-rest-lt128.false (omega arith)))
