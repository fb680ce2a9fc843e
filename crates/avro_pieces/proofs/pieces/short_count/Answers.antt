use Rattle.std.proofs.Common.{get_or}
use Rattle.avro_pieces.proofs.Shorts.{front_at, one_byte}
use Rattle.avro_pieces.proofs.pieces.short_count.Goals as goal

pub returns-then-byte-eq0-clause-number : goal.returns-then-byte-eq0-clause-number
returns-then-byte-eq0-clause-number c =
    let bs = c.args.bytes.now in
    rw c.from.ensures (one_byte (get_or bs c.args.at 0) _ _ (front_at bs c.args.at c.if-at-bytes.true) c.if-byte-lt128.true c.if-byte-eq0.true)
