use Rattle.std.proofs.Common.{◌+◌, get_or, arith}
use Rattle.avro_pieces.proofs.Shorts.{front_at, one_byte, two_bytes, as_length}
use Rattle.avro_pieces.proofs.pieces.short_length.Goals as goal

pub returns-then-first-lt128 : goal.returns-then-first-lt128
returns-then-first-lt128 c =
    let bs = c.args.bytes.now in
    (rw c.from-low.ensures (as_length _ _ _ (one_byte (get_or bs c.args.at 0) _ _ (front_at bs c.args.at (omega arith)) c.if-first-lt128.true c.if-first-ne0.false)), omega arith)

pub returns : goal.returns
returns c =
    let bs = c.args.bytes.now in (
      rw (c.from-low.ensures, c.from.ensures)
          (as_length _ _ _ (two_bytes (get_or bs c.args.at 0) (get_or bs (c.args.at + 1) 0) _ _ _ (front_at bs c.args.at (omega arith)) (front_at bs (c.args.at + 1) (omega arith))
          c.if-first-lt128.false (omega (arith, c.type_inv.bytes c.args.at)) c.if-second-ge128.false c.if-first-ne0.false)),
      omega arith,
    )
