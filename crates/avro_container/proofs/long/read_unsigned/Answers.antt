use Rattle.std.proofs.Common.{arith}
use Rattle.avro_container.proofs.LongGroups.{two_groups, three_groups}
use Rattle.avro_container.proofs.long.read_unsigned.Goals as goal

pub returns-then-second-lt128 : goal.returns-then-second-lt128
returns-then-second-lt128 c =
    let read = two_groups c.in-Some.first c.in-Some-byte_at.second _ _ _ c.in-Some.ensures.0 c.in-Some-byte_at.ensures.0 c.if-first-lt128.false (omega (arith, c.byte_at.type_inv, c.in-Some.ensures)) c.if-second-lt128.true in
    (rw (c.from-low.ensures, c.from-then-second-lt128.ensures) read, omega (arith, c.in-Some-byte_at.ensures.1))

pub returns-then-third-lt128 : goal.returns-then-third-lt128
returns-then-third-lt128 c =
    let read = three_groups c.in-Some.first c.in-Some-byte_at.second c.in-Some-byte_at-2.third _ _ _ _ c.in-Some.ensures.0 c.in-Some-byte_at.ensures.0 c.in-Some-byte_at-2.ensures.0
    c.if-first-lt128.false (omega (arith, c.byte_at.type_inv, c.in-Some.ensures)) c.if-second-lt128.false (omega (arith, c.byte_at-2.type_inv, c.in-Some-byte_at.ensures)) c.if-third-lt128.true in
    (rw (c.from-low.ensures, c.from-middle.ensures, c.from-then-third-lt128.ensures) read, omega (arith, c.in-Some-byte_at-2.ensures.1))
