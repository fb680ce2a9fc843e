use Rattle.std.proofs.Common.{◌-◌, ◌+◌, ◌*◌, ◌≤◌, ◌<◌, ◌^◌, ◌∷◌, drop, sym, ap, ◌∙◌, arith}
use Rattle.avro_container.proofs.LongGroups.{goes_on, scale_at, scale_more, scale_end, at_end, low_fits, ends, is_short, too_long}
use Rattle.avro_container.proofs.long.read_groups.Goals as goal
use Rattle.avro_container.proofs.long.read_groups.Goals.{In-Some, Then-byte-lt128, Else-byte-lt128}

small : (c : In-Some) → c.loop.scale ≤ 2 ^ 56
small c = scale_at c.loop.scale c.loop.counter c.loop.invariant.power c.loop-test.true

last_fits : (c : Then-byte-lt128) → c.loop.value + c.loop.scale * c.from-byte.result < c.loop.scale * 128
last_fits c = low_fits c.loop.value c.loop.scale c.from-byte.result c.loop.invariant.below c.if-byte-lt128.true

pub returns-in_default : goal.returns-in_default
returns-in_default c = is_short c.loop.value c.loop.scale (9 - c.loop.counter) _ _ c.loop.invariant.so_far c.in_default.ensures

pub overflow_mul-result : goal.overflow_mul-result
overflow_mul-result c = let at = goal.at.overflow_mul-result c in omega (arith, small at.In-Some, last_fits at.Then-byte-lt128)

pub overflow_add-result : goal.overflow_add-result
overflow_add-result c = let at = goal.at.overflow_add-result c in omega (arith, small at.In-Some, last_fits at.Then-byte-lt128)

pub returns-then-byte-lt128 : goal.returns-then-byte-lt128
returns-then-byte-lt128 c =
    let at = goal.at.returns-then-byte-lt128 c in (
      ends c.loop.value c.loop.scale (9 - c.loop.counter) c.from-byte.result _ _ _ c.loop.invariant.so_far
          (c.in-Some.ensures.0 ∙ ap (λ b. b ∷ drop (c.loop.end + 1) c.args.bytes.now) (sym c.from-byte.ensures)) c.if-byte-lt128.true
          (omega (arith, small at.In-Some, last_fits at.Then-byte-lt128)),
      omega (arith, c.in-Some.ensures.1),
    )

byte_low : (c : goal.Else-byte-lt128) → c.from-byte.result - 128 < 128
byte_low c = omega (arith, c.from-byte.ensures, c.in-Some.ensures, c.byte_at.type_inv)

pub overflow_mul-value : goal.overflow_mul-value
overflow_mul-value c = let at = goal.at.overflow_mul-value c in omega (arith, small at.In-Some, low_fits c.loop.value c.loop.scale (c.from-byte.result - 128) c.loop.invariant.below (byte_low at.Else-byte-lt128))

pub overflow_add-value : goal.overflow_add-value
overflow_add-value c = let at = goal.at.overflow_add-value c in omega (arith, small at.In-Some, low_fits c.loop.value c.loop.scale (c.from-byte.result - 128) c.loop.invariant.below (byte_low at.Else-byte-lt128))

pub overflow_mul-scale : goal.overflow_mul-scale
overflow_mul-scale c = let at = goal.at.overflow_mul-scale c in omega (arith, small at.In-Some)

pub loop-preserved : goal.loop-preserved
loop-preserved c = let at = goal.at.loop-preserved c in record {
  below = low_fits c.loop.value c.loop.scale (c.from-byte.result - 128) c.loop.invariant.below (byte_low at.Else-byte-lt128);
  power = scale_more c.loop.scale c.loop.counter c.loop.invariant.power;
  so_far = goes_on c.loop.value c.loop.scale c.loop.counter c.from-byte.result _ _ _ c.loop-test.true c.if-byte-lt128.false
      (c.in-Some.ensures.0 ∙ ap (λ b. b ∷ drop (c.loop.end + 1) c.args.bytes.now) (sym c.from-byte.ensures)) c.loop.invariant.so_far;
}

pub returns-in_default-byte_at : goal.returns-in_default-byte_at
returns-in_default-byte_at c = is_short c.loop.value c.loop.scale (9 - c.loop.counter) _ _ c.loop.invariant.so_far c.in_default-byte_at.ensures

pub returns-then-last-gt1 : goal.returns-then-last-gt1
returns-then-last-gt1 c =
    too_long c.loop.value c.in-Some-byte_at.last _ _ _
    (at_end c.loop.value c.loop.scale c.loop.counter _ _ (omega arith) c.loop-test.false c.loop.invariant.power c.loop.invariant.so_far)
    (c.in-Some-byte_at.ensures).0 c.if-last-gt1.true

pub returns : goal.returns
returns c =
    let scale = scale_end c.loop.scale c.loop.counter (omega arith) c.loop-test.false c.loop.invariant.power in (
      ends c.loop.value c.loop.scale (9 - c.loop.counter) c.from.result _ _ _ c.loop.invariant.so_far
          ((c.in-Some-byte_at.ensures).0 ∙ ap (λ b. b ∷ drop (c.loop.end + 1) c.args.bytes.now) (sym c.from.ensures))
          (omega (arith, c.from.ensures, c.if-last-gt1.false))
          (rw scale (let below : c.loop.value < 2 ^ 63 = rw scale at c.loop.invariant.below in omega (arith, c.from.ensures, c.if-last-gt1.false, below))),
      omega (arith, (c.in-Some-byte_at.ensures).1),
    )
