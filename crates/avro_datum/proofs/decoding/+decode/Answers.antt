use Rattle.std.proofs.Common.{◌≡◌, ◌-◌, ◌+◌, length, drop, sym, ap, ◌∙◌, arith, Err}
use Rattle.std.proofs.lemmas.Result.{err_from_is_err_and}
use Rattle.std.proofs.lemmas.List.{length-drop}
use Rattle.avro_schema.specs.Form.{form_of}
use Rattle.avro_container.specs.Reading.{with_front, items_at, blocks_at, is_size}
use Rattle.avro_container.proofs.Loops.{items_go_on, head_stops, last_block, body_stops, wrong_size, next_block, no_turns, between, turns_are}
use Rattle.avro_pieces.specs.declared.fault.DatumCause.TheVariants.{Short, BadSize}
use Rattle.avro_datum.specs.declared.fault.DatumErr.TheVariants as errors
use Rattle.avro_datum.specs.Spelling.{most_items}
use Rattle.avro_datum.specs.Reading.{entry_at, read}
use Rattle.avro_pieces.specs.Pieces.{causes}
use Rattle.avro_datum.proofs.Carrying.{carries}
use Rattle.avro_datum.proofs.decoding.+decode.Goals as goal

pub some-loop-preserved : goal.some-loop-preserved
some-loop-preserved t c = record {
  within = c.in_ok-found.ensures.1;
  so_far = ap (λ ds. with_front ds (items_at (read (form_of c.args.item.now)) (c.args.count - (c.loop.counter + 1)) (drop c.in_ok-found.after c.args.bytes.now))) c.in_ok-push.ensures.ok
      ∙ items_go_on (read (form_of c.args.item.now)) c.loop.to c.args.count c.loop.counter _ c.in_ok-found.found _ _ c.loop-test.true c.in_ok-found.ensures.0 c.loop.invariant.so_far;
}

pub blocks-loop-init : goal.blocks-loop-init
blocks-loop-init t c = record {
  within = c.requires;
  so_far = rw c.most_items-room.ensures (ap (λ ds. with_front ds (blocks_at causes (read (form_of c.args.item.now)) (length c.args.bytes.now - c.args.at + 1 - 0) most_items (drop c.args.at c.args.bytes.now))) c.new-items.ensures ∙ turns_are causes (read (form_of c.args.item.now)) most_items c.args.bytes.now c.args.at);
}

pub blocks-returns-in_err-head : goal.blocks-returns-in_err-head
blocks-returns-in_err-head t c =
    let turns = length c.args.bytes.now - c.args.at + 1 in
    let p = err_from_is_err_and c.from_residual.result c.from_residual.ensures.1 in
    rw (p.1, p.2) (carries c.args.bytes.now (errors.Bad c.in_err-head.field-0.0.at c.in_err-head.field-0.0.cause)
    (λ w. head_stops causes (read (form_of c.args.item.now)) c.loop.items turns c.loop.counter c.loop.room _ _ w c.loop-test.true c.loop.invariant.so_far) c.in_err-head.ensures.value)

pub blocks-returns-then-head-eq0 : goal.blocks-returns-then-head-eq0
blocks-returns-then-head-eq0 t c = (
  last_block causes (read (form_of c.args.item.now)) c.loop.items (length c.args.bytes.now - c.args.at + 1) c.loop.counter c.loop.room _ _ c.in_ok-head.head.count c.in_ok-head.head.size _
      c.loop-test.true c.loop.invariant.so_far c.in_ok-head.ensures.value.0 c.if-head-eq0.true,
  c.in_ok-head.ensures.value.1,
)

pub blocks-returns-in_err-after : goal.blocks-returns-in_err-after
blocks-returns-in_err-after t c =
    let turns = length c.args.bytes.now - c.args.at + 1 in
    let p = err_from_is_err_and c.from_residual-in_err-after.result c.from_residual-in_err-after.ensures.1 in
    rw (p.1, p.2) (carries c.args.bytes.now c.in_err-after.field-0.0
    (λ w. body_stops causes (read (form_of c.args.item.now)) c.loop.items turns c.loop.counter c.loop.room _ _ c.in_ok-head.head.count c.in_ok-head.head.size _ w c.loop-test.true c.loop.invariant.so_far c.in_ok-head.ensures.value.0 c.if-head-eq0.false)
    c.in_err-after.ensures)

pub blocks-returns-then-not-is_sized : goal.blocks-returns-then-not-is_sized
blocks-returns-then-not-is_sized t c =
    let far = between c.args.bytes.now c.in_ok-head.from c.in_ok-after.after c.in_ok-head.ensures.value.1 c.in_ok-after.ensures.1 in (
      wrong_size causes (read (form_of c.args.item.now)) c.loop.items (length c.args.bytes.now - c.args.at + 1) c.loop.counter c.loop.room _ _ c.in_ok-head.head.count c.in_ok-head.head.size _ _ c.some.new.to
          c.loop-test.true c.loop.invariant.so_far c.in_ok-head.ensures.value.0 c.if-head-eq0.false c.in_ok-after.ensures.0
          (ap (is_size c.in_ok-head.head.size) (far ∙ sym c.saturating_sub.ensures) ∙ sym c.is_sized.ensures ∙ c.if-not-is_sized.true)
          ∙ ap (λ n. Err (BadSize, n)) (length-drop c.in_ok-head.from c.args.bytes.now),
      c.in_ok-head.ensures.value.1,
    )

pub blocks-loop-preserved : goal.blocks-loop-preserved
blocks-loop-preserved t c =
    let far = between c.args.bytes.now c.in_ok-head.from c.in_ok-after.after c.in_ok-head.ensures.value.1 c.in_ok-after.ensures.1 in record {
      within = c.in_ok-after.ensures.1;
      so_far = next_block causes (read (form_of c.args.item.now)) c.loop.items (length c.args.bytes.now - c.args.at + 1) c.loop.counter c.loop.room _ _ c.in_ok-head.head.count c.in_ok-head.head.size _ _ c.some.new.to
          c.loop-test.true c.loop.invariant.so_far c.in_ok-head.ensures.value.0 c.if-head-eq0.false c.in_ok-after.ensures.0
          (ap (is_size c.in_ok-head.head.size) (far ∙ sym c.saturating_sub.ensures) ∙ sym c.is_sized.ensures ∙ c.if-not-is_sized.false);
    }

pub blocks-returns : goal.blocks-returns
blocks-returns t c = (
  no_turns causes (read (form_of c.args.item.now)) c.loop.items (length c.args.bytes.now - c.args.at + 1) c.loop.counter c.loop.room _ _ c.loop-test.false c.loop.invariant.so_far
      ∙ ap (λ n. Err (Short, n)) (let none : 0 ≡ length c.args.bytes.now - length c.args.bytes.now = omega arith in none),
  omega arith,
)

pub pairs-loop-preserved : goal.pairs-loop-preserved
pairs-loop-preserved t c = record {
  within = c.in_ok-found.ensures.1;
  so_far = ap (λ ds. with_front ds (items_at (entry_at (read (form_of c.args.inner.now))) (c.args.count - (c.loop.counter + 1)) (drop c.in_ok-found.after c.args.bytes.now))) c.in_ok-push.ensures.ok
      ∙ items_go_on (entry_at (read (form_of c.args.inner.now))) c.loop.to c.args.count c.loop.counter _ c.in_ok-found.found _ _ c.loop-test.true c.in_ok-found.ensures.0 c.loop.invariant.so_far;
}

pub pair_blocks-loop-init : goal.pair_blocks-loop-init
pair_blocks-loop-init t c = record {
  within = c.requires;
  so_far = rw c.most_items-room.ensures (ap (λ ds. with_front ds (blocks_at causes (entry_at (read (form_of c.args.inner.now))) (length c.args.bytes.now - c.args.at + 1 - 0) most_items (drop c.args.at c.args.bytes.now))) c.new-items.ensures ∙ turns_are causes (entry_at (read (form_of c.args.inner.now))) most_items c.args.bytes.now c.args.at);
}

pub pair_blocks-returns-in_err-head : goal.pair_blocks-returns-in_err-head
pair_blocks-returns-in_err-head t c =
    let turns = length c.args.bytes.now - c.args.at + 1 in
    let p = err_from_is_err_and c.from_residual.result c.from_residual.ensures.1 in
    rw (p.1, p.2) (carries c.args.bytes.now (errors.Bad c.in_err-head.field-0.0.at c.in_err-head.field-0.0.cause)
    (λ w. head_stops causes (entry_at (read (form_of c.args.inner.now))) c.loop.items turns c.loop.counter c.loop.room _ _ w c.loop-test.true c.loop.invariant.so_far) c.in_err-head.ensures.value)

pub pair_blocks-returns-then-head-eq0 : goal.pair_blocks-returns-then-head-eq0
pair_blocks-returns-then-head-eq0 t c = (
  last_block causes (entry_at (read (form_of c.args.inner.now))) c.loop.items (length c.args.bytes.now - c.args.at + 1) c.loop.counter c.loop.room _ _ c.in_ok-head.head.count c.in_ok-head.head.size _
      c.loop-test.true c.loop.invariant.so_far c.in_ok-head.ensures.value.0 c.if-head-eq0.true,
  c.in_ok-head.ensures.value.1,
)

pub pair_blocks-returns-in_err-after : goal.pair_blocks-returns-in_err-after
pair_blocks-returns-in_err-after t c =
    let turns = length c.args.bytes.now - c.args.at + 1 in
    let p = err_from_is_err_and c.from_residual-in_err-after.result c.from_residual-in_err-after.ensures.1 in
    rw (p.1, p.2) (carries c.args.bytes.now c.in_err-after.field-0.0
    (λ w. body_stops causes (entry_at (read (form_of c.args.inner.now))) c.loop.items turns c.loop.counter c.loop.room _ _ c.in_ok-head.head.count c.in_ok-head.head.size _ w c.loop-test.true c.loop.invariant.so_far c.in_ok-head.ensures.value.0 c.if-head-eq0.false)
    c.in_err-after.ensures)

pub pair_blocks-returns-then-not-is_sized : goal.pair_blocks-returns-then-not-is_sized
pair_blocks-returns-then-not-is_sized t c =
    let far = between c.args.bytes.now c.in_ok-head.from c.in_ok-after.after c.in_ok-head.ensures.value.1 c.in_ok-after.ensures.1 in (
      wrong_size causes (entry_at (read (form_of c.args.inner.now))) c.loop.items (length c.args.bytes.now - c.args.at + 1) c.loop.counter c.loop.room _ _ c.in_ok-head.head.count c.in_ok-head.head.size _ _ c.pairs.new.to
          c.loop-test.true c.loop.invariant.so_far c.in_ok-head.ensures.value.0 c.if-head-eq0.false c.in_ok-after.ensures.0
          (ap (is_size c.in_ok-head.head.size) (far ∙ sym c.saturating_sub.ensures) ∙ sym c.is_sized.ensures ∙ c.if-not-is_sized.true)
          ∙ ap (λ n. Err (BadSize, n)) (length-drop c.in_ok-head.from c.args.bytes.now),
      c.in_ok-head.ensures.value.1,
    )

pub pair_blocks-loop-preserved : goal.pair_blocks-loop-preserved
pair_blocks-loop-preserved t c =
    let far = between c.args.bytes.now c.in_ok-head.from c.in_ok-after.after c.in_ok-head.ensures.value.1 c.in_ok-after.ensures.1 in record {
      within = c.in_ok-after.ensures.1;
      so_far = next_block causes (entry_at (read (form_of c.args.inner.now))) c.loop.items (length c.args.bytes.now - c.args.at + 1) c.loop.counter c.loop.room _ _ c.in_ok-head.head.count c.in_ok-head.head.size _ _ c.pairs.new.to
          c.loop-test.true c.loop.invariant.so_far c.in_ok-head.ensures.value.0 c.if-head-eq0.false c.in_ok-after.ensures.0
          (ap (is_size c.in_ok-head.head.size) (far ∙ sym c.saturating_sub.ensures) ∙ sym c.is_sized.ensures ∙ c.if-not-is_sized.false);
    }

pub pair_blocks-returns : goal.pair_blocks-returns
pair_blocks-returns t c = (
  no_turns causes (entry_at (read (form_of c.args.inner.now))) c.loop.items (length c.args.bytes.now - c.args.at + 1) c.loop.counter c.loop.room _ _ c.loop-test.false c.loop.invariant.so_far
      ∙ ap (λ n. Err (Short, n)) (let none : 0 ≡ length c.args.bytes.now - length c.args.bytes.now = omega arith in none),
  omega arith,
)
