use Rattle.std.proofs.Common.{◌≡◌, ◌-◌, ◌+◌, [], length, drop, sym, ap, ◌∙◌, arith, Err}
use Rattle.std.proofs.lemmas.List.{length-drop}
use Rattle.avro_schema.specs.Form.{form_of}
use Rattle.avro_container.specs.Reading.{end_of, is_size}
use Rattle.avro_container.proofs.Loops.{front-nil, head_stops, last_block, body_stops, wrong_size, next_block, no_turns, between}
use Rattle.avro_container.proofs.Ends.{items_on, items_over, items_end_in, list_of_end, fault_of_end, end-front}
use Rattle.avro_pieces.specs.declared.fault.DatumCause.TheVariants.{Short, BadSize}
use Rattle.avro_datum.specs.Reading.{entry_at, read}
use Rattle.avro_pieces.specs.Pieces.{causes}
use Rattle.avro_datum.proofs.NoBytes.{ends_there, items_of_none}
use Rattle.avro_datum.proofs.skipping.+skip.Goals as goal

pub past_some-returns-in_err-end : goal.past_some-returns-in_err-end
past_some-returns-in_err-end t c =
    rw c.from_residual.ensures (items_end_in (read (form_of c.args.item.now)) c.args.count c.loop.counter _ _ _ c.loop-test.true c.in_err-end.ensures.0 c.loop.invariant.so_far, c.in_err-end.ensures.1)

pub past_some-loop-preserved : goal.past_some-loop-preserved
past_some-loop-preserved t c = record {
  within = c.in_ok-end.ensures.1;
  so_far = items_on (read (form_of c.args.item.now)) c.args.count c.loop.counter _ _ _ c.loop-test.true c.in_ok-end.ensures.0 c.loop.invariant.so_far;
}

pub past_some-returns-then-takes_none : goal.past_some-returns-then-takes_none
past_some-returns-then-takes_none t c = (
  items_of_none (read (form_of c.args.item.now)) c.args.count _ (ends_there (form_of c.args.item.now) _ (sym c.takes_none.ensures ∙ c.if-takes_none.true)),
  c.requires,
)

pub past_some-returns : goal.past_some-returns
past_some-returns t c = (sym c.loop.invariant.so_far ∙ items_over (read (form_of c.args.item.now)) c.args.count c.loop.counter _ c.loop-test.false, c.loop.invariant.within)

pub past_blocks-returns-in-Err : goal.past_blocks-returns-in-Err
past_blocks-returns-in-Err t c =
    let turns = length c.args.bytes.now - c.args.at + 1 in
    (sym c.loop.invariant.so_far ∙ ap end_of (head_stops causes (read (form_of c.args.item.now)) [] turns c.loop.counter c.loop.room (drop c.loop.end c.args.bytes.now) _ _ c.loop-test.true (front-nil _) c.in-Err.ensures.value.0), c.in-Err.ensures.value.1)

pub past_blocks-returns-then-head-eq0 : goal.past_blocks-returns-then-head-eq0
past_blocks-returns-then-head-eq0 t c =
    let turns = length c.args.bytes.now - c.args.at + 1 in (
      sym c.loop.invariant.so_far ∙ ap end_of (last_block causes (read (form_of c.args.item.now)) [] turns c.loop.counter c.loop.room _ _ c.in-Ok.found.0.count c.in-Ok.found.0.size _ c.loop-test.true (front-nil _) c.in-Ok.ensures.value.0 c.if-head-eq0.true),
      c.in-Ok.ensures.value.1,
    )

pub past_blocks-returns-in_err-after : goal.past_blocks-returns-in_err-after
past_blocks-returns-in_err-after t c =
    let turns = length c.args.bytes.now - c.args.at + 1 in
    rw c.from_residual.ensures (
      sym c.loop.invariant.so_far ∙ ap end_of (body_stops causes (read (form_of c.args.item.now)) [] turns c.loop.counter c.loop.room (drop c.loop.end c.args.bytes.now) _ c.in-Ok.found.0.count c.in-Ok.found.0.size _ _
          c.loop-test.true (front-nil _) c.in-Ok.ensures.value.0 c.if-head-eq0.false (fault_of_end _ _ c.in_err-after.ensures.0)),
      c.in_err-after.ensures.1,
    )

pub past_blocks-returns-then-not-is_sized : goal.past_blocks-returns-then-not-is_sized
past_blocks-returns-then-not-is_sized t c =
    let turns = length c.args.bytes.now - c.args.at + 1 in
    let far = between c.args.bytes.now c.in-Ok.found.1 c.in_ok-after.after c.in-Ok.ensures.value.1 c.in_ok-after.ensures.1 in
    let items = list_of_end _ _ c.in_ok-after.ensures.0 in (
      sym c.loop.invariant.so_far ∙ ap end_of (wrong_size causes (read (form_of c.args.item.now)) [] turns c.loop.counter c.loop.room _ _ c.in-Ok.found.0.count c.in-Ok.found.0.size _ _ items.0
          c.loop-test.true (front-nil _) c.in-Ok.ensures.value.0 c.if-head-eq0.false (front-nil _ ∙ items.1)
          (ap (is_size c.in-Ok.found.0.size) (far ∙ sym c.saturating_sub.ensures) ∙ sym c.is_sized.ensures ∙ c.if-not-is_sized.true))
          ∙ ap (λ n. Err (BadSize, n)) (length-drop c.in-Ok.found.1 c.args.bytes.now),
      c.in-Ok.ensures.value.1,
    )

pub past_blocks-loop-preserved : goal.past_blocks-loop-preserved
past_blocks-loop-preserved t c =
    let turns = length c.args.bytes.now - c.args.at + 1 in
    let far = between c.args.bytes.now c.in-Ok.found.1 c.in_ok-after.after c.in-Ok.ensures.value.1 c.in_ok-after.ensures.1 in
    let items = list_of_end _ _ c.in_ok-after.ensures.0 in record {
      within = c.in_ok-after.ensures.1;
      so_far = sym (end-front items.0 _) ∙ ap end_of (next_block causes (read (form_of c.args.item.now)) [] turns c.loop.counter c.loop.room _ _ c.in-Ok.found.0.count c.in-Ok.found.0.size _ _ items.0
          c.loop-test.true (front-nil _) c.in-Ok.ensures.value.0 c.if-head-eq0.false (front-nil _ ∙ items.1)
          (ap (is_size c.in-Ok.found.0.size) (far ∙ sym c.saturating_sub.ensures) ∙ sym c.is_sized.ensures ∙ c.if-not-is_sized.false)) ∙ c.loop.invariant.so_far;
    }

pub past_blocks-returns : goal.past_blocks-returns
past_blocks-returns t c = (
  sym c.loop.invariant.so_far ∙ ap end_of (no_turns causes (read (form_of c.args.item.now)) [] (length c.args.bytes.now - c.args.at + 1) c.loop.counter c.loop.room _ _ c.loop-test.false (front-nil _))
      ∙ ap (λ n. Err (Short, n)) (let none : 0 ≡ length c.args.bytes.now - length c.args.bytes.now = omega arith in none),
  omega arith,
)

pub past_pairs-returns-in_err-end : goal.past_pairs-returns-in_err-end
past_pairs-returns-in_err-end t c =
    rw c.from_residual.ensures (items_end_in (entry_at (read (form_of c.args.inner.now))) c.args.count c.loop.counter _ _ _ c.loop-test.true c.in_err-end.ensures.0 c.loop.invariant.so_far, c.in_err-end.ensures.1)

pub past_pairs-loop-preserved : goal.past_pairs-loop-preserved
past_pairs-loop-preserved t c = record {
  within = c.in_ok-end.ensures.1;
  so_far = items_on (entry_at (read (form_of c.args.inner.now))) c.args.count c.loop.counter _ _ _ c.loop-test.true c.in_ok-end.ensures.0 c.loop.invariant.so_far;
}

pub past_pairs-returns : goal.past_pairs-returns
past_pairs-returns t c = (sym c.loop.invariant.so_far ∙ items_over (entry_at (read (form_of c.args.inner.now))) c.args.count c.loop.counter _ c.loop-test.false, c.loop.invariant.within)

pub past_pair_blocks-returns-in-Err : goal.past_pair_blocks-returns-in-Err
past_pair_blocks-returns-in-Err t c =
    let turns = length c.args.bytes.now - c.args.at + 1 in
    (sym c.loop.invariant.so_far ∙ ap end_of (head_stops causes (entry_at (read (form_of c.args.inner.now))) [] turns c.loop.counter c.loop.room (drop c.loop.end c.args.bytes.now) _ _ c.loop-test.true (front-nil _) c.in-Err.ensures.value.0), c.in-Err.ensures.value.1)

pub past_pair_blocks-returns-then-head-eq0 : goal.past_pair_blocks-returns-then-head-eq0
past_pair_blocks-returns-then-head-eq0 t c =
    let turns = length c.args.bytes.now - c.args.at + 1 in (
      sym c.loop.invariant.so_far ∙ ap end_of (last_block causes (entry_at (read (form_of c.args.inner.now))) [] turns c.loop.counter c.loop.room _ _ c.in-Ok.found.0.count c.in-Ok.found.0.size _ c.loop-test.true (front-nil _) c.in-Ok.ensures.value.0 c.if-head-eq0.true),
      c.in-Ok.ensures.value.1,
    )

pub past_pair_blocks-returns-in_err-after : goal.past_pair_blocks-returns-in_err-after
past_pair_blocks-returns-in_err-after t c =
    let turns = length c.args.bytes.now - c.args.at + 1 in
    rw c.from_residual.ensures (
      sym c.loop.invariant.so_far ∙ ap end_of (body_stops causes (entry_at (read (form_of c.args.inner.now))) [] turns c.loop.counter c.loop.room (drop c.loop.end c.args.bytes.now) _ c.in-Ok.found.0.count c.in-Ok.found.0.size _ _
          c.loop-test.true (front-nil _) c.in-Ok.ensures.value.0 c.if-head-eq0.false (fault_of_end _ _ c.in_err-after.ensures.0)),
      c.in_err-after.ensures.1,
    )

pub past_pair_blocks-returns-then-not-is_sized : goal.past_pair_blocks-returns-then-not-is_sized
past_pair_blocks-returns-then-not-is_sized t c =
    let turns = length c.args.bytes.now - c.args.at + 1 in
    let far = between c.args.bytes.now c.in-Ok.found.1 c.in_ok-after.after c.in-Ok.ensures.value.1 c.in_ok-after.ensures.1 in
    let items = list_of_end _ _ c.in_ok-after.ensures.0 in (
      sym c.loop.invariant.so_far ∙ ap end_of (wrong_size causes (entry_at (read (form_of c.args.inner.now))) [] turns c.loop.counter c.loop.room _ _ c.in-Ok.found.0.count c.in-Ok.found.0.size _ _ items.0
          c.loop-test.true (front-nil _) c.in-Ok.ensures.value.0 c.if-head-eq0.false (front-nil _ ∙ items.1)
          (ap (is_size c.in-Ok.found.0.size) (far ∙ sym c.saturating_sub.ensures) ∙ sym c.is_sized.ensures ∙ c.if-not-is_sized.true))
          ∙ ap (λ n. Err (BadSize, n)) (length-drop c.in-Ok.found.1 c.args.bytes.now),
      c.in-Ok.ensures.value.1,
    )

pub past_pair_blocks-loop-preserved : goal.past_pair_blocks-loop-preserved
past_pair_blocks-loop-preserved t c =
    let turns = length c.args.bytes.now - c.args.at + 1 in
    let far = between c.args.bytes.now c.in-Ok.found.1 c.in_ok-after.after c.in-Ok.ensures.value.1 c.in_ok-after.ensures.1 in
    let items = list_of_end _ _ c.in_ok-after.ensures.0 in record {
      within = c.in_ok-after.ensures.1;
      so_far = sym (end-front items.0 _) ∙ ap end_of (next_block causes (entry_at (read (form_of c.args.inner.now))) [] turns c.loop.counter c.loop.room _ _ c.in-Ok.found.0.count c.in-Ok.found.0.size _ _ items.0
          c.loop-test.true (front-nil _) c.in-Ok.ensures.value.0 c.if-head-eq0.false (front-nil _ ∙ items.1)
          (ap (is_size c.in-Ok.found.0.size) (far ∙ sym c.saturating_sub.ensures) ∙ sym c.is_sized.ensures ∙ c.if-not-is_sized.false)) ∙ c.loop.invariant.so_far;
    }

pub past_pair_blocks-returns : goal.past_pair_blocks-returns
past_pair_blocks-returns t c = (
  sym c.loop.invariant.so_far ∙ ap end_of (no_turns causes (entry_at (read (form_of c.args.inner.now))) [] (length c.args.bytes.now - c.args.at + 1) c.loop.counter c.loop.room _ _ c.loop-test.false (front-nil _))
      ∙ ap (λ n. Err (Short, n)) (let none : 0 ≡ length c.args.bytes.now - length c.args.bytes.now = omega arith in none),
  omega arith,
)
