use Rattle.std.proofs.Common.{◌≡◌, ◌-◌, ◌+◌, length, sym, ap, ◌∙◌, arith, Err}
use Rattle.std.proofs.lemmas.Result.{err_from_is_err_and}
use Rattle.std.proofs.lemmas.List.{length-drop}
use Rattle.avro_container.specs.declared.fault.ContainerCause.TheVariants.{Short, BadSize}
use Rattle.avro_container.specs.declared.fault.ContainerErr.TheVariants as errors
use Rattle.avro_container.specs.Reading.{is_size}
use Rattle.avro_container.specs.ContainerReading.{causes, entry_at}
use Rattle.avro_container.proofs.Carrying.{carries}
use Rattle.avro_container.proofs.Loops.{head_stops, last_block, body_stops, wrong_size, next_block, no_turns, between}
use Rattle.avro_container.proofs.metadata.read_blocks.Goals as goal

pub returns-in_err-head : goal.returns-in_err-head
returns-in_err-head c =
    let item = entry_at (length c.args.bytes.now) in
    let turns = length c.args.bytes.now - c.args.at + 1 in
    let p = err_from_is_err_and c.from_residual.result c.from_residual.ensures.1 in
    rw (p.1, p.2) (carries c.args.bytes.now (errors.Bad c.in_err-head.field-0.0.at c.in_err-head.field-0.0.cause)
    (λ w. head_stops causes item c.loop.entries.items turns c.loop.counter c.loop.room _ _ w c.loop-test.true c.loop.invariant.so_far) c.in_err-head.ensures.value)

pub returns-then-head-eq0 : goal.returns-then-head-eq0
returns-then-head-eq0 c = (
  last_block causes (entry_at (length c.args.bytes.now)) c.loop.entries.items (length c.args.bytes.now - c.args.at + 1) c.loop.counter c.loop.room _ _ c.in_ok-head.head.count c.in_ok-head.head.size _
      c.loop-test.true c.loop.invariant.so_far c.in_ok-head.ensures.value.0 c.if-head-eq0.true,
  c.in_ok-head.ensures.value.1,
)

pub returns-in_err-after : goal.returns-in_err-after
returns-in_err-after c =
    let item = entry_at (length c.args.bytes.now) in
    let turns = length c.args.bytes.now - c.args.at + 1 in
    let p = err_from_is_err_and c.from_residual-in_err-after.result c.from_residual-in_err-after.ensures.1 in
    rw (p.1, p.2) (carries c.args.bytes.now c.in_err-after.field-0.0
    (λ w. body_stops causes item c.loop.entries.items turns c.loop.counter c.loop.room _ _ c.in_ok-head.head.count c.in_ok-head.head.size _ w c.loop-test.true c.loop.invariant.so_far c.in_ok-head.ensures.value.0 c.if-head-eq0.false)
    c.in_err-after.ensures)

pub returns-then-not-is_sized : goal.returns-then-not-is_sized
returns-then-not-is_sized c =
    let far = between c.args.bytes.now c.in_ok-head.from c.in_ok-after.after c.in_ok-head.ensures.value.1 c.in_ok-after.ensures.1 in (
      wrong_size causes (entry_at (length c.args.bytes.now)) c.loop.entries.items (length c.args.bytes.now - c.args.at + 1) c.loop.counter c.loop.room _ _ c.in_ok-head.head.count c.in_ok-head.head.size _ _ c.read_block.new.to.items
          c.loop-test.true c.loop.invariant.so_far c.in_ok-head.ensures.value.0 c.if-head-eq0.false c.in_ok-after.ensures.0
          (ap (is_size c.in_ok-head.head.size) (far ∙ sym c.saturating_sub.ensures) ∙ sym c.is_sized.ensures ∙ c.if-not-is_sized.true)
          ∙ ap (λ n. Err (BadSize, n)) (length-drop c.in_ok-head.from c.args.bytes.now),
      c.in_ok-head.ensures.value.1,
    )

pub loop-preserved : goal.loop-preserved
loop-preserved c =
    let far = between c.args.bytes.now c.in_ok-head.from c.in_ok-after.after c.in_ok-head.ensures.value.1 c.in_ok-after.ensures.1 in record {
      within = c.in_ok-after.ensures.1;
      so_far = next_block causes (entry_at (length c.args.bytes.now)) c.loop.entries.items (length c.args.bytes.now - c.args.at + 1) c.loop.counter c.loop.room _ _ c.in_ok-head.head.count c.in_ok-head.head.size _ _ c.read_block.new.to.items
          c.loop-test.true c.loop.invariant.so_far c.in_ok-head.ensures.value.0 c.if-head-eq0.false c.in_ok-after.ensures.0
          (ap (is_size c.in_ok-head.head.size) (far ∙ sym c.saturating_sub.ensures) ∙ sym c.is_sized.ensures ∙ c.if-not-is_sized.false);
    }

pub returns : goal.returns
returns c = (
  no_turns causes (entry_at (length c.args.bytes.now)) c.loop.entries.items (length c.args.bytes.now - c.args.at + 1) c.loop.counter c.loop.room _ _ c.loop-test.false c.loop.invariant.so_far
      ∙ ap (λ n. Err (Short, n)) (let none : 0 ≡ length c.args.bytes.now - length c.args.bytes.now = omega arith in none),
  omega arith,
)
