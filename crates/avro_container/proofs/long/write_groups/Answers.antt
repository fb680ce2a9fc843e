use Rattle.std.proofs.Common.{◌-◌, ◌+◌, ◌/◌, suc, ◌++◌, sym, ap, ◌∙◌, arith}
use Rattle.avro_container.specs.Long.{groups_of}
use Rattle.avro_container.proofs.Growing.{grows_more}
use Rattle.avro_container.proofs.LongWritten.{last_written, one_written, still_fits, last_fits}
use Rattle.avro_container.proofs.long.write_groups.Goals as goal

pub returns-then-rest-lt128 : goal.returns-then-rest-lt128
returns-then-rest-lt128 c = record { grows = grows_more _ _ _ _ c.loop.invariant.grows c.in_ok-push.ensures.items; ok = c.in_ok-push.ensures.items ∙ sym (last_written c.loop.to.items (9 - c.loop.counter) c.loop.rest c.if-rest-lt128.true) ∙ c.loop.invariant.so_far }

pub loop-preserved : goal.loop-preserved
loop-preserved c = record {
  fits = still_fits c.loop.counter c.loop.rest c.loop.invariant.fits;
  grows = grows_more _ _ _ _ c.loop.invariant.grows c.in_ok-push-2.ensures.items;
  so_far = ap (λ xs. xs ++ groups_of (suc (9 - (c.loop.counter + 1))) (c.loop.rest / 128)) c.in_ok-push-2.ensures.items
      ∙ one_written c.loop.to.items c.loop.counter c.loop.rest c.loop-test.true c.if-rest-lt128.false ∙ c.loop.invariant.so_far;
}

pub returns : goal.returns
returns c = record { grows = grows_more _ _ _ _ c.loop.invariant.grows c.in_ok-push-3.ensures.items; ok = c.in_ok-push-3.ensures.items ∙ sym (last_written c.loop.to.items (9 - c.loop.counter) c.loop.rest (last_fits c.loop.counter c.loop.rest (omega arith) c.loop-test.false c.loop.invariant.fits)) ∙ c.loop.invariant.so_far }
