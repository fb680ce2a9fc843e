use Rattle.std.proofs.Common.{◌≡◌, drop}
use Rattle.store_memory.specs.Failing.{fail_at}
use Rattle.store_memory.proofs.store.fail_for.Given as goal

abbrev pub invariant-loop-fail : goal.invariant-loop-fail
invariant-loop-fail l = fail_at (drop l.fail-index l.fails) l.call ≡ fail_at l.fails l.call
