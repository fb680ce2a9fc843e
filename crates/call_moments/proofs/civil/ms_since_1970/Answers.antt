use Rattle.std.proofs.Common.{arith, inl, inr, to_z, of_z}
use Rattle.std.specs.Int.{w128}
use Rattle.jiff.proofs.SpanFacts.{signed_arith}
use Rattle.jiff_core.proofs.DateLemmas.{epoch_day_range}
use Rattle.jiff_core.proofs.SignedLemmas.{one_part}
use Rattle.call_moments.proofs.civil.ms_since_1970.Goals as goal

pub overflow_cast-result : goal.overflow_cast-result
overflow_cast-result c =
    elim (one_part (to_z w128 (of_z w128 c.midnight_ms-midnight.result))) [
      | inl e ↦ omega (arith, signed_arith, epoch_day_range c.args.date)
      | inr e ↦ omega (arith, signed_arith, epoch_day_range c.args.date)
    ]

pub overflow_add-result : goal.overflow_add-result
overflow_add-result c =
    elim (one_part (to_z w128 (of_z w128 c.midnight_ms-midnight.result))) [
      | inl e ↦ omega (arith, signed_arith, epoch_day_range c.args.date)
      | inr e ↦ omega (arith, signed_arith, epoch_day_range c.args.date)
    ]
