use Rattle.std.proofs.Common.{◌≡◌, pos, ◌-ℤ◌, ◌*ℤ◌, ap, ◌∙◌, FitsSigned}
use Rattle.std.specs.Int.{w128}
use Rattle.std.specs.Prelude.{int_div}
use Rattle.std.proofs.lemmas.Int.{to_z-of_z}
use Rattle.jiff.specs.Words.{epoch_day}
use Rattle.call_moments.proofs.Days.{epoch_zero, divided}
use Rattle.call_moments.proofs.civil.midnight_ms.Goals as goal

pub returns : goal.returns
returns c =
    let fits : FitsSigned w128 c.as_millis.result = record { sfits = c.as_millis.type_inv } in
    let epoch : epoch_day c.constant.result ≡ pos 0 = epoch_zero c.constant.result c.constant.ensures in
    let nanos = c.duration_since.ensures ∙ ap (λ z. (epoch_day c.args.date -ℤ z) *ℤ pos 86400000000000) epoch in
    rw to_z-of_z (c.as_millis.ensures ∙ ap (λ z. int_div z (pos 1000000)) nanos ∙ divided (epoch_day c.args.date))
