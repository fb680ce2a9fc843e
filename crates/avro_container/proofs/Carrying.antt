-- Faults handed on by an outer reader.
use Rattle.std.proofs.Common.{◌≡◌, ℕ, ◌-◌, List, length, Result, Err}
use Rattle.avro_container.specs.declared.fault.ContainerCause.{ContainerCause}
use Rattle.avro_container.specs.declared.fault.ContainerErr.{ContainerErr}
use Rattle.avro_container.specs.declared.fault.ContainerErr.TheVariants as errors
use Rattle.avro_container.specs.Reading.{Fault}
use Rattle.avro_container.specs.ContainerReading.{Fails}

-- where a fault of a part is the fault of the whole
pub carries : {A B : Type 0} (bytes : List ℕ) (e : ContainerErr) {r : Result A (Fault ContainerCause)} {total : Result B (Fault ContainerCause)}
    → ((w : Fault ContainerCause) → r ≡ Err w → total ≡ Err w) → Fails bytes e r → Fails bytes e total
carries bytes errors.Memory h f = tt
carries bytes (errors.Bad at cause) h f = (h (cause, length bytes - at) f.0, f.1)
