-- Faults handed on by an outer reader.
use Rattle.std.proofs.Common.{◌≡◌, ℕ, ◌-◌, List, length, Err}
use Rattle.avro_container.specs.Reading.{Fault, Read}
use Rattle.avro_pieces.specs.declared.fault.DatumCause.{DatumCause}
use Rattle.avro_datum.specs.declared.fault.DatumErr.{DatumErr}
use Rattle.avro_datum.specs.declared.fault.DatumErr.TheVariants as errors
use Rattle.avro_datum.specs.Reading.{Fails}

-- where a fault of a part is the fault of the whole
pub carries : {A B : Type 0} (bytes : List ℕ) (e : DatumErr) {r : Read DatumCause A} {total : Read DatumCause B} → ((w : Fault DatumCause) → r ≡ Err w → total ≡ Err w) → Fails bytes e r → Fails bytes e total
carries bytes errors.Memory h f = tt
carries bytes (errors.Bad at cause) h f = (h (cause, length bytes - at) f.0, f.1)
