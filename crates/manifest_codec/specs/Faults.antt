-- Faults of files: a cause, and the place of the byte that is wrong.
use Rattle.std.specs.Prelude.{◌≡◌, ℕ, ◌-◌, Result, Ok, Err}
use Rattle.avro_container.specs.declared.fault.ContainerCause.{ContainerCause}
use Rattle.avro_container.specs.declared.fault.ContainerErr.{ContainerErr}
use Rattle.avro_container.specs.declared.fault.ContainerErr.TheVariants as parts
use Rattle.avro_container.specs.Reading.{Fault as Left}
use Rattle.manifest_codec.specs.declared.fault.ManifestCause.{ManifestCause}
use Rattle.manifest_codec.specs.declared.fault.ManifestCause.TheVariants.{Container}
use Rattle.manifest_codec.specs.declared.fault.ManifestErr.{ManifestErr}
use Rattle.manifest_codec.specs.declared.fault.ManifestErr.TheVariants as errors

-- A header's error, as one of a file.
abbrev pub told : ContainerErr → ManifestErr
told parts.Memory = errors.Memory
told (parts.Bad at cause) = errors.Bad at (Container cause)

-- a cause and its place
abbrev pub Fault : Type 0
Fault = ManifestCause × ℕ

infixl 10 ◌>>=◌
-- The second reading goes on with what the first one gave; the first fault is the fault.
abbrev pub ◌>>=◌ : {A B : Type 0} → Result A Fault → (A → Result B Fault) → Result B Fault
(Ok x) >>= f = f x
(Err e) >>= f = Err e

-- What was read in n bytes, a fault of a container's having so many bytes left at its place.
abbrev pub placed : {A : Type 0} → ℕ → Result A (Left ContainerCause) → Result A Fault
placed n (Ok x) = Ok x
placed n (Err (cause, left)) = Err (Container cause, n - left)

-- The same of the schema, whose faults have the place 4.
abbrev pub at_schema : {A : Type 0} → Result A ManifestCause → Result A Fault
at_schema (Ok x) = Ok x
at_schema (Err cause) = Err (cause, 4)

-- What a refusal says, unless memory ran out.
abbrev pub Fails : {A : Type 0} → ManifestErr → Result A Fault → Type 0
Fails errors.Memory read = Unit {0}
Fails (errors.Bad at cause) read = read ≡ Err (cause, at)

-- What holds of a refusal that isn't want of memory.
abbrev pub OnFault : {A : Type 0} → Result A ManifestErr → Type 0 → Type 0
OnFault (Ok x) P = Unit {0}
OnFault (Err errors.Memory) P = Unit {0}
OnFault (Err (errors.Bad at cause)) P = P
