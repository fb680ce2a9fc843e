-- The objects of a container file in order, up to its end or its first fault (Apache Avro 1.11, "Object Container Files").
use Rattle.std.specs.Prelude.{◌≡◌, ◌≤◌, ◌<◌, Bool, true, false, ℕ, zero, suc, ◌-◌, List, length, drop, Result, Ok, Err, Option, Some, None, ◌==◌, if◌then◌else◌, slice_range}
use Rattle.avro_container.specs.declared.fault.ContainerCause.{ContainerCause}
use Rattle.avro_container.specs.declared.fault.ContainerCause.TheVariants.{BadSize, Short}
use Rattle.avro_container.specs.Reading.{Read}
use Rattle.avro_container.specs.ContainerReading.{container_block_at}
use Rattle.avro_pieces.specs.declared.fault.DatumCause.{DatumCause}
use Rattle.avro_datum.specs.declared.datum.Datum.{Datum}
use Rattle.avro_datum.specs.Reading.{read}
use Rattle.avro_schema.specs.Form.{Form, form_of}
use Rattle.manifest_codec.specs.declared.container.Container.{Container as File}
use Rattle.manifest_codec.specs.declared.fault.ManifestCause.{ManifestCause}
use Rattle.manifest_codec.specs.declared.fault.ManifestCause.TheVariants.{Container, Value}
use Rattle.manifest_codec.specs.declared.fault.ManifestErr.{ManifestErr}
use Rattle.manifest_codec.specs.declared.fault.ManifestErr.TheVariants as errors
use Rattle.manifest_codec.specs.declared.objects.Progress.{Progress}

-- Objects, each with the place where it begins in the file, and how they end: with the file, or with a fault and its place.
pub data Objects : Type 0 where
  ended : Objects
  stopped : ManifestCause → ℕ → Objects
  object : ℕ → Datum → Objects → Objects

-- An object and those behind it, or its fault; it has so many bytes up to `end`, where its block's objects end.
abbrev pub with_object : ℕ → ℕ → Read DatumCause Datum → (List ℕ → Objects) → Objects
with_object end left (Ok (d, rest)) more = object (end - left) d (more rest)
with_object end left (Err (cause, behind)) more = stopped (Value cause) (end - behind)

-- So many objects up to the end of a block whose first one is at `first`, and then the next objects.
unfoldable pub in_block : Form → ℕ → ℕ → Objects → ℕ → List ℕ → Objects
in_block f first end next zero bytes = if length bytes == 0 then next else stopped (Container BadSize) first
in_block f first end next (suc n) bytes = with_object end (length bytes) (read f bytes) (in_block f first end next n)

-- The objects of a block, behind which its marker of 16 bytes and the rest stand, and then those of the rest.
abbrev pub with_block : Form → ℕ → (List ℕ → Objects) → Read ContainerCause (ℕ × List ℕ) → Objects
with_block f n more (Ok ((count, body), rest)) = in_block f (n - length rest - 16 - length body) (n - length rest - 16) (more rest) count body
with_block f n more (Err (cause, left)) = stopped (Container cause) (n - left)

-- The objects of at most so many blocks, in a file of n bytes. Bytes behind the last of them would be a fault; with as many blocks as bytes there are none.
unfoldable pub in_blocks : Form → List ℕ → ℕ → ℕ → List ℕ → Objects
in_blocks f sync n zero bytes = if length bytes == 0 then ended else stopped (Container Short) n
in_blocks f sync n (suc most) bytes = if length bytes == 0 then ended else with_block f n (in_blocks f sync n most) (container_block_at sync bytes)

-- What is still to come from a place on.
abbrev pub objects_from : File → List ℕ → Progress → Objects
objects_from file bytes p =
    in_block (form_of file.schema) p.from p.to (in_blocks (form_of file.schema) file.header.sync (length bytes) p.blocks (drop p.next bytes))
    p.count (drop p.at (slice_range bytes p.from p.to))

-- The place lies within the bytes.
pub record IsWithin (bytes : List ℕ) (p : Progress) : Type 0 where
  pub ordered : p.from ≤ p.to
  pub ended : p.to ≤ length bytes
  pub behind : p.next ≤ length bytes
  pub inside : p.at ≤ p.to - p.from

-- The block behind a place's block was entered, or what is at its end was met.
abbrev pub Enters : File → List ℕ → Progress → Result (Option Progress) ManifestErr → Type 0
Enters file bytes p (Ok None) = objects_from file bytes p ≡ ended
Enters file bytes p (Ok (Some q)) = (objects_from file bytes p ≡ objects_from file bytes q) × IsWithin bytes q × (suc q.blocks ≡ p.blocks)
Enters file bytes p (Err errors.Memory) = Unit {0}
Enters file bytes p (Err (errors.Bad at cause)) = objects_from file bytes p ≡ stopped cause at

-- A place was reached at which an object begins, or what stands before it was met.
abbrev pub Reaches : File → List ℕ → Progress → Progress → Result Bool ManifestErr → Type 0
Reaches file bytes old new (Ok true) = (objects_from file bytes old ≡ objects_from file bytes new) × (0 < new.count)
Reaches file bytes old new (Ok false) = objects_from file bytes old ≡ ended
Reaches file bytes old new (Err errors.Memory) = Unit {0}
Reaches file bytes old new (Err (errors.Bad at cause)) = objects_from file bytes old ≡ stopped cause at

-- The next object, the end or the fault is the first of what was still to come.
abbrev pub Steps : File → List ℕ → Progress → Progress → Result (Option (ℕ × Datum)) ManifestErr → Type 0
Steps file bytes old new (Ok None) = objects_from file bytes old ≡ ended
Steps file bytes old new (Ok (Some (at, d))) = objects_from file bytes old ≡ object at d (objects_from file bytes new)
Steps file bytes old new (Err errors.Memory) = Unit {0}
Steps file bytes old new (Err (errors.Bad at cause)) = objects_from file bytes old ≡ stopped cause at

-- How many objects there are.
abbrev pub count_of : Objects → ℕ
count_of ended = 0
count_of (stopped cause at) = 0
count_of (object at d more) = suc (count_of more)
