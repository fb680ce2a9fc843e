-- The objects of a file, step by step.
use Rattle.std.proofs.Common.{Bool, true, false, ◌≡◌, ◌≤◌, ◌<◌, ℕ, zero, suc, ◌-◌, ◌+◌, List, length, drop, Ok, Err, refl, sym, ap, ◌∙◌, arith, eq-eqb, slice_range}
use Rattle.std.proofs.lemmas.List.{length-drop}
use Rattle.std.proofs.lemmas.List.Edits.{length-between}
use Rattle.std.proofs.lemmas.Bool.{ne_eqb}
use Rattle.avro_container.specs.declared.fault.ContainerCause.{ContainerCause}
use Rattle.avro_container.specs.declared.fault.ContainerCause.TheVariants.{BadSize, Short}
use Rattle.avro_container.specs.ContainerReading.{container_block_at}
use Rattle.avro_pieces.specs.declared.fault.DatumCause.{DatumCause}
use Rattle.avro_datum.specs.declared.datum.Datum.{Datum}
use Rattle.avro_datum.specs.Reading.{read}
use Rattle.avro_schema.specs.Form.{Form}
use Rattle.manifest_codec.specs.declared.fault.ManifestCause.TheVariants.{Container, Value}
use Rattle.manifest_codec.specs.Objects.{Objects, ended, stopped, object, in_block, in_blocks, with_block, with_object, objects_from, Reaches}
use Rattle.manifest_codec.specs.declared.container.Container.{Container as File}
use Rattle.manifest_codec.specs.declared.objects.Progress.{Progress}

pub slice_len : (bytes : List ℕ) (from to : ℕ) → to ≤ length bytes → length (slice_range bytes from to) ≡ to - from
slice_len bytes from to h = length-between bytes from to h

pub unfilled : (f : Form) (first end : ℕ) (next : Objects) (count : ℕ) (body : List ℕ) → count ≡ 0 → (length body ≡ 0 → ⊥) → in_block f first end next count body ≡ stopped (Container BadSize) first
unfolding in_block
unfilled f first end next count body none h = rw none (rw (ne_eqb (length body) 0 h) refl)

pub filled : (f : Form) (first end : ℕ) (next : Objects) (count : ℕ) (body : List ℕ) → count ≡ 0 → length body ≡ 0 → in_block f first end next count body ≡ next
unfolding in_block
filled f first end next count body none h = rw none (rw (eq-eqb (length body) 0 h) refl)

pub at_end : (f : Form) (sync : List ℕ) (n most : ℕ) (bytes : List ℕ) → length bytes ≡ 0 → in_blocks f sync n most bytes ≡ ended
unfolding in_blocks
at_end f sync n zero bytes h = rw (eq-eqb (length bytes) 0 h) refl
at_end f sync n (suc most) bytes h = rw (eq-eqb (length bytes) 0 h) refl

pub too_many : (f : Form) (sync : List ℕ) (n most : ℕ) (bytes : List ℕ) → most ≡ 0 → (length bytes ≡ 0 → ⊥) → in_blocks f sync n most bytes ≡ stopped (Container Short) n
unfolding in_blocks
too_many f sync n most bytes none h = rw none (rw (ne_eqb (length bytes) 0 h) refl)

pub next_is : (f : Form) (sync : List ℕ) (n most less : ℕ) (bytes : List ℕ) → most ≡ suc less → (length bytes ≡ 0 → ⊥)
    → in_blocks f sync n most bytes ≡ with_block f n (in_blocks f sync n less) (container_block_at sync bytes)
unfolding in_blocks
next_is f sync n most less bytes some h = rw some (rw (ne_eqb (length bytes) 0 h) refl)

pub block_fails : (f : Form) (sync : List ℕ) (n most less at : ℕ) (bytes : List ℕ) (cause : ContainerCause) → most ≡ suc less → (length bytes ≡ 0 → ⊥)
    → container_block_at sync bytes ≡ Err (cause, n - at) → at ≤ n → in_blocks f sync n most bytes ≡ stopped (Container cause) at
block_fails f sync n most less at bytes cause some h e within =
    next_is f sync n most less bytes some h ∙ ap (with_block f n (in_blocks f sync n less)) e
    ∙ ap (stopped (Container cause)) (let same : n - (n - at) ≡ at = omega arith in same)

pub block_begins : (f : Form) (sync all : List ℕ) (most less at count from to next : ℕ) → most ≡ suc less → (length (drop at all) ≡ 0 → ⊥)
    → container_block_at sync (drop at all) ≡ Ok ((count, slice_range all from to), drop next all) → next ≤ length all → to + 16 ≡ next → from ≤ to
    → in_blocks f sync (length all) most (drop at all) ≡ in_block f from to (in_blocks f sync (length all) less (drop next all)) count (drop 0 (slice_range all from to))
block_begins f sync all most less at count from to next some h e within marker ordered =
    let left : length (drop next all) ≡ length all - next = length-drop next all in
    let size : length (slice_range all from to) ≡ to - from = slice_len all from to (omega arith) in
    let end : length all - length (drop next all) - 16 ≡ to = omega arith in
    let first : length all - length (drop next all) - 16 - length (slice_range all from to) ≡ from = omega arith in
    next_is f sync (length all) most less (drop at all) some h ∙ ap (with_block f (length all) (in_blocks f sync (length all) less)) e
    ∙ ap (λ m. in_block f m (length all - length (drop next all) - 16) (in_blocks f sync (length all) less (drop next all)) count (slice_range all from to)) first
    ∙ ap (λ m. in_block f from m (in_blocks f sync (length all) less (drop next all)) count (slice_range all from to)) end

object_is : (f : Form) (first end : ℕ) (next : Objects) (count less : ℕ) (body : List ℕ) → count ≡ suc less
    → in_block f first end next count body ≡ with_object end (length body) (read f body) (in_block f first end next less)
unfolding in_block
object_is f first end next count less body some = rw some refl

pub object_read : (f : Form) (from to at : ℕ) (next : Objects) (count less : ℕ) (body rest : List ℕ) (d : Datum) → count ≡ suc less → length body ≡ to - from → at ≤ to - from → from ≤ to
    → read f (drop at body) ≡ Ok (d, rest) → in_block f from to next count (drop at body) ≡ object (from + at) d (in_block f from to next less rest)
object_read f from to at next count less body rest d some size inside ordered e =
    let left : length (drop at body) ≡ length body - at = length-drop at body in
    let place : to - length (drop at body) ≡ from + at = omega arith in
    object_is f from to next count less (drop at body) some
    ∙ ap (λ r. with_object to (length (drop at body)) r (in_block f from to next less)) e
    ∙ ap (λ m. object m d (in_block f from to next less rest)) place

pub object_fails : (f : Form) (from to at place : ℕ) (next : Objects) (count less : ℕ) (body : List ℕ) (cause : DatumCause) → count ≡ suc less → length body ≡ to - from → from ≤ to
    → read f (drop at body) ≡ Err (cause, length body - place) → place ≤ length body → in_block f from to next count (drop at body) ≡ stopped (Value cause) (from + place)
object_fails f from to at place next count less body cause some size ordered e within =
    let is : to - (length body - place) ≡ from + place = omega arith in
    object_is f from to next count less (drop at body) some
    ∙ ap (λ r. with_object to (length (drop at body)) r (in_block f from to next less)) e
    ∙ ap (stopped (Value cause)) is

-- behind the header
pub from_start : (f : Form) (sync bytes : List ℕ) (end : ℕ) → end ≤ length bytes
    → in_block f end end (in_blocks f sync (length bytes) (length bytes - end) (drop end bytes)) 0 (drop 0 (slice_range bytes end end)) ≡ in_blocks f sync (length bytes) (length (drop end bytes)) (drop end bytes)
from_start f sync bytes end h =
    let none : length (drop 0 (slice_range bytes end end)) ≡ 0 = omega (arith, slice_len bytes end end h) in
    filled f end end (in_blocks f sync (length bytes) (length bytes - end) (drop end bytes)) 0 (drop 0 (slice_range bytes end end)) refl none
    ∙ ap (λ m. in_blocks f sync (length bytes) m (drop end bytes)) (sym (length-drop end bytes))

pub body_len : (bytes : List ℕ) (from to at : ℕ) → to ≤ length bytes → length (drop at (slice_range bytes from to)) ≡ to - from - at
body_len bytes from to at h = omega (arith, length-drop at (slice_range bytes from to), slice_len bytes from to h)

-- an object begins where that was answered
pub reached : (file : File) (bytes : List ℕ) (old new : Progress) (b : Bool) → Reaches file bytes old new (Ok b) → b ≡ true → (objects_from file bytes old ≡ objects_from file bytes new) × (0 < new.count)
reached file bytes old new true h e = h
reached file bytes old new false h e = absurd cc
