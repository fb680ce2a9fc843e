-- Manifests.
use Rattle.std.proofs.Common.{◌≡◌, ℕ, ℤ, List, [], ◌∷◌, ◌++◌, Result, Ok, Err, refl, sym, ap, subst}
use Rattle.std.specs.List.{slice_get}
use Rattle.avro_container.specs.Container.{Pair}
use Rattle.avro_schema.specs.declared.schema.Field.{Field}
use Rattle.avro_datum.specs.declared.datum.Datum.{Datum}
use Rattle.schema_types.specs.declared.types.PartField.{PartField}
use Rattle.manifest_entries.specs.declared.entry.Entry.{Entry}
use Rattle.manifest_entries.specs.declared.entry.EntrySlots.{EntrySlots}
use Rattle.manifest_codec.specs.declared.fault.ManifestErr.{ManifestErr}
use Rattle.manifest_codec.specs.declared.fault.ManifestErr.TheVariants as errors
use Rattle.manifest_codec.specs.declared.manifest.Manifest.{Manifest}
use Rattle.manifest_codec.specs.Faults.{Fault, Fails, OnFault}
use Rattle.manifest_codec.specs.Keys.{HasKeys}
use Rattle.manifest_codec.specs.Objects.{Objects, object}
use Rattle.manifest_codec.specs.Manifests.{IsEntryAt, IsBadEntry, AreEntries, GivesEntries, GivesManifest, manifest_slots}
use Rattle.manifest_codec.proofs.Records.{GoesOn, apart, one_more}

-- a bad field excludes an entry
pub no_entry : (slots : EntrySlots) (at : ℕ) (d : Datum) (entry : Entry) (id : ℤ) → IsEntryAt slots at d entry → IsBadEntry slots d id → ⊥
no_entry slots at d entry id h b = b.fits_not entry (ap (λ cs. slice_get cs b.place) h.0)

-- one more entry was read
pub one_entry : (slots : EntrySlots) (all rest : Objects) (entries : List Entry) (at : ℕ) (d : Datum) (entry : Entry) → GoesOn (IsEntryAt slots) (IsBadEntry slots) all entries (object at d rest) → IsEntryAt slots at d entry
    → GoesOn (IsEntryAt slots) (IsBadEntry slots) all (entries ++ entry ∷ []) rest
one_entry slots all rest entries at d entry h is = one_more (IsEntryAt slots) (IsBadEntry slots) all rest entries at d entry h is

-- so no refused file is a manifest
pub no_manifest : (ps : List PartField) (file : Result (List Field × List Pair × Objects) Fault) (r : Result Manifest ManifestErr) → GivesManifest ps file r → OnFault r ((m : Manifest) → GivesManifest ps file (Ok m) → ⊥)
no_manifest ps file (Ok m) h = tt
no_manifest ps file (Err errors.Memory) h = tt
no_manifest ps (Ok (fs, meta, objects)) (Err (errors.Bad at cause)) h =
    λ m are. apart (IsEntryAt (manifest_slots ps fs)) (IsBadEntry (manifest_slots ps fs)) objects m.entries at cause (no_entry (manifest_slots ps fs)) are.0 h
no_manifest ps (Err fault) (Err (errors.Bad at cause)) h = λ m are. are

pub memory : (ps : List PartField) (file : Result (List Field × List Pair × Objects) Fault) → GivesManifest ps file (Err errors.Memory)
memory ps (Ok x) = tt
memory ps (Err e) = tt

-- a file that wasn't opened, or whose schema isn't that of entries
pub refused : (ps : List PartField) (file : Result (List Field × List Pair × Objects) Fault) (e : ManifestErr) → Fails e file → GivesManifest ps file (Err e)
refused ps file errors.Memory h = memory ps file
refused ps file (errors.Bad at cause) h =
    let P : Result (List Field × List Pair × Objects) Fault → Type 0 = λ r. GivesManifest ps r (Err (errors.Bad at cause)) in
    subst P (sym h) refl

-- a file that was opened, whose entries weren't read
pub not_read : (ps : List PartField) (file : Result (List Field × List Pair × Objects) Fault) (fs : List Field) (meta : List Pair) (objects : Objects) (slots : EntrySlots) (e : ManifestErr)
    → file ≡ Ok (fs, meta, objects) → slots ≡ manifest_slots ps fs → GivesEntries slots objects (Err e) → GivesManifest ps file (Err e)
not_read ps file fs meta objects slots errors.Memory is same h = memory ps file
not_read ps file fs meta objects slots (errors.Bad at cause) is same h =
    let P : Result (List Field × List Pair × Objects) Fault → Type 0 = λ r. GivesManifest ps r (Err (errors.Bad at cause)) in
    let Q : EntrySlots → Type 0 = λ slots. GivesEntries slots objects (Err (errors.Bad at cause)) in
    subst P (sym is) (subst Q same h)

-- one whose entries were
pub read : (ps : List PartField) (file : Result (List Field × List Pair × Objects) Fault) (fs : List Field) (meta : List Pair) (objects : Objects) (slots : EntrySlots) (entries : List Entry) (m : Manifest)
    → file ≡ Ok (fs, meta, objects) → slots ≡ manifest_slots ps fs → AreEntries slots objects entries → m.entries ≡ entries → HasKeys meta m → GivesManifest ps file (Ok m)
read ps file fs meta objects slots entries m is same h own keys =
    let P : Result (List Field × List Pair × Objects) Fault → Type 0 = λ r. GivesManifest ps r (Ok m) in
    let Q : EntrySlots → Type 0 = λ slots. AreEntries slots objects m.entries in
    let R : List Entry → Type 0 = λ es. AreEntries slots objects es in
    subst P (sym is) (subst Q same (subst R (sym own) h), keys)
