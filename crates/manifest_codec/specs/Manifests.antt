-- Which entries and keys a manifest has (Apache Iceberg specification, "Manifests").
use Rattle.std.specs.Prelude.{◌≡◌, ℕ, ℤ, pos, List, map, Result, Ok, Err, Option, Some, None}
use Rattle.avro_container.specs.Container.{Pair}
use Rattle.avro_schema.specs.declared.schema.Field.{Field}
use Rattle.avro_datum.specs.declared.datum.Datum.{Datum, out-Datum}
use Rattle.schema_types.specs.declared.types.PartField.{PartField}
use Rattle.manifest_cells.specs.Cells.{fields_in}
use Rattle.manifest_columns.specs.declared.faults.Fault.{Fault as Kind}
use Rattle.manifest_columns.specs.declared.faults.Fault.TheVariants.{Lacks, Bad}
use Rattle.manifest_columns.specs.Faults.{schema_fault, smaller, record_under}
use Rattle.manifest_columns.specs.Places.{schema_of}
use Rattle.manifest_columns.specs.Slots.{known_fields}
use Rattle.manifest_columns.specs.Tables.{entry_columns, data_file_columns}
use Rattle.manifest_entries.specs.declared.entry.Entry.{Entry}
use Rattle.manifest_entries.specs.declared.entry.EntrySlots.{EntrySlots}
use Rattle.manifest_entries.specs.Entries.{IsEntry, IsBadEntryAt, entry_slots}
use Rattle.manifest_parts.specs.Parts.{part_fault, part_slot}
use Rattle.manifest_codec.specs.declared.fault.ManifestCause.{ManifestCause}
use Rattle.manifest_codec.specs.declared.fault.ManifestCause.TheVariants.{BadSchema}
use Rattle.manifest_codec.specs.declared.fault.ManifestErr.{ManifestErr}
use Rattle.manifest_codec.specs.declared.fault.ManifestErr.TheVariants as errors
use Rattle.manifest_codec.specs.declared.manifest.Manifest.{Manifest}
use Rattle.manifest_codec.specs.Faults.{Fault, Fails}
use Rattle.manifest_codec.specs.Keys.{HasKeys}
use Rattle.manifest_codec.specs.Objects.{Objects}
use Rattle.manifest_codec.specs.Records.{AreEach, FaultIs, GivesOne, GivesEach}
use Rattle.manifest_codec.specs.Schemas.{fields_fault, unless, file_at}

-- the fields of the data file, where it is a record, else none
abbrev pub file_record : List Field → List Field
file_record fs = known_fields (record_under (schema_of (pos 2) fs))

-- the fields of its partition, where it is a record, else none
abbrev pub part_record : List Field → List Field
part_record fs = known_fields (record_under (schema_of (pos 102) (file_record fs)))

-- The smallest id of the columns of an entry and of its data file, and of what lies within them, that has the fault.
abbrev pub entry_fault : Kind → List Field → Option ℤ
entry_fault kind fs = smaller (schema_fault kind None entry_columns fs) (schema_fault kind None data_file_columns (file_record fs))

-- What is wrong with the fields of an entry: first a column that lacks, then one, or a partition field, that has another type.
abbrev pub manifest_fault : List PartField → List Field → Option ManifestCause
manifest_fault ps fs = fields_fault (entry_fault Lacks fs) (smaller (entry_fault Bad fs) (part_fault None ps (part_record fs)))

-- The fields of a record that has the columns of an entry, and fields of the partition type.
abbrev pub checked_entry : List PartField → Option (List Field) → Result (List Field) ManifestCause
checked_entry ps None = Err BadSchema
checked_entry ps (Some fs) = unless fs (manifest_fault ps fs)

-- Where records with these fields have those of an entry, of its data file, and of its partition.
abbrev pub manifest_slots : List PartField → List Field → EntrySlots
manifest_slots ps fs = entry_slots fs (file_record fs) (map (part_slot (part_record fs)) ps)

-- The object is a record that stands for the entry, which begins there.
abbrev pub IsEntryAt : EntrySlots → ℕ → Datum → Entry → Type 0
IsEntryAt slots at d entry = IsEntry slots (fields_in (out-Datum d)) entry × (entry.at ≡ at)

-- The object is a record that stands for no entry, as the field of this id doesn't fit.
abbrev pub IsBadEntry : EntrySlots → Datum → ℤ → Type 0
IsBadEntry slots d id = IsBadEntryAt slots (fields_in (out-Datum d)) id

-- The objects are records that stand for the entries, one for each.
abbrev pub AreEntries : EntrySlots → Objects → List Entry → Type 0
AreEntries slots = AreEach (IsEntryAt slots)

-- The entry of an object, or its fault.
abbrev pub GivesEntry : EntrySlots → ℕ → Datum → Result Entry ManifestErr → Type 0
GivesEntry slots = GivesOne (IsEntryAt slots) (IsBadEntry slots)

-- The entries of the objects, or the first fault.
abbrev pub GivesEntries : EntrySlots → Objects → Result (List Entry) ManifestErr → Type 0
GivesEntries slots = GivesEach (IsEntryAt slots) (IsBadEntry slots)

-- The manifest of objects and metadata, or the first fault.
abbrev pub GivesParts : EntrySlots → List Pair → Objects → Result Manifest ManifestErr → Type 0
GivesParts slots meta objects (Ok m) = AreEntries slots objects m.entries × HasKeys meta m
GivesParts slots meta objects (Err errors.Memory) = Unit {0}
GivesParts slots meta objects (Err (errors.Bad at cause)) = FaultIs (IsEntryAt slots) (IsBadEntry slots) objects at cause

-- The same of a file that may have no objects.
abbrev pub GivesManifest : List PartField → Result (List Field × List Pair × Objects) Fault → Result Manifest ManifestErr → Type 0
GivesManifest ps (Ok (fs, meta, objects)) result = GivesParts (manifest_slots ps fs) meta objects result
GivesManifest ps (Err fault) (Ok m) = ⊥
GivesManifest ps (Err fault) (Err e) = Fails {A = Manifest} e (Err fault)

-- The bytes are a manifest with these entries, each with the place where it begins, and keys.
abbrev pub IsManifest : List PartField → List ℕ → Manifest → Type 0
IsManifest ps bytes m = GivesManifest ps (file_at (checked_entry ps) bytes) (Ok m)

-- The bytes are no manifest under this partition type, whichever the manifest.
abbrev pub NoManifest : List PartField → List ℕ → Type 0
NoManifest ps bytes = (m : Manifest) → IsManifest ps bytes m → ⊥
