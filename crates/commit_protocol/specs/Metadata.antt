-- Which bytes are the metadata of a table at a place, and what opening a table tells.
use Rattle.std.specs.Prelude.{◌≡◌, ◌⊎◌, ℕ, ◌≤◌, List, length, Option, Some, None, Result, Ok, Err}
use Rattle.serde_json.specs.Data.{Data}
use Rattle.serde_json.specs.View.{view}
use Rattle.ice_store.specs.Places.{Parts, place_in}
use Rattle.ice_store.specs.History.{Disk}
use Rattle.ice_store.specs.declared.history.Past.{Past}
use Rattle.ice_store.specs.declared.history.Step.{Step}
use Rattle.ice_store.specs.declared.faults.What.{What}
use Rattle.ice_store.specs.declared.faults.What.TheVariants as what
use Rattle.ice_store.specs.declared.faults.Where.{Where}
use Rattle.ice_store.specs.declared.faults.Where.TheVariants.{Path}
use Rattle.ice_store.specs.declared.faults.ReadErr.{ReadErr}
use Rattle.ice_store.specs.declared.faults.ReadErr.TheVariants.{Missing, Damaged, Unsupported, StoreFault, Memory}
use Rattle.commit_history.specs.Readings.{Content, IsLocal, Reading, Rules, reading_of, rules_of}
use Rattle.commit_history.specs.Versions.{number_in}
use Rattle.metadata_form.specs.declared.fault.MetaCause.{MetaCause}
use Rattle.metadata_form.specs.declared.fault.MetaCause.TheVariants.{NotJson, Fraction, Version, Field, NoManifestList, DoubleId, BrokenRef, BrokenParent}
use Rattle.table_metadata.specs.Spelling.{Spells, HasFault}
use Rattle.metadata_view.specs.View.{location_of}
use Rattle.commit_versions.specs.Opening.{IsOpened, FileIs, OpenLeaves, ReadErrLeaves, file_limit}
use Rattle.commit_versions.specs.Latest.{IsBaseNumber}
use Rattle.commit_versions.specs.declared.types.Opened.{Opened}
use Rattle.commit_versions.specs.declared.types.OpenErr.{OpenErr}
use Rattle.commit_versions.specs.declared.types.OpenErr.TheVariants.{NoTable, LocationDiffers, Read}
use Rattle.commit_protocol.specs.declared.opening.At.{At}

-- the bytes spell this metadata, and its location is the table
pub record IsMetadata (table : Parts) (bytes : List ℕ) (tree : Data) : Type 0 where
  pub spells : Spells bytes tree
  pub here : place_in (location_of tree) ≡ Ok table

-- the bytes are metadata of the table, and no longer than a metadata file may be
abbrev pub IsTableOf : Parts → List ℕ → Type 0
IsTableOf table bytes = ((tree : Data) × IsMetadata table bytes tree) × (length bytes ≤ file_limit)

-- the file at a place spells this metadata of the table
pub record HasMetadataAt (table place : Parts) (tree : Data) (d : Disk) : Type 0 where
  pub bytes : List ℕ
  pub file : FileIs place bytes d.files
  pub metadata : IsMetadata table bytes tree

-- what isn't supported, where this is wrong with metadata
abbrev pub unsupported : MetaCause → Option What
unsupported NotJson = None
unsupported Fraction = None
unsupported (Version n) = Some what.FormatVersion
unsupported Field = None
unsupported NoManifestList = Some what.NoManifestList
unsupported DoubleId = None
unsupported BrokenRef = None
unsupported BrokenParent = None

-- no metadata is spelled: what is wrong first isn't supported
pub record IsUnsupported (bytes : List ℕ) (of : What) : Type 0 where
  pub path : List ℕ
  pub cause : MetaCause
  pub fault : HasFault bytes path cause
  pub told : unsupported cause ≡ Some of

-- no metadata is spelled: what is wrong first is damage, at its first path
pub record IsDamaged (bytes : List ℕ) (at : Where) : Type 0 where
  pub path : List ℕ
  pub cause : MetaCause
  pub fault : HasFault bytes path cause
  pub told : unsupported cause ≡ None
  pub there : at ≡ Path path

-- the metadata says a location that isn't the table
pub record IsElsewhere (table : Parts) (bytes location : List ℕ) : Type 0 where
  pub tree : Data
  pub spells : Spells bytes tree
  pub says : location ≡ location_of tree
  pub elsewhere : place_in location ≡ Ok table → ⊥

-- what reading the opened bytes gives
abbrev pub ReadsTable : Parts → Opened → Result At OpenErr → Type 0
ReadsTable table o (Ok at) = (at.place ≡ o.place) × (at.version ≡ o.version) × (at.text ≡ o.text) × IsMetadata table o.text (view at.meta)
ReadsTable table o (Err (NoTable place)) = ⊥
ReadsTable table o (Err (LocationDiffers place location)) = (place ≡ table) × IsElsewhere table o.text location
ReadsTable table o (Err (Read (Missing place))) = ⊥
ReadsTable table o (Err (Read (Damaged place at))) = (place ≡ o.place) × IsDamaged o.text at
ReadsTable table o (Err (Read (Unsupported place of))) = (place ≡ o.place) × IsUnsupported o.text of
ReadsTable table o (Err (Read (StoreFault place))) = ⊥
ReadsTable table o (Err (Read Memory)) = Unit {0}

-- an answer that names both, or want of memory
abbrev pub SaysElsewhere : Parts → List ℕ → Result At OpenErr → Type 0
SaysElsewhere table says (Ok at) = ⊥
SaysElsewhere table says (Err (NoTable place)) = ⊥
SaysElsewhere table says (Err (LocationDiffers place location)) = (place ≡ table) × (location ≡ says)
SaysElsewhere table says (Err (Read (Missing place))) = ⊥
SaysElsewhere table says (Err (Read (Damaged place at))) = ⊥
SaysElsewhere table says (Err (Read (Unsupported place of))) = ⊥
SaysElsewhere table says (Err (Read (StoreFault place))) = ⊥
SaysElsewhere table says (Err (Read Memory)) = Unit {0}

-- how the version files of a table are read here: they are good where they are metadata of the table, and they reach nothing
abbrev pub metadata_content : Parts → Content
metadata_content table = record { good = λ bytes sealed. IsTableOf table bytes; reached = λ bytes sealed place. ⊥ }

-- so is the table at a place
abbrev pub metadata_reading : Parts → Reading
metadata_reading = reading_of metadata_content

-- and others may take these steps
abbrev pub table_rules : Parts → (Past → Step → Type 0) → Rules
table_rules = rules_of metadata_content

-- that reading looks only at what is reached, since nothing is
pub metadata_local : (table : Parts) → IsLocal (metadata_reading table)
metadata_local table = record { stays = λ b c d good same. good; reach = λ b c d good same p r. absurd r; there = λ b c p good r. absurd r }

module _ (table : Parts) (allows : Past → Step → Type 0) where
  -- the last version's bytes, opened, of which this holds
  pub record HasOpened (base : Parts) (P : List ℕ → Type 0) (old now : Past) : Type 0 where
    pub text : List ℕ
    pub opened : IsOpened (table_rules table allows) base text old now
    pub holds : P text

  -- a limit on version numbers or on files is passed, or the metadata isn't supported
  abbrev pub TableReadErr : ReadErr → Past → Past → Type 0
  TableReadErr (Missing place) old now = ReadErrLeaves (table_rules table allows) (Missing place) old now
  TableReadErr (Damaged place at) old now = HasOpened place (λ text. IsDamaged text at) old now
  TableReadErr (Unsupported place of) old now = ReadErrLeaves (table_rules table allows) (Unsupported place of) old now ⊎ HasOpened place (λ text. IsUnsupported text of) old now
  TableReadErr (StoreFault place) old now = ReadErrLeaves (table_rules table allows) (StoreFault place) old now
  TableReadErr Memory old now = ReadErrLeaves (table_rules table allows) Memory old now

  -- what opening a table leaves where it isn't opened, by the cause
  abbrev pub OpenErrLeaves : OpenErr → Past → Past → Type 0
  OpenErrLeaves (NoTable place) old now = OpenLeaves (table_rules table allows) table (Err (NoTable place)) old now
  OpenErrLeaves (LocationDiffers place location) old now = (place ≡ table) × ((base : Parts) × HasOpened base (λ text. IsElsewhere table text location) old now)
  OpenErrLeaves (Read e) old now = TableReadErr e old now

  -- a table opened at its last version
  pub record IsAt (at : At) (old now : Past) : Type 0 where
    pub opened : IsOpened (table_rules table allows) at.place at.text old now
    pub numbers : IsBaseNumber (number_in table) at.place at.version
    pub metadata : IsMetadata table at.text (view at.meta)

  -- what opening a table leaves, by its answer
  abbrev pub TableLeaves : Result At OpenErr → Past → Past → Type 0
  TableLeaves (Ok at) = IsAt at
  TableLeaves (Err e) = OpenErrLeaves e
