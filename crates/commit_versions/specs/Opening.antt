-- What opening the last version of a table tells (Iceberg table specification, "File System Tables").
use Rattle.std.specs.Prelude.{◌≡◌, ◌⊎◌, ℕ, ◌+◌, ◌-◌, ◌^◌, ◌<◌, ◌≤◌, Bool, true, false, List, [], ◌∷◌, ◌++◌, length, nat_lt, if◌then◌else◌, Option, Some, Result, Ok, Err}
use Rattle.std.specs.Cmp.Lexicographic.{slice_cmp}
use Rattle.std.specs.Ordering.{nat_cmp, is_lt}
use Rattle.ice_store.specs.Places.{Parts, joined}
use Rattle.ice_store.specs.Files.{find, is_named}
use Rattle.ice_store.specs.History.{Disk, replay}
use Rattle.ice_store.specs.declared.history.Failure.{Failure}
use Rattle.ice_store.specs.declared.history.Held.{Held}
use Rattle.ice_store.specs.declared.history.Past.{Past}
use Rattle.ice_store.specs.declared.history.StoreCall.TheVariants.{Look}
use Rattle.ice_store.specs.declared.store.StoreErr.{StoreErr}
use Rattle.ice_store.specs.declared.store.StoreErr.TheVariants.{Failed}
use Rattle.ice_store.specs.declared.faults.What.TheVariants.{Codec, FormatVersion, Transform, SchemaSize, BlockBytes, ItemCount, FileBytes, GroupBytes, NoManifestList, VersionNumber, Sequence}
use Rattle.ice_store.specs.declared.faults.ReadErr.{ReadErr}
use Rattle.ice_store.specs.declared.faults.ReadErr.TheVariants.{Missing, Damaged, Unsupported, StoreFault, Memory}
use Rattle.commit_history.specs.Readings.{Rules}
use Rattle.commit_history.specs.Tables.{version, sealed_at}
use Rattle.commit_history.specs.Versions.{number_in, folder}
use Rattle.commit_history.specs.Commits.{standing}
use Rattle.commit_history.specs.Steady.{Steady}
use Rattle.commit_history.specs.Runs.{Ran}
use Rattle.commit_publish.specs.Kinds as kinds
use Rattle.commit_publish.specs.Kinds.{Kind, read_kind}
use Rattle.commit_publish.specs.Logs.{MarksBy}
use Rattle.commit_publish.specs.Stages.{Creating, InState}
use Rattle.commit_publish.specs.Steps.{Exactly, Anything}
use Rattle.commit_versions.specs.declared.types.Opened.{Opened}
use Rattle.commit_versions.specs.declared.types.Found.{Found}
use Rattle.commit_versions.specs.declared.types.Found.TheVariants.{NoVersion, Base, Beyond}
use Rattle.commit_versions.specs.declared.types.VersionFile.{VersionFile}
use Rattle.commit_versions.specs.declared.types.VersionFile.TheVariants.{Whole, TooLong, Absent}
use Rattle.commit_versions.specs.declared.types.OpenErr.{OpenErr}
use Rattle.commit_versions.specs.declared.types.OpenErr.TheVariants.{NoTable, LocationDiffers, Read}

-- the greatest version that a base may have is below this
abbrev pub version_limit : ℕ
version_limit = 2 ^ 63 - 1

-- the most bytes of a metadata file
abbrev pub file_limit : ℕ
file_limit = 67108864

-- what the bytes of a read show, which asks for one more than a metadata file may have
abbrev pub version_file_of : List ℕ → VersionFile
version_file_of text = if nat_lt file_limit (length text) then TooLong else Whole text

-- only creations are pending, and the base is the last version, or each place of the next version is taken
pub record OpenStage (number : Parts → ℕ) (base : Parts) (d : Disk) : Type 0 where
  pub pending : Creating d.pending
  pub last_or_taken : (target : Parts) → number target ≡ number base + 1 → (version number d.files ≡ number base) ⊎ (is_named d.files target ≡ true)

-- the file at a place has these bytes
pub record FileIs (place : Parts) (bytes : List ℕ) (files : List Held) : Type 0 where
  pub file : Held
  pub stands : find files place ≡ Some file
  pub bytes_is : file.bytes ≡ bytes

-- the file at a place is longer than a metadata file may be
pub record IsLong (place : Parts) (files : List Held) : Type 0 where
  pub file : Held
  pub stands : find files place ≡ Some file
  pub long : file_limit < length file.bytes

-- the text of the first place comes before that of the second
abbrev pub comes_before : Parts → Parts → Bool
comes_before p q = is_lt (slice_cmp nat_cmp (joined p) (joined q))

-- a version beyond the limit on version numbers, and the first place, in place order, of the version files that show it
pub record IsBeyond (number : Parts → ℕ) (place : Parts) (files : List Held) : Type 0 where
  pub last : version_limit ≤ version number files
  pub beyond : version_limit ≤ number place
  pub named : is_named files place ≡ true
  pub first : (other : Parts) → is_named files other ≡ true → version_limit ≤ number other → comes_before other place ≡ false

-- where the read of a base begins
abbrev pub FoundStage : (Parts → ℕ) → Found → Past → Type 0
FoundStage number NoVersion past = Unit {0}
FoundStage number (Base base v) past = OpenStage number base (replay past)
FoundStage number (Beyond place) past = Unit {0}

module _ (rules : Rules) where
  -- the number of a place
  abbrev pub number : Parts → ℕ
  number = rules.reading.number

  -- a call that added no step of ours
  abbrev pub Idle : (Past → Type 0) → Past → Past → Type 0
  Idle = Ran rules (Exactly [])

  -- what the listing found; in a steady history the base is sealed
  pub record IsBase (base : Parts) (old now : Past) : Type 0 where
    pub positive : 0 < number base
    pub below : number base < version_limit
    pub run : Idle (InState (OpenStage number base)) old now
    pub last : version number (replay now).files ≡ number base
    pub named : is_named (replay now).files base ≡ true
    pub sealed : Steady rules.reading (standing number old) → (bytes : List ℕ) × (sealed_at (replay now).files base ≡ Some bytes)

  -- what the search for the last version leaves, by its answer
  abbrev pub FindLeaves : Result Found StoreErr → Past → Past → Type 0
  FindLeaves (Ok NoVersion) = Idle (InState (λ d. version number d.files ≡ 0))
  FindLeaves (Ok (Base base v)) = IsBase base
  FindLeaves (Ok (Beyond place)) = Idle (InState (λ d. IsBeyond number place d.files))
  FindLeaves (Err e) = Idle Anything

  -- what the read found; where the file was sealed at the call, these are its bytes
  pub record IsText (base : Parts) (text : List ℕ) (old now : Past) : Type 0 where
    pub run : Idle (InState (OpenStage number base)) old now
    pub file : FileIs base text (replay now).files
    pub short : length text ≤ file_limit
    pub sealed : (bytes : List ℕ) → sealed_at (replay old).files base ≡ Some bytes → sealed_at (replay now).files base ≡ Some text

  -- what the read of a version file leaves, by its answer
  abbrev pub ReadLeaves : Parts → Result VersionFile StoreErr → Past → Past → Type 0
  ReadLeaves base (Ok (Whole text)) = IsText base text
  ReadLeaves base (Ok TooLong) = Idle (InState (λ d. IsLong base d.files))
  ReadLeaves base (Ok Absent) = Idle (InState (λ d. is_named d.files base ≡ false))
  ReadLeaves base (Err e) = Idle Anything

  -- the last version was listed, between the entry and the exit, its number within the limit, and then something held of its place
  pub record Listed (base : Parts) (K : Past → Type 0) (old now : Past) : Type 0 where
    pub positive : 0 < number base
    pub below : number base < version_limit
    pub listed : Past
    pub listing : Idle Anything old listed
    pub behind : Idle Anything listed now
    pub last : version number (replay listed).files ≡ number base
    pub named : is_named (replay listed).files base ≡ true
    pub run : Idle K old now

  -- an opened version: its file stood so at the read, and in a steady history it is sealed
  pub record IsOpened (base : Parts) (text : List ℕ) (old now : Past) : Type 0 where
    pub listed : Listed base (InState (OpenStage number base)) old now
    pub file : FileIs base text (replay now).files
    pub short : length text ≤ file_limit
    pub sealed : Steady rules.reading (standing number old) → sealed_at (replay now).files base ≡ Some text

  -- what an opening leaves where the last version is not read, by the cause
  abbrev pub ReadErrLeaves : ReadErr → Past → Past → Type 0
  ReadErrLeaves (Missing place) = Listed place (InState (λ d. is_named d.files place ≡ false))
  ReadErrLeaves (Damaged place at) = λ old now. ⊥
  ReadErrLeaves (Unsupported place VersionNumber) = Idle (InState (λ d. IsBeyond number place d.files))
  ReadErrLeaves (Unsupported place FileBytes) = Listed place (InState (λ d. IsLong place d.files))
  ReadErrLeaves (Unsupported place Codec) = λ old now. ⊥
  ReadErrLeaves (Unsupported place FormatVersion) = λ old now. ⊥
  ReadErrLeaves (Unsupported place Transform) = λ old now. ⊥
  ReadErrLeaves (Unsupported place SchemaSize) = λ old now. ⊥
  ReadErrLeaves (Unsupported place BlockBytes) = λ old now. ⊥
  ReadErrLeaves (Unsupported place ItemCount) = λ old now. ⊥
  ReadErrLeaves (Unsupported place GroupBytes) = λ old now. ⊥
  ReadErrLeaves (Unsupported place NoManifestList) = λ old now. ⊥
  ReadErrLeaves (Unsupported place Sequence) = λ old now. ⊥
  ReadErrLeaves (StoreFault place) = Idle Anything
  ReadErrLeaves Memory = Idle Anything

  -- what the read of a base leaves where it does not read it, by the cause
  abbrev pub ReadErrOf : Parts → ReadErr → Past → Past → Type 0
  ReadErrOf base (Missing place) old now = (place ≡ base) × Idle (InState (λ d. is_named d.files base ≡ false)) old now
  ReadErrOf base (Damaged place at) old now = ⊥
  ReadErrOf base (Unsupported place FileBytes) old now = (place ≡ base) × Idle (InState (λ d. IsLong base d.files)) old now
  ReadErrOf base (Unsupported place VersionNumber) old now = ⊥
  ReadErrOf base (Unsupported place Codec) old now = ⊥
  ReadErrOf base (Unsupported place FormatVersion) old now = ⊥
  ReadErrOf base (Unsupported place Transform) old now = ⊥
  ReadErrOf base (Unsupported place SchemaSize) old now = ⊥
  ReadErrOf base (Unsupported place BlockBytes) old now = ⊥
  ReadErrOf base (Unsupported place ItemCount) old now = ⊥
  ReadErrOf base (Unsupported place GroupBytes) old now = ⊥
  ReadErrOf base (Unsupported place NoManifestList) old now = ⊥
  ReadErrOf base (Unsupported place Sequence) old now = ⊥
  ReadErrOf base (StoreFault place) old now = Idle Anything old now
  ReadErrOf base Memory old now = Idle Anything old now

  -- what the read of the last version leaves
  abbrev pub ReadOpened : Parts → Result Opened OpenErr → Past → Past → Type 0
  ReadOpened base (Ok o) old now = (o.place ≡ base) × IsText base o.text old now
  ReadOpened base (Err (NoTable place)) old now = ⊥
  ReadOpened base (Err (LocationDiffers place location)) old now = ⊥
  ReadOpened base (Err (Read e)) old now = ReadErrOf base e old now

  -- what is done with what the listing found
  abbrev pub FoundLeaves : Parts → Found → Result Opened OpenErr → Past → Past → Type 0
  FoundLeaves table NoVersion r old now = (r ≡ Err (NoTable table)) × (now ≡ old)
  FoundLeaves table (Base base v) r old now = ReadOpened base r old now
  FoundLeaves table (Beyond place) r old now = (r ≡ Err (Read (Unsupported place VersionNumber))) × (now ≡ old)

  -- what an opening leaves, by its answer
  abbrev pub OpenLeaves : Parts → Result Opened OpenErr → Past → Past → Type 0
  OpenLeaves table (Ok o) old now = IsOpened o.place o.text old now
  OpenLeaves table (Err (NoTable place)) old now = (place ≡ table) × Idle (InState (λ d. version number d.files ≡ 0)) old now
  OpenLeaves table (Err (LocationDiffers place location)) old now = ⊥
  OpenLeaves table (Err (Read e)) old now = ReadErrLeaves e old now

-- a place that an opening may ask the store for: the metadata's folder, or any version's place
abbrev pub IsAskedFor : Parts → Parts → Type 0
IsAskedFor table place = (place ≡ table ++ folder ∷ []) ⊎ (0 < number_in table place)

-- a fault of the store is told at a place that an opening may ask for
abbrev pub FaultAt : Parts → ReadErr → Type 0
FaultAt table (Missing place) = Unit {0}
FaultAt table (Damaged place at) = Unit {0}
FaultAt table (Unsupported place what) = Unit {0}
FaultAt table (StoreFault place) = IsAskedFor table place
FaultAt table Memory = Unit {0}

-- so is a fault by which an opening ended
abbrev pub OpenFaultAt : Parts → OpenErr → Type 0
OpenFaultAt table (NoTable place) = Unit {0}
OpenFaultAt table (LocationDiffers place location) = Unit {0}
OpenFaultAt table (Read e) = FaultAt table e

-- the kind of an opening's error
abbrev pub open_kind : OpenErr → Kind
open_kind (NoTable place) = kinds.Told
open_kind (LocationDiffers place location) = kinds.Told
open_kind (Read e) = read_kind e

-- and of an opening
abbrev pub opening_kind : {T : Type 0} → Result T OpenErr → Kind
opening_kind (Ok x) = kinds.Done
opening_kind (Err e) = open_kind e

-- a call that looks at a place failed, and is marked; or memory lacked; else the mark stays
abbrev pub LookMarks : {T : Type 0} → Parts → Result T StoreErr → Option Failure → Option Failure → Option Past → Type 0
LookMarks place (Ok x) before now told = now ≡ before
LookMarks place (Err e) before now told = MarksBy e (Look place) before now told

-- so for an opening, which only looks: the failed call is a look at the place at which it is told
abbrev pub OpenMarks : Kind → Option Failure → Option Failure → Option Past → Type 0
OpenMarks kinds.Done before now told = now ≡ before
OpenMarks kinds.Told before now told = now ≡ before
OpenMarks (kinds.Fault place) before now told = MarksBy Failed (Look place) before now told
OpenMarks (kinds.Unknown version) before now told = ⊥
OpenMarks (kinds.Lost version) before now told = ⊥
OpenMarks kinds.Memory before now told = now ≡ before
