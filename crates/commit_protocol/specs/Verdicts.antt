-- What an opening and a commit answer where nobody else acts: each answer's exact cause in the files at the entry.
use Rattle.std.specs.Prelude.{◌≡◌, ◌⊎◌, ℕ, ◌+◌, ◌<◌, ◌≤◌, true, false, List, [], ◌∷◌, length, Option, Some, None, Result, Ok, Err}
use Rattle.serde_json.specs.Data.{Data}
use Rattle.serde_json.specs.View.{view}
use Rattle.serde_json.specs.Written.{compact_text}
use Rattle.ice_store.specs.Places.{Parts}
use Rattle.ice_store.specs.History.{replay}
use Rattle.ice_store.specs.declared.history.Held.{Held}
use Rattle.ice_store.specs.declared.history.Past.{Past}
use Rattle.ice_store.specs.declared.history.Step.{Step}
use Rattle.ice_store.specs.declared.faults.What.{What}
use Rattle.ice_store.specs.declared.faults.What.TheVariants.{Codec, FormatVersion, Transform, SchemaSize, BlockBytes, ItemCount, FileBytes, GroupBytes, NoManifestList, VersionNumber, Sequence}
use Rattle.ice_store.specs.declared.faults.Where.TheVariants.{Path}
use Rattle.ice_store.specs.declared.faults.ReadErr.TheVariants.{Missing, Damaged, Unsupported, StoreFault, Memory}
use Rattle.commit_history.specs.Tables.{version}
use Rattle.commit_history.specs.Versions.{number_in}
use Rattle.table_metadata.specs.Edits.{HasVersionLimit}
use Rattle.commit_publish.specs.Kinds as kinds
use Rattle.commit_publish.specs.Kinds.{Kind}
use Rattle.commit_versions.specs.Latest.{IsBaseNumber}
use Rattle.commit_versions.specs.Opening.{FileIs, IsBeyond, file_limit, opening_kind}
use Rattle.commit_versions.specs.declared.types.OpenErr.{OpenErr}
use Rattle.commit_versions.specs.declared.types.OpenErr.TheVariants.{NoTable, LocationDiffers, Read}
use Rattle.commit_protocol.specs.Kinds.{attempt_kind, commit_end, kind_of}
use Rattle.commit_protocol.specs.Meanings.{Meanings}
use Rattle.commit_protocol.specs.Metadata.{IsMetadata, IsElsewhere, IsDamaged, IsUnsupported}
use Rattle.commit_protocol.specs.Prepares.{GivesLast, named_beside}
use Rattle.commit_protocol.specs.Attempts.{IsNextOf, limit_path}
use Rattle.commit_protocol.specs.Written.{draft_at}
use Rattle.commit_protocol.specs.declared.opening.At.{At}
use Rattle.commit_protocol.specs.declared.errors.AttemptErr.{AttemptErr}
use Rattle.commit_protocol.specs.declared.errors.AttemptErr.TheVariants as attempts
use Rattle.commit_protocol.specs.declared.errors.CommitErr.{CommitErr}
use Rattle.commit_protocol.specs.declared.errors.CommitErr.TheVariants.{Open, Attempt, Contended, CommitUnknown}
use Rattle.commit_protocol.specs.declared.errors.Committed.{Committed}
use Rattle.commit_protocol.specs.declared.errors.Committed.TheVariants.{Same, Published}

-- nobody else acts
abbrev pub IsNobody : (Past → Step → Type 0) → Type 0
IsNobody allows = (past : Past) (step : Step) → allows past step → ⊥

-- An opening.

-- the last version's file: its place, its number, which is within the limit, and its bytes
pub record IsLastFile (table : Parts) (files : List Held) (place : Parts) (last : ℕ) (bytes : List ℕ) : Type 0 where
  pub is_last : version (number_in table) files ≡ last
  pub numbers : IsBaseNumber (number_in table) place last
  pub file : FileIs place bytes files

-- the last version's file, which isn't too long, and of whose place and bytes this holds
pub record HasLast (table : Parts) (files : List Held) (P : Parts → List ℕ → Type 0) : Type 0 where
  pub place : Parts
  pub last : ℕ
  pub bytes : List ℕ
  pub file : IsLastFile table files place last bytes
  pub short : length bytes ≤ file_limit
  pub holds : P place bytes

-- the last version's file is longer than a metadata file may be
pub record IsOverlong (table : Parts) (files : List Held) (place : Parts) : Type 0 where
  pub last : ℕ
  pub bytes : List ℕ
  pub file : IsLastFile table files place last bytes
  pub long : file_limit < length bytes

-- the table of these files: its last version's file, and the metadata that its bytes spell
pub record IsTable (table : Parts) (files : List Held) (place : Parts) (last : ℕ) (bytes : List ℕ) (tree : Data) : Type 0 where
  pub file : IsLastFile table files place last bytes
  pub short : length bytes ≤ file_limit
  pub metadata : IsMetadata table bytes tree

-- a limit on version numbers or on files is passed
abbrev pub LimitVerdict : Parts → List Held → Parts → What → Type 0
LimitVerdict table files place VersionNumber = IsBeyond (number_in table) place files
LimitVerdict table files place FileBytes = IsOverlong table files place
LimitVerdict table files place Codec = ⊥
LimitVerdict table files place FormatVersion = ⊥
LimitVerdict table files place Transform = ⊥
LimitVerdict table files place SchemaSize = ⊥
LimitVerdict table files place BlockBytes = ⊥
LimitVerdict table files place ItemCount = ⊥
LimitVerdict table files place GroupBytes = ⊥
LimitVerdict table files place NoManifestList = ⊥
LimitVerdict table files place Sequence = ⊥

-- the cause of an opening's answer in these files; that of a store fault is the count of faults, and want of memory is free
abbrev pub OpenVerdict : Parts → List Held → Result At OpenErr → Type 0
OpenVerdict table files (Ok at) = IsTable table files at.place at.version at.text (view at.meta)
OpenVerdict table files (Err (NoTable place)) = (place ≡ table) × (version (number_in table) files ≡ 0)
OpenVerdict table files (Err (LocationDiffers place location)) = (place ≡ table) × HasLast table files (λ p bytes. IsElsewhere table bytes location)
OpenVerdict table files (Err (Read (Missing place))) = ⊥
OpenVerdict table files (Err (Read (Damaged place at))) = HasLast table files (λ p bytes. (place ≡ p) × IsDamaged bytes at)
OpenVerdict table files (Err (Read (Unsupported place what))) = LimitVerdict table files place what ⊎ HasLast table files (λ p bytes. (place ≡ p) × IsUnsupported bytes what)
OpenVerdict table files (Err (Read (StoreFault place))) = Unit {0}
OpenVerdict table files (Err (Read Memory)) = Unit {0}

-- A commit.

-- the base of work that needs this of a base's properties: the table, which has them, and of whose version and metadata this holds
pub record OnBase (Needs : Data → Type 0) (table : Parts) (files : List Held) (P : ℕ → Data → Type 0) : Type 0 where
  pub place : Parts
  pub last : ℕ
  pub bytes : List ℕ
  pub tree : Data
  pub is : IsTable table files place last bytes tree
  pub has : Needs tree
  pub holds : P last tree

-- the table stands at this place, and lacks them
pub record IsUnfit (Needs : Data → Type 0) (table : Parts) (files : List Held) (place : Parts) : Type 0 where
  pub last : ℕ
  pub bytes : List ℕ
  pub tree : Data
  pub is : IsTable table files place last bytes tree
  pub lacks : Needs tree → ⊥

-- no more bytes than a metadata file may have
abbrev pub IsShort : ℕ → Type 0
IsShort n = n ≤ file_limit

-- more than that
abbrev pub IsLongText : ℕ → Type 0
IsLongText n = file_limit < n

-- a change that makes such successors at a moment, where identifiers were drawn
module _ (successor : Data → Data → Type 0) (Drawn : ℕ → Type 0) (table : Parts) (now : ℕ) where
  -- the change builds a next version; its new file's name comes from a drawn identifier, and this holds of the length of its written form
  pub record DrawsUp (Long : ℕ → Type 0) (last : ℕ) (tree : Data) (draft : Parts) : Type 0 where
    pub id : ℕ
    pub drawn : Drawn id
    pub place : draft ≡ draft_at table id
    pub next : Data
    pub is : IsNextOf successor last now tree next
    pub length_is : Long (length (compact_text next))

  -- the new file's name is free, also of the files that the change itself has made
  pub record IsDraftFree (made : List Parts) (files : List Held) (last : ℕ) (tree : Data) : Type 0 where
    pub draft : Parts
    pub drawn_up : DrawsUp IsShort last tree draft
    pub free : named_beside made files draft ≡ false

-- work with these meanings, which needs this of a base's properties, at a moment, where identifiers were drawn
module _ (Needs : Data → Type 0) (meanings : Meanings) (Drawn : ℕ → Type 0) (table : Parts) (now : ℕ) where
  -- the base is refused so
  abbrev pub RefusesBase : List Held → AttemptErr → Type 0
  RefusesBase files e = OnBase Needs table files (λ last tree. meanings.refuses tree e)

  -- a next version is built, of whose written form's length this holds, and whose new file goes to this place
  abbrev pub Draws : (ℕ → Type 0) → ℕ → Data → Parts → Type 0
  Draws = DrawsUp meanings.successor Drawn table now

  -- the new file's name is taken, or the base is refused so
  abbrev pub HasTakenName : List Held → Parts → Type 0
  HasTakenName files place = OnBase Needs table files (λ last tree. meanings.refuses tree (attempts.NameTaken place) ⊎ (Draws IsShort last tree place × (named_beside meanings.made files place ≡ true)))

  -- the written form is too long, or the base is refused so
  abbrev pub IsUnsupportedText : List Held → Parts → What → Type 0
  IsUnsupportedText files place what = OnBase Needs table files (λ last tree. meanings.refuses tree (attempts.Read (Unsupported place what)) ⊎ ((what ≡ FileBytes) × Draws IsLongText last tree place))

  -- nothing is to be changed
  abbrev pub IsSame : List Held → ℕ → Type 0
  IsSame files version = OnBase Needs table files (λ last tree. (version ≡ last) × meanings.same tree)

  -- this version is built, and the new file's name is free
  abbrev pub IsBuilt : List Held → ℕ → Type 0
  IsBuilt files version = OnBase Needs table files (λ last tree. (version ≡ last + 1) × IsDraftFree meanings.successor Drawn table now meanings.made files last tree)

  -- the cause of an error in these files; that of a store fault and of an unknown commit is the count of faults, and want of memory is free
  abbrev pub ErrorVerdict : List Held → CommitErr → Type 0
  ErrorVerdict files (Open e) = OpenVerdict table files (Err e)
  ErrorVerdict files (Attempt (attempts.Refused refusal)) = RefusesBase files (attempts.Refused refusal)
  ErrorVerdict files (Attempt (attempts.Conflict place other)) = RefusesBase files (attempts.Conflict place other)
  ErrorVerdict files (Attempt (attempts.NameTaken place)) = HasTakenName files place
  ErrorVerdict files (Attempt (attempts.Read (Missing place))) = RefusesBase files (attempts.Read (Missing place))
  ErrorVerdict files (Attempt (attempts.Read (Damaged place at))) = RefusesBase files (attempts.Read (Damaged place at)) ⊎ ((at ≡ Path limit_path) × IsUnfit Needs table files place)
  ErrorVerdict files (Attempt (attempts.Read (Unsupported place what))) = IsUnsupportedText files place what
  ErrorVerdict files (Attempt (attempts.Read (StoreFault place))) = Unit {0}
  ErrorVerdict files (Attempt (attempts.Read Memory)) = Unit {0}
  ErrorVerdict files (Contended v) = ⊥
  ErrorVerdict files (CommitUnknown v) = Unit {0}

  -- the cause of an end, by the versions that were published and the error
  abbrev pub EndVerdict : List Held → List ℕ → Option CommitErr → Type 0
  EndVerdict files [] None = OnBase Needs table files (λ last tree. meanings.same tree)
  EndVerdict files (v ∷ versions) None = (versions ≡ []) × IsBuilt files v
  EndVerdict files versions (Some e) = (versions ≡ []) × ErrorVerdict files e

  -- the cause of a commit's answer
  abbrev pub CommitVerdict : List Held → Result Committed CommitErr → Type 0
  CommitVerdict files (Ok (Same v)) = IsSame files v
  CommitVerdict files (Ok (Published v)) = IsBuilt files v
  CommitVerdict files (Err e) = ErrorVerdict files e

-- Each verdict is the only one.

-- an end of this kind has its cause in a state: it is no fault, no unknown commit and no want of memory
abbrev pub IsOfState : Kind → Type 0
IsOfState kinds.Done = Unit {0}
IsOfState kinds.Told = Unit {0}
IsOfState (kinds.Fault place) = ⊥
IsOfState (kinds.Unknown version) = ⊥
IsOfState (kinds.Lost version) = Unit {0}
IsOfState kinds.Memory = ⊥

-- so has an opening's answer
abbrev pub IsOpeningTold : Result At OpenErr → Type 0
IsOpeningTold result = IsOfState (opening_kind result)

-- and a commit's
abbrev pub IsTold : Result Committed CommitErr → Type 0
IsTold result = IsOfState (kind_of (commit_end result))

-- what an opened table shows
pub record Shown : Type 0 where
  pub place : Parts
  pub last : ℕ
  pub bytes : List ℕ
  pub tree : Data

-- what an answer of an opening shows
abbrev pub opening_shown : Result At OpenErr → Result Shown OpenErr
opening_shown (Ok at) = Ok (record { place = at.place; last = at.version; bytes = at.text; tree = view at.meta })
opening_shown (Err e) = Err e

-- two told verdicts of one opening show the same
abbrev pub IsOneOpening : Parts → Type 0
IsOneOpening table = (files : List Held) (r s : Result At OpenErr) → IsOpeningTold r → IsOpeningTold s
    → OpenVerdict table files r → OpenVerdict table files s → opening_shown r ≡ opening_shown s

-- the meanings of a change exclude one another, and each gives one answer; a refusal is an error that is told, whichever it is
pub record IsDecided (meanings : Meanings) : Type 0 where
  pub one_refusal : (tree : Data) (e f : AttemptErr) → attempt_kind e ≡ kinds.Told → attempt_kind f ≡ kinds.Told → meanings.refuses tree e → meanings.refuses tree f → e ≡ f
  pub one_successor : (tree a b : Data) → meanings.successor tree a → meanings.successor tree b → a ≡ b
  pub built_or_same : (tree built : Data) → meanings.successor tree built → meanings.same tree → ⊥
  pub built_or_refused : (tree built : Data) (e : AttemptErr) → attempt_kind e ≡ kinds.Told → meanings.successor tree built → meanings.refuses tree e → ⊥
  pub same_or_refused : (tree : Data) (e : AttemptErr) → attempt_kind e ≡ kinds.Told → meanings.same tree → meanings.refuses tree e → ⊥

-- all identifiers that are told as drawn are one; of a source that tells nothing it may be none or any
abbrev pub IsOneDrawn : (ℕ → Type 0) → Type 0
IsOneDrawn Drawn = (a b : ℕ) → Drawn a → Drawn b → a ≡ b

-- two told verdicts of one commit are one
abbrev pub IsOneCommit : Parts → ℕ → Meanings → (ℕ → Type 0) → Type 0
IsOneCommit table now meanings Drawn = (files : List Held) (r s : Result Committed CommitErr) → IsTold r → IsTold s
    → CommitVerdict HasVersionLimit meanings Drawn table now files r → CommitVerdict HasVersionLimit meanings Drawn table now files s → r ≡ s

-- Exactly.

-- where an answer's cause stands in these files, the opening's answer shows the same, but for want of memory and faults
abbrev pub IsExactOpening : Parts → Result At OpenErr → List Held → Type 0
IsExactOpening table result files = (r : Result At OpenErr) → IsOpeningTold r → OpenVerdict table files r → IsOpeningTold result → opening_shown result ≡ opening_shown r

-- where an answer's cause stands in these files, it is the commit's answer, but for want of memory and faults
abbrev pub IsExactCommit : Meanings → (ℕ → Type 0) → Parts → ℕ → Result Committed CommitErr → List Held → Type 0
IsExactCommit meanings Drawn table now result files = (r : Result Committed CommitErr) → IsTold r → CommitVerdict HasVersionLimit meanings Drawn table now files r → IsTold result → result ≡ r

-- Of a call between two moments.

-- the answer of a commit has its cause in the files at the entry
abbrev pub IsCaused : Meanings → (ℕ → Type 0) → Parts → ℕ → Result Committed CommitErr → Past → Past → Type 0
IsCaused meanings Drawn table now result old new = CommitVerdict HasVersionLimit meanings Drawn table now (replay old).files result

-- where nobody else acts, the meanings exclude one another and one identifier was drawn, the answer whose cause stands in the files at the entry is the one given
abbrev pub IsExactly : (Past → Step → Type 0) → Meanings → (ℕ → Type 0) → Parts → ℕ → Result Committed CommitErr → Past → Past → Type 0
IsExactly allows meanings Drawn table now result old new = IsNobody allows → IsDecided meanings → IsOneDrawn Drawn → IsExactCommit meanings Drawn table now result (replay old).files

-- the same, by the identifiers given before and after: the change's own, and one behind them
abbrev pub IsCausedOf : Meanings → Option (List ℕ) → Option (List ℕ) → Parts → ℕ → Result Committed CommitErr → Past → Past → Type 0
IsCausedOf meanings given given' = IsCaused meanings (GivesLast meanings.draws given given')

-- and of exactness
abbrev pub IsExactlyOf : (Past → Step → Type 0) → Meanings → Option (List ℕ) → Option (List ℕ) → Parts → ℕ → Result Committed CommitErr → Past → Past → Type 0
IsExactlyOf allows meanings given given' = IsExactly allows meanings (GivesLast meanings.draws given given')
