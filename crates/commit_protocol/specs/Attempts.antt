-- What one attempt of a commit leaves, by its answer.
use Rattle.std.specs.Prelude.{◌≡◌, ◌⊎◌, ℕ, ◌+◌, ◌<◌, ◌≤◌, true, false, List, [], ◌∷◌, ◌++◌, length, codes, Result, Ok, Err}
use Rattle.serde_json.specs.Data.{Data}
use Rattle.serde_json.specs.View.{view}
use Rattle.ice_store.specs.Places.{Parts}
use Rattle.ice_store.specs.declared.history.Past.{Past}
use Rattle.ice_store.specs.declared.history.Step.{Step}
use Rattle.ice_store.specs.declared.faults.What.TheVariants.{FileBytes}
use Rattle.ice_store.specs.declared.faults.Where.TheVariants.{Path}
use Rattle.ice_store.specs.declared.faults.ReadErr.{ReadErr}
use Rattle.ice_store.specs.declared.faults.ReadErr.TheVariants.{Missing, Damaged, Unsupported, StoreFault, Memory}
use Rattle.commit_history.specs.Runs.{Ran}
use Rattle.table_metadata.specs.Spelling.{Spells}
use Rattle.metadata_view.specs.View.{location_of}
use Rattle.table_metadata.specs.Edits.{next_version, HasVersionLimit}
use Rattle.commit_publish.specs.Kinds.{told_at}
use Rattle.commit_publish.specs.Stages.{Aim}
use Rattle.commit_publish.specs.Steps.{Exactly, Anything, step_of}
use Rattle.commit_versions.specs.Opening.{file_limit}
use Rattle.commit_versions.specs.Names.{version_text_of, version_name, draft_name}
use Rattle.commit_history.specs.Versions.{folder, number_in}
use Rattle.serde_json.specs.Written.{compact_text}
use Rattle.commit_publish.specs.Leaves.{PublishLeaves}
use Rattle.commit_publish.specs.declared.steps.Route.{Route}
use Rattle.commit_publish.specs.declared.steps.PublishCall.{PublishCall}
use Rattle.commit_publish.specs.declared.publish.PublishErr.{PublishErr}
use Rattle.commit_publish.specs.declared.publish.PublishErr.TheVariants as publishes
use Rattle.ice_store.specs.declared.history.StoreCall.TheVariants.{Take}
use Rattle.ice_store.specs.declared.store.StoreErr.{StoreErr}
use Rattle.ice_store.specs.declared.store.StoreErr.TheVariants as causes
use Rattle.commit_protocol.specs.Kinds.{is_renaming}
use Rattle.commit_protocol.specs.Meanings.{Meanings}
use Rattle.commit_protocol.specs.Metadata.{IsAt, OpenErrLeaves, table_rules}
use Rattle.commit_protocol.specs.declared.opening.At.{At}
use Rattle.commit_protocol.specs.declared.change.Built.{Built}
use Rattle.commit_protocol.specs.declared.change.Built.TheVariants.{Same as Unchanged, Next}
use Rattle.commit_protocol.specs.declared.errors.AttemptErr.{AttemptErr}
use Rattle.commit_protocol.specs.declared.errors.AttemptErr.TheVariants as attempts
use Rattle.commit_protocol.specs.declared.errors.CommitErr.{CommitErr}
use Rattle.commit_protocol.specs.declared.errors.CommitErr.TheVariants.{Open, Attempt, Contended, CommitUnknown}
use Rattle.commit_protocol.specs.declared.errors.Committed.{Committed}
use Rattle.commit_protocol.specs.declared.errors.Committed.TheVariants.{Same, Published}

-- metadata built by a change stays the table's, and its log limit stays readable
pub record StaysTable (tree built : Data) : Type 0 where
  pub location : location_of built ≡ location_of tree
  pub limit : HasVersionLimit tree → HasVersionLimit built

-- what a change makes of a base
abbrev pub MakesOf : Meanings → Data → Built → Type 0
MakesOf meanings tree Unchanged = meanings.same tree
MakesOf meanings tree (Next meta) = meanings.successor tree (view meta) × StaysTable tree (view meta)

-- the metadata of the next version: the base's, changed, with the base in its metadata log
pub record IsNextOf (successor : Data → Data → Type 0) (version now : ℕ) (tree next : Data) : Type 0 where
  pub built : Data
  pub changed : successor tree built
  pub is : next ≡ next_version (version_text_of (location_of tree) version) now built

-- the bytes are its written form, and spell it
pub record Writes (successor : Data → Data → Type 0) (version now : ℕ) (tree : Data) (bytes : List ℕ) : Type 0 where
  pub next : Data
  pub is : IsNextOf successor version now tree next
  pub written : bytes ≡ compact_text next
  pub spells : Spells bytes next

-- a new metadata file that a commit draws up: its name comes from a drawn identifier
pub record Drafted (Drawn : ℕ → Type 0) (successor : Data → Data → Type 0) (table : Parts) (now : ℕ) (at : At) : Type 0 where
  pub id : ℕ
  pub drawn : Drawn id
  pub route : Route
  pub base_is : route.base ≡ at.place
  pub text_is : route.text ≡ at.text
  pub draft_is : route.draft ≡ table ++ folder ∷ draft_name id ∷ []
  pub target_is : route.target ≡ table ++ folder ∷ version_name (at.version + 1) ∷ []
  pub aim : Aim (number_in table) route
  pub bytes : List ℕ
  pub writes : Writes successor at.version now (view at.meta) bytes
  pub short : length bytes ≤ file_limit

-- its written form is longer than a metadata file may be
pub record IsTooLong (Drawn : ℕ → Type 0) (successor : Data → Data → Type 0) (table : Parts) (now : ℕ) (at : At) (place : Parts) : Type 0 where
  pub id : ℕ
  pub drawn : Drawn id
  pub place_is : place ≡ table ++ folder ∷ draft_name id ∷ []
  pub next : Data
  pub is : IsNextOf successor at.version now (view at.meta) next
  pub long : file_limit < length (compact_text next)

-- where the limit of the metadata log stands
abbrev pub limit_path : List ℕ
limit_path = codes "properties.write.metadata.previous-versions-max"

-- the answer where that limit can't be read, or there was no memory for the answer
abbrev pub TellsLimit : Parts → CommitErr → Type 0
TellsLimit place e = (e ≡ Attempt (attempts.Read (Damaged place (Path limit_path)))) ⊎ (e ≡ Attempt (attempts.Read Memory))

-- a publish that stopped at this call for this cause
abbrev pub stopped_at : PublishCall → StoreErr → Result (Unit {0}) PublishErr
stopped_at call cause = Err (publishes.Stopped (record { call = call; cause = cause }))

module _ (table : Parts) (allows : Past → Step → Type 0) where
  -- no step of ours was taken
  abbrev pub TakesNoStep : Past → Past → Type 0
  TakesNoStep = Ran (table_rules table allows) (Exactly []) Anything

  -- the publish of a file that was drawn up ended so
  abbrev pub DraftLeaves : (Drawn : ℕ → Type 0) (successor : Data → Data → Type 0) (now : ℕ) (at : At) → Drafted Drawn successor table now at → Result (Unit {0}) PublishErr → Past → Past → Type 0
  DraftLeaves Drawn successor now at d = PublishLeaves (table_rules table allows) d.route d.bytes

  -- of a change with these meanings, at a moment, where identifiers were drawn
  module _ (meanings : Meanings) (Drawn : ℕ → Type 0) (now : ℕ) where
    -- a file was drawn up, and its publish ended so
    pub record PublishedBy (at : At) (result : Result (Unit {0}) PublishErr) (old new : Past) : Type 0 where
      pub drafted : Drafted Drawn meanings.successor table now at
      pub left : DraftLeaves Drawn meanings.successor now at drafted result old new

    -- a file was drawn up, and a call of its publish failed, none of its renaming, which is told at this place
    pub record FaultBy (at : At) (place : Parts) (old new : Past) : Type 0 where
      pub call : PublishCall
      pub kind : is_renaming call ≡ false
      pub drafted : Drafted Drawn meanings.successor table now at
      pub place_is : place ≡ told_at table (Take (step_of drafted.route.draft drafted.route.target drafted.bytes call))
      pub left : DraftLeaves Drawn meanings.successor now at drafted (stopped_at call causes.Failed) old new

    -- a file was drawn up for this version, and a call of its renaming failed
    pub record UnknownBy (at : At) (version : ℕ) (old new : Past) : Type 0 where
      pub call : PublishCall
      pub kind : is_renaming call ≡ true
      pub version_is : version ≡ at.version + 1
      pub limit : HasVersionLimit (view at.meta)
      pub published : PublishedBy at (stopped_at call causes.Failed) old new

    -- a file was drawn up, and memory lacked for a call of its publish
    pub record LackingBy (at : At) (old new : Past) : Type 0 where
      pub call : PublishCall
      pub limit : HasVersionLimit (view at.meta)
      pub published : PublishedBy at (stopped_at call causes.Memory) old new

    -- a file was drawn up, and its name at this place was taken
    pub record TakenBy (at : At) (place : Parts) (old new : Past) : Type 0 where
      pub limit : HasVersionLimit (view at.meta)
      pub drafted : Drafted Drawn meanings.successor table now at
      pub place_is : place ≡ drafted.route.draft
      pub left : DraftLeaves Drawn meanings.successor now at drafted (Err publishes.NameTaken) old new

    -- the change refused the base so
    pub record RefusedBy (at : At) (e : AttemptErr) (old new : Past) : Type 0 where
      pub limit : HasVersionLimit (view at.meta)
      pub refuses_it : meanings.refuses (view at.meta) e
      pub idle : TakesNoStep old new

    -- the written form of what the change built is too long
    abbrev pub TooLongBy : At → Parts → Past → Past → Type 0
    TooLongBy at place old new = HasVersionLimit (view at.meta) × IsTooLong Drawn meanings.successor table now at place × TakesNoStep old new

    -- the base's log limit can't be read
    abbrev pub UnlimitedBy : At → Parts → Past → Past → Type 0
    UnlimitedBy at place old new = (place ≡ at.place) × (HasVersionLimit (view at.meta) → ⊥) × TakesNoStep old new

    -- what an attempt leaves that a file's fault ended
    abbrev pub ReadErrBy : At → ReadErr → Past → Past → Type 0
    ReadErrBy at (Missing place) old new = RefusedBy at (attempts.Read (Missing place)) old new
    ReadErrBy at (Damaged place where_) old new = RefusedBy at (attempts.Read (Damaged place where_)) old new ⊎ ((where_ ≡ Path limit_path) × UnlimitedBy at place old new)
    ReadErrBy at (Unsupported place what) old new = RefusedBy at (attempts.Read (Unsupported place what)) old new ⊎ ((what ≡ FileBytes) × TooLongBy at place old new)
    ReadErrBy at (StoreFault place) old new = RefusedBy at (attempts.Read (StoreFault place)) old new ⊎ FaultBy at place old new
    ReadErrBy at Memory old new = TakesNoStep old new ⊎ LackingBy at old new

    -- what an attempt leaves that didn't come to its publish or was refused a name
    abbrev pub AttemptErrBy : At → AttemptErr → Past → Past → Type 0
    AttemptErrBy at (attempts.Refused refusal) old new = RefusedBy at (attempts.Refused refusal) old new
    AttemptErrBy at (attempts.Conflict place other) old new = RefusedBy at (attempts.Conflict place other) old new
    AttemptErrBy at (attempts.NameTaken place) old new = RefusedBy at (attempts.NameTaken place) old new ⊎ TakenBy at place old new
    AttemptErrBy at (attempts.Read e) old new = ReadErrBy at e old new

    -- the attempt was for the version after the base's, and others took it first
    abbrev pub LostBy : At → ℕ → Past → Past → Type 0
    LostBy at version old new = (version ≡ at.version + 1) × HasVersionLimit (view at.meta) × PublishedBy at (Err publishes.Contended) old new

    -- what an attempt on an opened table leaves, by its answer
    abbrev pub AttemptLeaves : At → Result Committed CommitErr → Past → Past → Type 0
    AttemptLeaves at (Ok (Same version)) old new = (version ≡ at.version) × HasVersionLimit (view at.meta) × meanings.same (view at.meta) × meanings.seen (view at.meta) × TakesNoStep old new
    AttemptLeaves at (Ok (Published version)) old new = (version ≡ at.version + 1) × HasVersionLimit (view at.meta) × meanings.seen (view at.meta) × PublishedBy at (Ok tt) old new
    AttemptLeaves at (Err (Open e)) old new = ⊥
    AttemptLeaves at (Err (Attempt e)) old new = AttemptErrBy at e old new
    AttemptLeaves at (Err (Contended version)) old new = LostBy at version old new
    AttemptLeaves at (Err (CommitUnknown version)) old new = UnknownBy at version old new

    -- the table was opened, and then an attempt on it ended so
    pub record Attempted (result : Result Committed CommitErr) (old new : Past) : Type 0 where
      pub at : At
      pub mid : Past
      pub opened : IsAt table allows at old mid
      pub then : AttemptLeaves at result mid new

    -- what a commit of one attempt leaves, by its answer
    abbrev pub CommitLeaves : Result Committed CommitErr → Past → Past → Type 0
    CommitLeaves (Ok c) = Attempted (Ok c)
    CommitLeaves (Err (Open e)) = OpenErrLeaves table allows e
    CommitLeaves (Err (Attempt e)) = Attempted (Err (Attempt e))
    CommitLeaves (Err (Contended version)) = Attempted (Err (Contended version))
    CommitLeaves (Err (CommitUnknown version)) = Attempted (Err (CommitUnknown version))
