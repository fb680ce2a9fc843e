-- A new metadata file as it is drawn up, and the errors of its publish.
use Rattle.std.specs.Prelude.{◌≡◌, ℕ, ◌+◌, ◌<◌, ◌≤◌, List, [], ◌∷◌, ◌++◌, length, Result}
use Rattle.serde_json.specs.Data.{Data}
use Rattle.serde_json.specs.View.{view}
use Rattle.serde_json.specs.Written.{compact_text}
use Rattle.ice_store.specs.Places.{Parts}
use Rattle.ice_store.specs.declared.history.Past.{Past}
use Rattle.ice_store.specs.declared.history.Step.{Step}
use Rattle.ice_store.specs.declared.faults.What.TheVariants.{FileBytes}
use Rattle.ice_store.specs.declared.store.StoreErr.{StoreErr}
use Rattle.ice_store.specs.declared.store.StoreErr.TheVariants as causes
use Rattle.ice_store.specs.declared.faults.ReadErr.TheVariants.{Missing, Damaged, Unsupported, StoreFault, Memory}
use Rattle.commit_history.specs.Versions.{number_in, folder}
use Rattle.metadata_view.specs.View.{location_of}
use Rattle.table_metadata.specs.Edits.{HasVersionLimit, next_version}
use Rattle.commit_publish.specs.Stages.{Aim}
use Rattle.commit_publish.specs.declared.steps.PublishCall.{PublishCall}
use Rattle.commit_publish.specs.declared.steps.PublishCall.TheVariants as calls
use Rattle.commit_publish.specs.declared.publish.PublishErr.{PublishErr}
use Rattle.commit_publish.specs.declared.publish.PublishErr.TheVariants as publishes
use Rattle.commit_versions.specs.Names.{version_text_of, version_name, draft_name}
use Rattle.commit_versions.specs.Opening.{file_limit}
use Rattle.commit_protocol.specs.Meanings.{only_successor}
use Rattle.commit_protocol.specs.Metadata.{IsMetadata}
use Rattle.commit_protocol.specs.Attempts.{AttemptLeaves}
use Rattle.commit_protocol.specs.declared.opening.At.{At}
use Rattle.commit_protocol.specs.declared.committing.Base.{Base}
use Rattle.commit_protocol.specs.declared.committing.Written.{Written}
use Rattle.commit_protocol.specs.declared.errors.AttemptErr.{AttemptErr}
use Rattle.commit_protocol.specs.declared.errors.AttemptErr.TheVariants as attempts
use Rattle.commit_protocol.specs.declared.errors.CommitErr.{CommitErr}
use Rattle.commit_protocol.specs.declared.errors.CommitErr.TheVariants.{Attempt, Contended, CommitUnknown}
use Rattle.commit_protocol.specs.declared.errors.Committed.{Committed}

-- the place of the new metadata file whose name a drawn identifier gives
abbrev pub draft_at : Parts → ℕ → Parts
draft_at table id = table ++ folder ∷ draft_name id ∷ []

-- the place of the version file with this number
abbrev pub version_at : Parts → ℕ → Parts
version_at table version = table ++ folder ∷ version_name version ∷ []

-- what a commit keeps of an opened table
pub record IsOn (base : Base) (at : At) : Type 0 where
  pub place_is : base.place ≡ at.place
  pub version_is : base.version ≡ at.version
  pub text_is : base.text ≡ at.text
  pub previous_is : base.previous ≡ version_text_of (location_of (view at.meta)) at.version

-- the metadata of the version after a base, built as `built`
abbrev pub next_tree : Base → Data → ℕ → Data
next_tree base built now = next_version base.previous now built

-- a new metadata file is drawn up: where it goes, and the bytes, which are metadata of the table and not too long
pub record IsWritten (table : Parts) (base : Base) (built : Data) (now id : ℕ) (w : Written) : Type 0 where
  pub table_is : w.route.table ≡ table
  pub base_is : w.route.base ≡ base.place
  pub text_is : w.route.text ≡ base.text
  pub draft_is : w.route.draft ≡ draft_at table id
  pub target_is : w.route.target ≡ version_at table (base.version + 1)
  pub aim : Aim (number_in table) w.route
  pub written : w.bytes ≡ compact_text (next_tree base built now)
  pub spells : IsMetadata table w.bytes (next_tree base built now)
  pub short : length w.bytes ≤ file_limit

-- a text longer than a metadata file may be
abbrev pub IsOverlimit : List ℕ → Type 0
IsOverlimit text = file_limit < length text

-- memory lacked, or the written form is too long
abbrev pub IsUnwritten : Parts → Base → Data → ℕ → ℕ → AttemptErr → Type 0
IsUnwritten table base built now id (attempts.Refused refusal) = ⊥
IsUnwritten table base built now id (attempts.Conflict place other) = ⊥
IsUnwritten table base built now id (attempts.NameTaken place) = ⊥
IsUnwritten table base built now id (attempts.Read (Missing place)) = ⊥
IsUnwritten table base built now id (attempts.Read (Damaged place where_)) = ⊥
IsUnwritten table base built now id (attempts.Read (Unsupported place what)) = (what ≡ FileBytes) × (place ≡ draft_at table id) × IsOverlimit (compact_text (next_tree base built now))
IsUnwritten table base built now id (attempts.Read (StoreFault place)) = ⊥
IsUnwritten table base built now id (attempts.Read Memory) = Unit {0}

-- the error of a publish that stopped at this call, at the commit: of its renaming it isn't known, and else it is told at the new file, or at the table for a sync of names
abbrev pub stop_error : PublishCall → StoreErr → Parts → Parts → ℕ → CommitErr
stop_error call causes.Memory draft table version = Attempt (attempts.Read Memory)
stop_error calls.Create causes.Failed draft table version = Attempt (attempts.Read (StoreFault draft))
stop_error calls.Append causes.Failed draft table version = Attempt (attempts.Read (StoreFault draft))
stop_error calls.Seal causes.Failed draft table version = Attempt (attempts.Read (StoreFault draft))
stop_error calls.SyncDraft causes.Failed draft table version = Attempt (attempts.Read (StoreFault table))
stop_error calls.Rename causes.Failed draft table version = CommitUnknown version
stop_error calls.SyncRename causes.Failed draft table version = CommitUnknown version
stop_error calls.Remove causes.Failed draft table version = Attempt (attempts.Read (StoreFault draft))
stop_error calls.SyncRemoval causes.Failed draft table version = Attempt (attempts.Read (StoreFault table))

-- what the error of a publish of this draft and version is at the commit
abbrev pub commit_error_by : PublishErr → Parts → Parts → ℕ → CommitErr
commit_error_by publishes.NameTaken draft table version = Attempt (attempts.NameTaken draft)
commit_error_by publishes.Contended draft table version = Contended version
commit_error_by (publishes.Stopped e) draft table version = stop_error e.call e.cause draft table version

-- what an attempt leaves whose change made this successor of the base, and no other
abbrev pub PublishedLeaves : Parts → (Past → Step → Type 0) → (ℕ → Type 0) → ℕ → Base → Data → Result Committed CommitErr → Past → Past → Type 0
PublishedLeaves table allows Drawn now base built result old new = (at : At) → IsOn base at → HasVersionLimit (view at.meta) → AttemptLeaves table allows (only_successor built) Drawn now at result old new
