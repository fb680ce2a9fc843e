-- Which status answers which end of an opening or a commit.
use Rattle.std.specs.Prelude.{ℕ}
use Rattle.ice_store.specs.declared.faults.ReadErr.{ReadErr}
use Rattle.ice_store.specs.declared.faults.ReadErr.TheVariants as reads
use Rattle.commit_versions.specs.declared.types.OpenErr.{OpenErr}
use Rattle.commit_versions.specs.declared.types.OpenErr.TheVariants as opens
use Rattle.commit_protocol.specs.declared.errors.Refusal.{Refusal}
use Rattle.commit_protocol.specs.declared.errors.Refusal.TheVariants as refusals
use Rattle.commit_protocol.specs.declared.errors.AttemptErr.{AttemptErr}
use Rattle.commit_protocol.specs.declared.errors.AttemptErr.TheVariants as attempts
use Rattle.commit_protocol.specs.declared.errors.CommitErr.{CommitErr}
use Rattle.commit_protocol.specs.declared.errors.CommitErr.TheVariants as commits
use Rattle.run_answers.specs.declared.status.Status.{Status}
use Rattle.run_answers.specs.declared.status.Status.TheVariants.{BadArgument, UnknownSnapshot, UnknownRef, NotAncestor, StillReferenced, GcDisabled, TooRecent, NoTable, LocationDiffers, Missing, Damaged, Unsupported, OutsidePrefix, UnreadableDelete, SamePrefix, UnknownVersion, Conflict, Contended, StoreFault, CommitUnknown, OutOfMemory, NameTaken}

-- a fault of reading
abbrev pub read_status : ReadErr → Status
read_status (reads.Missing place) = Missing place
read_status (reads.Damaged place at) = Damaged place at
read_status (reads.Unsupported place what) = Unsupported place what
read_status (reads.StoreFault place) = StoreFault place
read_status reads.Memory = OutOfMemory

-- a refusal of the statement that is the word with this number, counted from 0
abbrev pub refusal_status : ℕ → Refusal → Status
refusal_status word (refusals.UnknownSnapshot id) = UnknownSnapshot id
refusal_status word (refusals.UnknownRef name) = UnknownRef name
refusal_status word (refusals.NotAncestor id of) = NotAncestor id of
refusal_status word (refusals.StillReferenced id name) = StillReferenced id name
refusal_status word refusals.GcDisabled = GcDisabled
refusal_status word (refusals.TooRecent older_than limit) = TooRecent older_than limit
refusal_status word (refusals.OutsidePrefix path) = OutsidePrefix path
refusal_status word (refusals.UnreadableDelete place) = UnreadableDelete place
refusal_status word refusals.SamePrefix = SamePrefix
refusal_status word (refusals.UnknownVersion name) = UnknownVersion name
refusal_status word (refusals.BadArgument name) = BadArgument word name

-- a table that could not be opened
abbrev pub open_status : OpenErr → Status
open_status (opens.NoTable place) = NoTable place
open_status (opens.LocationDiffers table location) = LocationDiffers table location
open_status (opens.Read e) = read_status e

-- an attempt that did not publish
abbrev pub attempt_status : ℕ → AttemptErr → Status
attempt_status word (attempts.Refused refusal) = refusal_status word refusal
attempt_status word (attempts.Conflict place other) = Conflict place other
attempt_status word (attempts.NameTaken place) = NameTaken place
attempt_status word (attempts.Read e) = read_status e

-- a commit that did not end, of that statement
abbrev pub status_of : ℕ → CommitErr → Status
status_of word (commits.Open e) = open_status e
status_of word (commits.Attempt e) = attempt_status word e
status_of word (commits.Contended version) = Contended version
status_of word (commits.CommitUnknown version) = CommitUnknown version
