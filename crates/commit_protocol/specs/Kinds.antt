-- How work on a table ends, and the kind of each end.
use Rattle.std.specs.Prelude.{ℕ, Bool, true, false, List, [], ◌∷◌, Option, Some, None, Result, Ok, Err}
use Rattle.commit_publish.specs.Kinds as kinds
use Rattle.commit_publish.specs.Kinds.{Kind, read_kind}
use Rattle.commit_publish.specs.declared.steps.PublishCall.{PublishCall}
use Rattle.commit_publish.specs.declared.steps.PublishCall.TheVariants as calls
use Rattle.commit_versions.specs.Opening.{open_kind}
use Rattle.commit_protocol.specs.declared.errors.AttemptErr.{AttemptErr}
use Rattle.commit_protocol.specs.declared.errors.AttemptErr.TheVariants as attempts
use Rattle.commit_protocol.specs.declared.errors.CommitErr.{CommitErr}
use Rattle.commit_protocol.specs.declared.errors.CommitErr.TheVariants as commits
use Rattle.commit_protocol.specs.declared.errors.Committed.{Committed}
use Rattle.commit_protocol.specs.declared.errors.Committed.TheVariants.{Same, Published}

-- how work ended: the versions that it published and acknowledged, and the error by which it didn't come to its end
pub record End : Type 0 where
  pub versions : List ℕ
  pub error : Option CommitErr

-- the end of a commit
abbrev pub commit_end : Result Committed CommitErr → End
commit_end (Ok (Same version)) = record { versions = []; error = None }
commit_end (Ok (Published version)) = record { versions = version ∷ []; error = None }
commit_end (Err e) = record { versions = []; error = Some e }

-- the kind of an attempt's error
abbrev pub attempt_kind : AttemptErr → Kind
attempt_kind (attempts.Refused refusal) = kinds.Told
attempt_kind (attempts.Conflict place other) = kinds.Told
attempt_kind (attempts.NameTaken place) = kinds.Told
attempt_kind (attempts.Read e) = read_kind e

-- of an attempt
abbrev pub attempted_kind : {T : Type 0} → Result T AttemptErr → Kind
attempted_kind (Ok x) = kinds.Done
attempted_kind (Err e) = attempt_kind e

-- of a commit's error
abbrev pub commit_kind : CommitErr → Kind
commit_kind (commits.Open e) = open_kind e
commit_kind (commits.Attempt e) = attempt_kind e
commit_kind (commits.Contended version) = kinds.Lost version
commit_kind (commits.CommitUnknown version) = kinds.Unknown version

-- where there is none the work is done
abbrev pub error_kind : Option CommitErr → Kind
error_kind None = kinds.Done
error_kind (Some e) = commit_kind e

-- the kind of an end
abbrev pub kind_of : End → Kind
kind_of end = error_kind end.error

-- the calls of a publish behind which it isn't known whether the version was published: the rename, and the sync that follows
abbrev pub is_renaming : PublishCall → Bool
is_renaming calls.Create = false
is_renaming calls.Append = false
is_renaming calls.Seal = false
is_renaming calls.SyncDraft = false
is_renaming calls.Rename = true
is_renaming calls.SyncRename = true
is_renaming calls.Remove = false
is_renaming calls.SyncRemoval = false
