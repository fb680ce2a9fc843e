-- What a publish tells besides: the count of faults, the mark of a failed call, that it removes its draft only for a taken target, and what the log says of it.
use Rattle.std.specs.Prelude.{◌≡◌, ℕ, List, [], ◌∷◌, length, Option, Some, Result, Ok, Err}
use Rattle.ice_store.specs.Places.{Parts}
use Rattle.ice_store.specs.Others.{WhereTold}
use Rattle.ice_store.specs.Calls.{Rose, failure_of}
use Rattle.ice_store.specs.declared.history.Past.{Past}
use Rattle.ice_store.specs.declared.history.Failure.{Failure}
use Rattle.ice_store.specs.declared.history.StoreCall.{StoreCall}
use Rattle.ice_store.specs.declared.history.StoreCall.TheVariants.{Take}
use Rattle.ice_store.specs.declared.store.StoreErr.{StoreErr}
use Rattle.ice_store.specs.declared.store.StoreErr.TheVariants.{Failed, Memory}
use Rattle.commit_publish.specs.Left.{Leaves}
use Rattle.commit_publish.specs.Stages.{IsTargetTaken}
use Rattle.commit_publish.specs.Steps.{IsDropping, step_of}
use Rattle.commit_publish.specs.declared.steps.PublishCall.{PublishCall}
use Rattle.commit_publish.specs.declared.steps.PublishCall.TheVariants as calls
use Rattle.commit_publish.specs.declared.steps.Route.{Route}
use Rattle.commit_publish.specs.declared.steps.StepErr.{StepErr}
use Rattle.commit_publish.specs.declared.publish.PublishErr.{PublishErr}
use Rattle.commit_publish.specs.declared.publish.PublishErr.TheVariants.{NameTaken, Contended, Stopped}

-- the count of faults rises where a call failed, and stays where memory lacked
abbrev pub CountsBy : StoreErr → ℕ → ℕ → Type 0
CountsBy Failed before now = Rose before now
CountsBy Memory before now = now ≡ before

-- so for a piece's answer; it stays where that is Ok
abbrev pub CallCounts : {T : Type 0} → Result T StepErr → ℕ → ℕ → Type 0
CallCounts (Ok x) before now = now ≡ before
CallCounts (Err e) before now = CountsBy e.cause before now

-- and for a publish
abbrev pub PublishCounts : Result (Unit {0}) PublishErr → ℕ → ℕ → Type 0
PublishCounts (Ok u) before now = now ≡ before
PublishCounts (Err NameTaken) before now = now ≡ before
PublishCounts (Err Contended) before now = now ≡ before
PublishCounts (Err (Stopped e)) before now = CountsBy e.cause before now

-- a failed call is marked, behind which no event stands; where memory lacked the mark stays
abbrev pub MarksBy : StoreErr → StoreCall → Option Failure → Option Failure → Option Past → Type 0
MarksBy Failed call before now told = WhereTold told (λ past. now ≡ Some (failure_of call past))
MarksBy Memory call before now told = now ≡ before

-- so for a piece of a publish of this draft, target and bytes
abbrev pub CallMarks : {T : Type 0} → Parts → Parts → List ℕ → Result T StepErr → Option Failure → Option Failure → Option Past → Type 0
CallMarks draft target bytes (Ok x) before now told = now ≡ before
CallMarks draft target bytes (Err e) before now told = MarksBy e.cause (Take (step_of draft target bytes e.call)) before now told

-- and for all of it
abbrev pub PublishMarks : Parts → Parts → List ℕ → Result (Unit {0}) PublishErr → Option Failure → Option Failure → Option Past → Type 0
PublishMarks draft target bytes (Ok u) before now told = now ≡ before
PublishMarks draft target bytes (Err NameTaken) before now told = now ≡ before
PublishMarks draft target bytes (Err Contended) before now told = now ≡ before
PublishMarks draft target bytes (Err (Stopped e)) before now told = MarksBy e.cause (Take (step_of draft target bytes e.call)) before now told

-- a publish that removed its draft, or stopped at that, leaves the target taken
abbrev pub DropsTaken : Route → Result (Unit {0}) PublishErr → Option Past → Type 0
DropsTaken route (Ok u) told = Unit {0}
DropsTaken route (Err NameTaken) told = Unit {0}
DropsTaken route (Err Contended) told = WhereTold told (IsTargetTaken route)
DropsTaken route (Err (Stopped e)) told = IsDropping e.call → WhereTold told (IsTargetTaken route)

-- the versions that a publish of this one commits
abbrev pub published_by : ℕ → Result (Unit {0}) PublishErr → List ℕ
published_by version (Ok u) = version ∷ []
published_by version (Err e) = []

-- the places that stay where a publish stopped at this call: the draft, once its creation was tried and as long as its removal isn't known; and the target of a rename that failed
abbrev pub left_at : Parts → Parts → PublishCall → StoreErr → List Parts
left_at draft target calls.Create Failed = draft ∷ []
left_at draft target calls.Create Memory = []
left_at draft target calls.Append cause = draft ∷ []
left_at draft target calls.Seal cause = draft ∷ []
left_at draft target calls.SyncDraft cause = draft ∷ []
left_at draft target calls.Rename Failed = draft ∷ target ∷ []
left_at draft target calls.Rename Memory = draft ∷ []
left_at draft target calls.SyncRename cause = draft ∷ []
left_at draft target calls.Remove cause = draft ∷ []
left_at draft target calls.SyncRemoval cause = []

-- the places that a publish leaves, by its answer
abbrev pub left_by : Parts → Parts → Result (Unit {0}) PublishErr → List Parts
left_by draft target (Ok u) = []
left_by draft target (Err NameTaken) = []
left_by draft target (Err Contended) = []
left_by draft target (Err (Stopped e)) = left_at draft target e.call e.cause

-- the steps of a publish left exactly the places that its answer says, where a published version counts as committed
abbrev pub PublishNotes : Parts → Parts → ℕ → Result (Unit {0}) PublishErr → ℕ → ℕ → Option Failure → Past → Past → Type 0
PublishNotes draft target version result before now mark = Leaves (Rose before now) mark (length (published_by version result)) [] (left_by draft target result)
