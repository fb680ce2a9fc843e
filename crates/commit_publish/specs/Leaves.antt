-- What each piece of a publish leaves, by its answer.
use Rattle.std.specs.Prelude.{◌≡◌, ℕ, true, false, List, [], ◌∷◌, Result, Ok, Err}
use Rattle.ice_store.specs.declared.history.Past.{Past}
use Rattle.ice_store.specs.declared.history.Step.TheVariants.{Create}
use Rattle.ice_store.specs.declared.store.Made.{Made}
use Rattle.ice_store.specs.declared.store.Made.TheVariants.{New, Exists}
use Rattle.ice_store.specs.declared.store.Moved.{Moved}
use Rattle.ice_store.specs.declared.store.Moved.TheVariants.{Done, Exists as There}
use Rattle.commit_history.specs.Readings.{Rules}
use Rattle.commit_history.specs.Runs.{Ran}
use Rattle.commit_publish.specs.Stages.{Creating, AtRest, Stage, HasDraft, IsTaken, IsLost, InState, IsNameTaken, Publishes}
use Rattle.commit_publish.specs.Steps.{Anything, Exactly, Behind, StopsAt, draft_plan, move_plan, drop_plan, publish_plan, lost_plan}
use Rattle.commit_publish.specs.declared.steps.Route.{Route}
use Rattle.commit_publish.specs.declared.steps.StepErr.{StepErr}
use Rattle.commit_publish.specs.declared.publish.PublishErr.{PublishErr}
use Rattle.commit_publish.specs.declared.publish.PublishErr.TheVariants.{NameTaken, Contended, Stopped}

module _ (rules : Rules) (route : Route) where
  -- the draft is written, sealed and durable
  abbrev pub IsWritten : List ℕ → Past → Type 0
  IsWritten bytes = InState (Stage rules.reading.number route AtRest (HasDraft route.draft true bytes))

  -- so is it, and the target is taken
  abbrev pub IsBeaten : List ℕ → Past → Type 0
  IsBeaten bytes = InState (Stage rules.reading.number route AtRest (IsTaken route bytes))

  -- the steps of a publish of these bytes that stopped so
  abbrev pub IsStopped : List ℕ → StepErr → Past → Past → Type 0
  IsStopped bytes e = Ran rules (StopsAt route.draft route.target bytes e.call e.cause) Anything

  -- the same of a piece of it, behind the draft's creation
  abbrev pub IsStoppedMade : List ℕ → StepErr → Past → Past → Type 0
  IsStoppedMade bytes e = Ran rules (Behind (Create route.draft ∷ []) (StopsAt route.draft route.target bytes e.call e.cause)) Anything

  -- the same behind the written draft
  abbrev pub IsStoppedWritten : List ℕ → StepErr → Past → Past → Type 0
  IsStoppedWritten bytes e = Ran rules (Behind (draft_plan route.draft bytes) (StopsAt route.draft route.target bytes e.call e.cause)) Anything

  -- what the draft's creation leaves, whatever is to be published
  abbrev pub MakeLeaves : Result Made StepErr → Past → Past → Type 0
  MakeLeaves (Ok New) old new = Ran rules (Exactly (Create route.draft ∷ [])) (InState (Stage rules.reading.number route Creating (HasDraft route.draft false []))) old new
  MakeLeaves (Ok Exists) old new = Ran rules (Exactly []) (IsNameTaken route) old new
  MakeLeaves (Err e) old new = (bytes : List ℕ) → IsStopped bytes e old new

  -- what its filling leaves
  abbrev pub FillLeaves : List ℕ → Result (Unit {0}) StepErr → Past → Past → Type 0
  FillLeaves bytes (Ok u) = Ran rules (λ steps. Create route.draft ∷ steps ≡ draft_plan route.draft bytes) (IsWritten bytes)
  FillLeaves bytes (Err e) = IsStoppedMade bytes e

  -- what its rename leaves
  abbrev pub MoveLeaves : List ℕ → Result Moved StepErr → Past → Past → Type 0
  MoveLeaves bytes (Ok Done) old new = Ran rules (Exactly (move_plan route.draft route.target)) (Publishes rules.reading route bytes old) old new
  MoveLeaves bytes (Ok There) old new = Ran rules (Exactly []) (IsBeaten bytes) old new
  MoveLeaves bytes (Err e) old new = IsStoppedWritten bytes e old new

  -- what its removal leaves
  abbrev pub DropLeaves : List ℕ → Result (Unit {0}) StepErr → Past → Past → Type 0
  DropLeaves bytes (Ok u) = Ran rules (Exactly (drop_plan route.draft)) (InState (IsLost route.target))
  DropLeaves bytes (Err e) = IsStoppedWritten bytes e

  -- what a publish leaves
  abbrev pub PublishLeaves : List ℕ → Result (Unit {0}) PublishErr → Past → Past → Type 0
  PublishLeaves bytes (Ok u) old new = Ran rules (Exactly (publish_plan route.draft route.target bytes)) (Publishes rules.reading route bytes old) old new
  PublishLeaves bytes (Err NameTaken) old new = Ran rules (Exactly []) (IsNameTaken route) old new
  PublishLeaves bytes (Err Contended) old new = Ran rules (Exactly (lost_plan route.draft bytes)) (InState (IsLost route.target)) old new
  PublishLeaves bytes (Err (Stopped e)) old new = IsStopped bytes e old new
