-- Which steps of ours a publish takes. The draft is the new metadata file under a name of its own, the target the next version place.
use Rattle.std.specs.Prelude.{◌≡◌, ◌⊎◌, ℕ, List, [], ◌∷◌, ◌++◌, take}
use Rattle.ice_store.specs.Places.{Parts}
use Rattle.ice_store.specs.declared.history.Past.{Past}
use Rattle.ice_store.specs.declared.history.Step.{Step}
use Rattle.ice_store.specs.declared.history.Step.TheVariants.{Create, Append, Seal, Rename, Remove, SyncNames}
use Rattle.ice_store.specs.declared.store.StoreErr.{StoreErr}
use Rattle.ice_store.specs.declared.store.StoreErr.TheVariants.{Failed, Memory}
use Rattle.commit_publish.specs.declared.steps.PublishCall.{PublishCall}
use Rattle.commit_publish.specs.declared.steps.PublishCall.TheVariants as calls

-- nothing is said of a history
abbrev pub Anything : Past → Type 0
Anything past = Unit {0}

-- exactly these steps
abbrev pub Exactly : List Step → List Step → Type 0
Exactly plan steps = steps ≡ plan

-- this holds of the steps with these before them
abbrev pub Behind : List Step → (List Step → Type 0) → List Step → Type 0
Behind before P steps = P (before ++ steps)

-- the steps that create a draft, write it, seal it, and make its name durable
abbrev pub draft_plan : Parts → List ℕ → List Step
draft_plan draft bytes = Create draft ∷ Append draft bytes ∷ Seal draft ∷ SyncNames ∷ []

-- the steps that make it a version
abbrev pub move_plan : Parts → Parts → List Step
move_plan draft target = Rename draft target ∷ SyncNames ∷ []

-- the steps that remove it
abbrev pub drop_plan : Parts → List Step
drop_plan draft = Remove draft ∷ SyncNames ∷ []

-- all steps of a publish
abbrev pub publish_plan : Parts → Parts → List ℕ → List Step
publish_plan draft target bytes = draft_plan draft bytes ++ move_plan draft target

-- all steps of one whose rename met a taken target
abbrev pub lost_plan : Parts → List ℕ → List Step
lost_plan draft bytes = draft_plan draft bytes ++ drop_plan draft

-- the pieces of a publish: they create the draft, fill it, rename it, and remove it where the target is taken
pub data Piece : Type 0 where
  Make : Piece
  Fill : Piece
  Move : Piece
  Drop : Piece

-- the piece that a call belongs to
abbrev pub piece_of : PublishCall → Piece
piece_of calls.Create = Make
piece_of calls.Append = Fill
piece_of calls.Seal = Fill
piece_of calls.SyncDraft = Fill
piece_of calls.Rename = Move
piece_of calls.SyncRename = Move
piece_of calls.Remove = Drop
piece_of calls.SyncRemoval = Drop

-- a call of the piece that creates the draft
abbrev pub IsMaking : PublishCall → Type 0
IsMaking call = piece_of call ≡ Make

-- a call of the one that fills it
abbrev pub IsFilling : PublishCall → Type 0
IsFilling call = piece_of call ≡ Fill

-- a call of the one that renames it
abbrev pub IsMoving : PublishCall → Type 0
IsMoving call = piece_of call ≡ Move

-- a call of the one that removes it
abbrev pub IsDropping : PublishCall → Type 0
IsDropping call = piece_of call ≡ Drop

-- the step that a call of a publish asks for
abbrev pub step_of : Parts → Parts → List ℕ → PublishCall → Step
step_of draft target bytes calls.Create = Create draft
step_of draft target bytes calls.Append = Append draft bytes
step_of draft target bytes calls.Seal = Seal draft
step_of draft target bytes calls.SyncDraft = SyncNames
step_of draft target bytes calls.Rename = Rename draft target
step_of draft target bytes calls.SyncRename = SyncNames
step_of draft target bytes calls.Remove = Remove draft
step_of draft target bytes calls.SyncRemoval = SyncNames

-- the steps before it
abbrev pub steps_before : Parts → Parts → List ℕ → PublishCall → List Step
steps_before draft target bytes calls.Create = []
steps_before draft target bytes calls.Append = Create draft ∷ []
steps_before draft target bytes calls.Seal = Create draft ∷ Append draft bytes ∷ []
steps_before draft target bytes calls.SyncDraft = Create draft ∷ Append draft bytes ∷ Seal draft ∷ []
steps_before draft target bytes calls.Rename = draft_plan draft bytes
steps_before draft target bytes calls.SyncRename = draft_plan draft bytes ++ Rename draft target ∷ []
steps_before draft target bytes calls.Remove = draft_plan draft bytes
steps_before draft target bytes calls.SyncRemoval = draft_plan draft bytes ++ Remove draft ∷ []

-- what a failed call took: nothing or its step, of an append with any first part of its bytes
abbrev pub IsTakenOf : Step → List Step → Type 0
IsTakenOf (Create place) taken = (taken ≡ []) ⊎ (taken ≡ Create place ∷ [])
IsTakenOf (Append place bytes) taken = (taken ≡ []) ⊎ ((n : ℕ) × (taken ≡ Append place (take n bytes) ∷ []))
IsTakenOf (Seal place) taken = (taken ≡ []) ⊎ (taken ≡ Seal place ∷ [])
IsTakenOf (Rename from to) taken = (taken ≡ []) ⊎ (taken ≡ Rename from to ∷ [])
IsTakenOf (Remove place) taken = (taken ≡ []) ⊎ (taken ≡ Remove place ∷ [])
IsTakenOf SyncNames taken = (taken ≡ []) ⊎ (taken ≡ SyncNames ∷ [])

-- the steps of a publish that stopped at this call: those before it, and what it took where it failed; a call that lacked memory took none
abbrev pub StopsAt : Parts → Parts → List ℕ → PublishCall → StoreErr → List Step → Type 0
StopsAt draft target bytes call Failed steps = (taken : List Step) × IsTakenOf (step_of draft target bytes call) taken × (steps ≡ steps_before draft target bytes call ++ taken)
StopsAt draft target bytes call Memory steps = steps ≡ steps_before draft target bytes call
