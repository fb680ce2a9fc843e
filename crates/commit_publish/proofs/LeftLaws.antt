-- Which places a publish leaves.
use Rattle.std.proofs.Common.{◌≡◌, inl, inr, ℕ, Bool, not, List, [], ◌∷◌, ◌++◌, take, length, Option, Some, None, Result, Ok, Err, refl, sym, ap, ◌∙◌, subst, append-nil, if◌then◌else◌, ◌≤◌, arith}
use Rattle.ice_store.specs.Places.{Parts}
use Rattle.ice_store.specs.Calls.{Rose, failure_of}
use Rattle.ice_store.specs.Others.{WhereTold}
use Rattle.ice_store.specs.Since.{Since}
use Rattle.ice_store.proofs.FileLaws.{same_itself}
use Rattle.ice_store.proofs.SinceLaws.{since_turned}
use Rattle.ice_store.specs.declared.history.Failure.{Failure}
use Rattle.ice_store.specs.declared.history.Past.{Past}
use Rattle.ice_store.specs.declared.history.Step.{Step}
use Rattle.ice_store.specs.declared.history.Step.TheVariants.{Create, Append, Seal, Rename, Remove, SyncNames}
use Rattle.ice_store.specs.declared.history.StoreCall.TheVariants.{Take}
use Rattle.ice_store.specs.declared.store.StoreErr.{StoreErr}
use Rattle.ice_store.specs.declared.store.StoreErr.TheVariants.{Failed, Memory}
use Rattle.commit_publish.specs.Left.{without_place, made_by, IsLeft, Leaves}
use Rattle.commit_publish.specs.Leaves.{PublishLeaves}
use Rattle.commit_publish.specs.Logs.{CountsBy, MarksBy, PublishCounts, PublishMarks, published_by, left_at, left_by}
use Rattle.commit_publish.specs.Stages.{IsBased, IsLost, IsNameTaken, InState, IsPublished}
use Rattle.commit_publish.specs.Steps.{Anything, Exactly, StopsAt, IsTakenOf, step_of, steps_before, publish_plan, lost_plan}
use Rattle.commit_publish.specs.declared.steps.PublishCall.{PublishCall}
use Rattle.commit_publish.specs.declared.steps.PublishCall.TheVariants as asked
use Rattle.commit_publish.specs.declared.publish.PublishErr.{PublishErr}
use Rattle.commit_publish.specs.declared.publish.PublishErr.TheVariants.{NameTaken, Contended, Stopped}
use Rattle.commit_publish.proofs.CallLaws.{Work, RR}

-- with a fact of the exit
since_at : (o a : Option Past) (C : Past → Type 0) (R T : Past → Past → Type 0) → WhereTold a C → Since o a R → ((old at : Past) → C at → R old at → T old at) → Since o a T
since_at None a C R T told since turn = since
since_at (Some old) a C R T told since turn = record { now = since.now; is = since.is; holds = turn old since.now (subst (λ (q : Option Past). WhereTold q C) since.is told) since.holds }

pub without_only : (place : Parts) → without_place (place ∷ []) place ≡ []
without_only place = ap (λ (b : Bool). if not b then place ∷ [] else []) (same_itself place)

-- a count that rose since a later moment rose
pub rose_on : (a b c : ℕ) → a ≤ b → Rose b c → Rose a c
rose_on a b c le rose = omega (arith, le, rose)

pub exact : (Risen : Type 0) (mark : Option Failure) (count : ℕ) (steps : List Step) (left : List Parts) → left ≡ made_by count [] steps → IsLeft Risen mark count [] steps left
exact Risen mark count steps left is = record { more = []; is = is ∙ sym (append-nil (made_by count [] steps)); cause = inl refl }

module _ (draft target : Parts) (bytes : List ℕ) (Risen : Type 0) (mark : Option Failure) where
  abbrev pub LeftFailed : PublishCall → List Step → Type 0
  LeftFailed call taken = IsLeft Risen mark 0 [] (steps_before draft target bytes call ++ taken) (left_at draft target call Failed)

  -- the places are those that the steps made
  made : (call : PublishCall) (taken : List Step) → left_at draft target call Failed ≡ made_by 0 [] (steps_before draft target bytes call ++ taken) → LeftFailed call taken
  made call taken = exact Risen mark 0 (steps_before draft target bytes call ++ taken) (left_at draft target call Failed)

  alike : (call : PublishCall) (l k : List Step) → l ≡ k → LeftFailed call k → LeftFailed call l
  alike call l k e = subst (λ (z : List Step). LeftFailed call z) (sym e)

  module _ (risen : Risen) (past : Past) where
    -- by the call that failed, and what it took
    pub failed_left : (call : PublishCall) (taken : List Step) → mark ≡ Some (failure_of (Take (step_of draft target bytes call)) past) → IsTakenOf (step_of draft target bytes call) taken → LeftFailed call taken
    failed_left asked.Create taken is (inl e) = alike asked.Create taken [] e (record { more = draft ∷ []; is = refl; cause = inr (risen, (failure_of (Take (Create draft)) past, is, refl)) })
    failed_left asked.Create taken is (inr e) = alike asked.Create taken (Create draft ∷ []) e (made asked.Create (Create draft ∷ []) refl)
    failed_left asked.Append taken is (inl e) = alike asked.Append taken [] e (made asked.Append [] refl)
    failed_left asked.Append taken is (inr e) = alike asked.Append taken (Append draft (take e.0 bytes) ∷ []) e.1 (made asked.Append (Append draft (take e.0 bytes) ∷ []) refl)
    failed_left asked.Seal taken is (inl e) = alike asked.Seal taken [] e (made asked.Seal [] refl)
    failed_left asked.Seal taken is (inr e) = alike asked.Seal taken (Seal draft ∷ []) e (made asked.Seal (Seal draft ∷ []) refl)
    failed_left asked.SyncDraft taken is (inl e) = alike asked.SyncDraft taken [] e (made asked.SyncDraft [] refl)
    failed_left asked.SyncDraft taken is (inr e) = alike asked.SyncDraft taken (SyncNames ∷ []) e (made asked.SyncDraft (SyncNames ∷ []) refl)
    failed_left asked.Rename taken is (inl e) = alike asked.Rename taken [] e (record { more = target ∷ []; is = refl; cause = inr (risen, (failure_of (Take (Rename draft target)) past, is, refl)) })
    failed_left asked.Rename taken is (inr e) = alike asked.Rename taken (Rename draft target ∷ []) e (record { more = target ∷ []; is = refl; cause = inr (risen, (failure_of (Take (Rename draft target)) past, is, refl)) })
    failed_left asked.SyncRename taken is (inl e) = alike asked.SyncRename taken [] e (made asked.SyncRename [] refl)
    failed_left asked.SyncRename taken is (inr e) = alike asked.SyncRename taken (SyncNames ∷ []) e (made asked.SyncRename (SyncNames ∷ []) refl)
    failed_left asked.Remove taken is (inl e) = alike asked.Remove taken [] e (made asked.Remove [] refl)
    failed_left asked.Remove taken is (inr e) = alike asked.Remove taken (Remove draft ∷ []) e
        (record { more = draft ∷ []; is = ap (λ (l : List Parts). l ++ draft ∷ []) (sym (without_only draft)); cause = inr (risen, (failure_of (Take (Remove draft)) past, is, refl)) })
    failed_left asked.SyncRemoval taken is (inl e) = alike asked.SyncRemoval taken [] e (made asked.SyncRemoval [] (sym (without_only draft)))
    failed_left asked.SyncRemoval taken is (inr e) = alike asked.SyncRemoval taken (SyncNames ∷ []) e (made asked.SyncRemoval (SyncNames ∷ []) (sym (without_only draft)))

  -- where memory lacked
  pub unmade_at : (call : PublishCall) → left_at draft target call Memory ≡ made_by 0 [] (steps_before draft target bytes call)
  unmade_at asked.Create = refl
  unmade_at asked.Append = refl
  unmade_at asked.Seal = refl
  unmade_at asked.SyncDraft = refl
  unmade_at asked.Rename = refl
  unmade_at asked.SyncRename = refl
  unmade_at asked.Remove = refl
  unmade_at asked.SyncRemoval = sym (without_only draft)

-- From runs.

module _ (x : Work) (before now : ℕ) (had has : Option Failure) (o a : Option Past) where
  abbrev Left : ℕ → List Parts → Past → Past → Type 0
  Left count left old new = Leaves (Rose before now) has count [] left old new

  by_run : (M : List Step → Type 0) (K : Past → Type 0) (count : ℕ) (left : List Parts) → ((steps : List Step) → M steps → IsLeft (Rose before now) has count [] steps left) → (old new : Past) → RR x M K old new → Left count left old new
  by_run M K count left by old new run = record { events = run.events; is = run.is; places = by _ run.made }

  by_plan : (plan : List Step) (K : Past → Type 0) (count : ℕ) (left : List Parts) → left ≡ made_by count [] plan → (old new : Past) → RR x (Exactly plan) K old new → Left count left old new
  by_plan plan K count left is = by_run (Exactly plan) K count left (λ steps e. exact (Rose before now) has count steps left (is ∙ ap (made_by count []) (sym e)))

  stopped_left : (call : PublishCall) (cause : StoreErr) → CountsBy cause before now → MarksBy cause (Take (step_of x.route.draft x.route.target x.bytes call)) had has a
      → Since o a (RR x (StopsAt x.route.draft x.route.target x.bytes call cause) Anything) → Since o a (Left 0 (left_at x.route.draft x.route.target call cause))
  stopped_left call Failed rose marked told = since_at o a (λ past. has ≡ Some (failure_of (Take (step_of x.route.draft x.route.target x.bytes call)) past)) (RR x (StopsAt x.route.draft x.route.target x.bytes call Failed) Anything)
      (Left 0 (left_at x.route.draft x.route.target call Failed)) marked told
      (λ old at is. by_run (StopsAt x.route.draft x.route.target x.bytes call Failed) Anything 0 (left_at x.route.draft x.route.target call Failed)
      (λ steps stop. subst (λ (l : List Step). IsLeft (Rose before now) has 0 [] l (left_at x.route.draft x.route.target call Failed)) (sym stop.2)
      (failed_left x.route.draft x.route.target x.bytes (Rose before now) has rose at call stop.0 is stop.1)) old at)
  stopped_left call Memory kept marked told = since_turned o a (RR x (StopsAt x.route.draft x.route.target x.bytes call Memory) Anything) (Left 0 (left_at x.route.draft x.route.target call Memory)) told
      (by_plan (steps_before x.route.draft x.route.target x.bytes call) Anything 0 (left_at x.route.draft x.route.target call Memory) (unmade_at x.route.draft x.route.target x.bytes (Rose before now) has call))

  pub publish_left : (version : ℕ) (r : Result (Unit {0}) PublishErr) → PublishCounts r before now → PublishMarks x.route.draft x.route.target x.bytes r had has a
      → Since o a (PublishLeaves x.rules x.route x.bytes r) → Since o a (Left (length (published_by version r)) (left_by x.route.draft x.route.target r))
  publish_left version (Ok u) counts marks told = since_turned o a (PublishLeaves x.rules x.route x.bytes (Ok u)) (Left 1 []) told
      (λ old new. by_plan (publish_plan x.route.draft x.route.target x.bytes) (IsPublished x.rules.reading.number x.route.text x.bytes (IsBased x.rules.reading x.route old)) 1 [] (sym (without_only x.route.draft)) old new)
  publish_left version (Err NameTaken) counts marks told = since_turned o a (PublishLeaves x.rules x.route x.bytes (Err NameTaken)) (Left 0 []) told (by_plan [] (IsNameTaken x.route) 0 [] refl)
  publish_left version (Err Contended) counts marks told = since_turned o a (PublishLeaves x.rules x.route x.bytes (Err Contended)) (Left 0 []) told
      (by_plan (lost_plan x.route.draft x.bytes) (InState (IsLost x.route.target)) 0 [] (sym (without_only x.route.draft)))
  publish_left version (Err (Stopped e)) counts marks told = stopped_left e.call e.cause counts marks told
