-- Laws of a publish: its pieces one after another.
use Rattle.std.proofs.Common.{◌≡◌, List, [], ◌∷◌, ◌++◌, true, false, Ok, Err, Option, refl, ap, ◌∙◌, subst}
use Rattle.ice_store.specs.declared.history.Failure.{Failure}
use Rattle.ice_store.specs.declared.history.Past.{Past}
use Rattle.ice_store.specs.declared.history.Step.{Step}
use Rattle.ice_store.specs.declared.history.Step.TheVariants.{Create}
use Rattle.ice_store.specs.declared.history.StoreCall.{StoreCall}
use Rattle.ice_store.specs.declared.store.StoreErr.{StoreErr}
use Rattle.ice_store.specs.declared.store.StoreErr.TheVariants.{Memory}
use Rattle.ice_store.specs.declared.store.Moved.TheVariants.{Done, Exists as There}
use Rattle.commit_history.proofs.Running.{ran_then}
use Rattle.commit_publish.specs.Logs.{MarksBy}
use Rattle.commit_publish.specs.Stages.{Creating, AtRest}
use Rattle.commit_publish.specs.Steps.{Exactly, Anything, StopsAt, draft_plan, move_plan, drop_plan}
use Rattle.commit_publish.specs.Leaves.{IsStopped, IsStoppedMade, IsStoppedWritten, FillLeaves, MoveLeaves, DropLeaves, PublishLeaves}
use Rattle.commit_publish.specs.declared.steps.PublishCall.TheVariants as asked
use Rattle.commit_publish.specs.declared.steps.StepErr.{StepErr}
use Rattle.commit_publish.specs.declared.publish.PublishErr.TheVariants.{Contended, Stopped}
use Rattle.commit_publish.proofs.CallLaws as calls
use Rattle.commit_publish.proofs.CallLaws.{Work, RR, K0, KD, KT, KL}

-- from an earlier mark that stayed
pub marks_from : (cause : StoreErr) (call : StoreCall) (before mid now : Option Failure) (told : Option Past) → mid ≡ before → MarksBy cause call mid now told → MarksBy cause call before now told
marks_from cause call before mid now told e = subst (λ (m : Option Failure). MarksBy cause call m now told) e

module _ (x : Work) where
  -- the draft is created
  abbrev pub Made : Past → Past → Type 0
  Made = RR x (Exactly (Create x.route.draft ∷ [])) (KD x Creating false [])

  -- the draft is written
  abbrev pub Written : Past → Past → Type 0
  Written = RR x (Exactly (draft_plan x.route.draft x.bytes)) (KD x AtRest true x.bytes)

  -- so is it, and the target is taken
  abbrev pub Beaten : Past → Past → Type 0
  Beaten = RR x (Exactly (draft_plan x.route.draft x.bytes)) (KT x)

  -- nothing was done
  pub unbegun : (old : Past) → K0 x old → PublishLeaves x.rules x.route x.bytes (Err (Stopped (record { call = asked.Create; cause = Memory }))) old old
  unbegun old here = calls.stops x x.bytes [] [] asked.Create refl (K0 x) old old Memory (calls.starts x (K0 x) old here)

  module _ (old mid new : Past) where
    pub unfilled : (e : StepErr) → Made old mid → IsStoppedMade x.rules x.route x.bytes e mid new → IsStopped x.rules x.route x.bytes e old new
    unfilled e = calls.join_behind x old mid new (Create x.route.draft ∷ []) (StopsAt x.route.draft x.route.target x.bytes e.call e.cause) (KD x Creating false []) Anything

    pub written : Made old mid → FillLeaves x.rules x.route x.bytes (Ok tt) mid new → Written old new
    written = ran_then x.rules (Exactly (Create x.route.draft ∷ [])) (λ steps. Create x.route.draft ∷ steps ≡ draft_plan x.route.draft x.bytes) (Exactly (draft_plan x.route.draft x.bytes)) (KD x Creating false []) (KD x AtRest true x.bytes)
        (λ l k e f. ap (λ (z : List Step). z ++ k) e ∙ f) old mid new

    pub unmoved : (e : StepErr) → Written old mid → IsStoppedWritten x.rules x.route x.bytes e mid new → IsStopped x.rules x.route x.bytes e old new
    unmoved e = calls.join_behind x old mid new (draft_plan x.route.draft x.bytes) (StopsAt x.route.draft x.route.target x.bytes e.call e.cause) (KD x AtRest true x.bytes) Anything

    pub published : Written old mid → MoveLeaves x.rules x.route x.bytes (Ok Done) mid new → PublishLeaves x.rules x.route x.bytes (Ok tt) old new
    published = calls.join_published x old mid new (draft_plan x.route.draft x.bytes) (move_plan x.route.draft x.route.target) (KD x AtRest true x.bytes)

    pub beaten : Written old mid → MoveLeaves x.rules x.route x.bytes (Ok There) mid new → Beaten old new
    beaten = calls.join_exact x old mid new (draft_plan x.route.draft x.bytes) [] (KD x AtRest true x.bytes) (KT x)

    pub lost : Beaten old mid → DropLeaves x.rules x.route x.bytes (Ok tt) mid new → PublishLeaves x.rules x.route x.bytes (Err Contended) old new
    lost = calls.join_exact x old mid new (draft_plan x.route.draft x.bytes) (drop_plan x.route.draft) (KT x) (KL x)

    pub undropped : (e : StepErr) → Beaten old mid → IsStoppedWritten x.rules x.route x.bytes e mid new → IsStopped x.rules x.route x.bytes e old new
    undropped e = calls.join_behind x old mid new (draft_plan x.route.draft x.bytes) (StopsAt x.route.draft x.route.target x.bytes e.call e.cause) (KT x) Anything
