-- Which places the steps of work leave.
use Rattle.std.proofs.Common.{◌≡◌, inl, inr, ℕ, suc, Bool, true, false, List, [], ◌∷◌, ◌++◌, length, Option, refl, sym, ap, subst}
use Rattle.serde_json.specs.Data.{Data}
use Rattle.ice_store.specs.Places.{Parts}
use Rattle.ice_store.specs.Calls.{Rose}
use Rattle.ice_store.specs.declared.history.Failure.{Failure}
use Rattle.ice_store.specs.declared.history.Held.{Held}
use Rattle.ice_store.specs.declared.history.Past.{Past}
use Rattle.ice_store.specs.declared.history.Step.{Step}
use Rattle.ice_store.specs.declared.store.StoreErr.TheVariants.{Failed, Memory}
use Rattle.commit_publish.specs.Kinds as kinds
use Rattle.commit_publish.specs.Kinds.{Kind, Counts, Failing}
use Rattle.commit_publish.specs.Left.{IsLeft, made_by}
use Rattle.commit_publish.specs.Logs.{left_at}
use Rattle.commit_publish.specs.Steps.{steps_before, publish_plan, lost_plan}
use Rattle.commit_publish.proofs.LeftLaws.{exact, failed_left, unmade_at, without_only}
use Rattle.commit_protocol.specs.Ends.{IsFailed}
use Rattle.commit_protocol.specs.Verdicts.{IsTable}
use Rattle.upkeep_top.proofs.VersionLaws.{IsTold, ThePublish, the_draft, the_target, Took}

-- one publish leaves no place, where its version is a committed one
pub one_publish : (draft target : Parts) (bytes : List ℕ) (n : ℕ) (rest : List Step) → made_by (suc n) [] (publish_plan draft target bytes ++ rest) ≡ made_by n [] rest
one_publish draft target bytes n rest = ap (λ (l : List Parts). made_by n l rest) (without_only draft)

module _ (successor : Data → Data → Type 0) (Drawn : ℕ → Type 0) (table : Parts) (now : ℕ) (files : List Held) (before after : ℕ) (mark : Option Failure) (past : Past) where
  abbrev pub Did : Kind → List ℕ → List Step → List Parts → Type 0
  Did = Took successor Drawn table now files (Failing mark past)

  abbrev pub Left : ℕ → List Step → List Parts → Type 0
  Left count steps left = IsLeft (Rose before after) mark count [] steps left

  abbrev draft : ThePublish successor Drawn table now files → Parts
  draft p = the_draft successor Drawn table now files p

  abbrev target : ThePublish successor Drawn table now files → Parts
  target p = the_target successor Drawn table now files p

  alike : (count : ℕ) (steps steps' : List Step) (left left' : List Parts) → steps ≡ steps' → left ≡ left' → Left count steps' left' → Left count steps left
  alike count steps steps' left left' same places l = subst (λ (x : List Step). Left count x left) (sym same) (subst (λ (x : List Parts). Left count steps' x) (sym places) l)

  nothing : (steps : List Step) (left : List Parts) → steps ≡ [] → left ≡ [] → Left 0 steps left
  nothing steps left none empty = alike 0 steps [] left [] none empty (exact (Rose before after) mark 0 [] [] refl)

  failed : (renaming : Bool) (p : ThePublish successor Drawn table now files) (steps : List Step) (left : List Parts) → Rose before after
      → IsFailed successor Drawn table now (IsTable table files) (Failing mark past) renaming p steps left → Left 0 steps left
  failed renaming p steps left rose f =
      let stop = f.stopped.steps_are in
      alike 0 steps (steps_before (draft p) (target p) p.bytes f.call ++ stop.0) left (left_at (draft p) (target p) f.call Failed) stop.2 f.stopped.left_is
      (failed_left (draft p) (target p) p.bytes (Rose before after) mark rose past f.call stop.0 f.failed stop.1)

  -- where no version is told
  kind_left : (kind : Kind) (steps : List Step) (left : List Parts) → Counts kind before after → Did kind [] steps left → Left 0 steps left
  kind_left kinds.Done steps left counts t = nothing steps left t.0 t.1
  kind_left kinds.Told steps left counts t = nothing steps left t.1.0 t.1.1
  kind_left (kinds.Fault place) steps left counts (none, inl t) = nothing steps left t.1.0 t.1.1
  kind_left (kinds.Fault place) steps left counts (none, inr t) = failed false t.0 steps left counts t.1
  kind_left (kinds.Unknown version) steps left counts (none, t) = failed true t.0 steps left counts t.2
  kind_left (kinds.Lost version) steps left counts t =
      let p = t.1.publish in
      alike 0 steps (lost_plan (draft p) p.bytes) left [] t.1.steps_are t.2 (exact (Rose before after) mark 0 (lost_plan (draft p) p.bytes) [] (sym (without_only (draft p))))
  kind_left kinds.Memory steps left counts (none, inl t) = nothing steps left t.0 t.1
  kind_left kinds.Memory steps left counts (none, inr t) =
      let p = t.0 in
      alike 0 steps (steps_before (draft p) (target p) p.bytes t.1) left (left_at (draft p) (target p) t.1 Memory) t.2.steps_are t.2.left_is
      (exact (Rose before after) mark 0 (steps_before (draft p) (target p) p.bytes t.1) (left_at (draft p) (target p) t.1 Memory) (unmade_at (draft p) (target p) p.bytes (Rose before after) mark t.1))

  -- where work is done
  done_left : (versions : List ℕ) (steps : List Step) (left : List Parts) → Did kinds.Done versions steps left → Left (length versions) steps left
  done_left [] steps left t = nothing steps left t.0 t.1
  done_left (v ∷ versions) steps left t =
      let b = t.1 in
      let p = b.publish in
      let plan = publish_plan (draft p) (target p) p.bytes in
      subst (λ (vs : List ℕ). Left (length (v ∷ vs)) steps left) (sym t.0)
      (alike 1 steps plan left [] b.steps_are t.2 (exact (Rose before after) mark 1 plan [] (sym (without_only (draft p)))))

  pub took_left : (kind : Kind) (versions : List ℕ) (steps : List Step) (left : List Parts) → IsTold kind versions → Counts kind before after → Did kind versions steps left → Left (length versions) steps left
  took_left kind versions steps left (inl done) counts t = done_left versions steps left (subst (λ (k : Kind). Did k versions steps left) done t)
  took_left kind versions steps left (inr none) counts t =
      subst (λ (vs : List ℕ). Left (length vs) steps left) (sym none) (kind_left kind steps left counts (subst (λ (vs : List ℕ). Did kind vs steps left) none t))
