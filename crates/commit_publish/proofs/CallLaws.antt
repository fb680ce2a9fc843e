-- What each store call of an attempt leads to.
use Rattle.std.proofs.Common.{◌≡◌, inl, inr, ℕ, Bool, true, false, List, [], ◌∷◌, ◌++◌, take, Option, Some, Ok, Err, is_some, append_assoc, append-nil, refl, sym, ap, ◌∙◌, subst}
use Rattle.ice_store.specs.Places.{Parts}
use Rattle.ice_store.specs.Files.{is_named}
use Rattle.ice_store.specs.History.{Disk, replay, later}
use Rattle.ice_store.specs.Others.{Acted, Answered, IsOurs}
use Rattle.ice_store.specs.Calls.{IsUnmoved, IsOpen, IsSettled, CanRename, CreateAnswer, AppendAnswer, PlainAnswer, RenameAnswer, RemoveAnswer}
use Rattle.ice_store.proofs.OthersLaws.{later-nil}
use Rattle.ice_store.specs.declared.history.NameChange.{NameChange}
use Rattle.ice_store.specs.declared.history.Event.{Event}
use Rattle.ice_store.specs.declared.history.Held.{Held}
use Rattle.ice_store.specs.declared.history.Past.{Past}
use Rattle.ice_store.specs.declared.history.Step.{Step}
use Rattle.ice_store.specs.declared.history.Step.TheVariants.{Create, Append, Seal, Rename, Remove, SyncNames}
use Rattle.ice_store.specs.declared.store.StoreErr.{StoreErr}
use Rattle.ice_store.specs.declared.store.StoreErr.TheVariants.{Failed, Memory}
use Rattle.ice_store.specs.declared.store.Made.{Made}
use Rattle.ice_store.specs.declared.store.Made.TheVariants.{New, Exists}
use Rattle.commit_publish.specs.Leaves.{MakeLeaves}
use Rattle.commit_publish.specs.declared.steps.Route.{Route}
use Rattle.commit_publish.specs.declared.steps.PublishCall.{PublishCall}
use Rattle.commit_publish.specs.declared.steps.PublishCall.TheVariants as asked
use Rattle.ice_store.specs.declared.store.Moved.TheVariants.{Done, Exists as There}
use Rattle.ice_store.specs.declared.store.Gone.{Gone}
use Rattle.ice_store.specs.declared.store.Gone.TheVariants.{Done as Away, Absent}
use Rattle.commit_history.specs.Readings.{Rules, IsLocal}
use Rattle.commit_history.specs.Tables.{InReach, IsNumbering}
use Rattle.commit_history.specs.Commits.{standing, standing_after}
use Rattle.commit_history.specs.Steady.{Steady, IsSteady}
use Rattle.commit_history.specs.Mannered.{IsMannered}
use Rattle.commit_history.specs.Runs.{Ran, IsSafe, IsProperStep}
use Rattle.commit_history.proofs.Stepping.{us}
use Rattle.commit_history.proofs.Running.{Kept, along_last, ran_then, ran_turned, begins, others_then, reached_run, new_is, idle, does}
use Rattle.commit_publish.specs.Stages.{Creating, AtRest, Aim, Stage, NoFile, HasDraft, IsTaken, IsLost, InState, IsBased, IsRenamed, IsPublished}
use Rattle.commit_publish.specs.Steps.{Exactly, Anything, Behind, StopsAt, IsTakenOf, step_of, steps_before, draft_plan}
use Rattle.commit_publish.proofs.StageLaws as stages

-- what an attempt works on
pub record Work : Type 1 where
  pub rules : Rules
  pub ruled : IsNumbering rules.reading.number
  pub localized : IsLocal rules.reading
  pub mannered : IsMannered rules
  pub route : Route
  pub bytes : List ℕ
  pub aim : Aim rules.reading.number route

module _ (x : Work) where
  abbrev pub RR : (List Step → Type 0) → (Past → Type 0) → Past → Past → Type 0
  RR = Ran x.rules

  abbrev pub K0 : Past → Type 0
  K0 = InState (Stage x.rules.reading.number x.route Creating NoFile)

  abbrev pub KD : (List NameChange → Type 0) → Bool → List ℕ → Past → Type 0
  KD Pending s b = InState (Stage x.rules.reading.number x.route Pending (HasDraft x.route.draft s b))

  abbrev pub KT : Past → Type 0
  KT = InState (Stage x.rules.reading.number x.route AtRest (IsTaken x.route x.bytes))

  abbrev pub St : Past → Type 0
  St past = IsSteady x.rules.reading past

  abbrev pub Bs : Past → Type 0
  Bs = IsBased x.rules.reading x.route

  abbrev pub Kp : (Past → Type 0) → Type 0
  Kp = Kept x.rules x.ruled x.localized x.mannered

  k0 : Kp K0
  k0 = stages.k0 x.rules x.ruled x.localized x.mannered x.route x.bytes x.aim

  kd : (s : Bool) (b : List ℕ) → Kp (KD Creating s b)
  kd = stages.kd x.rules x.ruled x.localized x.mannered x.route x.bytes x.aim

  kr : (s : Bool) (b : List ℕ) → Kp (KD AtRest s b)
  kr = stages.kr x.rules x.ruled x.localized x.mannered x.route x.bytes x.aim

  kt : Kp KT
  kt = stages.kt x.rules x.ruled x.localized x.mannered x.route x.bytes x.aim

  abbrev pub KN : Past → Type 0
  KN = InState (λ d. is_named d.files x.route.target ≡ true)

  abbrev pub KL : Past → Type 0
  KL = InState (IsLost x.route.target)

  kn : Kp KN
  kn = stages.kn x.rules x.ruled x.localized x.mannered x.route x.bytes x.aim

  ka : Kp Anything
  ka past step t may here = tt

  k_renamed : (A : Type 0) → Kp (IsRenamed x.rules.reading.number x.route.text x.bytes A)
  k_renamed = stages.k_renamed x.rules x.ruled x.localized x.mannered x.route x.bytes x.aim

  pub starts : (K : Past → Type 0) (old : Past) → K old → RR (Exactly []) K old old
  starts = begins x.rules x.ruled x.localized

  steady_of : (M : List Step → Type 0) (K : Past → Type 0) (old now : Past) → RR M K old now → St old → St now
  steady_of M K old now run steady = subst St (sym run.is) (along_last (IsSafe x.rules.reading) old run.events (run.safe steady)).steady

  based_of : (M : List Step → Type 0) (K : Past → Type 0) (old now : Past) → RR M K old now → Bs old → Bs now
  based_of M K old now run b = record { steady = steady_of M K old now run b.steady; bytes = run.stays x.route.base x.route.text x.aim.based b.bytes }

  -- Where a publish of these bytes stops.

  -- a part of it behind these steps
  abbrev pub Stopping : List ℕ → List Step → PublishCall → StoreErr → Past → Past → Type 0
  Stopping bytes before call cause = RR (Behind before (StopsAt x.route.draft x.route.target bytes call cause)) Anything

  takes_none : (step : Step) → IsTakenOf step []
  takes_none (Create p) = inl refl
  takes_none (Append p more) = inl refl
  takes_none (Seal p) = inl refl
  takes_none (Rename p q) = inl refl
  takes_none (Remove p) = inl refl
  takes_none SyncNames = inl refl

  module _ (bytes : List ℕ) (before done : List Step) (call : PublishCall) (is : steps_before x.route.draft x.route.target bytes call ≡ before ++ done) (K : Past → Type 0) (old new : Past) where
    reaches : (l : List Step) → l ≡ done → before ++ l ≡ steps_before x.route.draft x.route.target bytes call
    reaches l e = ap (λ (z : List Step). before ++ z) e ∙ sym is

    stops_at : (cause : StoreErr) (l : List Step) → l ≡ done → StopsAt x.route.draft x.route.target bytes call cause (before ++ l)
    stops_at Failed l e = ([], takes_none (step_of x.route.draft x.route.target bytes call), reaches l e ∙ sym (append-nil (steps_before x.route.draft x.route.target bytes call)))
    stops_at Memory l e = reaches l e

    -- the call took nothing
    pub stops : (cause : StoreErr) → RR (Exactly done) K old new → Stopping bytes before call cause old new
    stops cause run = ran_turned x.rules (Exactly done) (Behind before (StopsAt x.route.draft x.route.target bytes call cause)) K Anything old new run (stops_at cause) (λ here. tt)

    -- the failed call took these steps
    pub stops_with : (taken : List Step) → IsTakenOf (step_of x.route.draft x.route.target bytes call) taken → RR (Exactly (done ++ taken)) K old new → Stopping bytes before call Failed old new
    stops_with taken one run = ran_turned x.rules (Exactly (done ++ taken)) (Behind before (StopsAt x.route.draft x.route.target bytes call Failed)) K Anything old new run
        (λ l e. (taken, one, ap (λ (z : List Step). before ++ z) e ∙ sym (append_assoc before done taken) ∙ ap (λ (z : List Step). z ++ taken) (sym is))) (λ here. tt)

  -- one run after another
  module _ (old mid new : Past) where
    pub join_exact : (first second : List Step) (K L : Past → Type 0) → RR (Exactly first) K old mid → RR (Exactly second) L mid new → RR (Exactly (first ++ second)) L old new
    join_exact first second K L = ran_then x.rules (Exactly first) (Exactly second) (Exactly (first ++ second)) K L
        (λ l k e f. ap (λ (z : List Step). z ++ k) e ∙ ap (λ (z : List Step). first ++ z) f) old mid new

    pub join_behind : (first : List Step) (P : List Step → Type 0) (K L : Past → Type 0) → RR (Exactly first) K old mid → RR (Behind first P) L mid new → RR P L old new
    join_behind first P K L = ran_then x.rules (Exactly first) (Behind first P) P K L (λ l k e b. subst (λ (z : List Step). P (z ++ k)) (sym e) b) old mid new

    pub join_published : (first second : List Step) (K : Past → Type 0) → RR (Exactly first) K old mid → RR (Exactly second) (IsPublished x.rules.reading.number x.route.text x.bytes (Bs mid)) mid new → RR (Exactly (first ++ second)) (IsPublished x.rules.reading.number x.route.text x.bytes (Bs old)) old new
    join_published first second K a b = ran_turned x.rules (Exactly (first ++ second)) (Exactly (first ++ second)) (IsPublished x.rules.reading.number x.route.text x.bytes (Bs mid)) (IsPublished x.rules.reading.number x.route.text x.bytes (Bs old)) old new
        (join_exact first second K (IsPublished x.rules.reading.number x.route.text x.bytes (Bs mid)) a b) (λ l e. e) (λ c. (c.0, λ b. c.1 (based_of (Exactly first) K old mid a b)))

  module _ (old now new : Past) where
    -- one call from a stage
    module _ (done : List Step) (K : Past → Type 0) (kept : Kp K) (run : RR (Exactly done) K old now) (A : Disk → List Event → Type 0) (told : Answered x.rules.allows now (Some new) A) where
      still : told.ours ≡ [] → RR (Exactly done) K old new
      still = idle x.rules x.ruled x.localized x.mannered (Exactly done) K kept old now new run A told

      here : K told.reached
      here = (reached_run x.rules x.ruled x.localized x.mannered (Exactly done) K kept old now new run A told).stage

      was_based : Bs old → Bs told.reached
      was_based = based_of (Exactly done) K old told.reached (reached_run x.rules x.ruled x.localized x.mannered (Exactly done) K kept old now new run A told)

      same_at : told.ours ≡ [] → told.reached ≡ new
      same_at e = sym (new_is x.rules x.ruled x.localized x.mannered (Exactly done) K kept old now new run A told ∙ ap (λ (es : List Event). later told.reached es) e ∙ later-nil told.reached)

    does_step : (done : List Step) (K L : Past → Type 0) (kept : Kp K) (run : RR (Exactly done) K old now) (A : Disk → List Event → Type 0) (told : Answered x.rules.allows now (Some new) A) (step : Step) → IsOurs step told.ours
        → IsProperStep x.rules.reading.number step (replay told.reached)
        → ((t : ℕ) → St told.reached → Steady x.rules.reading (standing_after x.rules.reading.number (standing x.rules.reading.number told.reached) (us step t)))
        → ((t : ℕ) → L (later told.reached (us step t ∷ []))) → RR (Exactly (done ++ step ∷ [])) L old new
    does_step done K L kept run A told step one proper keeps there = does x.rules x.ruled x.localized x.mannered (Exactly done) K kept old now new run A told (Exactly (done ++ step ∷ [])) L step
        (λ l e. ap (λ (k : List Step). k ++ step ∷ []) e) one proper keeps there

    pub create_new : RR (Exactly []) K0 old now → Answered x.rules.allows now (Some new) (CreateAnswer x.route.draft (Ok New)) → RR (Exactly (Create x.route.draft ∷ [])) (KD Creating false []) old new
    create_new run told =
        let at = here [] K0 k0 run (CreateAnswer x.route.draft (Ok New)) told in
        does_step [] K0 (KD Creating false []) k0 run (CreateAnswer x.route.draft (Ok New)) told (Create x.route.draft) told.answer.1 (told.answer.0, x.aim.plain)
        (λ t. stages.create_keeps x.rules x.ruled x.localized x.mannered x.route x.bytes x.aim told.reached t told.answer.0 at)
        (λ t. stages.create_leads x.rules x.ruled x.localized x.mannered x.route x.bytes x.aim told.reached t told.answer.0 at)

    pub create_exists : RR (Exactly []) K0 old now → Answered x.rules.allows now (Some new) (CreateAnswer x.route.draft (Ok Exists)) → RR (Exactly []) (λ past. is_named (replay past).files x.route.draft ≡ true) old new
    create_exists run told =
        let there : is_named (replay new).files x.route.draft ≡ true = subst (λ (p : Past). is_named (replay p).files x.route.draft ≡ true) (same_at [] K0 k0 run (CreateAnswer x.route.draft (Ok Exists)) told told.answer.1) told.answer.0 in
        ran_turned x.rules (Exactly []) (Exactly []) K0 (λ past. is_named (replay past).files x.route.draft ≡ true) old new (still [] K0 k0 run (CreateAnswer x.route.draft (Ok Exists)) told told.answer.1) (λ l e. e) (λ k. there)

    pub create_ok : (made : Made) → RR (Exactly []) K0 old now → Answered x.rules.allows now (Some new) (CreateAnswer x.route.draft (Ok made)) → MakeLeaves x.rules x.route (Ok made) old new
    create_ok New run told = create_new run told
    create_ok Exists run told = create_exists run told

    pub create_err : (bytes : List ℕ) (e : StoreErr) → RR (Exactly []) K0 old now → Answered x.rules.allows now (Some new) (CreateAnswer x.route.draft (Err e)) → Stopping bytes [] asked.Create e old new
    create_err bytes Memory run told = stops bytes [] [] asked.Create refl K0 old new Memory (still [] K0 k0 run (CreateAnswer x.route.draft (Err Memory)) told told.answer)
    create_err bytes Failed run told = elim told.answer [
      | inl nothing ↦ stops bytes [] [] asked.Create refl K0 old new Failed (still [] K0 k0 run (CreateAnswer x.route.draft (Err Failed)) told nothing)
      | inr one ↦
          let at = here [] K0 k0 run (CreateAnswer x.route.draft (Err Failed)) told in
          stops_with bytes [] [] asked.Create refl (KD Creating false []) old new (Create x.route.draft ∷ []) (inr refl)
          (does_step [] K0 (KD Creating false []) k0 run (CreateAnswer x.route.draft (Err Failed)) told (Create x.route.draft) one.1 (one.0, x.aim.plain)
          (λ t. stages.create_keeps x.rules x.ruled x.localized x.mannered x.route x.bytes x.aim told.reached t one.0 at)
          (λ t. stages.create_leads x.rules x.ruled x.localized x.mannered x.route x.bytes x.aim told.reached t one.0 at))
    ]

    -- it may be appended to and sealed
    open_of : (s : Bool) (b : List ℕ) (past : Past) → s ≡ false → KD Creating s b past → IsOpen (replay past) x.route.draft × (x.rules.reading.number x.route.draft ≡ 0)
    open_of s b past raw at = ((at.file.file, at.file.stands, at.file.sealed_is ∙ raw, at.file.ours), x.aim.plain)

    module _ (run : RR (Exactly []) (KD Creating false []) old now) where
      appends : (more : List ℕ) (A : Disk → List Event → Type 0) (told : Answered x.rules.allows now (Some new) A) → IsOurs (Append x.route.draft more) told.ours → RR (Exactly (Append x.route.draft more ∷ [])) (KD Creating false more) old new
      appends more A told one =
          let at = here [] (KD Creating false []) (kd false []) run A told in
          does_step [] (KD Creating false []) (KD Creating false more) (kd false []) run A told (Append x.route.draft more) one (open_of false [] told.reached refl at)
          (λ t. stages.append_keeps x.rules x.ruled x.localized x.mannered x.route x.bytes x.aim told.reached t [] at more)
          (λ t. stages.append_leads x.rules x.ruled x.localized x.mannered x.route x.bytes x.aim told.reached t [] at more)

      pub append_ok : Answered x.rules.allows now (Some new) (AppendAnswer x.route.draft x.bytes (Ok tt)) → RR (Exactly (Append x.route.draft x.bytes ∷ [])) (KD Creating false x.bytes) old new
      append_ok told = appends x.bytes (AppendAnswer x.route.draft x.bytes (Ok tt)) told told.answer

      pub append_err : (e : StoreErr) → Answered x.rules.allows now (Some new) (AppendAnswer x.route.draft x.bytes (Err e)) → Stopping x.bytes (Create x.route.draft ∷ []) asked.Append e old new
      append_err Memory told = stops x.bytes (Create x.route.draft ∷ []) [] asked.Append refl (KD Creating false []) old new Memory (still [] (KD Creating false []) (kd false []) run (AppendAnswer x.route.draft x.bytes (Err Memory)) told told.answer)
      append_err Failed told = elim told.answer [
        | inl nothing ↦ stops x.bytes (Create x.route.draft ∷ []) [] asked.Append refl (KD Creating false []) old new Failed (still [] (KD Creating false []) (kd false []) run (AppendAnswer x.route.draft x.bytes (Err Failed)) told nothing)
        | inr one ↦ stops_with x.bytes (Create x.route.draft ∷ []) [] asked.Append refl (KD Creating false (take one.0 x.bytes)) old new (Append x.route.draft (take one.0 x.bytes) ∷ []) (inr (one.0, refl))
            (appends (take one.0 x.bytes) (AppendAnswer x.route.draft x.bytes (Err Failed)) told one.1)
      ]

    -- a call of which only failures and the step are told
    module _ (done : List Step) (step : Step) (K L : Past → Type 0) (kept : Kp K) (run : RR (Exactly done) K old now)
        (proper : (past : Past) → K past → IsProperStep x.rules.reading.number step (replay past))
        (keeps : (past : Past) (t : ℕ) → K past → St past → Steady x.rules.reading (standing_after x.rules.reading.number (standing x.rules.reading.number past) (us step t)))
        (leads : (past : Past) (t : ℕ) → K past → L (later past (us step t ∷ []))) where
      steps_on : (A : Disk → List Event → Type 0) (told : Answered x.rules.allows now (Some new) A) → IsOurs step told.ours → RR (Exactly (done ++ step ∷ [])) L old new
      steps_on A told one =
          let at = here done K kept run A told in
          does_step done K L kept run A told step one (proper told.reached at) (λ t steady. keeps told.reached t at steady) (λ t. leads told.reached t at)

      plain_ok : Answered x.rules.allows now (Some new) (PlainAnswer step (Ok tt)) → RR (Exactly (done ++ step ∷ [])) L old new
      plain_ok told = steps_on (PlainAnswer step (Ok tt)) told told.answer

      plain_err : (before : List Step) (call : PublishCall) → steps_before x.route.draft x.route.target x.bytes call ≡ before ++ done → IsTakenOf (step_of x.route.draft x.route.target x.bytes call) (step ∷ [])
          → (e : StoreErr) → Answered x.rules.allows now (Some new) (PlainAnswer step (Err e)) → Stopping x.bytes before call e old new
      plain_err before call is takes Memory told = stops x.bytes before done call is K old new Memory (still done K kept run (PlainAnswer step (Err Memory)) told told.answer)
      plain_err before call is takes Failed told = elim told.answer [
        | inl nothing ↦ stops x.bytes before done call is K old new Failed (still done K kept run (PlainAnswer step (Err Failed)) told nothing)
        | inr one ↦ stops_with x.bytes before done call is L old new (step ∷ []) takes (steps_on (PlainAnswer step (Err Failed)) told one)
      ]

    seal_keeps : (past : Past) (t : ℕ) → KD Creating false x.bytes past → St past → Steady x.rules.reading (standing_after x.rules.reading.number (standing x.rules.reading.number past) (us (Seal x.route.draft) t))
    seal_keeps past t at steady = stages.seal_keeps x.rules x.ruled x.localized x.mannered x.route x.bytes x.aim past t x.bytes at steady

    sync_keeps : (K : Past → Type 0) (past : Past) (t : ℕ) → K past → St past → Steady x.rules.reading (standing_after x.rules.reading.number (standing x.rules.reading.number past) (us SyncNames t))
    sync_keeps K past t at steady = stages.sync_keeps x.rules x.ruled x.localized x.mannered x.route x.bytes x.aim past t steady

    module _ (run : RR (Exactly (Append x.route.draft x.bytes ∷ [])) (KD Creating false x.bytes) old now) where
      pub seal_ok : Answered x.rules.allows now (Some new) (PlainAnswer (Seal x.route.draft) (Ok tt)) → RR (Exactly (Append x.route.draft x.bytes ∷ Seal x.route.draft ∷ [])) (KD Creating true x.bytes) old new
      seal_ok = plain_ok (Append x.route.draft x.bytes ∷ []) (Seal x.route.draft) (KD Creating false x.bytes) (KD Creating true x.bytes) (kd false x.bytes) run (λ past at. open_of false x.bytes past refl at) seal_keeps
          (λ past t at. stages.seal_leads x.rules x.ruled x.localized x.mannered x.route x.bytes x.aim past t x.bytes at)

      pub seal_err : (e : StoreErr) → Answered x.rules.allows now (Some new) (PlainAnswer (Seal x.route.draft) (Err e)) → Stopping x.bytes (Create x.route.draft ∷ []) asked.Seal e old new
      seal_err = plain_err (Append x.route.draft x.bytes ∷ []) (Seal x.route.draft) (KD Creating false x.bytes) (KD Creating true x.bytes) (kd false x.bytes) run (λ past at. open_of false x.bytes past refl at) seal_keeps
          (λ past t at. stages.seal_leads x.rules x.ruled x.localized x.mannered x.route x.bytes x.aim past t x.bytes at) (Create x.route.draft ∷ []) asked.Seal refl (inr refl)

    module _ (run : RR (Exactly (Append x.route.draft x.bytes ∷ Seal x.route.draft ∷ [])) (KD Creating true x.bytes) old now) where
      sync_ok : Answered x.rules.allows now (Some new) (PlainAnswer SyncNames (Ok tt)) → RR (Exactly (Append x.route.draft x.bytes ∷ Seal x.route.draft ∷ SyncNames ∷ [])) (KD AtRest true x.bytes) old new
      sync_ok = plain_ok (Append x.route.draft x.bytes ∷ Seal x.route.draft ∷ []) SyncNames (KD Creating true x.bytes) (KD AtRest true x.bytes) (kd true x.bytes) run (λ past at. tt) (sync_keeps (KD Creating true x.bytes))
          (λ past t at. stages.sync_leads x.rules x.ruled x.localized x.mannered x.route x.bytes x.aim past t x.bytes at)

      pub filled : Answered x.rules.allows now (Some new) (PlainAnswer SyncNames (Ok tt)) → RR (λ steps. Create x.route.draft ∷ steps ≡ draft_plan x.route.draft x.bytes) (KD AtRest true x.bytes) old new
      filled told = ran_turned x.rules (Exactly (Append x.route.draft x.bytes ∷ Seal x.route.draft ∷ SyncNames ∷ [])) (λ steps. Create x.route.draft ∷ steps ≡ draft_plan x.route.draft x.bytes) (KD AtRest true x.bytes) (KD AtRest true x.bytes) old new (sync_ok told)
          (λ l e. ap (λ (z : List Step). Create x.route.draft ∷ z) e) (λ here. here)

      pub sync_err : (e : StoreErr) → Answered x.rules.allows now (Some new) (PlainAnswer SyncNames (Err e)) → Stopping x.bytes (Create x.route.draft ∷ []) asked.SyncDraft e old new
      sync_err = plain_err (Append x.route.draft x.bytes ∷ Seal x.route.draft ∷ []) SyncNames (KD Creating true x.bytes) (KD AtRest true x.bytes) (kd true x.bytes) run (λ past at. tt) (sync_keeps (KD Creating true x.bytes))
          (λ past t at. stages.sync_leads x.rules x.ruled x.localized x.mannered x.route x.bytes x.aim past t x.bytes at) (Create x.route.draft ∷ []) asked.SyncDraft refl (inr refl)

    -- the rename
    module _ (good : (c : Parts → Option (List ℕ)) → x.rules.reading.good x.bytes c) (run : RR (Exactly []) (KD AtRest true x.bytes) old now) where
      moves : (A : Disk → List Event → Type 0) (told : Answered x.rules.allows now (Some new) A) → is_named (replay told.reached).files x.route.target ≡ false → IsOurs (Rename x.route.draft x.route.target) told.ours → RR (Exactly (Rename x.route.draft x.route.target ∷ [])) (IsRenamed x.rules.reading.number x.route.text x.bytes (Bs old)) old new
      moves A told free one =
          let at = here [] (KD AtRest true x.bytes) (kr true x.bytes) run A told in
          does_step [] (KD AtRest true x.bytes) (IsRenamed x.rules.reading.number x.route.text x.bytes (Bs old)) (kr true x.bytes) run A told (Rename x.route.draft x.route.target) one
          (stages.move_proper x.rules x.ruled x.localized x.mannered x.route x.bytes x.aim told.reached 0 good free at)
          (λ t steady. stages.move_keeps x.rules x.ruled x.localized x.mannered x.route x.bytes x.aim told.reached t good free at steady)
          (λ t. stages.move_leads x.rules x.ruled x.localized x.mannered x.route x.bytes x.aim told.reached t good free at (Bs old)
          (λ b. (was_based [] (KD AtRest true x.bytes) (kr true x.bytes) run A told b).steady) (λ b. (was_based [] (KD AtRest true x.bytes) (kr true x.bytes) run A told b).bytes))

      pub rename_done : Answered x.rules.allows now (Some new) (RenameAnswer x.route.draft x.route.target (Ok Done)) → RR (Exactly (Rename x.route.draft x.route.target ∷ [])) (IsRenamed x.rules.reading.number x.route.text x.bytes (Bs old)) old new
      rename_done told = moves (RenameAnswer x.route.draft x.route.target (Ok Done)) told told.answer.0 told.answer.1

      pub rename_exists : Answered x.rules.allows now (Some new) (RenameAnswer x.route.draft x.route.target (Ok There)) → RR (Exactly []) KT old new
      rename_exists told =
          let A = RenameAnswer x.route.draft x.route.target (Ok There) in
          let after = still [] (KD AtRest true x.bytes) (kr true x.bytes) run A told told.answer.1 in
          let there : is_named (replay new).files x.route.target ≡ true = subst (λ (p : Past). is_named (replay p).files x.route.target ≡ true) (same_at [] (KD AtRest true x.bytes) (kr true x.bytes) run A told told.answer.1) told.answer.0 in
          ran_turned x.rules (Exactly []) (Exactly []) (KD AtRest true x.bytes) KT old new after (λ l e. e)
          (λ k. record { pending = k.pending; last_or_taken = k.last_or_taken; file = record { stands = k.file; taken = there } })

      pub rename_err : (e : StoreErr) → Answered x.rules.allows now (Some new) (RenameAnswer x.route.draft x.route.target (Err e)) → Stopping x.bytes (draft_plan x.route.draft x.bytes) asked.Rename e old new
      rename_err Memory told = stops x.bytes (draft_plan x.route.draft x.bytes) [] asked.Rename refl (KD AtRest true x.bytes) old new Memory (still [] (KD AtRest true x.bytes) (kr true x.bytes) run (RenameAnswer x.route.draft x.route.target (Err Memory)) told told.answer)
      rename_err Failed told = elim told.answer [
        | inl nothing ↦ stops x.bytes (draft_plan x.route.draft x.bytes) [] asked.Rename refl (KD AtRest true x.bytes) old new Failed (still [] (KD AtRest true x.bytes) (kr true x.bytes) run (RenameAnswer x.route.draft x.route.target (Err Failed)) told nothing)
        | inr one ↦ stops_with x.bytes (draft_plan x.route.draft x.bytes) [] asked.Rename refl (IsRenamed x.rules.reading.number x.route.text x.bytes (Bs old)) old new (Rename x.route.draft x.route.target ∷ []) (inr refl)
            (moves (RenameAnswer x.route.draft x.route.target (Err Failed)) told one.0 one.1)
      ]

    module _ (run : RR (Exactly (Rename x.route.draft x.route.target ∷ [])) (IsRenamed x.rules.reading.number x.route.text x.bytes (Bs old)) old now) where
      pub publish_ok : Answered x.rules.allows now (Some new) (PlainAnswer SyncNames (Ok tt)) → RR (Exactly (Rename x.route.draft x.route.target ∷ SyncNames ∷ [])) (IsPublished x.rules.reading.number x.route.text x.bytes (Bs old)) old new
      publish_ok = plain_ok (Rename x.route.draft x.route.target ∷ []) SyncNames (IsRenamed x.rules.reading.number x.route.text x.bytes (Bs old)) (IsPublished x.rules.reading.number x.route.text x.bytes (Bs old)) (k_renamed (Bs old)) run (λ past at. tt) (sync_keeps (IsRenamed x.rules.reading.number x.route.text x.bytes (Bs old)))
          (λ past t at. stages.publish_leads x.rules x.ruled x.localized x.mannered x.route x.bytes x.aim past t (Bs old) at)

      pub publish_err : (e : StoreErr) → Answered x.rules.allows now (Some new) (PlainAnswer SyncNames (Err e)) → Stopping x.bytes (draft_plan x.route.draft x.bytes) asked.SyncRename e old new
      publish_err = plain_err (Rename x.route.draft x.route.target ∷ []) SyncNames (IsRenamed x.rules.reading.number x.route.text x.bytes (Bs old)) (IsPublished x.rules.reading.number x.route.text x.bytes (Bs old)) (k_renamed (Bs old)) run (λ past at. tt) (sync_keeps (IsRenamed x.rules.reading.number x.route.text x.bytes (Bs old)))
          (λ past t at. stages.publish_leads x.rules x.ruled x.localized x.mannered x.route x.bytes x.aim past t (Bs old) at) (draft_plan x.route.draft x.bytes) asked.SyncRename refl (inr refl)

    -- a lost draft is removed
    module _ (never : (files : List Held) (p : Parts) → InReach x.rules.reading files p → ⊥) (run : RR (Exactly []) KT old now) where
      removes : (A : Disk → List Event → Type 0) (told : Answered x.rules.allows now (Some new) A) → IsOurs (Remove x.route.draft) told.ours → RR (Exactly (Remove x.route.draft ∷ [])) KN old new
      removes A told one =
          let at = here [] KT kt run A told in
          does_step [] KT KN kt run A told (Remove x.route.draft) one x.aim.plain (λ t steady. stages.remove_keeps x.rules x.ruled x.localized x.mannered x.route x.bytes x.aim told.reached t never at steady) (λ t. stages.remove_leads x.rules x.ruled x.localized x.mannered x.route x.bytes x.aim told.reached t at)

      pub remove_err : (e : StoreErr) → Answered x.rules.allows now (Some new) (RemoveAnswer x.route.draft (Err e)) → Stopping x.bytes (draft_plan x.route.draft x.bytes) asked.Remove e old new
      remove_err Memory told = stops x.bytes (draft_plan x.route.draft x.bytes) [] asked.Remove refl KT old new Memory (still [] KT kt run (RemoveAnswer x.route.draft (Err Memory)) told told.answer)
      remove_err Failed told = elim told.answer [
        | inl nothing ↦ stops x.bytes (draft_plan x.route.draft x.bytes) [] asked.Remove refl KT old new Failed (still [] KT kt run (RemoveAnswer x.route.draft (Err Failed)) told nothing)
        | inr one ↦ stops_with x.bytes (draft_plan x.route.draft x.bytes) [] asked.Remove refl KN old new (Remove x.route.draft ∷ []) (inr refl) (removes (RemoveAnswer x.route.draft (Err Failed)) told one.1)
      ]

      -- it stands, so it isn't absent
      pub remove_ok : (gone : Gone) → Answered x.rules.allows now (Some new) (RemoveAnswer x.route.draft (Ok gone)) → RR (Exactly (Remove x.route.draft ∷ [])) KN old new
      remove_ok Away told = removes (RemoveAnswer x.route.draft (Ok Away)) told told.answer.1
      remove_ok Absent told =
          let at = here [] KT kt run (RemoveAnswer x.route.draft (Ok Absent)) told in
          let e : is_named (replay told.reached).files x.route.draft ≡ true = ap is_some at.file.stands.stands in absurd (cc (e, told.answer.0))

    module _ (run : RR (Exactly (Remove x.route.draft ∷ [])) KN old now) where
      pub dropped_ok : Answered x.rules.allows now (Some new) (PlainAnswer SyncNames (Ok tt)) → RR (Exactly (Remove x.route.draft ∷ SyncNames ∷ [])) KL old new
      dropped_ok = plain_ok (Remove x.route.draft ∷ []) SyncNames KN KL kn run (λ past at. tt) (sync_keeps KN) (λ past t at. stages.named_leads x.rules x.ruled x.localized x.mannered x.route x.bytes x.aim past t at)

      pub dropped_err : (e : StoreErr) → Answered x.rules.allows now (Some new) (PlainAnswer SyncNames (Err e)) → Stopping x.bytes (draft_plan x.route.draft x.bytes) asked.SyncRemoval e old new
      dropped_err = plain_err (Remove x.route.draft ∷ []) SyncNames KN KL kn run (λ past at. tt) (sync_keeps KN) (λ past t at. stages.named_leads x.rules x.ruled x.localized x.mannered x.route x.bytes x.aim past t at)
          (draft_plan x.route.draft x.bytes) asked.SyncRemoval refl (inr refl)

  -- what the calls require
  module _ (old now reached : Past) (acted : Acted x.rules.allows now reached) where
    reached_at : (done : List Step) (K : Past → Type 0) → Kp K → RR (Exactly done) K old now → K reached
    reached_at done K kept run = (others_then x.rules x.ruled x.localized x.mannered (Exactly done) K kept old now reached run acted).stage

    pub create_may : RR (Exactly []) K0 old now → IsUnmoved (replay reached).pending x.route.draft
    create_may run = stages.creations_unmoved (replay reached).pending x.route.draft (reached_at [] K0 k0 run).pending

    pub open_may : (done : List Step) (b : List ℕ) → RR (Exactly done) (KD Creating false b) old now → IsOpen (replay reached) x.route.draft
    open_may done b run = let d = (reached_at done (KD Creating false b) (kd false b) run).file in (d.file, d.stands, d.sealed_is, d.ours)

    pub rename_may : RR (Exactly []) (KD AtRest true x.bytes) old now → CanRename x.route.draft x.route.target (replay reached)
    rename_may run = let k = reached_at [] (KD AtRest true x.bytes) (kr true x.bytes) run in record {
      source = (k.file.file, k.file.stands, k.file.sealed_is);
      settled_from = subst (λ (cs : List NameChange). IsSettled cs x.route.draft) (sym k.pending) tt;
      settled_to = subst (λ (cs : List NameChange). IsSettled cs x.route.target) (sym k.pending) tt;
    }

    pub remove_may : RR (Exactly []) KT old now → IsSettled (replay reached).pending x.route.draft
    remove_may run = let k = reached_at [] KT kt run in subst (λ (cs : List NameChange). IsSettled cs x.route.draft) (sym k.pending) tt
