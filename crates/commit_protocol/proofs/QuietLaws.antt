-- Runs where nobody else acts: all events are ours.
use Rattle.std.proofs.Common.{◌≡◌, ℕ, ◌<◌, true, false, List, [], ◌∷◌, Option, Some, None, is_some, refl, sym, ap, ◌∙◌, subst, arith}
use Rattle.ice_store.specs.Places.{Parts}
use Rattle.ice_store.specs.Files.{is_named}
use Rattle.ice_store.specs.History.{Disk, replay, later, files_after, new_file, appended, sealed}
use Rattle.ice_store.specs.Since.{Since}
use Rattle.ice_store.specs.declared.history.Event.{Event}
use Rattle.ice_store.specs.declared.history.Held.{Held}
use Rattle.ice_store.specs.declared.history.Past.{Past}
use Rattle.ice_store.specs.declared.history.Step.{Step}
use Rattle.ice_store.specs.declared.history.Step.TheVariants.{Create, Append, Seal, Rename, Remove, SyncNames}
use Rattle.ice_store.specs.declared.history.Who.{Who}
use Rattle.ice_store.specs.declared.history.Who.TheVariants.{Us, Them}
use Rattle.ice_store.proofs.FileLaws.{find_put_other, find_changed_other, find_without_other}
use Rattle.ice_store.proofs.HistoryLaws.{replay-later, later-later}
use Rattle.ice_store.proofs.OthersLaws.{later-nil}
use Rattle.commit_history.specs.Readings.{Rules}
use Rattle.commit_history.specs.Tables.{version}
use Rattle.commit_history.specs.Runs.{Ran, AllProper, IsProperBy, IsProperStep, ours, ours_by}
use Rattle.commit_history.proofs.Agreeing.{named_file, number_of_named}
use Rattle.commit_publish.specs.Steps.{Exactly}
use Rattle.commit_protocol.specs.Verdicts.{IsNobody}

-- where a call that adds nothing is told, the past is as it was
pub same_past : (o a : Option Past) → Since o a (λ old new. new ≡ old) → a ≡ o
same_past None a since = since
same_past (Some old) a since = since.is ∙ ap (λ (p : Past). Some p) since.holds

pub no_place : (number : Parts → ℕ) (files : List Held) (place : Parts) → version number files < number place → is_named files place ≡ true → ⊥
no_place number files place above named =
    let file = named_file files place named in
    let le = number_of_named number files place file.0 file.1 in
    omega (arith, above, le)

-- steps that rename nothing
abbrev pub IsPlainStep : Step → Type 0
IsPlainStep (Create place) = Unit {0}
IsPlainStep (Append place more) = Unit {0}
IsPlainStep (Seal place) = Unit {0}
IsPlainStep (Rename from to) = ⊥
IsPlainStep (Remove place) = Unit {0}
IsPlainStep SyncNames = Unit {0}

abbrev pub PlainSteps : List Step → Type 0
PlainSteps [] = Unit {0}
PlainSteps (step ∷ steps) = IsPlainStep step × PlainSteps steps

module _ (rules : Rules) (nobody : IsNobody rules.allows) where
  abbrev pub number : Parts → ℕ
  number = rules.reading.number

  no_step : (past : Past) (who : Who) (step : Step) (rest : List Step) → IsProperBy rules who step past → ours_by who step rest ≡ [] → ⊥
  no_step past Us step rest proper none = absurd (cc (none))
  no_step past Them step rest proper none = nobody past step proper

  no_event : (past : Past) (events : List Event) → AllProper rules past events → ours events ≡ [] → events ≡ []
  no_event past [] proper none = refl
  no_event past (event ∷ events) proper none = absurd (no_step past event.who event.step (ours events) proper.0 none)

  -- a first step that creates met a free name
  created : (past : Past) (who : Who) (step : Step) (rest more : List Step) (place : Parts) → IsProperBy rules who step past → ours_by who step rest ≡ Create place ∷ more → is_named (replay past).files place ≡ false
  created past Us step rest more place proper is =
      let it : step ≡ Create place = cc (is) in
      let there : IsProperStep number (Create place) (replay past) = subst (λ (s : Step). IsProperStep number s (replay past)) it proper in
      there.0
  created past Them step rest more place proper is = absurd (nobody past step proper)

  pub first_created : (past : Past) (events : List Event) (place : Parts) (more : List Step) → AllProper rules past events → ours events ≡ Create place ∷ more → is_named (replay past).files place ≡ false
  first_created past [] place more proper is = absurd (cc (is))
  first_created past (event ∷ events) place more proper is = created past event.who event.step (ours events) more place proper.0 is

  -- A name that stays free.

  module _ (place : Parts) (pos : 0 < number place) where
    away : (other : Parts) → number other ≡ 0 → other ≡ place → ⊥
    away other none same = let e : number other ≡ number place = ap number same in omega (arith, e, none, pos)

    stays_free : (d : Disk) (step : Step) (t : ℕ) → IsProperStep number step d → IsPlainStep step → is_named d.files place ≡ false → is_named (files_after d.files step Us t) place ≡ false
    stays_free d (Create p) t proper plain free = ap is_some (find_put_other (new_file p Us t) d.files place (away p proper.1)) ∙ free
    stays_free d (Append p more) t proper plain free = ap is_some (find_changed_other (appended more t) (λ h. refl) d.files p place (away p proper.1)) ∙ free
    stays_free d (Seal p) t proper plain free = ap is_some (find_changed_other sealed (λ h. refl) d.files p place (away p proper.1)) ∙ free
    stays_free d (Rename from to) t proper plain free = absurd plain
    stays_free d (Remove p) t proper plain free = ap is_some (find_without_other d.files p place (away p proper)) ∙ free
    stays_free d SyncNames t proper plain free = free

    step_by : (past : Past) (who : Who) (step : Step) (t : ℕ) (rest : List Step) → IsProperBy rules who step past → PlainSteps (ours_by who step rest) → is_named (replay past).files place ≡ false
        → (is_named (files_after (replay past).files step who t) place ≡ false) × PlainSteps rest
    step_by past Us step t rest proper plain free = (stays_free (replay past) step t proper plain.0 free, plain.1)
    step_by past Them step t rest proper plain free = absurd (nobody past step proper)

    pub still_free : (past : Past) (events : List Event) → AllProper rules past events → PlainSteps (ours events) → is_named (replay past).files place ≡ false → is_named (replay (later past events)).files place ≡ false
    still_free past [] proper plain free = subst (λ (p : Past). is_named (replay p).files place ≡ false) (sym (later-nil past)) free
    still_free past (event ∷ events) proper plain free =
        let next = step_by past event.who event.step event.ms (ours events) proper.0 plain free in
        let here : is_named (replay (later past (event ∷ []))).files place ≡ false = ap (λ (d : Disk). is_named d.files place) (replay-later past (event ∷ [])) ∙ next.0 in
        subst (λ (p : Past). is_named (replay p).files place ≡ false) (later-later past (event ∷ []) events) (still_free (later past (event ∷ [])) events proper.1 next.1 here)

  module _ (K : Past → Type 0) (old now : Past) where
    -- a call without a step of ours leaves all as it was
    pub unmoved : Ran rules (Exactly []) K old now → now ≡ old
    unmoved run = run.is ∙ ap (λ (es : List Event). later old es) (no_event old run.events run.proper run.made) ∙ later-nil old

    pub stands : Ran rules (Exactly []) K old now → K old
    stands run = subst K (unmoved run) run.stage
