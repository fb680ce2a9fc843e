-- Where nobody else acts, a place is named behind an attempt exactly where it was named before it or is one of the files that it made.
use Rattle.std.proofs.Common.{◌≡◌, ℕ, Bool, true, false, if◌then◌else◌, List, [], ◌∷◌, ◌++◌, is_some, refl, sym, ap, ◌∙◌, subst, append-nil, append_assoc}
use Rattle.ice_store.specs.Places.{Parts, same_place}
use Rattle.ice_store.specs.Files.{find, is_named, put, changed}
use Rattle.ice_store.specs.Calls.{IsOpen}
use Rattle.ice_store.specs.History.{Disk, replay, later, files_after, new_file, appended, sealed}
use Rattle.ice_store.specs.declared.history.Event.{Event}
use Rattle.ice_store.specs.declared.history.Held.{Held}
use Rattle.ice_store.specs.declared.history.Past.{Past}
use Rattle.ice_store.specs.declared.history.Step.{Step}
use Rattle.ice_store.specs.declared.history.Step.TheVariants.{Create, Append, Seal, Rename, Remove, SyncNames}
use Rattle.ice_store.specs.declared.history.Who.{Who}
use Rattle.ice_store.specs.declared.history.Who.TheVariants.{Us, Them}
use Rattle.ice_store.proofs.FileLaws.{by_test, place_decides, find_put_same, find_put_other, find_changed_same, find_changed_other, same_itself}
use Rattle.ice_store.proofs.HistoryLaws.{replay-later, later-later}
use Rattle.ice_store.proofs.OthersLaws.{later-nil}
use Rattle.commit_history.specs.Readings.{Rules}
use Rattle.commit_history.specs.Runs.{AllProper, IsProperBy, IsProperStep, ours, ours_by}
use Rattle.commit_publish.specs.Left.{made_by}
use Rattle.commit_protocol.specs.Prepares.{OnlyMakes, named_beside}
use Rattle.commit_protocol.specs.Verdicts.{IsNobody}

-- the places that steps create
abbrev pub created_by : Step → List Parts → List Parts
created_by (Create place) places = place ∷ places
created_by (Append place more) places = places
created_by (Seal place) places = places
created_by (Rename from to) places = places
created_by (Remove place) places = places
created_by SyncNames places = places

abbrev pub created : List Step → List Parts
created [] = []
created (step ∷ steps) = created_by step (created steps)

pub made_is : (steps : List Step) (places : List Parts) → OnlyMakes steps → made_by 0 places steps ≡ places ++ created steps
made_is [] places only = sym (append-nil places)
made_is (Create p ∷ steps) places only = made_is steps (places ++ p ∷ []) only.1 ∙ append_assoc places (p ∷ []) (created steps)
made_is (Append p more ∷ steps) places only = made_is steps places only.1
made_is (Seal p ∷ steps) places only = made_is steps places only.1
made_is (Rename from to ∷ steps) places only = absurd only.0
made_is (Remove p ∷ steps) places only = absurd only.0
made_is (SyncNames ∷ steps) places only = absurd only.0

either : (a b x : Bool) → (if a then true else if b then true else x) ≡ (if b then true else if a then true else x)
either true true x = refl
either true false x = refl
either false true x = refl
either false false x = refl

at_same : (b : Bool) (x : Bool) → b ≡ true → (if b then true else x) ≡ true
at_same b x e = ap (λ (c : Bool). if c then true else x) e

at_other : (b : Bool) (x : Bool) → b ≡ false → (if b then true else x) ≡ x
at_other b x e = ap (λ (c : Bool). if c then true else x) e

-- a file that is put at a place names it, and no other
named_put : (h : Held) (files : List Held) (q : Parts) → is_named (put h files) q ≡ (if same_place h.place q then true else is_named files q)
named_put h files q = by_test (same_place h.place q)
    (λ e. let it : h.place ≡ q = (place_decides h.place q).0 e in
    subst (λ (r : Parts). is_named (put h files) r ≡ true) it (ap is_some (find_put_same h files)) ∙ sym (at_same (same_place h.place q) (is_named files q) e))
    (λ e. ap is_some (find_put_other h files q (away e)) ∙ sym (at_other (same_place h.place q) (is_named files q) e))
  where
    away : same_place h.place q ≡ false → h.place ≡ q → ⊥
    away e it = let k : same_place h.place q ≡ true = subst (λ (r : Parts). same_place h.place r ≡ true) it (same_itself h.place) in absurd (cc (e, k))

beside_put : (places : List Parts) (h : Held) (files : List Held) (q : Parts) → named_beside places (put h files) q ≡ named_beside (h.place ∷ places) files q
beside_put [] h files q = named_put h files q
beside_put (p ∷ places) h files q =
    ap (λ (x : Bool). if same_place p q then true else x) (beside_put places h files q) ∙ either (same_place p q) (same_place h.place q) (named_beside places files q)

-- a changed file keeps its name
named_changed : (f : Held → Held) → ((h : Held) → (f h).place ≡ h.place) → (d : Disk) (p q : Parts) → IsOpen d p → is_named (changed f d.files p) q ≡ is_named d.files q
named_changed f keeps d p q raw = by_test (same_place p q)
    (λ e. let it : p ≡ q = (place_decides p q).0 e in
    subst (λ (r : Parts). is_named (changed f d.files p) r ≡ is_named d.files r) it (ap is_some (find_changed_same f keeps d.files p raw.0 raw.1) ∙ sym (ap is_some raw.1)))
    (λ e. ap is_some (find_changed_other f keeps d.files p q (away e)))
  where
    away : same_place p q ≡ false → p ≡ q → ⊥
    away e it = let k : same_place p q ≡ true = subst (λ (r : Parts). same_place p r ≡ true) it (same_itself p) in absurd (cc (e, k))

same_beside : (places : List Parts) (files files' : List Held) (q : Parts) → is_named files q ≡ is_named files' q → named_beside places files q ≡ named_beside places files' q
same_beside [] files files' q e = e
same_beside (p ∷ places) files files' q e = ap (λ (x : Bool). if same_place p q then true else x) (same_beside places files files' q e)

module _ (rules : Rules) (nobody : IsNobody rules.allows) (q : Parts) where
  beside_step : (d : Disk) (step : Step) (t : ℕ) (places : List Parts) → IsProperStep rules.reading.number step d → OnlyMakes (step ∷ []) → named_beside places (files_after d.files step Us t) q ≡ named_beside (created_by step places) d.files q
  beside_step d (Create p) t places proper only = beside_put places (new_file p Us t) d.files q
  beside_step d (Append p more) t places proper only = same_beside places (changed (appended more t) d.files p) d.files q (named_changed (appended more t) (λ h. refl) d p q proper.0)
  beside_step d (Seal p) t places proper only = same_beside places (changed sealed d.files p) d.files q (named_changed sealed (λ h. refl) d p q proper.0)
  beside_step d (Rename from to) t places proper only = absurd only.0
  beside_step d (Remove p) t places proper only = absurd only.0
  beside_step d SyncNames t places proper only = absurd only.0

  step_names : (past : Past) (who : Who) (step : Step) (t : ℕ) (rest : List Step) → IsProperBy rules who step past → OnlyMakes (ours_by who step rest)
      → (named_beside (created rest) (files_after (replay past).files step who t) q ≡ named_beside (created (ours_by who step rest)) (replay past).files q) × OnlyMakes rest
  step_names past Us step t rest proper only = (beside_step (replay past) step t (created rest) proper (only.0, tt), only.1)
  step_names past Them step t rest proper only = absurd (nobody past step proper)

  names_after : (past : Past) (events : List Event) → AllProper rules past events → OnlyMakes (ours events) → is_named (replay (later past events)).files q ≡ named_beside (created (ours events)) (replay past).files q
  names_after past [] proper only = ap (λ (p : Past). is_named (replay p).files q) (later-nil past)
  names_after past (event ∷ events) proper only =
      let here = step_names past event.who event.step event.ms (ours events) proper.0 only in
      let next = names_after (later past (event ∷ [])) events proper.1 here.1 in
      ap (λ (p : Past). is_named (replay p).files q) (sym (later-later past (event ∷ []) events)) ∙ next ∙ ap (λ (d : Disk). named_beside (created (ours events)) d.files q) (replay-later past (event ∷ [])) ∙ here.0

  pub named_after : (past : Past) (events : List Event) (made : List Parts) → AllProper rules past events → OnlyMakes (ours events) → made ≡ made_by 0 [] (ours events)
      → is_named (replay (later past events)).files q ≡ named_beside made (replay past).files q
  named_after past events made proper only is =
      names_after past events proper only ∙ ap (λ (l : List Parts). named_beside l (replay past).files q) (sym (is ∙ made_is (ours events) [] only))
