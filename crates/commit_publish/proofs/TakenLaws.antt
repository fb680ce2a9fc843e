-- Laws of a taken target: a run keeps the names of version places, so it stays taken.
use Rattle.std.proofs.Common.{◌≡◌, ℕ, ◌+◌, ◌<◌, arith, true, false, List, [], ◌∷◌, Option, Some, None, Result, Ok, Err, is_some, refl, sym, ap, ◌∙◌, subst}
use Rattle.ice_store.specs.Places.{Parts}
use Rattle.ice_store.specs.Files.{find, is_named, put, without, changed, renamed, renamed_by}
use Rattle.ice_store.specs.History.{Disk, replay, later, files_after, new_file, appended, sealed}
use Rattle.ice_store.specs.Others.{WhereTold}
use Rattle.ice_store.specs.Since.{Since}
use Rattle.ice_store.proofs.FileLaws.{find_put_other, find_changed_other, find_without_other, find_renamed_other}
use Rattle.ice_store.proofs.HistoryLaws.{later-later, replay-later}
use Rattle.ice_store.proofs.OthersLaws.{later-nil}
use Rattle.ice_store.proofs.SinceLaws.{since_with, since_where}
use Rattle.ice_store.specs.declared.history.Event.{Event}
use Rattle.ice_store.specs.declared.history.Held.{Held}
use Rattle.ice_store.specs.declared.history.Past.{Past}
use Rattle.ice_store.specs.declared.history.Step.{Step}
use Rattle.ice_store.specs.declared.history.Step.TheVariants.{Create, Append, Seal, Rename, Remove, SyncNames}
use Rattle.ice_store.specs.declared.history.Who.{Who}
use Rattle.ice_store.specs.declared.history.Who.TheVariants.{Us, Them}
use Rattle.commit_history.specs.Runs.{IsProperStep, IsProperBy, AllProper}
use Rattle.commit_history.specs.Tables.{version}
use Rattle.commit_history.proofs.Manners.{not_number}
use Rattle.commit_publish.specs.Leaves.{DropLeaves}
use Rattle.commit_publish.specs.Stages.{IsTargetTaken}
use Rattle.commit_publish.specs.declared.steps.StepErr.{StepErr}
use Rattle.commit_publish.proofs.CallLaws.{Work, KT}

module _ (x : Work) where
  target_positive : 0 < x.rules.reading.number x.route.target
  target_positive = let k = x.aim.next in omega (arith, k)

  away : (p : Parts) → x.rules.reading.number p ≡ 0 → p ≡ x.route.target → ⊥
  away p none = not_number x.rules.reading x.ruled x.localized p x.route.target none target_positive

  module _ (fs : List Held) (taken : is_named fs x.route.target ≡ true) where
    as_before : (gs : List Held) → find gs x.route.target ≡ find fs x.route.target → is_named gs x.route.target ≡ true
    as_before gs e = ap is_some e ∙ taken

    renamed_stays : (p q : Parts) (o : Option Held) → find fs p ≡ o → x.rules.reading.number p ≡ 0 → (q ≡ x.route.target → ⊥) → is_named (renamed p q fs) x.route.target ≡ true
    renamed_stays p q None e none other_ = ap (λ (w : Option Held). is_named (renamed_by w p q fs) x.route.target) e ∙ taken
    renamed_stays p q (Some h) e none other_ = as_before (renamed p q fs) (find_renamed_other fs p q h e x.route.target (away p none) other_)

    not_there : (q : Parts) → (0 < x.rules.reading.number q → (is_named fs q ≡ false) × (x.rules.reading.number q ≡ version x.rules.reading.number fs + 1)) → q ≡ x.route.target → ⊥
    not_there q free it =
        let e : x.rules.reading.number q ≡ x.rules.reading.number x.route.target = ap x.rules.reading.number it in
        let f = free (omega (arith, e, target_positive)) in
        absurd (cc (f.0, taken, ap (is_named fs) it))

  -- a proper step of ours leaves it so
  proper_named : (d : Disk) (step : Step) (t : ℕ) → IsProperStep x.rules.reading.number step d → is_named d.files x.route.target ≡ true → is_named (files_after d.files step Us t) x.route.target ≡ true
  proper_named d (Create p) t proper taken = as_before d.files taken (put (new_file p Us t) d.files) (find_put_other (new_file p Us t) d.files x.route.target (away p proper.1))
  proper_named d (Append p more) t proper taken = as_before d.files taken (changed (appended more t) d.files p) (find_changed_other (appended more t) (λ h. refl) d.files p x.route.target (away p proper.1))
  proper_named d (Seal p) t proper taken = as_before d.files taken (changed sealed d.files p) (find_changed_other sealed (λ h. refl) d.files p x.route.target (away p proper.1))
  proper_named d (Rename p q) t proper taken = renamed_stays d.files taken p q (find d.files p) refl proper.0 (not_there d.files taken q proper.1)
  proper_named d (Remove p) t proper taken = as_before d.files taken (without d.files p) (find_without_other d.files p x.route.target (away p proper))
  proper_named d SyncNames t proper taken = taken

  event_named : (past : Past) (who : Who) (step : Step) (t : ℕ) → IsProperBy x.rules who step past → IsTargetTaken x.route past → is_named (files_after (replay past).files step who t) x.route.target ≡ true
  event_named past Us step t proper taken = proper_named (replay past) step t proper taken
  event_named past Them step t may taken = x.mannered.stays past step t x.route.target may target_positive taken

  events_named : (past : Past) (es : List Event) → AllProper x.rules past es → IsTargetTaken x.route past → IsTargetTaken x.route (later past es)
  events_named past [] proper taken = subst (IsTargetTaken x.route) (sym (later-nil past)) taken
  events_named past (e ∷ es) proper taken =
      let one = ap (λ (d : Disk). is_named d.files x.route.target) (replay-later past (e ∷ [])) ∙ event_named past e.who e.step e.ms proper.0 taken in
      subst (IsTargetTaken x.route) (later-later past (e ∷ []) es) (events_named (later past (e ∷ [])) es proper.1 one)

  drop_named : (result : Result (Unit {0}) StepErr) (old new : Past) → KT x old → DropLeaves x.rules x.route x.bytes result old new → IsTargetTaken x.route new
  drop_named (Ok u) old new here run = run.stage.taken
  drop_named (Err e) old new here run = subst (IsTargetTaken x.route) (sym run.is) (events_named old run.events run.proper here.file.taken)

  -- the draft's removal leaves it so, whatever it answers
  pub dropped_taken : (result : Result (Unit {0}) StepErr) (a b : Option Past) → WhereTold a (KT x) → Since a b (DropLeaves x.rules x.route x.bytes result) → WhereTold b (IsTargetTaken x.route)
  dropped_taken result a b start told = since_where a b (λ old new. IsTargetTaken x.route new) (IsTargetTaken x.route)
      (since_with a b (KT x) (DropLeaves x.rules x.route x.bytes result) (λ old new. IsTargetTaken x.route new) start told (drop_named result)) (λ old now here. here)
