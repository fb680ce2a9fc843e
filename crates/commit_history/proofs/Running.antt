-- Laws of runs: one after another, a step of Us, and what others do meanwhile.
use Rattle.std.proofs.Common.{◌≡◌, ℕ, ◌+◌, ◌<◌, arith, false, List, [], ◌∷◌, ◌++◌, Option, Some, None, refl, sym, ap, ◌∙◌, subst, append-nil}
use Rattle.ice_store.specs.Places.{Parts}
use Rattle.ice_store.specs.Files.{find, is_named, put, without, changed, renamed, renamed_by}
use Rattle.ice_store.proofs.FileLaws.{find_put_other, find_changed_other, find_without_other, find_renamed_other}
use Rattle.ice_store.specs.declared.history.Held.{Held}
use Rattle.ice_store.specs.declared.history.Step.TheVariants.{Create, Append, Seal, Rename, Remove, SyncNames}
use Rattle.ice_store.specs.History.{Disk, replay, later, files_after, new_file, appended, sealed}
use Rattle.ice_store.specs.Others.{Acted, Answered, Allowed, IsOurs}
use Rattle.ice_store.proofs.OthersLaws.{later-nil}
use Rattle.ice_store.proofs.HistoryLaws.{later-later, replay-later}
use Rattle.ice_store.specs.declared.history.Event.{Event}
use Rattle.ice_store.specs.declared.history.Past.{Past}
use Rattle.ice_store.specs.declared.history.Step.{Step}
use Rattle.ice_store.specs.declared.history.Who.TheVariants.{Us, Them}
use Rattle.commit_history.specs.Readings.{Rules, IsLocal}
use Rattle.commit_history.specs.Tables.{IsNumbering, version, sealed_at, sealed_bytes}
use Rattle.commit_history.specs.Commits.{Standing, standing, standing_after}
use Rattle.commit_history.specs.Steady.{Steady, IsSteady}
use Rattle.commit_history.specs.Mannered.{IsMannered}
use Rattle.commit_history.specs.Runs.{ours, ours_by, Along, IsProperStep, AllProper, IsSafe, Ran}
use Rattle.commit_history.proofs.Following.{standing_later}
use Rattle.commit_history.proofs.Stepping.{us, them}
use Rattle.commit_history.proofs.Manners.{law, unnamed, not_number}

ours_by-append : (e : Event) (l k : List Step) → ours_by e.who e.step (l ++ k) ≡ ours_by e.who e.step l ++ k
ours_by-append e l k = elim e.who as (λ w. ours_by w e.step (l ++ k) ≡ ours_by w e.step l ++ k) [ Us ↦ refl | Them ↦ refl ]

pub ours-append : (es fs : List Event) → ours (es ++ fs) ≡ ours es ++ ours fs
ours-append [] fs = refl
ours-append (e ∷ es) fs = ap (λ (l : List Step). ours_by e.who e.step l) (ours-append es fs) ∙ ours_by-append e (ours es) (ours fs)

pub along_append : (K : Past → Type 0) (past : Past) (es fs : List Event) → Along K past es → Along K (later past es) fs → Along K past (es ++ fs)
along_append K past [] fs h k = subst (λ p. Along K p fs) (later-nil past) k
along_append K past (e ∷ es) fs h k = (h.0, along_append K (later past (e ∷ [])) es fs h.1 (subst (λ p. Along K p fs) (sym (later-later past (e ∷ []) es)) k))

pub along_last : (K : Past → Type 0) (past : Past) (es : List Event) → Along K past es → K (later past es)
along_last K past [] h = subst K (sym (later-nil past)) h
along_last K past (e ∷ es) h = subst K (later-later past (e ∷ []) es) (along_last K (later past (e ∷ [])) es h.1)

pub proper_append : (rules : Rules) (past : Past) (es fs : List Event) → AllProper rules past es → AllProper rules (later past es) fs → AllProper rules past (es ++ fs)
proper_append rules past [] fs h k = subst (λ p. AllProper rules p fs) (later-nil past) k
proper_append rules past (e ∷ es) fs h k = (h.0, proper_append rules (later past (e ∷ [])) es fs h.1 (subst (λ p. AllProper rules p fs) (sym (later-later past (e ∷ []) es)) k))

-- nothing is asked
abbrev pub Any : Past → Type 0
Any past = Unit {0}

module _ (rules : Rules) where
  abbrev pub R : (List Step → Type 0) → (Past → Type 0) → Past → Past → Type 0
  R = Ran rules

  -- one run after another
  pub ran_then : (M N O : List Step → Type 0) (K L : Past → Type 0) → ((l k : List Step) → M l → N k → O (l ++ k)) → (old mid new : Past) → R M K old mid → R N L mid new → R O L old new
  ran_then M N O K L join old mid new a b = record {
    events = a.events ++ b.events;
    is = b.is ∙ ap (λ (p : Past). later p b.events) a.is ∙ later-later old a.events b.events;
    proper = proper_append rules old a.events b.events a.proper (subst (λ p. AllProper rules p b.events) a.is b.proper);
    made = subst O (sym (ours-append a.events b.events)) (join (ours a.events) (ours b.events) a.made b.made);
    stays = λ p x pos at. b.stays p x pos (a.stays p x pos at);
    safe = λ steady.
        let first = a.safe steady in
        let then = b.safe (subst (λ p. IsSteady rules.reading p) (sym a.is) (along_last (IsSafe rules.reading) old a.events first).steady) in
        along_append (IsSafe rules.reading) old a.events b.events first (subst (λ p. Along (IsSafe rules.reading) p b.events) a.is then);
    stage = b.stage;
  }

  pub ran_turned : (M N : List Step → Type 0) (K L : Past → Type 0) (old new : Past) → R M K old new → ((l : List Step) → M l → N l) → (K new → L new) → R N L old new
  ran_turned M N K L old new run m k = record { events = run.events; is = run.is; proper = run.proper; made = m (ours run.events) run.made; stays = run.stays; safe = run.safe; stage = k run.stage }

  module _ (ruled : IsNumbering rules.reading.number) (localized : IsLocal rules.reading) where
    pub safe_at : (past : Past) → IsSteady rules.reading past → IsSafe rules.reading past
    safe_at past steady = record { steady = steady; images = law rules.reading ruled localized past steady }

    pub begins : (K : Past → Type 0) (old : Past) → K old → R (λ l. l ≡ []) K old old
    begins K old here = record { events = []; is = sym (later-nil old); proper = tt; made = refl; stays = λ p x pos at. at; safe = λ steady. safe_at old steady; stage = here }

    module _ (fs : List Held) (r : Parts) (x : List ℕ) (pos : 0 < rules.reading.number r) (at : sealed_at fs r ≡ Some x) where
      as_before : (gs : List Held) → find gs r ≡ find fs r → sealed_at gs r ≡ Some x
      as_before gs e = ap sealed_bytes e ∙ at

      away : (p : Parts) → rules.reading.number p ≡ 0 → p ≡ r → ⊥
      away p none = not_number rules.reading ruled localized p r none pos

      renamed_stays : (p q : Parts) (o : Option Held) → find fs p ≡ o → rules.reading.number p ≡ 0 → (q ≡ r → ⊥) → sealed_at (renamed p q fs) r ≡ Some x
      renamed_stays p q None e none other_ = ap (λ (w : Option Held). sealed_at (renamed_by w p q fs) r) e ∙ at
      renamed_stays p q (Some h) e none other_ = as_before (renamed p q fs) (find_renamed_other fs p q h e r (away p none) other_)

      not_target : (q : Parts) → (0 < rules.reading.number q → (is_named fs q ≡ false) × (rules.reading.number q ≡ version rules.reading.number fs + 1)) → q ≡ r → ⊥
      not_target q free it =
          let e : rules.reading.number q ≡ rules.reading.number r = ap rules.reading.number it in
          let f = free (omega (arith, e)) in
          let k : sealed_at fs q ≡ None = ap sealed_bytes (unnamed fs q f.0) in
          absurd (cc (k, at, ap (sealed_at fs) it))

    -- a proper step leaves the version files as they are
    pub proper_stays : (d : Disk) (step : Step) (t : ℕ) (r : Parts) (x : List ℕ) → IsProperStep rules.reading.number step d → 0 < rules.reading.number r → sealed_at d.files r ≡ Some x → sealed_at (files_after d.files step Us t) r ≡ Some x
    proper_stays d (Create p) t r x proper pos at = as_before d.files r x pos at (put (new_file p Us t) d.files) (find_put_other (new_file p Us t) d.files r (away d.files r x pos at p proper.1))
    proper_stays d (Append p more) t r x proper pos at = as_before d.files r x pos at (changed (appended more t) d.files p) (find_changed_other (appended more t) (λ h. refl) d.files p r (away d.files r x pos at p proper.1))
    proper_stays d (Seal p) t r x proper pos at = as_before d.files r x pos at (changed sealed d.files p) (find_changed_other sealed (λ h. refl) d.files p r (away d.files r x pos at p proper.1))
    proper_stays d (Rename p q) t r x proper pos at = renamed_stays d.files r x pos at p q (find d.files p) refl proper.0 (not_target d.files r x pos at q proper.1)
    proper_stays d (Remove p) t r x proper pos at = as_before d.files r x pos at (without d.files p) (find_without_other d.files p r (away d.files r x pos at p proper))
    proper_stays d SyncNames t r x proper pos at = at

    -- one step of Us
    pub one_step : (L : Past → Type 0) (now : Past) (step : Step) (t : ℕ) → IsProperStep rules.reading.number step (replay now) → (IsSteady rules.reading now → Steady rules.reading (standing_after rules.reading.number (standing rules.reading.number now) (us step t)))
        → L (later now (us step t ∷ [])) → R (λ l. l ≡ step ∷ []) L now (later now (us step t ∷ []))
    one_step L now step t proper keeps there = record {
      events = us step t ∷ [];
      is = refl;
      proper = (proper, tt);
      made = refl;
      stays = λ p x pos at. ap (λ (d : Disk). sealed_at d.files p) (replay-later now (us step t ∷ [])) ∙ proper_stays (replay now) step t p x proper pos at;
      safe = λ steady. (safe_at now steady, safe_at (later now (us step t ∷ [])) (subst (λ (s : Standing). Steady rules.reading s) (sym (standing_later rules.reading.number now (us step t))) (keeps steady)));
      stage = there;
    }

    module _ (mannered : IsMannered rules) where
      -- others keep it
      abbrev pub Kept : (Past → Type 0) → Type 0
      Kept K = (past : Past) (step : Step) (t : ℕ) → rules.allows past step → K past → K (later past (them step t ∷ []))

      their_step : (K : Past → Type 0) → Kept K → (now : Past) (step : Step) (t : ℕ) → rules.allows now step → K now → R (λ l. l ≡ []) K now (later now (them step t ∷ []))
      their_step K kept now step t may here = record {
        events = them step t ∷ [];
        is = refl;
        proper = (may, tt);
        made = refl;
        stays = λ p x pos at. ap (λ (d : Disk). sealed_at d.files p) (replay-later now (them step t ∷ [])) ∙ mannered.bytes now step t p x may pos at;
        safe = λ steady. (safe_at now steady, safe_at (later now (them step t ∷ [])) (mannered.keeps now step t may steady));
        stage = kept now step t may here;
      }

      none_more : (l k : List Step) → l ≡ [] → k ≡ [] → l ++ k ≡ []
      none_more l k a b = ap (λ (x : List Step). x ++ k) a ∙ b

      their_steps : (K : Past → Type 0) → Kept K → (now : Past) (es : List Event) → Allowed rules.allows now es → K now → R (λ l. l ≡ []) K now (later now es)
      their_steps K kept now [] allowed here = subst (λ p. R (λ l. l ≡ []) K now p) (sym (later-nil now)) (begins K now here)
      their_steps K kept now (e ∷ es) allowed here =
          let event : e ≡ them e.step e.ms = λ i. record { who = allowed.0 i; step = e.step; ms = e.ms } in
          let one : R (λ l. l ≡ []) K now (later now (e ∷ [])) = subst (λ (x : Event). R (λ l. l ≡ []) K now (later now (x ∷ []))) (sym event) (their_step K kept now e.step e.ms allowed.1 here) in
          let rest = their_steps K kept (later now (e ∷ [])) es allowed.2 one.stage in
          subst (λ p. R (λ l. l ≡ []) K now p) (later-later now (e ∷ []) es)
          (ran_then (λ l. l ≡ []) (λ l. l ≡ []) (λ l. l ≡ []) K K none_more now (later now (e ∷ [])) (later (later now (e ∷ [])) es) one rest)

      pub others : (K : Past → Type 0) → Kept K → (now reached : Past) → Acted rules.allows now reached → K now → R (λ l. l ≡ []) K now reached
      others K kept now reached acted here = subst (λ p. R (λ l. l ≡ []) K now p) (sym acted.is) (their_steps K kept now acted.theirs acted.allowed here)

      same_steps : (M : List Step → Type 0) (l k : List Step) → M l → k ≡ [] → M (l ++ k)
      same_steps M l k m e = subst M (sym (ap (λ (x : List Step). l ++ x) e ∙ append-nil l)) m

      pub others_then : (M : List Step → Type 0) (K : Past → Type 0) → Kept K → (old now reached : Past) → R M K old now → Acted rules.allows now reached → R M K old reached
      others_then M K kept old now reached run acted = ran_then M (λ l. l ≡ []) M K K (same_steps M) old now reached run (others K kept now reached acted run.stage)

      -- a call: others act, and then it has one event or none
      module _ (M : List Step → Type 0) (K : Past → Type 0) (kept : Kept K) (old now new : Past) (run : R M K old now) (A : Disk → List Event → Type 0) (told : Answered rules.allows now (Some new) A) where
        pub reached_run : R M K old told.reached
        reached_run = others_then M K kept old now told.reached run told.acted

        pub new_is : new ≡ later told.reached told.ours
        new_is = cc (told.told)

        pub idle : told.ours ≡ [] → R M K old new
        idle e = subst (λ p. R M K old p) (sym (new_is ∙ ap (λ (es : List Event). later told.reached es) e ∙ later-nil told.reached)) reached_run

        pub does : (N : List Step → Type 0) (L : Past → Type 0) (step : Step) → ((l : List Step) → M l → N (l ++ step ∷ [])) → IsOurs step told.ours → IsProperStep rules.reading.number step (replay told.reached)
            → ((t : ℕ) → IsSteady rules.reading told.reached → Steady rules.reading (standing_after rules.reading.number (standing rules.reading.number told.reached) (us step t)))
            → ((t : ℕ) → L (later told.reached (us step t ∷ []))) → R N L old new
        does N L step join one proper keeps there =
            let it = one_step L told.reached step one.0 proper (keeps one.0) (there one.0) in
            let new_is_one : later told.reached (us step one.0 ∷ []) ≡ new = sym (new_is ∙ ap (λ (es : List Event). later told.reached es) one.1) in
            subst (λ p. R N L old p) new_is_one
            (ran_then M (λ l. l ≡ step ∷ []) N K L (λ l k m e. subst (λ (x : List Step). N (l ++ x)) (sym e) (join l m)) old told.reached (later told.reached (us step one.0 ∷ [])) reached_run it)
