-- Laws of the stages of a publish: others keep them, and each step leads from one to the next.
use Rattle.std.proofs.Common.{◌≡◌, ◌⊎◌, inl, inr, ℕ, zero, suc, ◌+◌, ◌<◌, Bool, true, false, List, [], ◌∷◌, ◌++◌, Option, Some, None, is_some, refl, sym, ap, ◌∙◌, subst, arith, append-nil, append_assoc}
use Rattle.ice_store.specs.Places.{Parts}
use Rattle.ice_store.specs.Files.{find, is_named, renamed, moved, put, changed}
use Rattle.ice_store.specs.History.{Disk, replay, later, disk_after, files_after, new_file, appended, sealed}
use Rattle.ice_store.specs.Calls.{IsCreation, IsUnmoved}
use Rattle.ice_store.proofs.FileLaws.{find_without_other, find_put_same, find_put_other, find_changed_same, find_renamed_to}
use Rattle.ice_store.proofs.HistoryLaws.{replay-later}
use Rattle.ice_store.specs.declared.history.NameChange.{NameChange}
use Rattle.ice_store.specs.declared.history.NameChange.TheVariants.{Created, Renamed, Removed}
use Rattle.ice_store.specs.declared.history.Held.{Held}
use Rattle.ice_store.specs.declared.history.Past.{Past}
use Rattle.ice_store.specs.declared.history.Step.{Step}
use Rattle.ice_store.specs.declared.history.Step.TheVariants.{Create, Append, Seal, Rename, Remove, SyncNames}
use Rattle.ice_store.specs.declared.history.Who.TheVariants.{Us, Them}
use Rattle.commit_history.specs.Readings.{Reading, Rules, IsLocal}
use Rattle.commit_history.specs.Tables.{version, table, sealed_at, sealed_bytes, Whole, InReach, IsNumbering}
use Rattle.commit_history.specs.Commits.{Standing, Tables, standing, standing_after, commit_of, commit_to}
use Rattle.commit_history.specs.Steady.{Each, IsFreshChange, IsOldChange, IsOnlyFresh, Steady, IsSteady}
use Rattle.commit_history.specs.Mannered.{IsMannered}
use Rattle.commit_history.specs.Runs.{Ran, IsProperStep}
use Rattle.commit_history.proofs.Agreeing.{version_alike, version_named, table_is}
use Rattle.commit_history.proofs.Following.{standing_disk, standing_later}
use Rattle.commit_history.proofs.Stepping.{us, them, each_push, free_outside, create_steady, append_steady, seal_steady, sync_steady, remove_steady, rename_steady, changed_named}
use Rattle.commit_history.proofs.Manners.{unnamed, not_number, rename_rises}
use Rattle.commit_history.proofs.Running.{Kept}
use Rattle.commit_publish.specs.declared.steps.Route.{Route}
use Rattle.commit_publish.specs.Stages.{Creating, AtRest, Aim, Stage, NoFile, HasDraft, IsTaken, IsLost, InState, Holds, IsCommitted, IsRenamed, IsPublished}
use Rattle.commit_publish.specs.Steps.{Anything}

holds_more : (tables part more : Tables) → Holds tables part → Holds (tables ++ more) part
holds_more tables part more h = record {
  before = h.before;
  after = h.after ++ more;
  is = ap (λ (l : Tables). l ++ more) h.is ∙ append_assoc h.before (part ++ h.after) more ∙ ap (λ (l : Tables). h.before ++ l) (append_assoc part h.after more);
}

committed_more : (text bytes : List ℕ) (A : Type 0) (tables more : Tables) → IsCommitted text bytes A tables → IsCommitted text bytes A (tables ++ more)
committed_more text bytes A tables more c = (holds_more tables (Some bytes ∷ []) more c.0, λ a. holds_more tables (Some text ∷ Some bytes ∷ []) more (c.1 a))

creations_fresh : (reading : Reading) (fs : List Held) (cs : List NameChange) → Creating cs → Each (IsOldChange reading fs) cs → Each (IsFreshChange reading fs) cs
creations_fresh reading fs [] made old = tt
creations_fresh reading fs (Created p ∷ cs) made old = absurd old.0
creations_fresh reading fs (Renamed p q ∷ cs) made old = absurd old.0
creations_fresh reading fs (Removed h ∷ cs) made old = absurd made.0

pub creations_unmoved : (cs : List NameChange) (p : Parts) → Creating cs → IsUnmoved cs p
creations_unmoved [] p made = tt
creations_unmoved (c ∷ cs) p made = (λ names. made.0, creations_unmoved cs p made.1)

module _ (rules : Rules) (ruled : IsNumbering rules.reading.number) (localized : IsLocal rules.reading) (mannered : IsMannered rules) where
  fresh_of : (s : Standing) → Steady rules.reading s → Creating s.disk.pending → IsOnlyFresh rules.reading s.disk
  fresh_of s steady made = elim steady.form [
    | inl fresh ↦ fresh
    | inr (inl old) ↦ creations_fresh rules.reading s.disk.files s.disk.pending made old
    | inr (inr one) ↦ let k = subst Creating one.pending made in absurd k.0
  ]

  module _ (route : Route) (bytes : List ℕ) (aim : Aim rules.reading.number route) where
    abbrev pub St : (List NameChange → Type 0) → (List Held → Type 0) → Disk → Type 0
    St = Stage rules.reading.number route

    abbrev pub K0 : Past → Type 0
    K0 = InState (St Creating NoFile)

    abbrev pub KD : (List NameChange → Type 0) → Bool → List ℕ → Past → Type 0
    KD Pending s b = InState (St Pending (HasDraft route.draft s b))

    abbrev pub KT : Past → Type 0
    KT = InState (St AtRest (IsTaken route bytes))

    abbrev pub RR : (List Step → Type 0) → (Past → Type 0) → Past → Past → Type 0
    RR = Ran rules

    target_pos : 0 < rules.reading.number route.target
    target_pos = let k = aim.next in omega (arith, k)

    -- the last part of a stage, where the names of versions stay
    last_on : (fs gs : List Held) → ((r : Parts) → 0 < rules.reading.number r → is_named gs r ≡ is_named fs r) → (version rules.reading.number fs ≡ rules.reading.number route.base) ⊎ (is_named fs route.target ≡ true) → (version rules.reading.number gs ≡ rules.reading.number route.base) ⊎ (is_named gs route.target ≡ true)
    last_on fs gs same (inl e) = inl (version_alike rules.reading.number fs gs same ∙ e)
    last_on fs gs same (inr e) = inr (same route.target target_pos ∙ e)

    -- Others.

    last_kept : (past : Past) (step : Step) (t : ℕ) → rules.allows past step → (version rules.reading.number (replay past).files ≡ rules.reading.number route.base) ⊎ (is_named (replay past).files route.target ≡ true)
        → (version rules.reading.number (files_after (replay past).files step Them t) ≡ rules.reading.number route.base) ⊎ (is_named (files_after (replay past).files step Them t) route.target ≡ true)
    last_kept past step t may (inr e) = inr (mannered.stays past step t route.target may target_pos e)
    last_kept past step t may (inl e) = elim (mannered.rises past step t may) [
      | inl same ↦ inl (same ∙ e)
      | inr one ↦
          let gs = files_after (replay past).files step Them t in
          let at = version_named rules.reading.number gs (omega (arith, one)) in
          let it : route.target ≡ at.0 = ruled.single route.target at.0 target_pos (omega (arith, aim.next, at.1.is, one, e)) in
          inr (subst (λ (p : Parts). is_named gs p ≡ true) (sym it) (ap is_some at.1.stands))
    ]

    kept_stage : (Pending : List NameChange → Type 0) → Pending [] → (File : List Held → Type 0) → ((past : Past) (step : Step) (t : ℕ) → rules.allows past step → File (replay past).files → File (files_after (replay past).files step Them t)) → Kept rules ruled localized mannered (InState (St Pending File))
    kept_stage Pending none File keeps past step t may here = subst (St Pending File) (sym (replay-later past (them step t ∷ []))) (record {
      pending = none;
      last_or_taken = last_kept past step t may here.last_or_taken;
      file = keeps past step t may here.file;
    })

    draft_kept : (s : Bool) (b : List ℕ) (past : Past) (step : Step) (t : ℕ) → rules.allows past step → HasDraft route.draft s b (replay past).files → HasDraft route.draft s b (files_after (replay past).files step Them t)
    draft_kept s b past step t may d = record { file = d.file; stands = mannered.spares past step t route.draft d.file may d.stands d.ours; ours = d.ours; sealed_is = d.sealed_is; bytes_is = d.bytes_is }

    taken_kept : (past : Past) (step : Step) (t : ℕ) → rules.allows past step → IsTaken route bytes (replay past).files → IsTaken route bytes (files_after (replay past).files step Them t)
    taken_kept past step t may d = record { stands = draft_kept true bytes past step t may d.stands; taken = mannered.stays past step t route.target may target_pos d.taken }

    abbrev pub Kp : (Past → Type 0) → Type 0
    Kp = Kept rules ruled localized mannered

    pub k0 : Kp K0
    k0 = kept_stage Creating tt NoFile (λ past step t may none. tt)

    pub kd : (s : Bool) (b : List ℕ) → Kp (KD Creating s b)
    kd s b = kept_stage Creating tt (HasDraft route.draft s b) (draft_kept s b)

    pub kr : (s : Bool) (b : List ℕ) → Kp (KD AtRest s b)
    kr s b = kept_stage AtRest refl (HasDraft route.draft s b) (draft_kept s b)

    pub kt : Kp KT
    kt = kept_stage AtRest refl (IsTaken route bytes) taken_kept

    pub kn : Kp (InState (λ d. is_named d.files route.target ≡ true))
    kn past step t may here = subst (λ d. is_named d.files route.target ≡ true) (sym (replay-later past (them step t ∷ []))) (mannered.stays past step t route.target may target_pos here)

    pub ka : Kp Anything
    ka past step t may here = tt

    pub k_renamed : (A : Type 0) → Kp (IsRenamed rules.reading.number route.text bytes A)
    k_renamed A past step t may here =
        let s = standing rules.reading.number past in
        let C = commit_of rules.reading.number step (disk_after s.disk (them step t)).files in
        subst (λ (x : Standing). IsCommitted route.text bytes A (x.acknowledged ++ x.unacknowledged)) (sym (standing_later rules.reading.number past (them step t)))
        (subst (λ (l : Tables). IsCommitted route.text bytes A l) (append_assoc s.acknowledged s.unacknowledged C ∙ sym (append-nil (s.acknowledged ++ (s.unacknowledged ++ C)))) (committed_more route.text bytes A (s.acknowledged ++ s.unacknowledged) C here))

    pub k_published : (A : Type 0) → Kp (IsPublished rules.reading.number route.text bytes A)
    k_published A past step t may here =
        let s = standing rules.reading.number past in
        let C = commit_of rules.reading.number step (disk_after s.disk (them step t)).files in
        subst (λ (x : Standing). IsCommitted route.text bytes A x.acknowledged) (sym (standing_later rules.reading.number past (them step t))) (committed_more route.text bytes A s.acknowledged (s.unacknowledged ++ C) here)

    -- Steps of ours: on what stands.

    on_standing : (K : Disk → Type 0) (past : Past) → K (replay past) → K (standing rules.reading.number past).disk
    on_standing K past here = subst K (sym (standing_disk rules.reading.number past)) here

    after : (K : Disk → Type 0) (past : Past) (step : Step) (t : ℕ) → K (disk_after (replay past) (us step t)) → InState K (later past (us step t ∷ []))
    after K past step t there = subst K (sym (replay-later past (us step t ∷ []))) there

    abbrev pub St1 : Past → Type 0
    St1 past = IsSteady rules.reading past

    abbrev pub St2 : Past → Step → ℕ → Type 0
    St2 past step t = Steady rules.reading (standing_after rules.reading.number (standing rules.reading.number past) (us step t))

    module _ (past : Past) (t : ℕ) where
      pub create_keeps : is_named (replay past).files route.draft ≡ false → K0 past → St1 past → St2 past (Create route.draft) t
      create_keeps free here steady =
          let s = standing rules.reading.number past in
          let now = on_standing (St Creating NoFile) past here in
          create_steady rules.reading ruled localized s steady route.draft t (fresh_of s steady now.pending)
          (free_outside rules.reading ruled localized s.disk.files route.draft steady.whole (unnamed s.disk.files route.draft (on_standing (λ d. is_named d.files route.draft ≡ false) past free)) aim.plain)

      pub create_leads : is_named (replay past).files route.draft ≡ false → K0 past → KD Creating false [] (later past (us (Create route.draft) t ∷ []))
      create_leads free here =
          let fs = (replay past).files in
          let away : (r : Parts) → 0 < rules.reading.number r → find (put (new_file route.draft Us t) fs) r ≡ find fs r = λ r pos. find_put_other (new_file route.draft Us t) fs r (not_number rules.reading ruled localized route.draft r aim.plain pos) in
          after (St Creating (HasDraft route.draft false [])) past (Create route.draft) t (record {
            pending = each_push IsCreation (replay past).pending (Created route.draft) here.pending tt;
            last_or_taken = last_on fs (put (new_file route.draft Us t) fs) (λ r pos. ap is_some (away r pos)) here.last_or_taken;
            file = record { file = new_file route.draft Us t; stands = find_put_same (new_file route.draft Us t) fs; ours = refl; sealed_is = refl; bytes_is = refl };
          })

      module _ (b : List ℕ) (here : KD Creating false b past) where
        pub append_keeps : (more : List ℕ) → St1 past → St2 past (Append route.draft more) t
        append_keeps more steady =
            let now = on_standing (St Creating (HasDraft route.draft false b)) past here in
            append_steady rules.reading ruled localized (standing rules.reading.number past) steady route.draft now.file.file now.file.stands now.file.sealed_is t more (fresh_of (standing rules.reading.number past) steady now.pending)

        pub append_leads : (more : List ℕ) → KD Creating false (b ++ more) (later past (us (Append route.draft more) t ∷ []))
        append_leads more =
            let fs = (replay past).files in
            after (St Creating (HasDraft route.draft false (b ++ more))) past (Append route.draft more) t (record {
              pending = here.pending;
              last_or_taken = last_on fs (changed (appended more t) fs route.draft) (λ r pos. changed_named rules.reading ruled localized (appended more t) (λ k. refl) fs route.draft here.file.file here.file.stands here.file.sealed_is r) here.last_or_taken;
              file = record { file = appended more t here.file.file; stands = find_changed_same (appended more t) (λ h. refl) fs route.draft here.file.file here.file.stands; ours = here.file.ours; sealed_is = here.file.sealed_is; bytes_is = ap (λ (l : List ℕ). l ++ more) here.file.bytes_is };
            })

        pub seal_keeps : St1 past → St2 past (Seal route.draft) t
        seal_keeps steady =
            let now = on_standing (St Creating (HasDraft route.draft false b)) past here in
            seal_steady rules.reading ruled localized (standing rules.reading.number past) steady route.draft now.file.file now.file.stands now.file.sealed_is t (fresh_of (standing rules.reading.number past) steady now.pending)

        pub seal_leads : KD Creating true b (later past (us (Seal route.draft) t ∷ []))
        seal_leads =
            let fs = (replay past).files in
            after (St Creating (HasDraft route.draft true b)) past (Seal route.draft) t (record {
              pending = here.pending;
              last_or_taken = last_on fs (changed sealed fs route.draft) (λ r pos. changed_named rules.reading ruled localized sealed (λ k. refl) fs route.draft here.file.file here.file.stands here.file.sealed_is r) here.last_or_taken;
              file = record { file = sealed here.file.file; stands = find_changed_same sealed (λ h. refl) fs route.draft here.file.file here.file.stands; ours = here.file.ours; sealed_is = refl; bytes_is = here.file.bytes_is };
            })

      pub sync_keeps : St1 past → St2 past SyncNames t
      sync_keeps steady = sync_steady rules.reading ruled localized (standing rules.reading.number past) steady t

      pub sync_leads : (b : List ℕ) → KD Creating true b past → KD AtRest true b (later past (us SyncNames t ∷ []))
      sync_leads b here = after (St AtRest (HasDraft route.draft true b)) past SyncNames t (record { pending = refl; last_or_taken = here.last_or_taken; file = here.file })

      pub remove_keeps : ((files : List Held) (p : Parts) → InReach rules.reading files p → ⊥) → KT past → St1 past → St2 past (Remove route.draft) t
      remove_keeps never here steady =
          let now = on_standing (St AtRest (IsTaken route bytes)) past here in
          let s = standing rules.reading.number past in
          remove_steady rules.reading ruled localized s steady route.draft t (subst (λ (cs : List NameChange). Each (IsOldChange rules.reading s.disk.files) cs) (sym now.pending) tt)
          (record { no_version = aim.plain; unreached = never s.disk.files route.draft })

      abbrev pub KN : Past → Type 0
      KN = InState (λ d. is_named d.files route.target ≡ true)

      pub remove_leads : KT past → KN (later past (us (Remove route.draft) t ∷ []))
      remove_leads here = after (λ d. is_named d.files route.target ≡ true) past (Remove route.draft) t
          (ap is_some (find_without_other (replay past).files route.draft route.target (not_number rules.reading ruled localized route.draft route.target aim.plain target_pos)) ∙ here.file.taken)

      pub named_leads : KN past → InState (IsLost route.target) (later past (us SyncNames t ∷ []))
      named_leads here = after (IsLost route.target) past SyncNames t (record { at_rest = refl; taken = here })

      -- the rename
      module _ (good : (c : Parts → Option (List ℕ)) → rules.reading.good bytes c) (free : is_named (replay past).files route.target ≡ false) (here : KD AtRest true bytes past) where
        last_is : (fs : List Held) → is_named fs route.target ≡ false → (version rules.reading.number fs ≡ rules.reading.number route.base) ⊎ (is_named fs route.target ≡ true) → version rules.reading.number fs ≡ rules.reading.number route.base
        last_is fs free (inl e) = e
        last_is fs free (inr e) = absurd (cc (e, free))

        pub move_proper : IsProperStep rules.reading.number (Rename route.draft route.target) (replay past)
        move_proper = (aim.plain, λ pos. let e = last_is (replay past).files free here.last_or_taken in (free, aim.next ∙ ap (λ (n : ℕ). n + 1) (sym e)))

        module _ (s : Standing) (now : St AtRest (HasDraft route.draft true bytes) s.disk) (unheld : is_named s.disk.files route.target ≡ false) where
          abbrev pub fs : List Held
          fs = s.disk.files

          next_is : rules.reading.number route.target ≡ version rules.reading.number fs + 1
          next_is = aim.next ∙ ap (λ (n : ℕ). n + 1) (sym (last_is fs unheld now.last_or_taken))

          abbrev pub gs : List Held
          gs = renamed route.draft route.target fs

          rises : version rules.reading.number gs ≡ version rules.reading.number fs + 1
          rises = rename_rises rules.reading ruled localized fs route.draft route.target now.file.file now.file.stands aim.plain next_is

          sealed_there : (h : Held) → h.is_sealed ≡ true → sealed_bytes (Some h) ≡ Some h.bytes
          sealed_there h e = rw e refl

          new_table : table rules.reading.number gs ≡ Some bytes
          new_table =
              let at = find_renamed_to fs route.draft route.target now.file.file now.file.stands in
              table_is rules.reading.number ruled gs route.target (record { is = next_is ∙ sym rises; file = moved route.target now.file.file; stands = at }) (omega (arith, rises))
              ∙ ap sealed_bytes at ∙ sealed_there (moved route.target now.file.file) now.file.sealed_is ∙ ap (λ (l : List ℕ). Some l) now.file.bytes_is

          new_whole : Whole rules.reading gs
          new_whole = inr (record { bytes = bytes; is = new_table; good = good (sealed_at gs) })

          old_table : sealed_at fs route.base ≡ Some route.text → table rules.reading.number fs ≡ Some route.text
          old_table stands = by_find (find fs route.base) refl
            where
              at_base : (o : Option Held) → find fs route.base ≡ o → sealed_bytes o ≡ Some route.text → (h : Held) × (find fs route.base ≡ Some h)
              at_base None e k = absurd (cc (k))
              at_base (Some h) e k = (h, e)

              by_find : (o : Option Held) → find fs route.base ≡ o → table rules.reading.number fs ≡ Some route.text
              by_find o e =
                  let h = at_base o e (sym (ap sealed_bytes e) ∙ stands) in
                  let v = last_is fs unheld now.last_or_taken in
                  table_is rules.reading.number ruled fs route.base (record { is = sym v; file = h.0; stands = h.1 }) (omega (arith, v, aim.based)) ∙ stands

          move_steady : Steady rules.reading s → Steady rules.reading (standing_after rules.reading.number s (us (Rename route.draft route.target) t))
          move_steady steady = rename_steady rules.reading ruled localized s steady route.draft route.target t target_pos new_whole now.file.file now.file.stands (unnamed fs route.target unheld) now.pending

          one_commit : commit_of rules.reading.number (Rename route.draft route.target) gs ≡ Some bytes ∷ []
          one_commit = by_number (rules.reading.number route.target) target_pos ∙ ap (λ (x : Option (List ℕ)). x ∷ []) new_table
            where
              by_number : (n : ℕ) → 0 < n → commit_to rules.reading.number n gs ≡ table rules.reading.number gs ∷ []
              by_number zero pos = absurd (omega arith)
              by_number (suc n) pos = refl

          move_commits : (A : Type 0) → (A → Steady rules.reading s) → (A → sealed_at fs route.base ≡ Some route.text) → IsCommitted route.text bytes A (s.acknowledged ++ (s.unacknowledged ++ commit_of rules.reading.number (Rename route.draft route.target) gs))
          move_commits A steady based =
              let all : s.acknowledged ++ (s.unacknowledged ++ commit_of rules.reading.number (Rename route.draft route.target) gs) ≡ (s.acknowledged ++ s.unacknowledged) ++ Some bytes ∷ [] = ap (λ (l : Tables). s.acknowledged ++ (s.unacknowledged ++ l)) one_commit ∙ sym (append_assoc s.acknowledged s.unacknowledged (Some bytes ∷ [])) in (
                record { before = s.acknowledged ++ s.unacknowledged; after = []; is = all },
                λ a.
                    let last = (steady a).last in
                    record {
                      before = last.before;
                      after = [];
                      is = all ∙ ap (λ (l : Tables). l ++ Some bytes ∷ []) (last.is ∙ ap (λ (x : Option (List ℕ)). last.before ++ x ∷ []) (old_table (based a))) ∙ append_assoc last.before (Some route.text ∷ []) (Some bytes ∷ []);
                    },
              )

        pub move_keeps : St1 past → St2 past (Rename route.draft route.target) t
        move_keeps steady = move_steady (standing rules.reading.number past) (on_standing (St AtRest (HasDraft route.draft true bytes)) past here) (on_standing (λ d. is_named d.files route.target ≡ false) past free) steady

        pub move_leads : (A : Type 0) → (A → St1 past) → (A → sealed_at (replay past).files route.base ≡ Some route.text) → IsRenamed rules.reading.number route.text bytes A (later past (us (Rename route.draft route.target) t ∷ []))
        move_leads A steady based = subst (λ (x : Standing). IsCommitted route.text bytes A (x.acknowledged ++ x.unacknowledged)) (sym (standing_later rules.reading.number past (us (Rename route.draft route.target) t)))
            (move_commits (standing rules.reading.number past) (on_standing (St AtRest (HasDraft route.draft true bytes)) past here) (on_standing (λ d. is_named d.files route.target ≡ false) past free) A steady
            (λ a. on_standing (λ d. sealed_at d.files route.base ≡ Some route.text) past (based a)))

      pub publish_leads : (A : Type 0) → IsRenamed rules.reading.number route.text bytes A past → IsPublished rules.reading.number route.text bytes A (later past (us SyncNames t ∷ []))
      publish_leads A here =
          let s = standing rules.reading.number past in
          subst (λ (x : Standing). IsCommitted route.text bytes A x.acknowledged) (sym (standing_later rules.reading.number past (us SyncNames t)))
          (subst (λ (l : Tables). IsCommitted route.text bytes A l) (ap (λ (l : Tables). s.acknowledged ++ l) (sym (append-nil s.unacknowledged))) here)
