-- The law, and the manners of a table's writers.
use Rattle.std.proofs.Common.{◌≡◌, inl, inr, ℕ, ◌+◌, ◌<◌, ◌≤◌, true, false, List, [], ◌∷◌, Option, Some, None, is_some, refl, sym, ap, ◌∙◌, subst, arith}
use Rattle.std.proofs.lemmas.Bool.{cases_lt}
use Rattle.ice_store.specs.Places.{Parts, same_place}
use Rattle.ice_store.specs.Files.{find, is_named, renamed, moved, put, without, changed}
use Rattle.ice_store.specs.History.{Disk, IsImage, replay, later, files_after, new_file, appended, sealed}
use Rattle.ice_store.proofs.FileLaws.{by_test, place_decides, same_itself, find_without_other, find_put_other, find_changed_other, find_renamed_to, find_renamed_other}
use Rattle.ice_store.specs.declared.history.FileRec.{FileRec}
use Rattle.ice_store.specs.declared.history.Held.{Held}
use Rattle.ice_store.specs.declared.history.Past.{Past}
use Rattle.ice_store.specs.declared.history.Step.{Step}
use Rattle.ice_store.specs.declared.history.Step.TheVariants.{Create, Append, Seal, Rename, Remove, SyncNames}
use Rattle.ice_store.specs.declared.history.Who.TheVariants.{Us, Them}
use Rattle.commit_history.specs.Readings.{Reading, IsLocal}
use Rattle.commit_history.specs.Tables.{version, sealed_at, sealed_bytes, IsOutside, IsNumbering}
use Rattle.commit_history.specs.Commits.{Standing, Reopens, standing, standing_after}
use Rattle.commit_history.specs.Steady.{Steady, IsSteady, IsSteadyStep, with_ours}
use Rattle.commit_history.specs.Mannered.{IsTheirs, IsNext, IsSameOrNext, AllowsStep, IsMannered, with_writers, with_nobody}
use Rattle.commit_history.proofs.Agreeing.{version_alike, number_of_named, version_named}
use Rattle.commit_history.proofs.Imaging.{images_reopen}
use Rattle.commit_history.proofs.Following.{standing_disk, standing_later}
use Rattle.commit_history.proofs.Stepping.{us, them, create_steady, append_steady, seal_steady, sync_steady, remove_steady, rename_steady, free_outside, them_create, them_append, them_seal, them_remove, them_rename, changed_named, changed_bytes}

pub unnamed : (fs : List Held) (p : Parts) → is_named fs p ≡ false → find fs p ≡ None
unnamed fs p e = by_option (find fs p) e
  where
    by_option : (o : Option Held) → is_some o ≡ false → o ≡ None
    by_option None e = refl
    by_option (Some h) e = absurd (cc (e))

module _ (reading : Reading) (ruled : IsNumbering reading.number) (localized : IsLocal reading) where
  pub law : (past : Past) → IsSteady reading past → (m : List FileRec) → IsImage (replay past) m → Reopens reading (standing reading.number past) m
  law past steady m image = images_reopen reading ruled localized (standing reading.number past) steady m (subst (λ (d : Disk). IsImage d m) (sym (standing_disk reading.number past)) image)

  -- by a step on what stands
  them_by : (past : Past) (step : Step) (t : ℕ) → Steady reading (standing_after reading.number (standing reading.number past) (them step t)) → IsSteady reading (later past (them step t ∷ []))
  them_by past step t steady = subst (λ (s : Standing). Steady reading s) (sym (standing_later reading.number past (them step t))) steady

  module _ (past : Past) (t : ℕ) (steady : IsSteady reading past) where
    abbrev pub fs : List Held
    fs = (standing reading.number past).disk.files

    same_files : (replay past).files ≡ fs
    same_files = ap (λ (d : Disk). d.files) (sym (standing_disk reading.number past))

    table_keeps : (step : Step) → AllowsStep reading past step → IsSteady reading (later past (them step t ∷ []))
    table_keeps (Create p) may = them_by past (Create p) t (them_create reading ruled localized (standing reading.number past) steady p t
        (free_outside reading ruled localized fs p steady.whole (unnamed fs p (subst (λ (l : List Held). is_named l p ≡ false) same_files may.0)) may.1))
    table_keeps (Append p more) may = let its = subst (λ (l : List Held). IsTheirs l p false) same_files may in
        them_by past (Append p more) t (them_append reading ruled localized (standing reading.number past) steady p its.file its.stands its.sealed_is t more)
    table_keeps (Seal p) may = let its = subst (λ (l : List Held). IsTheirs l p false) same_files may in
        them_by past (Seal p) t (them_seal reading ruled localized (standing reading.number past) steady p its.file its.stands its.sealed_is t)
    table_keeps (Rename p q) may = let next = subst (λ (l : List Held). IsNext reading l p q) same_files may in
        them_by past (Rename p q) t (them_rename reading ruled localized (standing reading.number past) steady p q t (omega (arith, next.next)) (next.whole steady.whole))
    table_keeps (Remove p) may = them_by past (Remove p) t (them_remove reading ruled localized (standing reading.number past) steady p t (subst (λ (l : List Held). IsOutside reading l p) same_files may.1))
    table_keeps SyncNames may = absurd may

  -- versions and names, and the files of Us
  pub not_at : (x y : Parts) → same_place x y ≡ false → x ≡ y → ⊥
  not_at x y e it = absurd (cc (e, ap (same_place x) (sym it), same_itself x))

  pub not_number : (p q : Parts) → reading.number p ≡ 0 → 0 < reading.number q → p ≡ q → ⊥
  not_number p q none pos e = let k : reading.number p ≡ reading.number q = ap reading.number e in absurd (omega (arith, k))

  -- a publish of the next version
  module _ (hs : List Held) (p q : Parts) (h : Held) (stands : find hs p ≡ Some h) (plain : reading.number p ≡ 0) (next : reading.number q ≡ version reading.number hs + 1) where
    abbrev pub gs : List Held
    gs = renamed p q hs

    pub to_q : find gs q ≡ Some (moved q h)
    to_q = find_renamed_to hs p q h stands

    pub other : (r : Parts) → (p ≡ r → ⊥) → (q ≡ r → ⊥) → find gs r ≡ find hs r
    other r = find_renamed_other hs p q h stands r

    bound : version reading.number gs ≤ version reading.number hs + 1
    bound = elim (cases_lt 0 (version reading.number gs)) [
      | inl pos ↦
          let at = version_named reading.number gs pos in
          by_test (same_place q at.0)
          (λ e. let k : reading.number q ≡ reading.number at.0 = ap reading.number ((place_decides q at.0).0 e) in omega (arith, k, at.1.is, next))
          (λ e. let le = number_of_named reading.number hs at.0 at.1.file (sym (other at.0 (not_number p at.0 plain (omega (arith, at.1.is))) (not_at q at.0 e)) ∙ at.1.stands) in omega (arith, le, at.1.is))
      | inr none ↦ omega arith
    ]

    pub rename_rises : version reading.number gs ≡ version reading.number hs + 1
    rename_rises = let le = number_of_named reading.number gs q (moved q h) to_q in let b = bound in omega (arith, le, b, next)

    pub rename_stays : (r : Parts) → 0 < reading.number r → is_named hs r ≡ true → is_named gs r ≡ true
    rename_stays r pos there = by_test (same_place q r)
        (λ e. subst (λ (x : Parts). is_named gs x ≡ true) ((place_decides q r).0 e) (ap is_some to_q))
        (λ e. ap is_some (other r (not_number p r plain pos) (not_at q r e)) ∙ there)

  module _ (past : Past) (t : ℕ) where
    abbrev pub hs : List Held
    hs = (replay past).files

    -- all steps but a publish leave the names of versions as they were
    create_names : (p q : Parts) → reading.number p ≡ 0 → 0 < reading.number q → is_named (put (new_file p Them t) hs) q ≡ is_named hs q
    create_names p q none pos = ap is_some (find_put_other (new_file p Them t) hs q (not_number p q none pos))

    remove_names : (p q : Parts) → reading.number p ≡ 0 → 0 < reading.number q → is_named (without hs p) q ≡ is_named hs q
    remove_names p q none pos = ap is_some (find_without_other hs p q (not_number p q none pos))

    append_names : (p q : Parts) (more : List ℕ) → IsTheirs hs p false → is_named (changed (appended more t) hs p) q ≡ is_named hs q
    append_names p q more its = changed_named reading ruled localized (appended more t) (λ k. refl) hs p its.file its.stands its.sealed_is q

    seal_names : (p q : Parts) → IsTheirs hs p false → is_named (changed sealed hs p) q ≡ is_named hs q
    seal_names p q its = changed_named reading ruled localized sealed (λ k. refl) hs p its.file its.stands its.sealed_is q

    table_rises : (step : Step) → AllowsStep reading past step → IsSameOrNext (version reading.number hs) (version reading.number (files_after hs step Them t))
    table_rises (Create p) may = inl (version_alike reading.number hs (put (new_file p Them t) hs) (λ q pos. create_names p q may.1 pos))
    table_rises (Append p more) may = inl (version_alike reading.number hs (changed (appended more t) hs p) (λ q pos. append_names p q more may))
    table_rises (Seal p) may = inl (version_alike reading.number hs (changed sealed hs p) (λ q pos. seal_names p q may))
    table_rises (Rename p q) may = inr (rename_rises hs p q may.source.file may.source.stands may.plain may.next)
    table_rises (Remove p) may = inl (version_alike reading.number hs (without hs p) (λ q pos. remove_names p q may.1.no_version pos))
    table_rises SyncNames may = absurd may

    table_stays : (step : Step) (r : Parts) → AllowsStep reading past step → 0 < reading.number r → is_named hs r ≡ true → is_named (files_after hs step Them t) r ≡ true
    table_stays (Create p) r may pos there = create_names p r may.1 pos ∙ there
    table_stays (Append p more) r may pos there = append_names p r more may ∙ there
    table_stays (Seal p) r may pos there = seal_names p r may ∙ there
    table_stays (Rename p q) r may pos there = rename_stays hs p q may.source.file may.source.stands may.plain may.next r pos there
    table_stays (Remove p) r may pos there = remove_names p r may.1.no_version pos ∙ there
    table_stays SyncNames r may pos there = absurd may

    table_bytes : (step : Step) (r : Parts) (x : List ℕ) → AllowsStep reading past step → 0 < reading.number r → sealed_at hs r ≡ Some x → sealed_at (files_after hs step Them t) r ≡ Some x
    table_bytes (Create p) r x may pos at = ap sealed_bytes (find_put_other (new_file p Them t) hs r (not_number p r may.1 pos)) ∙ at
    table_bytes (Append p more) r x may pos at = changed_bytes reading ruled localized (appended more t) (λ k. refl) hs p may.file may.stands may.sealed_is r x at
    table_bytes (Seal p) r x may pos at = changed_bytes reading ruled localized sealed (λ k. refl) hs p may.file may.stands may.sealed_is r x at
    table_bytes (Rename p q) r x may pos at = by_test (same_place q r)
        (λ e. let it : q ≡ r = (place_decides q r).0 e in
        let k : None ≡ Some x = sym (ap sealed_bytes (unnamed hs r (subst (λ (y : Parts). is_named hs y ≡ false) it may.free))) ∙ at in absurd (cc (k)))
        (λ e. ap sealed_bytes (other hs p q may.source.file may.source.stands may.plain may.next r (not_number p r may.plain pos) (not_at q r e)) ∙ at)
    table_bytes (Remove p) r x may pos at = ap sealed_bytes (find_without_other hs p r (not_number p r may.1.no_version pos)) ∙ at
    table_bytes SyncNames r x may pos at = absurd may

    -- a file of Us isn't theirs
    not_named : (p q : Parts) (h : Held) → is_named hs p ≡ false → find hs q ≡ Some h → p ≡ q → ⊥
    not_named p q h free stands same = let e : is_some (Some h) ≡ false = sym (ap is_some stands) ∙ ap (λ (r : Parts). is_named hs r) (sym same) ∙ free in absurd (cc (e))

    not_ours : (p q : Parts) (h k : Held) → find hs p ≡ Some k → k.maker ≡ Some Them → find hs q ≡ Some h → h.maker ≡ Some Us → p ≡ q → ⊥
    not_ours p q h k at theirs stands ours same =
        let e : Some h ≡ Some k = sym stands ∙ ap (λ (r : Parts). find hs r) (sym same) ∙ at in
        let f : h ≡ k = cc (e) in
        let g : Some Us ≡ Some Them = sym ours ∙ ap (λ (x : Held). x.maker) f ∙ theirs in
        absurd (cc (g))

    table_spares : (step : Step) (q : Parts) (h : Held) → AllowsStep reading past step → find hs q ≡ Some h → h.maker ≡ Some Us → find (files_after hs step Them t) q ≡ Some h
    table_spares (Create p) q h may stands ours = find_put_other (new_file p Them t) hs q (not_named p q h may.0 stands) ∙ stands
    table_spares (Append p more) q h may stands ours = find_changed_other (appended more t) (λ k. refl) hs p q (not_ours p q h may.file may.stands may.theirs stands ours) ∙ stands
    table_spares (Seal p) q h may stands ours = find_changed_other sealed (λ k. refl) hs p q (not_ours p q h may.file may.stands may.theirs stands ours) ∙ stands
    table_spares (Rename p r) q h may stands ours =
        find_renamed_other hs p r may.source.file may.source.stands q (not_ours p q h may.source.file may.source.stands may.source.theirs stands ours) (not_named r q h may.free stands) ∙ stands
    table_spares (Remove p) q h may stands ours = find_without_other hs p q (not_ours p q h may.0.0 may.0.1 may.0.2 stands ours) ∙ stands
    table_spares SyncNames q h may stands ours = absurd may

  pub table_mannered : IsMannered (with_writers reading)
  table_mannered = record {
    keeps = λ past step t may steady. table_keeps past t steady step may;
    rises = λ past step t may. table_rises past t step may;
    stays = λ past step t q may pos there. table_stays past t step q may pos there;
    bytes = λ past step t q x may pos at. table_bytes past t step q x may pos at;
    spares = λ past step t q h may stands ours. table_spares past t step q h may stands ours;
  }

-- the steps of Us, on histories
module _ (reading : Reading) (ruled : IsNumbering reading.number) (localized : IsLocal reading) (past : Past) (t : ℕ) (steady : IsSteady reading past) where
  by_step : (step : Step) → Steady reading (standing_after reading.number (standing reading.number past) (us step t)) → IsSteady reading (with_ours past step t)
  by_step step there = subst (λ (s : Standing). Steady reading s) (sym (standing_later reading.number past (us step t))) there

  -- what the steps are taken on
  abbrev pub now : Standing
  now = standing reading.number past

  on : (K : Disk → Type 0) → K (replay past) → K now.disk
  on K here = subst K (sym (standing_disk reading.number past)) here

  -- each step of Us under its condition
  pub step_steady : (step : Step) → IsSteadyStep reading step (replay past) → IsSteady reading (with_ours past step t)
  step_steady step may = by_step step (by_condition step (on (IsSteadyStep reading step) may))
    where
      by_condition : (step : Step) → IsSteadyStep reading step now.disk → Steady reading (standing_after reading.number now (us step t))
      by_condition (Create p) may = create_steady reading ruled localized now steady p t may.0 (free_outside reading ruled localized now.disk.files p steady.whole (unnamed now.disk.files p may.1) may.2)
      by_condition (Append p more) may = append_steady reading ruled localized now steady p may.1.file may.1.stands may.1.raw t more may.0
      by_condition (Seal p) may = seal_steady reading ruled localized now steady p may.1.file may.1.stands may.1.raw t may.0
      by_condition (Rename p q) may = rename_steady reading ruled localized now steady p q t (omega (arith, may.next)) may.whole may.file may.stands (unnamed now.disk.files q may.free) may.at_rest
      by_condition (Remove p) may = remove_steady reading ruled localized now steady p t may.0 may.1
      by_condition SyncNames may = sync_steady reading ruled localized now steady t

-- nobody has manners of every kind
pub nobody_mannered : (reading : Reading) → IsMannered (with_nobody reading)
nobody_mannered reading = record {
  keeps = λ past step t may steady. absurd may;
  rises = λ past step t may. absurd may;
  stays = λ past step t q may pos there. absurd may;
  bytes = λ past step t q x may pos at. absurd may;
  spares = λ past step t q h may stands ours. absurd may;
}
