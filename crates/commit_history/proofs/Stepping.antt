-- The steps that keep a history steady.
use Rattle.std.proofs.Common.{◌≡◌, inl, inr, ℕ, zero, suc, ◌<◌, false, List, [], ◌∷◌, ◌++◌, Option, Some, None, is_some, refl, sym, ap, ◌∙◌, subst, arith, append-nil, append_assoc}
use Rattle.ice_store.specs.Places.{Parts, same_place}
use Rattle.ice_store.specs.Files.{find, is_named, renamed, moved, put, without, changed}
use Rattle.ice_store.specs.History.{new_file, appended, sealed, removal}
use Rattle.ice_store.proofs.FileLaws.{by_test, place_decides, same_itself, find_without_other, find_put_other, find_changed_same, find_changed_other, find_renamed_to, find_renamed_from, find_renamed_other}
use Rattle.ice_store.specs.declared.history.NameChange.{NameChange}
use Rattle.ice_store.specs.declared.history.NameChange.TheVariants.{Created, Renamed, Removed}
use Rattle.ice_store.specs.declared.history.Event.{Event}
use Rattle.ice_store.specs.declared.history.Held.{Held}
use Rattle.ice_store.specs.declared.history.Step.{Step}
use Rattle.ice_store.specs.declared.history.Step.TheVariants.{Create, Append, Seal, Rename, Remove, SyncNames}
use Rattle.ice_store.specs.declared.history.Who.{Who}
use Rattle.ice_store.specs.declared.history.Who.TheVariants.{Us, Them}
use Rattle.commit_history.specs.Readings.{Reading, IsLocal}
use Rattle.commit_history.specs.Tables.{table, sealed_at, sealed_bytes, Whole, IsOutside, IsNumbering}
use Rattle.commit_history.specs.Commits.{Standing, Tables, IsLast, standing_after, commit_of, commit_to}
use Rattle.commit_history.specs.Steady.{Each, IsFreshChange, IsOldChange, IsOnlyFresh, IsOnlyOld, Steady}
use Rattle.commit_history.proofs.Agreeing.{Agrees, same_table, still_whole, still_outside, reach_there, find_place}
use Rattle.commit_history.proofs.Imaging.{counts_not_out, alike}

abbrev pub us : Step → ℕ → Event
us step t = record { who = Us; step = step; ms = t }

abbrev pub them : Step → ℕ → Event
them step t = record { who = Them; step = step; ms = t }

pub each_map : (P Q : NameChange → Type 0) → ((c : NameChange) → P c → Q c) → (cs : List NameChange) → Each P cs → Each Q cs
each_map P Q f [] each = tt
each_map P Q f (c ∷ cs) each = (f c each.0, each_map P Q f cs each.1)

pub each_push : (P : NameChange → Type 0) (cs : List NameChange) (c : NameChange) → Each P cs → P c → Each P (cs ++ c ∷ [])
each_push P [] c each one = (one, tt)
each_push P (d ∷ ds) c each one = (each.0, each_push P ds c each.1 one)

module _ (reading : Reading) (ruled : IsNumbering reading.number) (localized : IsLocal reading) where
  pub free_outside : (fs : List Held) (p : Parts) → Whole reading fs → find fs p ≡ None → reading.number p ≡ 0 → IsOutside reading fs p
  free_outside fs p whole free none = record {
    no_version = none;
    unreached = λ r. let there = reach_there reading localized fs p whole r in absurd (cc (there.1, ap sealed_bytes free));
  }

  pub create_agrees : (fs : List Held) (p : Parts) (w : Who) (t : ℕ) → IsOutside reading fs p → Agrees reading fs (put (new_file p w t) fs)
  create_agrees fs p w t out = alike reading fs (put (new_file p w t) fs) (λ q counts. find_put_other (new_file p w t) fs q (counts_not_out reading fs q p counts out))

  pub remove_agrees : (fs : List Held) (p : Parts) → IsOutside reading fs p → Agrees reading fs (without fs p)
  remove_agrees fs p out = alike reading fs (without fs p) (λ q counts. find_without_other fs p q (counts_not_out reading fs q p counts out))

  module _ (f : Held → Held) (keeps : (h : Held) → (f h).place ≡ h.place) (fs : List Held) (p : Parts) (h : Held) (stands : find fs p ≡ Some h) (raw : h.is_sealed ≡ false) where
    pub changed_named : (q : Parts) → is_named (changed f fs p) q ≡ is_named fs q
    changed_named q = by_test (same_place p q)
        (λ e. let it : p ≡ q = (place_decides p q).0 e in
        subst (λ (r : Parts). is_named (changed f fs p) r ≡ is_named fs r) it (ap is_some (find_changed_same f keeps fs p h stands) ∙ sym (ap is_some stands)))
        (λ e. ap is_some (find_changed_other f keeps fs p q (λ it. absurd (cc (e, ap (λ (r : Parts). same_place p r) (sym it), same_itself p)))))

    pub raw_bytes : sealed_at fs p ≡ None
    raw_bytes = ap sealed_bytes stands ∙ unsealed h raw
      where
        unsealed : (k : Held) → k.is_sealed ≡ false → sealed_bytes (Some k) ≡ None
        unsealed k e = rw e refl

    pub changed_bytes : (q : Parts) (x : List ℕ) → sealed_at fs q ≡ Some x → sealed_at (changed f fs p) q ≡ Some x
    changed_bytes q x at = ap sealed_bytes (find_changed_other f keeps fs p q (λ it. absurd (cc (raw_bytes, at, ap (sealed_at fs) it)))) ∙ at

    pub changed_agrees : Agrees reading fs (changed f fs p)
    changed_agrees = record {
      named = λ q pos. changed_named q;
      bytes = λ q x counts at. changed_bytes q x at;
    }

  module _ (s : Standing) (steady : Steady reading s) where
    abbrev pub S : Standing → Type 0
    S = Steady reading

    abbrev pub fs : List Held
    fs = s.disk.files

    total_us : s.acknowledged ++ (s.unacknowledged ++ []) ≡ s.acknowledged ++ s.unacknowledged
    total_us = ap (λ (l : Tables). s.acknowledged ++ l) (append-nil s.unacknowledged)

    total_them : (s.acknowledged ++ (s.unacknowledged ++ [])) ++ [] ≡ s.acknowledged ++ s.unacknowledged
    total_them = append-nil (s.acknowledged ++ (s.unacknowledged ++ [])) ∙ total_us

    module _ (gs : List Held) (agrees : Agrees reading fs gs) where
      whole_on : Whole reading gs
      whole_on = still_whole reading fs gs agrees ruled localized steady.whole

      last_on : IsLast (s.acknowledged ++ s.unacknowledged) (table reading.number gs)
      last_on = subst (λ (t : Option (List ℕ)). IsLast (s.acknowledged ++ s.unacknowledged) t) (sym (same_table reading fs gs agrees ruled localized steady.whole)) steady.last

      last_us : IsLast (s.acknowledged ++ (s.unacknowledged ++ [])) (table reading.number gs)
      last_us = subst (λ (l : Tables). IsLast l (table reading.number gs)) (sym total_us) last_on

      last_them : IsLast ((s.acknowledged ++ (s.unacknowledged ++ [])) ++ []) (table reading.number gs)
      last_them = subst (λ (l : Tables). IsLast l (table reading.number gs)) (sym total_them) last_on

      outside_on : (p : Parts) → IsOutside reading fs p → IsOutside reading gs p
      outside_on p out = still_outside reading fs gs agrees ruled localized steady.whole p out

      fresh_on : (cs : List NameChange) → Each (IsFreshChange reading fs) cs → Each (IsFreshChange reading gs) cs
      fresh_on cs each = each_map (IsFreshChange reading fs) (IsFreshChange reading gs) one cs each
        where
          one : (c : NameChange) → IsFreshChange reading fs c → IsFreshChange reading gs c
          one (Created p) out = outside_on p out
          one (Renamed p q) out = absurd out
          one (Removed h) out = absurd out

      old_on : (cs : List NameChange) → Each (IsOldChange reading fs) cs → Each (IsOldChange reading gs) cs
      old_on cs each = each_map (IsOldChange reading fs) (IsOldChange reading gs) one cs each
        where
          one : (c : NameChange) → IsOldChange reading fs c → IsOldChange reading gs c
          one (Created p) out = absurd out
          one (Renamed p q) out = absurd out
          one (Removed h) out = outside_on h.place out

    -- Steps of Us.

    pub create_fresh : (p : Parts) (t : ℕ) → IsOnlyFresh reading s.disk → IsOutside reading fs p → IsOnlyFresh reading (standing_after reading.number s (us (Create p) t)).disk
    create_fresh p t fresh out =
        let a = create_agrees fs p Us t out in
        each_push (IsFreshChange reading (put (new_file p Us t) fs)) s.disk.pending (Created p) (fresh_on (put (new_file p Us t) fs) a s.disk.pending fresh) (outside_on (put (new_file p Us t) fs) a p out)

    pub create_steady : (p : Parts) (t : ℕ) → IsOnlyFresh reading s.disk → IsOutside reading fs p → S (standing_after reading.number s (us (Create p) t))
    create_steady p t fresh out =
        let a = create_agrees fs p Us t out in
        record { whole = whole_on (put (new_file p Us t) fs) a; last = last_us (put (new_file p Us t) fs) a; form = inl (create_fresh p t fresh out) }

    module _ (p : Parts) (h : Held) (stands : find fs p ≡ Some h) (raw : h.is_sealed ≡ false) (t : ℕ) where
      append_a : (more : List ℕ) → Agrees reading fs (changed (appended more t) fs p)
      append_a more = changed_agrees (appended more t) (λ k. refl) fs p h stands raw

      seal_a : Agrees reading fs (changed sealed fs p)
      seal_a = changed_agrees sealed (λ k. refl) fs p h stands raw

      pub append_fresh : (more : List ℕ) → IsOnlyFresh reading s.disk → IsOnlyFresh reading (standing_after reading.number s (us (Append p more) t)).disk
      append_fresh more fresh = fresh_on (changed (appended more t) fs p) (append_a more) s.disk.pending fresh

      pub append_steady : (more : List ℕ) → IsOnlyFresh reading s.disk → S (standing_after reading.number s (us (Append p more) t))
      append_steady more fresh = record { whole = whole_on (changed (appended more t) fs p) (append_a more); last = last_us (changed (appended more t) fs p) (append_a more); form = inl (append_fresh more fresh) }

      pub seal_fresh : IsOnlyFresh reading s.disk → IsOnlyFresh reading (standing_after reading.number s (us (Seal p) t)).disk
      seal_fresh fresh = fresh_on (changed sealed fs p) seal_a s.disk.pending fresh

      pub seal_steady : IsOnlyFresh reading s.disk → S (standing_after reading.number s (us (Seal p) t))
      seal_steady fresh = record { whole = whole_on (changed sealed fs p) seal_a; last = last_us (changed sealed fs p) seal_a; form = inl (seal_fresh fresh) }

      pub them_append : (more : List ℕ) → S (standing_after reading.number s (them (Append p more) t))
      them_append more = record { whole = whole_on (changed (appended more t) fs p) (append_a more); last = last_them (changed (appended more t) fs p) (append_a more); form = inl tt }

      pub them_seal : S (standing_after reading.number s (them (Seal p) t))
      them_seal = record { whole = whole_on (changed sealed fs p) seal_a; last = last_them (changed sealed fs p) seal_a; form = inl tt }

    removal_old : (p : Parts) → IsOutside reading fs p → (gs : List Held) (agrees : Agrees reading fs gs) (o : Option Held) → find fs p ≡ o → Each (IsOldChange reading gs) s.disk.pending → Each (IsOldChange reading gs) (s.disk.pending ++ removal o)
    removal_old p out gs agrees None is each = subst (λ (l : List NameChange). Each (IsOldChange reading gs) l) (sym (append-nil s.disk.pending)) each
    removal_old p out gs agrees (Some h) is each = each_push (IsOldChange reading gs) s.disk.pending (Removed h) each
        (subst (λ (q : Parts). IsOutside reading gs q) (sym (find_place fs p h is)) (outside_on gs agrees p out))

    pub remove_old : (p : Parts) (t : ℕ) → IsOnlyOld reading s.disk → IsOutside reading fs p → IsOnlyOld reading (standing_after reading.number s (us (Remove p) t)).disk
    remove_old p t old out = let a = remove_agrees fs p out in removal_old p out (without fs p) a (find fs p) refl (old_on (without fs p) a s.disk.pending old)

    pub remove_steady : (p : Parts) (t : ℕ) → IsOnlyOld reading s.disk → IsOutside reading fs p → S (standing_after reading.number s (us (Remove p) t))
    remove_steady p t old out = let a = remove_agrees fs p out in record { whole = whole_on (without fs p) a; last = last_us (without fs p) a; form = inr (inl (remove_old p t old out)) }

    pub sync_steady : (t : ℕ) → S (standing_after reading.number s (us SyncNames t))
    sync_steady t = record { whole = steady.whole; last = subst (λ (l : Tables). IsLast l (table reading.number fs)) (sym total_them) steady.last; form = inl tt }

    -- Steps of Them.

    pub them_create : (p : Parts) (t : ℕ) → IsOutside reading fs p → S (standing_after reading.number s (them (Create p) t))
    them_create p t out = let a = create_agrees fs p Them t out in record { whole = whole_on (put (new_file p Them t) fs) a; last = last_them (put (new_file p Them t) fs) a; form = inl tt }

    pub them_remove : (p : Parts) (t : ℕ) → IsOutside reading fs p → S (standing_after reading.number s (them (Remove p) t))
    them_remove p t out = let a = remove_agrees fs p out in record { whole = whole_on (without fs p) a; last = last_them (without fs p) a; form = inl tt }

    -- Renames to a version place.

    commits_one : (q : Parts) (gs : List Held) → 0 < reading.number q → commit_of reading.number (Rename q q) gs ≡ table reading.number gs ∷ []
    commits_one q gs pos = by_number (reading.number q) pos
      where
        by_number : (n : ℕ) → 0 < n → commit_to reading.number n gs ≡ table reading.number gs ∷ []
        by_number zero pos = absurd (omega arith)
        by_number (suc n) pos = refl

    module _ (p q : Parts) (t : ℕ) (pos : 0 < reading.number q) (whole_after : Whole reading (renamed p q fs)) where
      abbrev pub gs : List Held
      gs = renamed p q fs

      abbrev pub C : Tables
      C = commit_of reading.number (Rename p q) gs

      one_commit : C ≡ table reading.number gs ∷ []
      one_commit = commits_one q gs pos

      last_commit : IsLast (s.acknowledged ++ (s.unacknowledged ++ C)) (table reading.number gs)
      last_commit = record { before = s.acknowledged ++ s.unacknowledged; is = ap (λ (l : Tables). s.acknowledged ++ (s.unacknowledged ++ l)) one_commit ∙ sym (append_assoc s.acknowledged s.unacknowledged (table reading.number gs ∷ [])) }

      pub them_rename : S (standing_after reading.number s (them (Rename p q) t))
      them_rename = record { whole = whole_after; last = subst (λ (l : Tables). IsLast l (table reading.number gs)) (sym (append-nil (s.acknowledged ++ (s.unacknowledged ++ C)))) last_commit; form = inl tt }

      module _ (h : Held) (stands : find fs p ≡ Some h) (free : find fs q ≡ None) (at_rest : s.disk.pending ≡ []) where
        apart : p ≡ q → ⊥
        apart e = absurd (cc (stands, free, ap (find fs) e))

        there : find gs q ≡ Some (moved q h)
        there = find_renamed_to fs p q h stands

        back : (r : Parts) → find (renamed q p gs) r ≡ find fs r
        back r = by_test (same_place p r)
            (λ e. let it : p ≡ r = (place_decides p r).0 e in
            subst (λ (x : Parts). find (renamed q p gs) x ≡ find fs x) it (find_renamed_to gs q p (moved q h) there ∙ ap (λ (x : Parts). Some (record h { place = x })) (sym (find_place fs p h stands)) ∙ sym stands))
            (λ e. by_test (same_place q r)
            (λ f. let it : q ≡ r = (place_decides q r).0 f in
            subst (λ (x : Parts). find (renamed q p gs) x ≡ find fs x) it (find_renamed_from gs q p (moved q h) there apart ∙ sym free))
            (λ f. find_renamed_other gs q p (moved q h) there r (not_it q r f) (not_it p r e) ∙ find_renamed_other fs p q h stands r (not_it p r e) (not_it q r f)))
          where
            not_it : (x y : Parts) → same_place x y ≡ false → x ≡ y → ⊥
            not_it x y e it = absurd (cc (e, ap (same_place x) (sym it), same_itself x))

        back_agrees : Agrees reading fs (renamed q p gs)
        back_agrees = alike reading fs (renamed q p gs) (λ r counts. back r)

        pub rename_steady : S (standing_after reading.number s (us (Rename p q) t))
        rename_steady = record {
          whole = whole_after;
          last = last_commit;
          form = inr (inr (record {
            from = p;
            to = q;
            pending = ap (λ (cs : List NameChange). cs ++ Renamed p q ∷ []) at_rest;
            whole = whole_on (renamed q p gs) back_agrees;
            before = s.unacknowledged;
            is = ap (λ (l : Tables). s.unacknowledged ++ l) one_commit;
            last = last_on (renamed q p gs) back_agrees;
          }));
        }
