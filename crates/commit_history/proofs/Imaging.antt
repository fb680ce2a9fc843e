-- THE LAW: every image of a steady history is whole, and its table is the last of a prefix of the commits that holds every acknowledged one.
use Rattle.std.proofs.Common.{◌≡◌, ◌⊎◌, inl, inr, ℕ, ◌<◌, Bool, true, false, List, [], ◌∷◌, ◌++◌, length, take, map, Option, Some, None, is_some, refl, sym, ap, ◌∙◌, subst, arith}
use Rattle.ice_store.specs.Places.{Parts, same_place}
use Rattle.ice_store.specs.Files.{find, renamed}
use Rattle.ice_store.specs.History.{IsImage, image, durable, settled, names_by, undone}
use Rattle.ice_store.specs.Calls.{ChangesName}
use Rattle.ice_store.proofs.FileLaws.{by_test, find_head, find_tail, find_without_other, find_put_other}
use Rattle.ice_store.specs.declared.history.NameChange.{NameChange}
use Rattle.ice_store.specs.declared.history.NameChange.TheVariants.{Created, Renamed, Removed}
use Rattle.ice_store.specs.declared.history.FileRec.{FileRec}
use Rattle.ice_store.specs.declared.history.Held.{Held}
use Rattle.commit_history.specs.Readings.{Reading, IsLocal}
use Rattle.commit_history.specs.Tables.{table, sealed_bytes, Whole, InReach, IsOutside, IsNumbering}
use Rattle.commit_history.specs.Commits.{Standing, Tables, IsLast, Reopens, found}
use Rattle.commit_history.specs.Steady.{Each, IsFreshChange, IsOldChange, IsOneRename, Steady}
use Rattle.commit_history.proofs.Agreeing.{Agrees, same_table, still_whole}

remade : (Parts → Option (List ℕ)) → Option Held → Option Held
remade torn None = None
remade torn (Some h) = Some (durable (settled torn h))

module _ (torn : Parts → Option (List ℕ)) where
  find_remade : (ns : List Held) (p : Parts) → find (found (map (settled torn) ns)) p ≡ remade torn (find ns p)
  unfolding remade
  find_remade [] p = refl
  find_remade (h ∷ hs) p = by_test (same_place h.place p)
      (λ e. find_head (durable (settled torn h)) (found (map (settled torn) hs)) p e ∙ ap (remade torn) (sym (find_head h hs p e)))
      (λ e. find_tail (durable (settled torn h)) (found (map (settled torn) hs)) p e ∙ find_remade hs p ∙ ap (remade torn) (sym (find_tail h hs p e)))

  some_remade : (o : Option Held) → is_some (remade torn o) ≡ is_some o
  unfolding remade
  some_remade None = refl
  some_remade (Some h) = refl

  bytes_remade : (o : Option Held) (x : List ℕ) → sealed_bytes o ≡ Some x → sealed_bytes (remade torn o) ≡ Some x
  unfolding remade
  bytes_remade None x is = is
  bytes_remade (Some h) x is = by_test h.is_sealed
      (λ e. let k : Some h.bytes ≡ Some x = rw e at is in ap (λ (l : List ℕ). Some l) (sealed_keeps h e) ∙ k)
      (λ e. let k : None ≡ Some x = rw e at is in absurd (cc (k)))
    where
      sealed_keeps : (h : Held) → h.is_sealed ≡ true → (settled torn h).bytes ≡ h.bytes
      sealed_keeps h e = rw e refl

  module _ (reading : Reading) where
    -- what agrees does so when it is found again
    pub found_agrees : (fs ns : List Held) → Agrees reading fs ns → Agrees reading fs (found (map (settled torn) ns))
    found_agrees fs ns a = record {
      named = λ p pos. ap is_some (find_remade ns p) ∙ some_remade (find ns p) ∙ a.named p pos;
      bytes = λ p x counts at. ap sealed_bytes (find_remade ns p) ∙ bytes_remade (find ns p) x (a.bytes p x counts at);
    }

module _ (reading : Reading) where
  abbrev pub Counts : List Held → Parts → Type 0
  Counts fs p = (0 < reading.number p) ⊎ InReach reading fs p

  pub counts_not_out : (fs : List Held) (p q : Parts) → Counts fs p → IsOutside reading fs q → q ≡ p → ⊥
  counts_not_out fs p q (inl pos) out e = let k : reading.number q ≡ reading.number p = ap reading.number e in absurd (omega (arith, k, out.no_version, pos))
  counts_not_out fs p q (inr r) out e = out.unreached (subst (λ (x : Parts). InReach reading fs x) (sym e) r)

  -- where what counts is found alike
  pub alike : (fs gs : List Held) → ((p : Parts) → Counts fs p → find gs p ≡ find fs p) → Agrees reading fs gs
  alike fs gs same = record {
    named = λ p pos. ap is_some (same p (inl pos));
    bytes = λ p x counts at. ap sealed_bytes (same p counts) ∙ at;
  }

  abbrev pub Quiet : List Held → NameChange → Type 0
  Quiet fs c = (p : Parts) → Counts fs p → ChangesName c p → ⊥

  undone_other : (fs hs : List Held) (c : NameChange) (p : Parts) → (IsFreshChange reading fs c ⊎ IsOldChange reading fs c) → Counts fs p → find (undone c hs) p ≡ find hs p
  undone_other fs hs (Created q) p (inl out) counts = find_without_other hs q p (counts_not_out fs p q counts out)
  undone_other fs hs (Created q) p (inr no_) counts = absurd no_
  undone_other fs hs (Renamed q r) p (inl no_) counts = absurd no_
  undone_other fs hs (Renamed q r) p (inr no_) counts = absurd no_
  undone_other fs hs (Removed h) p (inl no_) counts = absurd no_
  undone_other fs hs (Removed h) p (inr out) counts = find_put_other h hs p (counts_not_out fs p h.place counts out)

  module _ (fs : List Held) (Of : NameChange → Type 0) (of : (c : NameChange) → Of c → IsFreshChange reading fs c ⊎ IsOldChange reading fs c) where
    undone_alike : (done : List Bool) (cs : List NameChange) (hs : List Held) → Each Of cs → (p : Parts) → Counts fs p → find (names_by done cs hs) p ≡ find hs p
    undone_alike done [] hs each p counts = refl
    undone_alike [] (c ∷ cs) hs each p counts = undone_other fs (names_by [] cs hs) c p (of c each.0) counts ∙ undone_alike [] cs hs each.1 p counts
    undone_alike (true ∷ ds) (c ∷ cs) hs each p counts = undone_alike ds cs hs each.1 p counts
    undone_alike (false ∷ ds) (c ∷ cs) hs each p counts = undone_other fs (names_by ds cs hs) c p (of c each.0) counts ∙ undone_alike ds cs hs each.1 p counts

  module _ (ruled : IsNumbering reading.number) (localized : IsLocal reading) where
    -- a map that agrees with one of a given last table
    reopens_by : (s : Standing) (fs : List Held) (count : ℕ) (m : List FileRec) → Whole reading fs → IsLast (s.acknowledged ++ take count s.unacknowledged) (table reading.number fs) → Agrees reading fs (found m) → Reopens reading s m
    reopens_by s fs count m whole last agrees = record {
      whole = still_whole reading fs (found m) agrees ruled localized whole;
      count = count;
      last = subst (λ (t : Option (List ℕ)). IsLast (s.acknowledged ++ take count s.unacknowledged) t) (sym (same_table reading fs (found m) agrees ruled localized whole)) last;
    }

    take_all : (l : Tables) → take (length l) l ≡ l
    take_all [] = refl
    take_all (x ∷ l) = ap (λ (r : Tables). x ∷ r) (take_all l)

    take_front : (l : Tables) (x : Option (List ℕ)) → take (length l) (l ++ x ∷ []) ≡ l
    take_front [] x = refl
    take_front (y ∷ l) x = ap (λ (r : Tables). y ∷ r) (take_front l x)

    last_all : (s : Standing) (t : Option (List ℕ)) → IsLast (s.acknowledged ++ s.unacknowledged) t → IsLast (s.acknowledged ++ take (length s.unacknowledged) s.unacknowledged) t
    last_all s t last = subst (λ (l : Tables). IsLast (s.acknowledged ++ l) t) (sym (take_all s.unacknowledged)) last

    module _ (s : Standing) (steady : Steady reading s) (m : List FileRec) (torn : Parts → Option (List ℕ)) where
      -- what counts stands as it stood
      now_reopens : (ns : List Held) → ((p : Parts) → Counts s.disk.files p → find ns p ≡ find s.disk.files p) → m ≡ map (settled torn) ns → Reopens reading s m
      now_reopens ns same is = reopens_by s s.disk.files (length s.unacknowledged) m steady.whole (last_all s (table reading.number s.disk.files) steady.last)
          (subst (λ (l : List FileRec). Agrees reading s.disk.files (found l)) (sym is) (found_agrees torn reading s.disk.files ns (alike s.disk.files ns same)))

      before_reopens : (one : IsOneRename reading s) → m ≡ map (settled torn) (renamed one.to one.from s.disk.files) → Reopens reading s m
      before_reopens one is =
          let fs = renamed one.to one.from s.disk.files in
          let front : take (length one.before) s.unacknowledged ≡ one.before = ap (λ (l : Tables). take (length one.before) l) one.is ∙ take_front one.before (table reading.number s.disk.files) in
          reopens_by s fs (length one.before) m one.whole (subst (λ (l : Tables). IsLast (s.acknowledged ++ l) (table reading.number fs)) (sym front) one.last)
          (subst (λ (l : List FileRec). Agrees reading fs (found l)) (sym is) (found_agrees torn reading fs fs (alike fs fs (λ p counts. refl))))

      one_by : (one : IsOneRename reading s) (done : List Bool) → m ≡ map (settled torn) (names_by done (Renamed one.from one.to ∷ []) s.disk.files) → Reopens reading s m
      one_by one [] is = before_reopens one is
      one_by one (false ∷ ds) is = before_reopens one is
      one_by one (true ∷ []) is = now_reopens s.disk.files (λ p counts. refl) is
      one_by one (true ∷ d ∷ ds) is = now_reopens s.disk.files (λ p counts. refl) is

    -- THE LAW
    pub images_reopen : (s : Standing) → Steady reading s → (m : List FileRec) → IsImage s.disk m → Reopens reading s m
    images_reopen s steady m image = elim steady.form [
      | inl fresh ↦ now_reopens s steady m image.1 (names_by image.0 s.disk.pending s.disk.files)
          (λ p counts. undone_alike s.disk.files (IsFreshChange reading s.disk.files) (λ c o. inl o) image.0 s.disk.pending s.disk.files fresh p counts) image.2
      | inr (inl old) ↦ now_reopens s steady m image.1 (names_by image.0 s.disk.pending s.disk.files)
          (λ p counts. undone_alike s.disk.files (IsOldChange reading s.disk.files) (λ c o. inr o) image.0 s.disk.pending s.disk.files old p counts) image.2
      | inr (inr one) ↦ one_by s steady m image.1 one image.0 (image.2 ∙ ap (λ (cs : List NameChange). map (settled image.1) (names_by image.0 cs s.disk.files)) one.pending)
    ]
