-- The first item of a listing whose number is beyond the limit is the first such place of the map.
use Rattle.std.proofs.Common.{◌≡◌, inl, inr, ℕ, zero, suc, ◌<◌, ◌≤◌, true, false, List, [], ◌∷◌, length, take, map, get_or, slice_get, Some, is_some, refl, sym, ap, ◌∙◌, subst, arith}
use Rattle.std.specs.List.{All, filter}
use Rattle.std.specs.Option.{IsSomeAnd}
use Rattle.std.specs.Cmp.Lexicographic.{slice_cmp}
use Rattle.std.specs.Ordering.{nat_cmp, is_lt}
use Rattle.std.proofs.lemmas.Bool.{cases_lt}
use Rattle.std.proofs.lemmas.Cmp.{nat_list_cmp_total}
use Rattle.std.proofs.lemmas.List.MinMax.{ranks_by}
use Rattle.std.proofs.lemmas.List.Sorted.{All-permutation, IsPermutation-sym, sorted_far}
use Rattle.ice_store.specs.Places.{Parts, is_under, joined, same_place}
use Rattle.ice_store.specs.Files.{find, is_named}
use Rattle.ice_store.specs.Calls.{IsListing, listed_of}
use Rattle.ice_store.proofs.FileLaws.{by_test, find_head, find_tail, place_decides, same_itself}
use Rattle.ice_store.specs.declared.history.Held.{Held}
use Rattle.ice_store.specs.declared.store.Listed.{Listed}
use Rattle.commit_history.specs.Tables.{version}
use Rattle.commit_history.specs.Listings.{greatest}
use Rattle.commit_history.proofs.Agreeing.{named_file, find_place}
use Rattle.commit_versions.specs.Opening.{IsBeyond, version_limit, comes_before}
use Rattle.commit_versions.specs.Latest.{IsFirstBeyond}

get_some : (P : Listed → Type 0) (l : List Listed) (i : ℕ) (d : Listed) → IsSomeAnd (slice_get l i) P → P (get_or l i d)
get_some P [] i d here = absurd here
get_some P (x ∷ l) zero d here = here
get_some P (x ∷ l) (suc i) d here = get_some P l i d here

take_below : (number : Parts → ℕ) (l : List Listed) (i j : ℕ) (d : Listed) → j < i → j < length l → number (get_or l j d).place ≤ greatest number (take i l)
take_below number [] i j d lt within = absurd (omega (arith, within))
take_below number (x ∷ l) zero j d lt within = absurd (omega (arith, lt))
take_below number (x ∷ l) (suc i) zero d lt within = omega arith
take_below number (x ∷ l) (suc i) (suc j) d lt within = let rest = take_below number l i j d (omega (arith, lt)) (omega (arith, within)) in omega (arith, rest)

-- What a listing of a folder holds.
module _ (dir : Parts) where
  abbrev pub kept : List Held → List Listed
  kept files = map listed_of (filter (λ h. is_under h.place dir) files)

  keep : (h : Held) (hs : List Held) → is_under h.place dir ≡ true → kept (h ∷ hs) ≡ listed_of h ∷ kept hs
  keep h hs e = rw e refl

  skip : (h : Held) (hs : List Held) → is_under h.place dir ≡ false → kept (h ∷ hs) ≡ kept hs
  skip h hs e = rw e refl

  module _ (P : Listed → Type 0) where
    first_of : (l : Listed) (ls : List Listed) → All P (l ∷ ls) → P l
    first_of l ls all = all zero l (omega arith)

    rest_of : (l : Listed) (ls : List Listed) → All P (l ∷ ls) → All P ls
    rest_of l ls all = λ k d lt. all (suc k) d (omega (arith, lt))

    both_of : (l : Listed) (ls : List Listed) → P l → All P ls → All P (l ∷ ls)
    both_of l ls p all zero d lt = p
    both_of l ls p all (suc k) d lt = all k d (omega (arith, lt))

    none_of : All P []
    none_of k d lt = absurd (omega (arith, lt))

    -- a file under the folder is listed
    of_kept : (hs : List Held) (q : Parts) (h : Held) → is_under q dir ≡ true → find hs q ≡ Some h → All P (kept hs) → P (listed_of h)
    of_kept [] q h under is all = absurd (cc)
    of_kept (k ∷ hs) q h under is all = by_test (same_place k.place q)
        (λ e.
        let it : k ≡ h = cc (is, find_head k hs q e) in
        let place : k.place ≡ q = (place_decides k.place q).0 e in
        let inside : is_under k.place dir ≡ true = subst (λ (p : Parts). is_under p dir ≡ true) (sym place) under in
        subst (λ (x : Held). P (listed_of x)) it (first_of (listed_of k) (kept hs) (subst (λ (ls : List Listed). All P ls) (keep k hs inside) all)))
        (λ e. of_kept hs q h under (sym (find_tail k hs q e) ∙ is) (tail_of k hs all))
      where
        tail_of : (k : Held) (hs : List Held) → All P (kept (k ∷ hs)) → All P (kept hs)
        tail_of k hs all = by_test (is_under k.place dir)
            (λ e. rest_of (listed_of k) (kept hs) (subst (λ (ls : List Listed). All P ls) (keep k hs e) all))
            (λ e. subst (λ (ls : List Listed). All P ls) (skip k hs e) all)

  -- and what is listed is a file's name
  abbrev pub Named : List Held → Listed → Type 0
  Named files l = is_named files l.place ≡ true

  more : (k : Held) (hs : List Held) (p : Parts) → is_named hs p ≡ true → is_named (k ∷ hs) p ≡ true
  more k hs p e = by_test (same_place k.place p) (λ same. ap is_some (find_head k hs p same)) (λ other. ap is_some (find_tail k hs p other) ∙ e)

  one_more : (files : List Held) (k : Held) (hs : List Held) → is_named files k.place ≡ true → All (Named files) (kept hs) → All (Named files) (kept (k ∷ hs))
  one_more files k hs here rest = by_test (is_under k.place dir)
      (λ e. subst (λ (ls : List Listed). All (Named files) ls) (sym (keep k hs e)) (both_of (Named files) (listed_of k) (kept hs) here rest))
      (λ e. subst (λ (ls : List Listed). All (Named files) ls) (sym (skip k hs e)) rest)

  all_named : (files hs : List Held) → ((p : Parts) → is_named hs p ≡ true → is_named files p ≡ true) → All (Named files) (kept hs)
  all_named files [] named = none_of (Named files)
  all_named files (k ∷ hs) named = one_more files k hs (named k.place (ap is_some (find_head k hs k.place (same_itself k.place)))) (all_named files hs (λ p e. named p (more k hs p e)))

  module _ (number : Parts → ℕ) (within : (p : Parts) → 0 < number p → is_under p dir ≡ true) (files : List Held) (listed : List Listed) (is : IsListing dir files listed) (place : Parts) (f : IsFirstBeyond number listed place) (default_ : Listed) where
    item_is : (get_or listed f.index default_).place ≡ place
    item_is = get_some (λ l. l.place ≡ place) listed f.index default_ f.item

    named : is_named files place ≡ true
    named =
        let all = All-permutation (Named files) (kept files) listed is.same (all_named files files (λ p e. e)) in
        subst (λ (p : Parts). is_named files p ≡ true) item_is (all f.index default_ f.within)

    abbrev pub After : Listed → Type 0
    After l = version_limit ≤ number l.place → comes_before l.place place ≡ false

    after_item : (j : ℕ) (d : Listed) → j < length listed → After (get_or listed j d)
    after_item j d lt beyond = elim (cases_lt j f.index) [
      | inl before ↦ let le = take_below number listed f.index j d before lt in absurd (omega (arith, le, f.before, beyond))
      | inr ge ↦
          let far = sorted_far (λ (x y : Listed). is_lt (slice_cmp nat_cmp (joined x.place) (joined y.place))) (ranks_by nat_list_cmp_total (λ (l : Listed). joined l.place)) listed is.ordered f.index j d ge lt in
          subst (λ (p : Parts). comes_before (get_or listed j d).place p ≡ false) (get_some (λ l. l.place ≡ place) listed f.index d f.item) far
    ]

    first : (other : Parts) → is_named files other ≡ true → version_limit ≤ number other → comes_before other place ≡ false
    first other there beyond =
        let file = named_file files other there in
        let at : file.0.place ≡ other = find_place files other file.0 file.1 in
        let all = All-permutation After listed (kept files) (IsPermutation-sym (kept files) listed is.same) after_item in
        let it = of_kept After files other file.0 (within other (omega (arith, beyond))) file.1 all in
        subst (λ (p : Parts). comes_before p place ≡ false) at (it (subst (λ (p : Parts). version_limit ≤ number p) (sym at) beyond))

    pub is_beyond : version_limit ≤ version number files → IsBeyond number place files
    is_beyond last = record { last = last; beyond = f.beyond; named = named; first = first }
