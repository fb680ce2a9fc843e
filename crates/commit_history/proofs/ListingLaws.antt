-- The greatest version in a listing is the version of the map.
use Rattle.std.proofs.Common.{◌≡◌, ℕ, zero, suc, max, ◌++◌, ◌<◌, ◌≤◌, true, false, List, [], ◌∷◌, map, refl, sym, subst, arith, nat_eq}
use Rattle.std.specs.List.{All, filter}
use Rattle.std.specs.Cmp.Lexicographic.{pointwise}
use Rattle.std.proofs.lemmas.Slice.Eq.{bytes_eq-Decides}
use Rattle.std.proofs.lemmas.List.Sorted.{All-permutation, IsPermutation-sym}
use Rattle.ice_store.specs.Places.{Parts, is_under}
use Rattle.ice_store.specs.Calls.{IsListing, listed_of}
use Rattle.ice_store.proofs.FileLaws.{by_test}
use Rattle.ice_store.specs.declared.history.Held.{Held}
use Rattle.ice_store.specs.declared.store.Listed.{Listed}
use Rattle.commit_history.specs.Tables.{version}
use Rattle.commit_history.specs.Versions.{number_in, folder}
use Rattle.commit_history.proofs.Numbering.{rest_of, same_part, same_number}
use Rattle.commit_history.specs.Listings.{greatest}

module _ (number : Parts → ℕ) where
  abbrev pub Below : ℕ → Listed → Type 0
  Below n l = number l.place ≤ n

  -- as a recursion
  abbrev pub Each : ℕ → List Listed → Type 0
  Each n [] = Unit {0}
  Each n (l ∷ ls) = Below n l × Each n ls

  to_all : (n : ℕ) (ls : List Listed) → Each n ls → All (Below n) ls
  to_all n [] h k d lt = absurd (omega (arith, lt))
  to_all n (l ∷ ls) h zero d lt = h.0
  to_all n (l ∷ ls) h (suc k) d lt = to_all n ls h.1 k d (omega (arith, lt))

  from_all : (n : ℕ) (ls : List Listed) → All (Below n) ls → Each n ls
  from_all n [] h = tt
  from_all n (l ∷ ls) h = (h zero l (omega arith), from_all n ls (λ k d lt. h (suc k) d (omega (arith, lt))))

  all_below : (ls : List Listed) → Each (greatest number ls) ls
  all_below [] = tt
  all_below (l ∷ ls) = (omega arith, weaker ls (greatest number ls) (greatest number (l ∷ ls)) (omega arith) (all_below ls))
    where
      weaker : (ks : List Listed) (a b : ℕ) → a ≤ b → Each a ks → Each b ks
      weaker [] a b le all = tt
      weaker (k ∷ ks) a b le all = (omega (arith, all.0), weaker ks a b le all.1)

  greatest_below : (ls : List Listed) (n : ℕ) → Each n ls → greatest number ls ≤ n
  greatest_below [] n all = omega arith
  greatest_below (l ∷ ls) n all = let rest = greatest_below ls n all.1 in omega (arith, rest, all.0)

  module _ (dir : Parts) where
    abbrev pub kept : List Held → List Listed
    kept files = map listed_of (filter (λ h. is_under h.place dir) files)

    module _ (h : Held) (hs : List Held) where
      keep : is_under h.place dir ≡ true → kept (h ∷ hs) ≡ listed_of h ∷ kept hs
      keep e = rw e refl

      skip : is_under h.place dir ≡ false → kept (h ∷ hs) ≡ kept hs
      skip e = rw e refl

    files_below : (files : List Held) (n : ℕ) → version number files ≤ n → Each n (kept files)
    files_below [] n le = tt
    files_below (h ∷ hs) n le = by_test (is_under h.place dir)
        (λ e. subst (λ (ls : List Listed). Each n ls) (sym (keep h hs e)) (omega (arith, le), files_below hs n (omega (arith, le))))
        (λ e. subst (λ (ls : List Listed). Each n ls) (sym (skip h hs e)) (files_below hs n (omega (arith, le))))

    module _ (inside : (p : Parts) → 0 < number p → is_under p dir ≡ true) where
      version_below : (files : List Held) (n : ℕ) → Each n (kept files) → version number files ≤ n
      version_below [] n all = omega arith
      version_below (h ∷ hs) n all = by_test (is_under h.place dir)
          (λ e. let both = subst (λ (ls : List Listed). Each n ls) (keep h hs e) all in let rest = version_below hs n both.1 in omega (arith, rest, both.0))
          (λ e. let rest = version_below hs n (subst (λ (ls : List Listed). Each n ls) (skip h hs e) all) in
          let none : number h.place ≤ 0 = no_number h e in omega (arith, rest, none))
        where
          no_number : (h : Held) → is_under h.place dir ≡ false → number h.place ≤ 0
          no_number h e = zero_or (number h.place) refl
            where
              zero_or : (n : ℕ) → n ≡ number h.place → number h.place ≤ 0
              zero_or zero is = omega (arith, is)
              zero_or (suc n) is = let k = inside h.place (omega (arith, is)) in absurd (cc (k, e))

      pub listing_version : (files : List Held) (listed : List Listed) → IsListing dir files listed → greatest number listed ≡ version number files
      listing_version files listed is =
          let a = greatest_below listed (version number files) (from_all (version number files) listed (All-permutation (Below (version number files)) (kept files) listed is.same (to_all (version number files) (kept files) (files_below files (version number files) (omega arith))))) in
          let b = version_below files (greatest number listed) (from_all (greatest number listed) (kept files) (All-permutation (Below (greatest number listed)) listed (kept files) (IsPermutation-sym (kept files) listed is.same) (to_all (greatest number listed) listed (all_below listed)))) in
          omega (arith, a, b)

  -- the greatest of the first entries, and one more
  pub greatest-push : (ls : List Listed) (l : Listed) → greatest number (ls ++ l ∷ []) ≡ max (greatest number ls) (number l.place)
  greatest-push [] l = omega arith
  greatest-push (k ∷ ls) l = let e = greatest-push ls l in omega (arith, e)

-- each version place stands under the folder of the metadata
pub inside : (table p : Parts) → 0 < number_in table p → is_under p (table ++ folder ∷ []) ≡ true
inside [] p pos = let r = rest_of p pos in subst (λ (q : Parts). is_under q (folder ∷ []) ≡ true) (sym r.is) refl
inside (t ∷ ts) [] pos = absurd (omega arith)
inside (t ∷ ts) (part ∷ p) pos =
    let e : pointwise nat_eq t part ≡ true = (bytes_eq-Decides t part).1 (same_part t ts part p pos) in
    let k = same_number t ts part p pos in
    let rest = inside ts p (omega (arith, k)) in
    both_true e rest
  where
    both_true : pointwise nat_eq t part ≡ true → is_under p (ts ++ folder ∷ []) ≡ true → is_under (part ∷ p) ((t ∷ ts) ++ folder ∷ []) ≡ true
    both_true e f = rw e f
