-- Laws of the places of ids.
use Rattle.std.proofs.Common.{◌≡◌, ℕ, suc, ℤ, ◌<◌, List, [], ◌∷◌, ◌++◌, length, get_or, Bool, true, false, Option, Some, None, is_some, option_map, cond, Bor, IsSome, unwrap_or, true≢false, refl, sym, ap, ◌∙◌, arith}
use Rattle.std.specs.Ordering.{int_eq}
use Rattle.std.proofs.lemmas.Bool.Decides.{Decides-int_eq}
use Rattle.metadata_view.specs.Walk.{snapshot_with, place_with}
use Rattle.metadata_view.specs.declared.types.Snapshot.{Snapshot}

not_some : {A : Type 0} (o : Option A) → is_some o ≡ false → o ≡ None
not_some None e = refl
not_some (Some a) e = absurd (cc)

-- where a list has one more snapshot
pub place_later : Option ℕ → Option ℕ → Option ℕ
place_later None later = later
place_later (Some i) later = Some i

push_at : (b : Bool) (o last : Option ℕ) (n : ℕ) → cond b (Some 0) (option_map suc (place_later o last)) ≡ place_later (cond b (Some 0) (option_map suc o)) (option_map suc last)
unfolding place_later
push_at true o last n = refl
push_at false None last n = refl
push_at false (Some i) last n = refl

last_at : (b : Bool) (n : ℕ) → option_map suc (cond b (Some n) None) ≡ cond b (Some (suc n)) None
last_at true n = refl
last_at false n = refl

pub place_with-push : (ss : List Snapshot) (x : Snapshot) (id : ℤ) → place_with (ss ++ x ∷ []) id ≡ place_later (place_with ss id) (cond (int_eq x.id id) (Some (length ss)) None)
unfolding place_later
place_with-push [] x id = refl
place_with-push (s ∷ ss) x id =
    ap (λ o. cond (int_eq s.id id) (Some 0) (option_map suc o)) (place_with-push ss x id)
    ∙ push_at (int_eq s.id id) (place_with ss id) (cond (int_eq x.id id) (Some (length ss)) None) (length ss)
    ∙ ap (λ o. place_later (place_with (s ∷ ss) id) o) (last_at (int_eq x.id id) (length ss))

-- the step of the loop: an id that is new gets the place after the others
pub place_step : (old new last : Option ℕ) (b : Bool) (n : ℕ) → (b ≡ true → old ≡ None) → place_later old (cond b (Some n) None) ≡ cond b (Some n) old
unfolding place_later
place_step None new last true n h = refl
place_step None new last false n h = refl
place_step (Some i) new last true n h = let none = h refl in absurd (cc)
place_step (Some i) new last false n h = refl

old_at : (xs : List Snapshot) (x : Snapshot) (id : ℤ) (old : ℤ → Option ℕ) → ((q : ℤ) → old q ≡ place_with xs q) → is_some (old x.id) ≡ false → int_eq x.id id ≡ true → place_with xs id ≡ None
old_at xs x id old keeps new same =
    let one : x.id ≡ id = (Decides-int_eq x.id id).0 same in
    sym (keeps id) ∙ ap old (sym one) ∙ not_some (old x.id) new

-- one more snapshot, whose id is new
pub index-push : (xs : List Snapshot) (x : Snapshot) (i : ℕ) (old new : ℤ → Option ℕ) → length xs ≡ i → ((q : ℤ) → old q ≡ place_with xs q) → is_some (old x.id) ≡ false
    → ((q : ℤ) → new q ≡ cond (int_eq x.id q) (Some i) (old q)) → (id : ℤ) → new id ≡ place_with (xs ++ x ∷ []) id
index-push xs x i old new len keeps fresh is id =
    is id ∙ ap (λ o. cond (int_eq x.id id) (Some i) o) (keeps id)
    ∙ sym (place_step (place_with xs id) None None (int_eq x.id id) i (λ same. old_at xs x id old keeps fresh same))
    ∙ ap (λ n. place_later (place_with xs id) (cond (int_eq x.id id) (Some n) None)) (sym len)
    ∙ sym (place_with-push xs x id)

none_at : (x : Snapshot) (o : Option Snapshot) (q : Option ℕ) (b : Bool) → (q ≡ None → o ≡ None) → cond b (Some 0) (option_map suc q) ≡ None → cond b (Some x) o ≡ None
none_at x o q true h e = absurd (cc)
none_at x o None false h e = h refl
none_at x o (Some i) false h e = absurd (cc)

pub none_with : (ss : List Snapshot) (id : ℤ) → place_with ss id ≡ None → snapshot_with ss id ≡ None
none_with [] id e = refl
none_with (x ∷ ss) id e = none_at x (snapshot_with ss id) (place_with ss id) (int_eq x.id id) (none_with ss id) e

found_at : (x : Snapshot) (ss : List Snapshot) (o : Option Snapshot) (q : Option ℕ) (d : Snapshot) (b : Bool)
    → o ≡ option_map (λ i. get_or ss i d) q → cond b (Some x) o ≡ option_map (λ i. get_or (x ∷ ss) i d) (cond b (Some 0) (option_map suc q))
found_at x ss o None d true e = refl
found_at x ss o None d false e = e
found_at x ss o (Some i) d true e = refl
found_at x ss o (Some i) d false e = e

-- the snapshot with an id is the one at its place
pub found_with : (ss : List Snapshot) (id : ℤ) (d : Snapshot) → snapshot_with ss id ≡ option_map (λ i. get_or ss i d) (place_with ss id)
found_with [] id d = refl
found_with (x ∷ ss) id d = found_at x ss (snapshot_with ss id) (place_with ss id) d (int_eq x.id id) (found_with ss id d)

within_at : (n : ℕ) (i : ℕ) (q : Option ℕ) (b : Bool) → ((j : ℕ) → q ≡ Some j → j < n) → cond b (Some 0) (option_map suc q) ≡ Some i → i < suc n
within_at n i q true h e = let zero_is : 0 ≡ i = cc in omega arith
within_at n i None false h e = absurd (cc)
within_at n i (Some j) false h e = let next : suc j ≡ i = cc in let small = h j refl in omega arith

pub place_within : (ss : List Snapshot) (id : ℤ) (i : ℕ) → place_with ss id ≡ Some i → i < length ss
place_within [] id i e = absurd (cc)
place_within (x ∷ ss) id i e = within_at (length ss) i (place_with ss id) (int_eq x.id id) (place_within ss id) e

-- what is got at the place of an id is the snapshot with it
pub got-with : (ss : List Snapshot) (id : ℤ) (i : ℕ) (o : Option (Bor Snapshot)) → place_with ss id ≡ Some i → IsSome o → ((d : Snapshot) → unwrap_or (option_map (λ (s : Bor Snapshot). s.now) o) d ≡ get_or ss i d)
    → option_map (λ (s : Bor Snapshot). s.now) o ≡ snapshot_with ss id
got-with ss id i None at some h = absurd (true≢false (sym some))
got-with ss id i (Some s) at some h = ap Some (h s.now) ∙ sym (found_with ss id s.now ∙ ap (option_map (λ j. get_or ss j s.now)) at)

-- the step of the loop: the first snapshot whose id is known is found, and else the search goes on
pub double-here : (b : Bool) (n i : ℕ) (later all : Option ℕ) → b ≡ true → n ≡ i → all ≡ cond b (Some n) later → all ≡ Some i
double-here b n i later all p len e = e ∙ ap (λ x. cond x (Some n) later) p ∙ ap Some len

pub double-on : (b : Bool) (n : ℕ) (later all : Option ℕ) → b ≡ false → all ≡ cond b (Some n) later → all ≡ later
double-on b n later all p e = e ∙ ap (λ x. cond x (Some n) later) p
