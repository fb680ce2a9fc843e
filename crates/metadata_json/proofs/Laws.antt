-- What the edits of a tree keep.
use Rattle.std.proofs.Common.{◌≡◌, ℕ, zero, suc, ℤ, pos, negsuc, ◌≤◌, ◌-◌, ◌++◌, length, drop, List, [], ◌∷◌, Bool, true, false, ◌||◌, Option, Some, None, Ordering, Less, Equal, Greater, refl, sym, ap, ◌∙◌, subst, arith, true≢false, bytes_eq}
use Rattle.std.specs.Ordering.{nat_cmp, match_ordering}
use Rattle.std.specs.Cmp.Lexicographic.{slice_cmp}
use Rattle.std.specs.List.{AllByRecursion}
use Rattle.std.proofs.lemmas.Slice.Eq.{bytes_eq-Decides}
use Rattle.serde_json.specs.Data.{Data, null, boolean, number, string, array, object, unsigned, Items, no_items, item, Members, no_members, member, put, depth, items_depth, members_depth}
use Rattle.serde_json.specs.Find.{get, get_member, of_integer}
use Rattle.serde_json.specs.Written.{has_float, items_have_float, members_have_float}
use Rattle.serde_json.specs.View.{items_of}
use Rattle.serde_json.proofs.Views.{get_member-put, get_member-put_other}
use Rattle.metadata_json.specs.Fields.{list_of, items_in, items_at, members_in, members_at}
use Rattle.metadata_json.specs.Edits.{set, object_at, last, add, add_within}

-- ---- what stands in a field afterwards

abbrev pub members : Data → Members
members d = members_in (Some d)

pub get-members : (q : List ℕ) (d : Data) → get q d ≡ get_member q (members d)
get-members q null = refl
get-members q (boolean b) = refl
get-members q (number n) = refl
get-members q (string s) = refl
get-members q (array ds) = refl
get-members q (object ms) = refl

differ : (xs ys : List ℕ) → bytes_eq xs ys ≡ false → xs ≡ ys → ⊥
differ xs ys e same = true≢false (sym ((bytes_eq-Decides xs ys).1 same) ∙ e)

pub get-set : (k : List ℕ) (v d : Data) → get k (set k v d) ≡ Some v
unfolding set
get-set k v d = get_member-put k v (members d)

-- a field that is not set stays
pub get-set_other : (q k : List ℕ) (v d : Data) → bytes_eq q k ≡ false → get q (set k v d) ≡ get q d
unfolding set
get-set_other q k v d e = get_member-put_other q k v (members d) (differ q k e) ∙ sym (get-members q d)

pub members-set : (k : List ℕ) (v d : Data) → members (set k v d) ≡ put k v (members d)
unfolding set
members-set k v d = refl

pub members-object_at : (k : List ℕ) (d : Data) → members (object_at k d) ≡ members_at k d
unfolding object_at
members-object_at k d = refl

pub list_of-items_of : (ds : List Data) → list_of (items_of ds) ≡ ds
list_of-items_of [] = refl
list_of-items_of (d ∷ ds) = ap (λ xs. d ∷ xs) (list_of-items_of ds)

-- ---- no number is a float, and the tree is not too deep

abbrev pub IsTame : ℕ → Data → Type 0
IsTame n d = (has_float d ≡ false) × (depth d ≤ n)

abbrev pub AreTame : ℕ → Members → Type 0
AreTame n ms = (members_have_float ms ≡ false) × (members_depth ms ≤ n)

or-false : (a b : Bool) → (a || b) ≡ false → (a ≡ false) × (b ≡ false)
or-false true b e = absurd (cc)
or-false false b e = (refl, e)

both-false : (a b : Bool) → a ≡ false → b ≡ false → (a || b) ≡ false
both-false a b p q = rw (p, q) refl

pub tame-member : (n : ℕ) (k : List ℕ) (d : Data) (ms : Members) → IsTame n d → AreTame n ms → AreTame n (member k d ms)
tame-member n k d ms p q = (both-false _ _ p.0 q.0, omega (arith, p.1, q.1))

tame-first : (n : ℕ) (k : List ℕ) (d : Data) (ms : Members) → AreTame n (member k d ms) → IsTame n d
tame-first n k d ms p = ((or-false _ _ p.0).0, omega (arith, p.1))

tame-rest : (n : ℕ) (k : List ℕ) (d : Data) (ms : Members) → AreTame n (member k d ms) → AreTame n ms
tame-rest n k d ms p = ((or-false _ _ p.0).1, omega (arith, p.1))

tame-put_at : (n : ℕ) (o : Ordering) (a b c : Members) → AreTame n a → AreTame n b → AreTame n c → AreTame n (match_ordering o a b c)
tame-put_at n Less a b c p q r = p
tame-put_at n Equal a b c p q r = q
tame-put_at n Greater a b c p q r = r

tame-put : (n : ℕ) (k : List ℕ) (d : Data) (ms : Members) → IsTame n d → AreTame n ms → AreTame n (put k d ms)
tame-put n k d no_members p q = tame-member n k d no_members p q
tame-put n k d (member l e ms) p q =
    let rest = tame-rest n l e ms q in
    tame-put_at n (slice_cmp nat_cmp k l) _ _ _ (tame-member n k d (member l e ms) p q) (tame-member n l d ms p rest) (tame-member n l e (put k d ms) (tame-first n l e ms q) (tame-put n k d ms p rest))

tame-members : (n : ℕ) (d : Data) → IsTame (suc n) d → AreTame n (members d)
tame-members n null p = (refl, omega arith)
tame-members n (boolean b) p = (refl, omega arith)
tame-members n (number x) p = (refl, omega arith)
tame-members n (string s) p = (refl, omega arith)
tame-members n (array ds) p = (refl, omega arith)
tame-members n (object ms) p = (p.0, omega (arith, p.1))

pub tame-object : (n : ℕ) (ms : Members) → AreTame n ms → IsTame (suc n) (object ms)
tame-object n ms p = (p.0, omega (arith, p.1))

pub tame-none : (n : ℕ) → AreTame n no_members
tame-none n = (refl, omega arith)

pub tame-set : (n : ℕ) (k : List ℕ) (v d : Data) → IsTame n v → IsTame (suc n) d → IsTame (suc n) (set k v d)
unfolding set
tame-set n k v d p q = tame-object n _ (tame-put n k v (members d) p (tame-members n d q))

pub tame-integer : (n : ℕ) (id : ℤ) → IsTame n (number (of_integer id))
tame-integer n (pos m) = (refl, omega arith)
tame-integer n (negsuc m) = (refl, omega arith)

pub tame-text : (n : ℕ) (s : List ℕ) → IsTame n (string s)
tame-text n s = (refl, omega arith)

pub tame-unsigned : (n m : ℕ) → IsTame n (number (unsigned m))
tame-unsigned n m = (refl, omega arith)

tame-found_at : (n : ℕ) (o : Ordering) (e d : Data) (more : Option Data) → IsTame n e → (more ≡ Some d → IsTame n d) → match_ordering o more (Some e) more ≡ Some d → IsTame n d
tame-found_at n Less e d more p q h = q h
tame-found_at n Equal e d more p q h = let same : e ≡ d = cc in subst (λ (x : Data). IsTame n x) same p
tame-found_at n Greater e d more p q h = q h

tame-found : (n : ℕ) (k : List ℕ) (ms : Members) (d : Data) → AreTame n ms → get_member k ms ≡ Some d → IsTame n d
tame-found n k no_members d p h = absurd (cc)
tame-found n k (member l e ms) d p h = tame-found_at n (slice_cmp nat_cmp k l) e d (get_member k ms) (tame-first n l e ms p) (tame-found n k ms d (tame-rest n l e ms p)) h

pub tame-get : (n : ℕ) (k : List ℕ) (d e : Data) → IsTame (suc n) d → get k d ≡ Some e → IsTame n e
tame-get n k d e p h = tame-found n k (members d) e (tame-members n d p) (sym (get-members k d) ∙ h)

tame-members_in : (n : ℕ) (o : Option Data) → ((e : Data) → o ≡ Some e → IsTame (suc n) e) → AreTame n (members_in o)
tame-members_in n None p = tame-none n
tame-members_in n (Some e) p = tame-members n e (p e refl)

pub tame-object_at : (n : ℕ) (k : List ℕ) (d : Data) → IsTame (suc (suc n)) d → IsTame (suc n) (object_at k d)
unfolding object_at
tame-object_at n k d p = tame-object n _ (tame-members_in n (get k d) (λ e h. tame-get (suc n) k d e p h))

-- ---- arrays

tame-list : (n : ℕ) (ds : Items) → items_have_float ds ≡ false → items_depth ds ≤ n → AllByRecursion (IsTame n) (list_of ds)
tame-list n no_items p q = tt
tame-list n (item d ds) p q = let both = or-false (has_float d) (items_have_float ds) p in ((both.0, omega (arith, q)), tame-list n ds both.1 (omega (arith, q)))

tame-of : (n : ℕ) (ds : List Data) → AllByRecursion (IsTame n) ds → (items_have_float (items_of ds) ≡ false) × (items_depth (items_of ds) ≤ n)
tame-of n [] p = (refl, omega arith)
tame-of n (d ∷ ds) p = let rest = tame-of n ds p.1 in (both-false _ _ p.0.0 rest.0, omega (arith, p.0.1, rest.1))

pub tame-array : (n : ℕ) (ds : List Data) → AllByRecursion (IsTame n) ds → IsTame (suc n) (array (items_of ds))
tame-array n ds p = let all = tame-of n ds p in (all.0, omega (arith, all.1))

tame-items_in : (n : ℕ) (o : Option Data) → ((e : Data) → o ≡ Some e → IsTame (suc n) e) → AllByRecursion (IsTame n) (items_in o)
tame-items_in n None p = tt
tame-items_in n (Some null) p = tt
tame-items_in n (Some (boolean b)) p = tt
tame-items_in n (Some (number x)) p = tt
tame-items_in n (Some (string s)) p = tt
tame-items_in n (Some (array ds)) p = let t = p (array ds) refl in tame-list n ds t.0 (omega (arith, t.1))
tame-items_in n (Some (object ms)) p = tt

pub all-drop : (P : Data → Type 0) (k : ℕ) (ds : List Data) → AllByRecursion P ds → AllByRecursion P (drop k ds)
all-drop P zero ds p = p
all-drop P (suc k) [] p = p
all-drop P (suc k) (d ∷ ds) p = all-drop P k ds p.1

pub all-push : (P : Data → Type 0) (ds : List Data) (d : Data) → AllByRecursion P ds → P d → AllByRecursion P (ds ++ d ∷ [])
all-push P [] d p q = (q, tt)
all-push P (e ∷ ds) d p q = (p.0, all-push P ds d p.1 q)

tame-longer : (n : ℕ) (k : List ℕ) (x d : Data) → IsTame n x → IsTame (suc (suc n)) d → AllByRecursion (IsTame n) (items_at k d ++ x ∷ [])
tame-longer n k x d p q = all-push (IsTame n) (items_at k d) x (tame-items_in n (get k d) (λ e h. tame-get (suc n) k d e q h)) p

pub tame-add : (n : ℕ) (k : List ℕ) (x d : Data) → IsTame n x → IsTame (suc (suc n)) d → IsTame (suc (suc n)) (add k x d)
unfolding add
tame-add n k x d p q = tame-set (suc n) k _ d (tame-array n (items_at k d ++ x ∷ []) (tame-longer n k x d p q)) q

pub tame-add_within : (n most : ℕ) (k : List ℕ) (x d : Data) → IsTame n x → IsTame (suc (suc n)) d → IsTame (suc (suc n)) (add_within most k x d)
unfolding add_within
tame-add_within n most k x d p q =
    let longer = items_at k d ++ x ∷ [] in
    tame-set (suc n) k _ d (tame-array n (last most longer) (all-drop (IsTame n) (length longer - most) longer (tame-longer n k x d p q))) q

-- ---- the items of the array that an edit made longer

pub get-add : (k : List ℕ) (x d : Data) → get k (add k x d) ≡ Some (array (items_of (items_at k d ++ x ∷ [])))
unfolding add
get-add k x d = get-set k _ d

pub get-add_other : (q k : List ℕ) (x d : Data) → bytes_eq q k ≡ false → get q (add k x d) ≡ get q d
unfolding add
get-add_other q k x d e = get-set_other q k _ d e

pub get-add_within : (most : ℕ) (k : List ℕ) (x d : Data) → get k (add_within most k x d) ≡ Some (array (items_of (last most (items_at k d ++ x ∷ []))))
unfolding add_within
get-add_within most k x d = get-set k _ d

pub get-add_within_other : (most : ℕ) (q k : List ℕ) (x d : Data) → bytes_eq q k ≡ false → get q (add_within most k x d) ≡ get q d
unfolding add_within
get-add_within_other most q k x d e = get-set_other q k _ d e
