-- Laws of walks.
use Rattle.std.proofs.Common.{◌≡◌, ◌↔◌, ℕ, zero, suc, ℤ, ◌+◌, ◌-◌, ◌<◌, ◌≤◌, List, [], ◌∷◌, length, get_or, Bool, true, false, Option, Some, None, is_some, option_map, Bor, refl, sym, ap, ◌∙◌, subst, arith, append_assoc, append-nil, ◌++◌, ◌||◌, cond, IsTrue, true≢false}
use Rattle.std.specs.Prelude.{Contains}
use Rattle.std.specs.Ordering.{int_eq}
use Rattle.std.proofs.lemmas.Bool.Decides.{Decides-int_eq}
use Rattle.metadata_view.specs.Walk.{next_snapshot, walk, walk_step, IsWalk, IsAncestor, has_id, goes_on, goes_on_step, comes_back, snapshot_with, first_return}
use Rattle.metadata_view.specs.declared.types.Snapshot.{Snapshot}

-- a step of the walk, where k of n are done
pub walk-on : (ss : List Snapshot) (n k : ℕ) (next : Option ℤ) → k < n → walk ss (n - k) next ≡ walk_step (walk ss (n - (k + 1))) (next_snapshot ss next)
unfolding walk
walk-on ss n k next h = let e : n - k ≡ suc (n - (k + 1)) = omega arith in rw e refl

pub walk-over : (ss : List Snapshot) (n k : ℕ) (next : Option ℤ) → n ≤ k → walk ss (n - k) next ≡ []
unfolding walk
walk-over ss n k next h = let e : n - k ≡ 0 = omega arith in rw e refl

module _ (ss : List Snapshot) (n k : ℕ) (next : Option ℤ) where
  pub over-if-none : k < n → None ≡ next_snapshot ss next → walk ss (n - k) next ≡ []
  over-if-none h e = walk-on ss n k next h ∙ ap (walk_step (walk ss (n - (k + 1)))) (sym e)

  pub on-if-some : (s : Snapshot) → k < n → Some s ≡ next_snapshot ss next → walk ss (n - k) next ≡ s.id ∷ walk ss (n - (k + 1)) s.parent
  on-if-some s h e = walk-on ss n k next h ∙ ap (walk_step (walk ss (n - (k + 1)))) (sym e)

  module _ (found all : List ℤ) (so_far : found ++ walk ss (n - k) next ≡ all) where
    pub all-if-none : k < n → None ≡ next_snapshot ss next → found ≡ all
    all-if-none h e = sym (append-nil found) ∙ ap (λ xs. found ++ xs) (sym (over-if-none h e)) ∙ so_far

    pub all-if-over : n ≤ k → found ≡ all
    all-if-over h = sym (append-nil found) ∙ ap (λ xs. found ++ xs) (sym (walk-over ss n k next h)) ∙ so_far

    pub one_more : (s : Snapshot) → k < n → Some s ≡ next_snapshot ss next → (found ++ s.id ∷ []) ++ walk ss (n - (k + 1)) s.parent ≡ all
    one_more s h e = append_assoc found (s.id ∷ []) _ ∙ ap (λ xs. found ++ xs) (sym (on-if-some s h e)) ∙ so_far

module _ (ss : List Snapshot) (n k : ℕ) (next : Option ℤ) (id : ℤ) (b : Bool) (so_far : has_id id (walk ss (n - k) next) ≡ b) where
  pub has-if-none : k < n → None ≡ next_snapshot ss next → false ≡ b
  has-if-none h e = ap (has_id id) (sym (over-if-none ss n k next h e)) ∙ so_far

  pub has-if-over : n ≤ k → false ≡ b
  has-if-over h = ap (has_id id) (sym (walk-over ss n k next h)) ∙ so_far

  pub has-step : (s : Snapshot) → k < n → Some s ≡ next_snapshot ss next → (int_eq s.id id || has_id id (walk ss (n - (k + 1)) s.parent)) ≡ b
  has-step s h e = ap (has_id id) (sym (on-if-some ss n k next s h e)) ∙ so_far

-- ---- a walk that doesn't come back ends

ends_at : (ss : List Snapshot) (n : ℕ) (next : Option ℤ) (o : Option Snapshot) → next_snapshot ss next ≡ o
    → ((later : Option ℤ) → goes_on ss (suc n) later ≡ false → IsWalk ss later (walk ss n later))
    → goes_on_step (goes_on ss (suc n)) o ≡ false → IsWalk ss next (walk_step (walk ss n) o)
ends_at ss n next None e more h = e
ends_at ss n next (Some s) e more h = (s, e, refl, more s.parent h)

ends_now : (ss : List Snapshot) (o : Option Snapshot) → goes_on_step (goes_on ss zero) o ≡ false → o ≡ None
unfolding goes_on
ends_now ss None h = refl
ends_now ss (Some s) h = absurd (cc)

pub ends : (ss : List Snapshot) (n : ℕ) (next : Option ℤ) → goes_on ss (suc n) next ≡ false → IsWalk ss next (walk ss n next)
unfolding walk goes_on
ends ss zero next h = ends_now ss (next_snapshot ss next) h
ends ss (suc n) next h = ends_at ss n next (next_snapshot ss next) refl (ends ss n) h

no-return : (b : Bool) (i : ℕ) (o : Option ℕ) → cond b (Some i) o ≡ None → (b ≡ false) × (o ≡ None)
no-return true i o e = absurd (cc)
no-return false i o e = (refl, e)

here : (all : List Snapshot) (x s : Snapshot) (rest : Option Snapshot) → comes_back all x.parent ≡ false → (rest ≡ Some s → comes_back all s.parent ≡ false)
    → (b : Bool) → cond b (Some x) rest ≡ Some s → comes_back all s.parent ≡ false
here all x s rest first later true e = let same : x ≡ s = cc in subst (λ (y : Snapshot). comes_back all y.parent ≡ false) same first
here all x s rest first later false e = later e

found_within : (all : List Snapshot) (i : ℕ) (ss : List Snapshot) (id : ℤ) (s : Snapshot) → first_return all i ss ≡ None → snapshot_with ss id ≡ Some s → comes_back all s.parent ≡ false
unfolding first_return
found_within all i [] id s h e = absurd (cc)
found_within all i (x ∷ ss) id s h e =
    let both = no-return (comes_back all x.parent) i (first_return all (suc i) ss) h in
    here all x s (snapshot_with ss id) both.0 (found_within all (suc i) ss id s both.1) (int_eq x.id id) e

is_walk_at : (ss : List Snapshot) (id : ℤ) (o : Option Snapshot) → snapshot_with ss id ≡ o → first_return ss 0 ss ≡ None → IsWalk ss (Some id) (walk_step (walk ss (length ss)) o)
unfolding next_snapshot comes_back
is_walk_at ss id None e h = e
is_walk_at ss id (Some s) e h = (s, e, refl, ends ss (length ss) s.parent (found_within ss 0 ss id s h e))

-- the ids that are found are a whole walk
pub is_walk : (ss : List Snapshot) (id : ℤ) → first_return ss 0 ss ≡ None → IsWalk ss (Some id) (walk ss (length ss + 1) (Some id))
unfolding walk next_snapshot
is_walk ss id h =
    let one : length ss + 1 ≡ suc (length ss) = omega arith in
    subst (λ n. IsWalk ss (Some id) (walk ss n (Some id))) (sym one) (is_walk_at ss id (snapshot_with ss id) refl h)

-- there is one walk from a snapshot
pub one_walk : (ss : List Snapshot) (next : Option ℤ) (xs ys : List ℤ) → IsWalk ss next xs → IsWalk ss next ys → xs ≡ ys
one_walk ss next [] [] p q = refl
one_walk ss next [] (y ∷ ys) p q = let some = q.1 in absurd (cc)
one_walk ss next (x ∷ xs) [] p q = let some = p.1 in absurd (cc)
one_walk ss next (x ∷ xs) (y ∷ ys) p q =
    let first = p.1 in
    let second = q.1 in
    let same : p.0 ≡ q.0 = cc in
    let rest = one_walk ss q.0.parent xs ys (subst (λ (s : Snapshot). IsWalk ss s.parent xs) same p.3) q.3 in
    let ids : x ≡ y = sym p.2 ∙ ap (λ (s : Snapshot). s.id) same ∙ q.2 in
    ap (λ i. i ∷ xs) ids ∙ ap (λ zs. y ∷ zs) rest

has_id-at : (id x : ℤ) (xs : List ℤ) (b : Bool) → int_eq x id ≡ b → (has_id id xs ≡ true → Contains xs id) → (b || has_id id xs) ≡ true → Contains (x ∷ xs) id
has_id-at id x xs true e more h = (0, omega arith, (Decides-int_eq x id).0 e)
has_id-at id x xs false e more h = let later = more h in (suc later.0, omega (arith, later.1), later.2)

pub has_id-contains : (id : ℤ) (xs : List ℤ) → has_id id xs ≡ true → Contains xs id
has_id-contains id [] h = absurd (true≢false (sym h))
has_id-contains id (x ∷ xs) h = has_id-at id x xs (int_eq x id) refl (has_id-contains id xs) h

or-true : (a : Bool) → (a || true) ≡ true
or-true true = refl
or-true false = refl

has_id-from : (id : ℤ) (xs : List ℤ) (k : ℕ) → k < length xs → get_or xs k id ≡ id → has_id id xs ≡ true
has_id-from id [] k h e = absurd (omega arith)
has_id-from id (x ∷ xs) zero h e = ap (λ b. b || has_id id xs) ((Decides-int_eq x id).1 e)
has_id-from id (x ∷ xs) (suc k) h e = ap (λ b. int_eq x id || b) (has_id-from id xs k (omega arith) e) ∙ or-true (int_eq x id)

pub ancestor-if : (ss : List Snapshot) (id of : ℤ) (b : Bool) (ids : List ℤ) → IsWalk ss (Some of) ids → b ≡ has_id id ids → IsTrue b ↔ IsAncestor ss id of
ancestor-if ss id of b ids whole e = (
  λ h. (ids, whole, has_id-contains id ids (sym e ∙ h)),
  λ a. let same = one_walk ss (Some of) a.0 ids a.1 whole in e ∙ subst (λ xs. has_id id xs ≡ true) same (has_id-from id a.0 a.2.0 a.2.1 a.2.2),
)

pub is_some-copied : (o : Option (Bor Snapshot)) → is_some o ≡ is_some (option_map (λ s. s.now) o)
is_some-copied None = refl
is_some-copied (Some s) = refl
