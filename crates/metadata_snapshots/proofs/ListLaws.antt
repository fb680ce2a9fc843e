-- Lists of snapshots that get one more, or lose some: ids stay distinct, and no walk of parents comes back.
use Rattle.std.proofs.Common.{◌≡◌, ℕ, zero, suc, ◌+◌, ◌<◌, ◌≤◌, ℤ, List, [], ◌∷◌, ◌++◌, length, map, Bool, true, false, not, ◌||◌, cond, Option, Some, None, is_some, option_map, true≢false, refl, sym, ap, ◌∙◌, subst, arith, append_assoc, append-nil}
use Rattle.std.specs.List.{filter, list_any, IsDistinct, AllByRecursion}
use Rattle.std.specs.Set.{is_member}
use Rattle.std.specs.Ordering.{int_eq}
use Rattle.std.proofs.lemmas.Bool.Decides.{Decides-int_eq}
use Rattle.std.proofs.lemmas.Cmp.{int_eq_equiv}
use Rattle.std.proofs.lemmas.List.{length-map}
use Rattle.std.proofs.lemmas.Map.Made.{length-le_from_is_member}
use Rattle.metadata_form.specs.Fields.{is_id}
use Rattle.metadata_view.specs.Index.{first_double, double_behind}
use Rattle.metadata_view.specs.Walk.{snapshot_with, next_snapshot, IsWalk, walk, goes_on, goes_on_step, comes_back, first_return, place_with}
use Rattle.metadata_view.specs.declared.types.Snapshot.{Snapshot}
use Rattle.metadata_view.proofs.WalkLaws.{is_walk, one_walk}
use Rattle.metadata_snapshots.specs.Conditions.{has_child, IsKnownParent}

-- ---- tests

unlike : (a b : ℤ) (c : Bool) → int_eq a b ≡ c → (a ≡ b → ⊥) → c ≡ false
unlike a b true e other = absurd (other ((Decides-int_eq a b).0 e))
unlike a b false e other = refl

pub differ : (a b : ℤ) → (a ≡ b → ⊥) → int_eq a b ≡ false
differ a b other = unlike a b (int_eq a b) refl other

neither : (a b : Bool) → (a || b) ≡ false → (a ≡ false) × (b ≡ false)
neither true b e = absurd (true≢false e)
neither false b e = (refl, e)

or-true : (a : Bool) → (a || true) ≡ true
or-true true = refl
or-true false = refl

not-true : (b : Bool) → (b ≡ true → ⊥) → b ≡ false
not-true true h = absurd (h refl)
not-true false h = refl

no-return : (b : Bool) (i : ℕ) (o : Option ℕ) → cond b (Some i) o ≡ None → (b ≡ false) × (o ≡ None)
no-return true i o e = absurd (cc)
no-return false i o e = (refl, e)

returns-none : (b : Bool) (i : ℕ) (o : Option ℕ) → b ≡ false → o ≡ None → cond b (Some i) o ≡ None
returns-none b i o p q = ap (λ x. cond x (Some i) o) p ∙ q

-- ---- ids that are found

placed_at : (b : Bool) (s : Snapshot) (q : Option ℕ) (o : Option Snapshot) → is_some q ≡ is_some o → is_some (cond b (Some 0) (option_map suc q)) ≡ is_some (cond b (Some s) o)
placed_at true s q o e = refl
placed_at false s None o e = e
placed_at false s (Some i) o e = e

placed : (ss : List Snapshot) (id : ℤ) → is_some (place_with ss id) ≡ is_some (snapshot_with ss id)
placed [] id = refl
placed (s ∷ ss) id = placed_at (int_eq s.id id) s (place_with ss id) (snapshot_with ss id) (placed ss id)

found_at : (s t : Snapshot) (id : ℤ) (o : Option Snapshot) (b : Bool) → int_eq s.id id ≡ b → (o ≡ Some t → t.id ≡ id) → cond b (Some s) o ≡ Some t → t.id ≡ id
found_at s t id o true e later h = let same : s ≡ t = cc in ap (λ (x : Snapshot). x.id) (sym same) ∙ (Decides-int_eq s.id id).0 e
found_at s t id o false e later h = later h

found_id : (ss : List Snapshot) (id : ℤ) (t : Snapshot) → snapshot_with ss id ≡ Some t → t.id ≡ id
found_id [] id t h = absurd (cc)
found_id (s ∷ ss) id t h = found_at s t id (snapshot_with ss id) (int_eq s.id id) refl (found_id ss id t) h

member_at : (s t : Snapshot) (ids : List ℤ) (o : Option Snapshot) (b : Bool) → (o ≡ Some t → list_any (int_eq t.id) ids ≡ true) → cond b (Some s) o ≡ Some t → (int_eq t.id s.id || list_any (int_eq t.id) ids) ≡ true
member_at s t ids o true later h = let same : s ≡ t = cc in ap (λ b. b || list_any (int_eq t.id) ids) ((Decides-int_eq t.id s.id).1 (ap (λ (x : Snapshot). x.id) (sym same)))
member_at s t ids o false later h = ap (λ b. int_eq t.id s.id || b) (later h) ∙ or-true (int_eq t.id s.id)

found_member : (ss : List Snapshot) (id : ℤ) (t : Snapshot) → snapshot_with ss id ≡ Some t → list_any (int_eq t.id) (map (λ s. s.id) ss) ≡ true
found_member [] id t h = absurd (cc)
found_member (s ∷ ss) id t h = member_at s t (map (λ s. s.id) ss) (snapshot_with ss id) (int_eq s.id id) (found_member ss id t) h

next_member : (ss : List Snapshot) (next : Option ℤ) (t : Snapshot) → next_snapshot ss next ≡ Some t → list_any (int_eq t.id) (map (λ s. s.id) ss) ≡ true
unfolding next_snapshot
next_member ss None t h = absurd (cc)
next_member ss (Some id) t h = found_member ss id t h

next_itself : (ss : List Snapshot) (next : Option ℤ) (t : Snapshot) → next_snapshot ss next ≡ Some t → next_snapshot ss (Some t.id) ≡ Some t
unfolding next_snapshot
next_itself ss None t h = absurd (cc)
next_itself ss (Some id) t h = ap (snapshot_with ss) (found_id ss id t h) ∙ h

-- ---- a walk has each snapshot once

walk_here : (ss : List Snapshot) (next : Option ℤ) (id : ℤ) (ids : List ℤ) → IsWalk ss next (id ∷ ids) → IsWalk ss (Some id) (id ∷ ids)
walk_here ss next id ids w = (w.0, ap (λ i. next_snapshot ss (Some i)) (sym w.2) ∙ next_itself ss next w.0 w.1, w.2, w.3)

later_at : (ss : List Snapshot) (next : Option ℤ) (id x : ℤ) (ids : List ℤ) (b : Bool) → int_eq id x ≡ b → IsWalk ss next (x ∷ ids)
    → (list_any (int_eq id) ids ≡ true → (rest : List ℤ) × IsWalk ss (Some id) (id ∷ rest) × (length rest < length ids))
    → (b || list_any (int_eq id) ids) ≡ true → (rest : List ℤ) × IsWalk ss (Some id) (id ∷ rest) × (length rest < suc (length ids))
later_at ss next id x ids true e w later h = (ids, subst (λ (i : ℤ). IsWalk ss (Some i) (i ∷ ids)) (sym ((Decides-int_eq id x).0 e)) (walk_here ss next x ids w), omega arith)
later_at ss next id x ids false e w later h = let l = later h in (l.0, l.1, omega (arith, l.2))

later_walk : (ss : List Snapshot) (ids : List ℤ) (next : Option ℤ) (id : ℤ) → IsWalk ss next ids → list_any (int_eq id) ids ≡ true → (rest : List ℤ) × IsWalk ss (Some id) (id ∷ rest) × (length rest < length ids)
later_walk ss [] next id w h = absurd (true≢false (sym h))
later_walk ss (x ∷ ids) next id w h = later_at ss next id x ids (int_eq id x) refl w (later_walk ss ids w.0.parent id w.3) h

none-any : (p : ℤ → Bool) (xs : List ℤ) → list_any p xs ≡ false → AllByRecursion (λ y. p y ≡ false) xs
none-any p [] h = tt
none-any p (x ∷ xs) h = let both = neither (p x) (list_any p xs) h in (both.0, none-any p xs both.1)

walk_once : (ss : List Snapshot) (next : Option ℤ) (id : ℤ) (ids : List ℤ) → IsWalk ss next (id ∷ ids) → list_any (int_eq id) ids ≡ true → ⊥
walk_once ss next id ids w h =
    let l = later_walk ss ids w.0.parent id w.3 h in
    let same = ap length (one_walk ss (Some id) (id ∷ l.0) (id ∷ ids) l.1 (walk_here ss next id ids w)) in
    omega (arith, same, l.2)

walk_distinct : (ss : List Snapshot) (ids : List ℤ) (next : Option ℤ) → IsWalk ss next ids → IsDistinct int_eq ids
unfolding IsDistinct
walk_distinct ss [] next w = tt
walk_distinct ss (id ∷ ids) next w = (none-any (int_eq id) ids (not-true _ (walk_once ss next id ids w)), walk_distinct ss ids w.0.parent w.3)

known_at : (ss : List Snapshot) (q x : ℤ) (s : Snapshot) (ids : List ℤ) (b : Bool) → int_eq q x ≡ b → s.id ≡ x → list_any (int_eq s.id) (map (λ t. t.id) ss) ≡ true
    → (list_any (int_eq q) ids ≡ true → list_any (int_eq q) (map (λ t. t.id) ss) ≡ true) → (b || list_any (int_eq q) ids) ≡ true → list_any (int_eq q) (map (λ t. t.id) ss) ≡ true
known_at ss q x s ids true e is here later h = subst (λ (i : ℤ). list_any (int_eq i) (map (λ t. t.id) ss) ≡ true) (is ∙ sym ((Decides-int_eq q x).0 e)) here
known_at ss q x s ids false e is here later h = later h

walk_known : (ss : List Snapshot) (ids : List ℤ) (next : Option ℤ) → IsWalk ss next ids → (q : ℤ) → is_member int_eq ids q ≡ true → is_member int_eq (map (λ s. s.id) ss) q ≡ true
walk_known ss [] next w q h = absurd (true≢false (sym h))
walk_known ss (x ∷ ids) next w q h = known_at ss q x w.0 ids (int_eq q x) refl w.2 (next_member ss next w.0 w.1) (walk_known ss ids w.0.parent w.3 q) h

walk_within : (ss : List Snapshot) (ids : List ℤ) (next : Option ℤ) → IsWalk ss next ids → length ids ≤ length ss
walk_within ss ids next w =
    let most = length-le_from_is_member int_eq_equiv ids (map (λ (s : Snapshot). s.id) ss) (walk_distinct ss ids next w) (walk_known ss ids next w) in
    omega (arith, most, length-map ss (λ (s : Snapshot). s.id))

-- ---- where each walk ends, none comes back

walk_ends : (ss : List Snapshot) (ids : List ℤ) (next : Option ℤ) (n : ℕ) → IsWalk ss next ids → length ids < n → goes_on ss n next ≡ false
unfolding goes_on
walk_ends ss ids next zero w h = absurd (omega (arith, h))
walk_ends ss [] next (suc n) w h = ap (goes_on_step (goes_on ss n)) w
walk_ends ss (id ∷ ids) next (suc n) w h = ap (goes_on_step (goes_on ss n)) w.1 ∙ walk_ends ss ids w.0.parent n w.3 (omega (arith, h))

abbrev HasWalks : List Snapshot → Type 0
HasWalks ss = (next : Option ℤ) → (ids : List ℤ) × IsWalk ss next ids

ends_all : (ss : List Snapshot) → HasWalks ss → (next : Option ℤ) → comes_back ss next ≡ false
unfolding comes_back
ends_all ss walks next = let w = walks next in walk_ends ss w.0 next (suc (length ss)) w.1 (omega (arith, walk_within ss w.0 next w.1))

returns_none : (all : List Snapshot) (i : ℕ) (ss : List Snapshot) → ((next : Option ℤ) → comes_back all next ≡ false) → first_return all i ss ≡ None
unfolding first_return
returns_none all i [] h = refl
returns_none all i (s ∷ ss) h = returns-none _ i _ (h s.parent) (returns_none all (suc i) ss h)

walks_of : (ss : List Snapshot) → first_return ss 0 ss ≡ None → HasWalks ss
unfolding next_snapshot
walks_of ss h None = ([], refl)
walks_of ss h (Some id) = (walk ss (length ss + 1) (Some id), is_walk ss id h)

-- ---- one more snapshot

module _ (x : Snapshot) where
  some_at : (b c : Bool) (s : Snapshot) (o p : Option Snapshot) → is_some p ≡ (is_some o || c) → is_some (cond b (Some s) p) ≡ (is_some (cond b (Some s) o) || c)
  some_at true c s o p e = refl
  some_at false c s o p e = e

  last_at : (b : Bool) → is_some (cond b (Some x) None) ≡ b
  last_at true = refl
  last_at false = refl

  push_some : (ss : List Snapshot) (id : ℤ) → is_some (snapshot_with (ss ++ x ∷ []) id) ≡ (is_some (snapshot_with ss id) || int_eq x.id id)
  push_some [] id = last_at (int_eq x.id id)
  push_some (s ∷ ss) id = some_at (int_eq s.id id) (int_eq x.id id) s _ _ (push_some ss id)

  -- what is known stays known
  pub push_known : (ss : List Snapshot) (id : ℤ) → is_some (snapshot_with ss id) ≡ true → is_some (snapshot_with (ss ++ x ∷ []) id) ≡ true
  push_known ss id h = push_some ss id ∙ ap (λ b. b || int_eq x.id id) h

  pub push_itself : (ss : List Snapshot) → is_some (snapshot_with (ss ++ x ∷ []) x.id) ≡ true
  push_itself ss = push_some ss x.id ∙ ap (λ b. is_some (snapshot_with ss x.id) || b) ((Decides-int_eq x.id x.id).1 refl) ∙ or-true (is_some (snapshot_with ss x.id))

  double_push : (earlier ss : List Snapshot) → double_behind earlier ss ≡ None → is_some (place_with (earlier ++ ss) x.id) ≡ false → double_behind earlier (ss ++ x ∷ []) ≡ None
  double_push earlier [] h new = returns-none _ (length earlier) None (ap (λ ss. is_some (place_with ss x.id)) (sym (append-nil earlier)) ∙ new) refl
  double_push earlier (s ∷ ss) h new =
      let both = no-return (is_some (place_with earlier s.id)) (length earlier) (double_behind (earlier ++ s ∷ []) ss) h in
      returns-none _ (length earlier) _ both.0 (double_push (earlier ++ s ∷ []) ss both.1 (ap (λ xs. is_some (place_with xs x.id)) (append_assoc earlier (s ∷ []) ss) ∙ new))

  -- ids stay distinct
  pub push_distinct : (ss : List Snapshot) → first_double ss ≡ None → snapshot_with ss x.id ≡ None → first_double (ss ++ x ∷ []) ≡ None
  push_distinct ss h new = double_push [] ss h (placed ss x.id ∙ ap (λ o. is_some o) new)

  push_other : (ss : List Snapshot) (id : ℤ) → int_eq x.id id ≡ false → snapshot_with (ss ++ x ∷ []) id ≡ snapshot_with ss id
  push_other [] id h = ap (λ b. cond b (Some x) None) h
  push_other (s ∷ ss) id h = ap (cond (int_eq s.id id) (Some s)) (push_other ss id h)

  last_of : (b : Bool) (s : Snapshot) (o p : Option Snapshot) → cond b (Some s) o ≡ None → (o ≡ None → p ≡ Some x) → cond b (Some s) p ≡ Some x
  last_of true s o p h later = absurd (cc)
  last_of false s o p h later = later h

  push_last : (ss : List Snapshot) → snapshot_with ss x.id ≡ None → snapshot_with (ss ++ x ∷ []) x.id ≡ Some x
  push_last [] h = ap (λ b. cond b (Some x) None) ((Decides-int_eq x.id x.id).1 refl)
  push_last (s ∷ ss) h = last_of (int_eq s.id x.id) s _ _ h (push_last ss)

  childless_at : (b : Bool) (s t : Snapshot) (o : Option Snapshot) → is_id x.id s.parent ≡ false → (o ≡ Some t → is_id x.id t.parent ≡ false) → cond b (Some s) o ≡ Some t → is_id x.id t.parent ≡ false
  childless_at true s t o h later e = let same : s ≡ t = cc in subst (λ (y : Snapshot). is_id x.id y.parent ≡ false) same h
  childless_at false s t o h later e = later e

  childless : (ss : List Snapshot) (id : ℤ) (t : Snapshot) → has_child ss x.id ≡ false → snapshot_with ss id ≡ Some t → is_id x.id t.parent ≡ false
  childless [] id t h e = absurd (cc)
  childless (s ∷ ss) id t h e =
      let both = neither (is_id x.id s.parent) (has_child ss x.id) h in
      childless_at (int_eq s.id id) s t (snapshot_with ss id) both.0 (childless ss id t both.1) e

  next_childless : (ss : List Snapshot) (next : Option ℤ) (t : Snapshot) → has_child ss x.id ≡ false → next_snapshot ss next ≡ Some t → is_id x.id t.parent ≡ false
  unfolding next_snapshot
  next_childless ss None t h e = absurd (cc)
  next_childless ss (Some id) t h e = childless ss id t h e

  next_push : (ss : List Snapshot) (next : Option ℤ) → is_id x.id next ≡ false → next_snapshot (ss ++ x ∷ []) next ≡ next_snapshot ss next
  unfolding next_snapshot
  next_push ss None h = refl
  next_push ss (Some id) h = push_other ss id (int_eq_equiv.symm x.id id ∙ h)

  -- a walk that doesn't lead to the new snapshot is as before
  push_walk : (ss : List Snapshot) (ids : List ℤ) (next : Option ℤ) → has_child ss x.id ≡ false → is_id x.id next ≡ false → IsWalk ss next ids → IsWalk (ss ++ x ∷ []) next ids
  push_walk ss [] next c e w = next_push ss next e ∙ w
  push_walk ss (id ∷ ids) next c e w = (w.0, next_push ss next e ∙ w.1, w.2, push_walk ss ids w.0.parent c (next_childless ss next w.0 c w.1) w.3)

  own_parent : (ss : List Snapshot) (parent : Option ℤ) → snapshot_with ss x.id ≡ None → IsKnownParent ss parent → is_id x.id parent ≡ false
  own_parent ss None new known = refl
  own_parent ss (Some id) new known = differ id x.id (λ same. true≢false (sym known ∙ ap (λ (i : ℤ). is_some (snapshot_with ss i)) same ∙ ap (λ o. is_some o) new))

  walk_new : (ss : List Snapshot) → HasWalks ss → snapshot_with ss x.id ≡ None → has_child ss x.id ≡ false → IsKnownParent ss x.parent → (ids : List ℤ) × IsWalk (ss ++ x ∷ []) (Some x.id) ids
  unfolding next_snapshot
  walk_new ss walks new c known =
      let w = walks x.parent in
      (x.id ∷ w.0, (x, push_last ss new, refl, push_walk ss w.0 x.parent c (own_parent ss x.parent new known) w.1))

  walks_at : (ss : List Snapshot) (next : Option ℤ) (b : Bool) → is_id x.id next ≡ b → HasWalks ss → snapshot_with ss x.id ≡ None → has_child ss x.id ≡ false → IsKnownParent ss x.parent → (ids : List ℤ) × IsWalk (ss ++ x ∷ []) next ids
  walks_at ss next false e walks new c known = let w = walks next in (w.0, push_walk ss w.0 next c e w.1)
  walks_at ss None true e walks new c known = absurd (true≢false (sym e))
  walks_at ss (Some id) true e walks new c known =
      subst (λ (i : ℤ). (ids : List ℤ) × IsWalk (ss ++ x ∷ []) (Some i) ids) (sym ((Decides-int_eq id x.id).0 e)) (walk_new ss walks new c known)

  -- no walk comes back
  pub push_ends : (ss : List Snapshot) → first_return ss 0 ss ≡ None → snapshot_with ss x.id ≡ None → has_child ss x.id ≡ false → IsKnownParent ss x.parent → first_return (ss ++ x ∷ []) 0 (ss ++ x ∷ []) ≡ None
  push_ends ss h new c known =
      let all = ss ++ x ∷ [] in
      returns_none all 0 all (ends_all all (λ next. walks_at ss next (is_id x.id next) refl (walks_of ss h) new c known))

-- ---- fewer snapshots

none-either : (b : Bool) (o : Option Snapshot) → o ≡ None → o ≡ cond b None o
none-either true o e = e
none-either false o e = refl

module _ (gone : ℤ → Bool) where
  -- the snapshots whose ids aren't gone
  abbrev pub left : List Snapshot → List Snapshot
  left ss = filter (λ s. not (gone s.id)) ss

  left_here : (g b c : Bool) (s : Snapshot) (all : Option Snapshot) (more : List Snapshot) (id : ℤ) → (b ≡ true → g ≡ c) → int_eq s.id id ≡ b → snapshot_with more id ≡ cond c None all
      → snapshot_with (cond (not g) (s ∷ more) more) id ≡ cond c None (cond b (Some s) all)
  left_here true true true s all more id same is e = e
  left_here true true false s all more id same is e = absurd (true≢false (same refl))
  left_here true false c s all more id same is e = e
  left_here false true true s all more id same is e = absurd (true≢false (sym (same refl)))
  left_here false true false s all more id same is e = ap (λ x. cond x (Some s) (snapshot_with more id)) is
  left_here false false c s all more id same is e = ap (λ x. cond x (Some s) (snapshot_with more id)) is ∙ e

  -- a snapshot that isn't gone is found as before
  pub left_with : (ss : List Snapshot) (id : ℤ) → snapshot_with (left ss) id ≡ cond (gone id) None (snapshot_with ss id)
  left_with [] id = none-either (gone id) None refl
  left_with (s ∷ ss) id = left_here (gone s.id) (int_eq s.id id) (gone id) s (snapshot_with ss id) (left ss) id (λ e. ap gone ((Decides-int_eq s.id id).0 e)) refl (left_with ss id)

  pub left_known : (ss : List Snapshot) (id : ℤ) → gone id ≡ false → is_some (snapshot_with ss id) ≡ true → is_some (snapshot_with (left ss) id) ≡ true
  left_known ss id e h = ap (λ o. is_some o) (left_with ss id) ∙ ap (λ b. is_some (cond b None (snapshot_with ss id))) e ∙ h

  abbrev IsWithin : List Snapshot → List Snapshot → Type 0
  IsWithin some all = (id : ℤ) → is_some (snapshot_with some id) ≡ true → is_some (snapshot_with all id) ≡ true

  or-within : (a b c : Bool) → (a ≡ true → b ≡ true) → (a || c) ≡ true → (b || c) ≡ true
  or-within true b c h k = ap (λ x. x || c) (h refl)
  or-within false b c h k = ap (λ x. b || x) k ∙ or-true b

  both-longer : (some all : List Snapshot) (s : Snapshot) → IsWithin some all → IsWithin (some ++ s ∷ []) (all ++ s ∷ [])
  both-longer some all s h id k =
      push_some s all id ∙ or-within (is_some (snapshot_with some id)) (is_some (snapshot_with all id)) (int_eq s.id id) (h id) (sym (push_some s some id) ∙ k)

  not-within : (some all : List Snapshot) (id : ℤ) → IsWithin some all → is_some (place_with all id) ≡ false → is_some (place_with some id) ≡ false
  not-within some all id h new = not-true _ (λ k. true≢false (sym (h id (sym (placed some id) ∙ k)) ∙ sym (placed all id) ∙ new))

  double_left : (g : Bool) (some all : List Snapshot) (s : Snapshot) (ss : List Snapshot) → is_some (place_with all s.id) ≡ false → IsWithin some all
      → ((more : List Snapshot) → IsWithin more (all ++ s ∷ []) → double_behind more (left ss) ≡ None) → double_behind some (cond (not g) (s ∷ left ss) (left ss)) ≡ None
  double_left true some all s ss new h later = later some (λ id k. push_known s all id (h id k))
  double_left false some all s ss new h later = returns-none _ (length some) _ (not-within some all s.id h new) (later (some ++ s ∷ []) (both-longer some all s h))

  distinct_left : (ss some all : List Snapshot) → double_behind all ss ≡ None → IsWithin some all → double_behind some (left ss) ≡ None
  distinct_left [] some all h k = refl
  distinct_left (s ∷ ss) some all h k =
      let both = no-return (is_some (place_with all s.id)) (length all) (double_behind (all ++ s ∷ []) ss) h in
      double_left (gone s.id) some all s ss both.0 k (λ more j. distinct_left ss more (all ++ s ∷ []) both.1 j)

  -- ids stay distinct
  pub left_distinct : (ss : List Snapshot) → first_double ss ≡ None → first_double (left ss) ≡ None
  left_distinct ss h = distinct_left ss [] [] h (λ id k. k)

  left_end : (ss : List Snapshot) (next : Option ℤ) → next_snapshot ss next ≡ None → next_snapshot (left ss) next ≡ None
  unfolding next_snapshot
  left_end ss None h = refl
  left_end ss (Some id) h = left_with ss id ∙ ap (cond (gone id) None) h ∙ sym (none-either (gone id) None refl)

  left_at : (ss : List Snapshot) (id : ℤ) (s : Snapshot) (b : Bool) → gone id ≡ b → snapshot_with ss id ≡ Some s → ((kept : List ℤ) × IsWalk (left ss) s.parent kept) → (kept : List ℤ) × IsWalk (left ss) (Some id) kept
  unfolding next_snapshot
  left_at ss id s true e is more = ([], left_with ss id ∙ ap (λ b. cond b None (snapshot_with ss id)) e)
  left_at ss id s false e is more = (s.id ∷ more.0, (s, left_with ss id ∙ ap (λ b. cond b None (snapshot_with ss id)) e ∙ is, refl, more.1))

  left_step : (ss : List Snapshot) (next : Option ℤ) (s : Snapshot) → next_snapshot ss next ≡ Some s → ((kept : List ℤ) × IsWalk (left ss) s.parent kept) → (kept : List ℤ) × IsWalk (left ss) next kept
  unfolding next_snapshot
  left_step ss None s is more = absurd (cc)
  left_step ss (Some id) s is more = left_at ss id s (gone id) refl is more

  -- a walk is as before up to a snapshot that is gone
  left_walk : (ss : List Snapshot) (ids : List ℤ) (next : Option ℤ) → IsWalk ss next ids → (kept : List ℤ) × IsWalk (left ss) next kept
  left_walk ss [] next w = ([], left_end ss next w)
  left_walk ss (id ∷ ids) next w = left_step ss next w.0 w.1 (left_walk ss ids w.0.parent w.3)

  -- no walk comes back
  pub left_ends : (ss : List Snapshot) → first_return ss 0 ss ≡ None → first_return (left ss) 0 (left ss) ≡ None
  left_ends ss h = returns_none (left ss) 0 (left ss) (ends_all (left ss) (λ next. let w = walks_of ss h next in left_walk ss w.0 next w.1))
