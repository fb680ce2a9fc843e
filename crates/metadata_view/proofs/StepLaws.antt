-- Laws of steps from place to place.
use Rattle.std.proofs.Common.{◌≡◌, ℕ, zero, suc, ℤ, ◌+◌, ◌/◌, ◌%◌, List, [], ◌∷◌, length, map, get_or, Bool, true, false, Option, Some, None, is_some, option_map, cond, refl, sym, ap, ◌∙◌, arith}
use Rattle.std.specs.Ordering.{int_eq}
use Rattle.metadata_view.specs.Steps.{step_from, steps_from, parents_among, first_some}
use Rattle.metadata_view.specs.Walk.{snapshot_with, next_snapshot, place_with, goes_on, goes_on_step, comes_back, place_of, first_return}
use Rattle.metadata_view.specs.declared.types.Snapshot.{Snapshot}

map-map : {A B C : Type 0} (f : B → C) (g : A → B) (xs : List A) → map f (map g xs) ≡ map (λ x. f (g x)) xs
map-map f g [] = refl
map-map f g (x ∷ xs) = ap (λ ys. f (g x) ∷ ys) (map-map f g xs)

map-same : {A B : Type 0} (f g : A → B) → ((x : A) → f x ≡ g x) → (xs : List A) → map f xs ≡ map g xs
map-same f g e [] = refl
map-same f g e (x ∷ xs) = ap (λ y. y ∷ map f xs) (e x) ∙ ap (λ ys. g x ∷ ys) (map-same f g e xs)

pub map-none : {A : Type 0} (f : A → A) → ((x : A) → f x ≡ x) → (xs : List A) → map f xs ≡ xs
map-none f e [] = refl
map-none f e (x ∷ xs) = ap (λ y. y ∷ map f xs) (e x) ∙ ap (λ ys. x ∷ ys) (map-none f e xs)

step-at : (ts us : List (Option ℕ)) (i : ℕ) → get_or (map (step_from ts) us) i None ≡ step_from ts (get_or us i None)
step-at ts [] i = refl
step-at ts (o ∷ us) zero = refl
step-at ts (o ∷ us) (suc i) = step-at ts us i

-- a step over the table of two steps is two steps
step-two : (ts us : List (Option ℕ)) (o : Option ℕ) → step_from (map (step_from ts) us) o ≡ step_from ts (step_from us o)
step-two ts us None = refl
step-two ts us (Some i) = step-at ts us i

pub steps-none : (ts : List (Option ℕ)) (n : ℕ) → steps_from ts n None ≡ None
unfolding steps_from
steps-none ts zero = refl
steps-none ts (suc n) = steps-none ts n

steps-two : (ts : List (Option ℕ)) (n : ℕ) (o : Option ℕ) → steps_from (map (step_from ts) ts) n o ≡ steps_from ts (n + n) o
unfolding steps_from
steps-two ts zero o = refl
steps-two ts (suc n) o =
    let twice : suc n + suc n ≡ suc (suc (n + n)) = omega arith in
    ap (λ x. steps_from (map (step_from ts) ts) n x) (step-two ts ts o) ∙ steps-two ts n (step_from ts (step_from ts o)) ∙ sym (ap (λ k. steps_from ts k o) twice)

pub steps-even : (ts us : List (Option ℕ)) (n : ℕ) → n % 2 ≡ 0 → map (steps_from (map (step_from ts) ts) (n / 2)) us ≡ map (steps_from ts n) us
steps-even ts us n even =
    let half : n / 2 + n / 2 ≡ n = omega arith in
    map-same _ _ (λ o. steps-two ts (n / 2) o ∙ ap (λ k. steps_from ts k o) half) us

pub steps-odd : (ts us : List (Option ℕ)) (n : ℕ) → n % 2 ≡ 1 → map (steps_from (map (step_from ts) ts) (n / 2)) (map (step_from ts) us) ≡ map (steps_from ts n) us
unfolding steps_from
steps-odd ts us n odd =
    let half : suc (n / 2 + n / 2) ≡ n = omega arith in
    map-map _ _ us ∙ map-same _ _ (λ o. steps-two ts (n / 2) (step_from ts o) ∙ ap (λ k. steps_from ts k o) half) us

pub step_even : (ts two us all : List (Option ℕ)) (n : ℕ) → two ≡ map (step_from ts) ts → n % 2 ≡ 0 → map (steps_from ts n) us ≡ all → map (steps_from two (n / 2)) us ≡ all
step_even ts two us all n e even h = ap (λ xs. map (steps_from xs (n / 2)) us) e ∙ steps-even ts us n even ∙ h

pub step_odd : (ts two us more all : List (Option ℕ)) (n : ℕ) → two ≡ map (step_from ts) ts → more ≡ map (step_from ts) us → n % 2 ≡ 1 → map (steps_from ts n) us ≡ all → map (steps_from two (n / 2)) more ≡ all
step_odd ts two us more all n e f odd h = ap (λ xs. map (steps_from xs (n / 2)) more) e ∙ ap (map (steps_from (map (step_from ts) ts) (n / 2))) f ∙ steps-odd ts us n odd ∙ h

pub steps-zero : (ts us : List (Option ℕ)) → map (steps_from ts 0) us ≡ us
unfolding steps_from
steps-zero ts us = map-none _ (λ o. refl) us

-- ---- steps, and walks

same_option : {A B C : Type 0} (f : B → C) (g : A → B) (o : Option A) → option_map f (option_map g o) ≡ option_map (λ x. f (g x)) o
same_option f g None = refl
same_option f g (Some x) = refl

parent_at : (all : List Snapshot) (x : Snapshot) (ss : List Snapshot) (o : Option Snapshot) (q : Option ℕ) (b : Bool)
    → option_map (λ (s : Snapshot). place_of all s.parent) o ≡ option_map (λ i. get_or (parents_among all ss) i None) q
    → option_map (λ (s : Snapshot). place_of all s.parent) (cond b (Some x) o) ≡ option_map (λ i. get_or (parents_among all (x ∷ ss)) i None) (cond b (Some 0) (option_map suc q))
parent_at all x ss o q true e = refl
parent_at all x ss o q false e = e ∙ sym (same_option (λ i. get_or (parents_among all (x ∷ ss)) i None) suc q)

-- the place of the parent of the snapshot with an id
parent_with : (all ss : List Snapshot) (id : ℤ) → option_map (λ (s : Snapshot). place_of all s.parent) (snapshot_with ss id) ≡ option_map (λ i. get_or (parents_among all ss) i None) (place_with ss id)
parent_with all [] id = refl
parent_with all (x ∷ ss) id = parent_at all x ss (snapshot_with ss id) (place_with ss id) (int_eq x.id id) (parent_with all ss id)

parent_next : (ss : List Snapshot) (next : Option ℤ) → option_map (λ (s : Snapshot). place_of ss s.parent) (next_snapshot ss next) ≡ option_map (λ i. get_or (parents_among ss ss) i None) (place_of ss next)
unfolding next_snapshot
parent_next ss None = refl
parent_next ss (Some id) = parent_with ss ss id

goes_on_at : (ss : List Snapshot) (n : ℕ) (o : Option Snapshot) (q : Option ℕ)
    → option_map (λ (s : Snapshot). place_of ss s.parent) o ≡ option_map (λ i. get_or (parents_among ss ss) i None) q
    → ((s : Snapshot) (i : ℕ) → place_of ss s.parent ≡ get_or (parents_among ss ss) i None → goes_on ss n s.parent ≡ is_some (steps_from (parents_among ss ss) n (Some i)))
    → goes_on_step (goes_on ss n) o ≡ is_some (steps_from (parents_among ss ss) n q)
goes_on_at ss n None None e more = ap (λ x. is_some x) (sym (steps-none (parents_among ss ss) n))
goes_on_at ss n None (Some i) e more = absurd (cc)
goes_on_at ss n (Some s) None e more = absurd (cc)
goes_on_at ss n (Some s) (Some i) e more = let same : place_of ss s.parent ≡ get_or (parents_among ss ss) i None = cc in more s i same

-- a walk has more than n snapshots where n steps lead somewhere
pub goes_on-steps : (ss : List Snapshot) (n : ℕ) (next : Option ℤ) → goes_on ss (suc n) next ≡ is_some (steps_from (parents_among ss ss) n (place_of ss next))
unfolding goes_on steps_from
goes_on-steps ss zero next = goes_on_at ss zero (next_snapshot ss next) (place_of ss next) (parent_next ss next) (λ s i e. refl)
goes_on-steps ss (suc n) next =
    goes_on_at ss (suc n) (next_snapshot ss next) (place_of ss next) (parent_next ss next)
    (λ s i e. goes_on-steps ss n s.parent ∙ ap (λ q. is_some (steps_from (parents_among ss ss) n q)) e)

first-at : (i : ℕ) (o : Option ℕ) (b : Bool) (places : List (Option ℕ)) (later : Option ℕ) → is_some o ≡ b → first_some (suc i) places ≡ later → first_some i (o ∷ places) ≡ cond b (Some i) later
first-at i None true places later e more = absurd (cc)
first-at i None false places later e more = more
first-at i (Some j) true places later e more = refl
first-at i (Some j) false places later e more = absurd (cc)

returns-from : (all : List Snapshot) (i : ℕ) (ss : List Snapshot) → first_some i (map (steps_from (parents_among all all) (length all)) (parents_among all ss)) ≡ first_return all i ss
unfolding first_return comes_back
returns-from all i [] = refl
returns-from all i (s ∷ ss) =
    first-at i (steps_from (parents_among all all) (length all) (place_of all s.parent)) (goes_on all (suc (length all)) s.parent)
    (map (steps_from (parents_among all all) (length all)) (parents_among all ss)) (first_return all (suc i) ss)
    (sym (goes_on-steps all (length all) s.parent)) (returns-from all (suc i) ss)

pub first_return-steps : (ss : List Snapshot) → first_some 0 (map (steps_from (parents_among ss ss) (length ss)) (parents_among ss ss)) ≡ first_return ss 0 ss
first_return-steps ss = returns-from ss 0 ss
