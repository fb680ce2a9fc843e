-- Values of partitions.
use Rattle.std.proofs.Common.{◌≡◌, ℕ, zero, suc, List, [], ◌∷◌, map, Option, Some, None, refl, sym, ap, ◌∙◌}
use Rattle.std.specs.List.{slice_get}
use Rattle.manifest_files.specs.Partitions.{all_there, consed}

all_back : {A : Type 0} (xs : List A) → Some xs ≡ all_there (map Some xs)
all_back [] = refl
all_back {A = A} (x ∷ xs) = ap (consed (Some x)) (all_back xs)

-- All of them are there.
pub all_are_there : {A : Type 0} (xs : List A) (os : List (Option A)) → map Some xs ≡ os → Some xs ≡ all_there os
all_are_there xs os e = all_back xs ∙ ap all_there e

none_behind : {A : Type 0} (o : Option A) → consed o None ≡ None
none_behind None = refl
none_behind (Some x) = refl

-- One lacks.
pub one_lacks : {A B : Type 0} (f : A → Option B) (xs : List A) (n : ℕ) (x : A) → slice_get xs n ≡ Some x → None ≡ f x → None ≡ all_there (map f xs)
one_lacks f [] n x at e = absurd cc
one_lacks f (y ∷ ys) zero x at e =
    let here : None ≡ f y = cc in
    ap (λ o. consed o (all_there (map f ys))) here
one_lacks f (y ∷ ys) (suc n) x at e = sym (none_behind (f y)) ∙ ap (consed (f y)) (one_lacks f ys n x at e)
