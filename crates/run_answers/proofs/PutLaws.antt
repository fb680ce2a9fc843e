-- Pieces that are put one behind the other are as their whole put at once, up to the first that fails.
use Rattle.std.proofs.Common.{◌≡◌, ℕ, ◌+◌, ◌≤◌, List, [], ◌++◌, length, take, drop, Option, Some, None, Result, Ok, Err, IsErr, refl, sym, ap, ◌∙◌, subst, arith, append_assoc, append-nil}
use Rattle.std.proofs.Math.Seq.{take-append-add, take-append_seam, take-length}
use Rattle.std.proofs.lemmas.List.{take-append-drop}
use Rattle.ice_store.specs.Calls.{Rose}
use Rattle.ice_store.specs.Given.{Takes}
use Rattle.ice_store.specs.declared.outside.Failed.{Failed}
use Rattle.run_answers.specs.Puts.{IsPut, TakesPrefix, TakesAll}

nothing_taken : (a : Option (List ℕ)) (u : Unit {0}) → Takes a a [] (Ok u)
nothing_taken None u = refl
nothing_taken (Some old) u = ap (λ (l : List ℕ). Some l) (sym (append-nil old))

taken_on : (a b c : Option (List ℕ)) (xs ys : List ℕ) (u : Unit {0}) (r : Result (Unit {0}) Failed) → Takes a b xs (Ok u) → Takes b c ys r → Takes a c (xs ++ ys) r
taken_on None b c xs ys u r first next = subst (λ (o : Option (List ℕ)). Takes o c ys r) first next
taken_on (Some old) b c xs ys u (Ok v) first next =
    let all : c ≡ Some ((old ++ xs) ++ ys) = subst (λ (o : Option (List ℕ)). Takes o c ys (Ok v)) first next in
    all ∙ ap (λ (l : List ℕ). Some l) (append_assoc old xs ys)
taken_on (Some old) b c xs ys u (Err e) first next =
    let cut : (n : ℕ) × (c ≡ Some ((old ++ xs) ++ take n ys)) = subst (λ (o : Option (List ℕ)). Takes o c ys (Err e)) first next in
    (length xs + cut.0, cut.1 ∙ ap (λ (l : List ℕ). Some l) (append_assoc old xs (take cut.0 ys) ∙ ap (λ (l : List ℕ). old ++ l) (sym (take-append-add xs ys cut.0))))

-- a prefix of the first is a prefix of both
prefix_of_both : (n : ℕ) (xs ys : List ℕ) → take (length (take n xs)) (xs ++ ys) ≡ take n xs
prefix_of_both n xs ys =
    let front = take n xs in
    let both : xs ++ ys ≡ front ++ (drop n xs ++ ys) = ap (λ (l : List ℕ). l ++ ys) (sym (take-append-drop n xs)) ∙ append_assoc front (drop n xs) ys in
    ap (take (length front)) both ∙ take-append_seam front (drop n xs ++ ys)

taken_less : (a b : Option (List ℕ)) (xs ys : List ℕ) (e f : Failed) → Takes a b xs (Err e) → Takes a b (xs ++ ys) (Err f)
taken_less None b xs ys e f lost = lost
taken_less (Some old) b xs ys e f lost = (length (take lost.0 xs), lost.1 ∙ ap (λ (l : List ℕ). Some (old ++ l)) (sym (prefix_of_both lost.0 xs ys)))

rose_on : (m n k : ℕ) → m ≤ n → Rose n k → Rose m k
rose_on m n k le rose = omega arith

pub nothing_put : (a : Option (List ℕ)) (m : ℕ) (u : Unit {0}) → IsPut a a m m [] (Ok u)
nothing_put a m u = record { contents = nothing_taken a u; cause = record { later = omega arith; failed = λ e. absurd (cc); kept = λ calm. refl } }

-- a put behind one that succeeded
pub put_on : (a b c : Option (List ℕ)) (m n k : ℕ) (xs ys : List ℕ) (u : Unit {0}) (r : Result (Unit {0}) Failed) → IsPut a b m n xs (Ok u) → IsPut b c n k ys r → IsPut a c m k (xs ++ ys) r
put_on a b c m n k xs ys u r first next = record {
  contents = taken_on a b c xs ys u r first.contents next.contents;
  cause = record {
    later = omega (arith, first.cause.later, next.cause.later);
    failed = λ e. rose_on m n k first.cause.later (next.cause.failed e);
    kept = λ calm. next.cause.kept calm ∙ first.cause.kept (λ e. absurd (cc));
  };
}

-- a put that failed, and no other behind it
put_less : (a b : Option (List ℕ)) (m n : ℕ) (xs ys : List ℕ) (e f : Failed) → IsPut a b m n xs (Err e) → IsPut a b m n (xs ++ ys) (Err f)
put_less a b m n xs ys e f lost = record {
  contents = taken_less a b xs ys e f lost.contents;
  cause = record { later = lost.cause.later; failed = λ err. lost.cause.failed refl; kept = λ calm. absurd (calm refl) };
}

pub put_lost : (a b : Option (List ℕ)) (m n : ℕ) (xs ys : List ℕ) (e : Failed) (r : Result (Unit {0}) Failed) → IsPut a b m n xs (Err e) → IsErr r → IsPut a b m n (xs ++ ys) r
put_lost a b m n xs ys e (Ok u) lost is = absurd (cc)
put_lost a b m n xs ys e (Err f) lost is = put_less a b m n xs ys e f lost

-- what was taken is a prefix
pub takes_prefix : (a b : Option (List ℕ)) (bytes : List ℕ) (r : Result (Unit {0}) Failed) → Takes a b bytes r → TakesPrefix a b bytes
takes_prefix None b bytes r taken = tt
takes_prefix (Some old) b bytes (Ok u) taken = (length bytes, taken ∙ ap (λ (l : List ℕ). Some (old ++ l)) (sym (take-length bytes)))
takes_prefix (Some old) b bytes (Err e) taken = taken

-- and the whole where no fault came
pub takes_whole : (a b : Option (List ℕ)) (m n : ℕ) (bytes : List ℕ) (r : Result (Unit {0}) Failed) → IsPut a b m n bytes r → (Rose m n → ⊥) → TakesAll a b bytes
takes_whole None b m n bytes r put calm = tt
takes_whole (Some old) b m n bytes (Ok u) put calm = put.contents
takes_whole (Some old) b m n bytes (Err e) put calm = absurd (calm (put.cause.failed refl))
