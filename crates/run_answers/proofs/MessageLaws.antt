-- The message line, and its pieces.
use Rattle.std.proofs.Common.{◌≡◌, ℕ, suc, ◌<◌, true, false, List, [], ◌∷◌, ◌++◌, codes, length, take, drop, get_or, IsErr, Option, Result, Ok, Err, refl, sym, ap, ◌∙◌, subst, append_assoc}
use Rattle.std.proofs.Math.Seq.{drop-cons}
use Rattle.std.proofs.lemmas.List.{take-append-drop}
use Rattle.std.proofs.lemmas.List.Concat.{flat_map-append}
use Rattle.std.specs.List.{flat_map}
use Rattle.ice_store.specs.declared.outside.Failed.{Failed}
use Rattle.run_answers.specs.Messages.{message_of, message_line, is_done}
use Rattle.run_answers.specs.Puts.{IsPut}
use Rattle.run_answers.specs.declared.status.Status.{Status}
use Rattle.run_answers.proofs.PutLaws.{nothing_put, put_on, put_lost}

no_line : (status : Status) → is_done status ≡ true → message_line status ≡ []
unfolding message_line
no_line status done = rw done refl

one_line : (status : Status) → is_done status ≡ false → message_line status ≡ codes "upkeep: " ++ message_of status ++ codes "\n"
unfolding message_line
one_line status other = rw other refl

pub nothing_said : (status : Status) (a : Option (List ℕ)) (m : ℕ) → true ≡ is_done status → IsPut a a m m (message_line status) (Ok tt)
nothing_said status a m done = subst (λ (l : List ℕ). IsPut a a m m l (Ok tt)) (sym (no_line status (sym done))) (nothing_put a m tt)

pub line_said : (status : Status) (a b : Option (List ℕ)) (m n : ℕ) (r : Result (Unit {0}) Failed) (text : List ℕ) → false ≡ is_done status → text ≡ message_of status
    → IsPut a b m n (codes "upkeep: " ++ text ++ codes "\n") r → IsPut a b m n (message_line status) r
line_said status a b m n r text other is put =
    subst (λ (l : List ℕ). IsPut a b m n l r) (ap (λ (l : List ℕ). codes "upkeep: " ++ l ++ codes "\n") is ∙ sym (one_line status (sym other))) put

-- what stands before a piece, the piece, and what is behind it
flat_split : {X : Type 0} (f : X → List ℕ) (xs : List X) (i : ℕ) (d : X) → i < length xs → flat_map f xs ≡ (flat_map f (take i xs) ++ f (get_or xs i d)) ++ flat_map f (drop (suc i) xs)
flat_split f xs i d lt =
    ap (flat_map f) (sym (take-append-drop i xs) ∙ ap (λ (l : List _). take i xs ++ l) (drop-cons xs i d lt))
    ∙ flat_map-append f (take i xs) (get_or xs i d ∷ drop (suc i) xs)
    ∙ sym (append_assoc (flat_map f (take i xs)) (f (get_or xs i d)) (flat_map f (drop (suc i) xs)))

-- a piece that failed ends the put of all
pub piece_lost : {X : Type 0} (f : X → List ℕ) (xs : List X) (i : ℕ) (d : X) (a b c : Option (List ℕ)) (m n k : ℕ) (e : Failed) (r : Result (Unit {0}) Failed) → i < length xs
    → IsPut a b m n (flat_map f (take i xs)) (Ok tt) → IsPut b c n k (f (get_or xs i d)) (Err e) → IsErr r → IsPut a c m k (flat_map f xs) r
piece_lost f xs i d a b c m n k e r lt first lost err =
    subst (λ (l : List ℕ). IsPut a c m k l r) (sym (flat_split f xs i d lt))
    (put_lost a c m k (flat_map f (take i xs) ++ f (get_or xs i d)) (flat_map f (drop (suc i) xs)) e r
    (put_on a b c m n k (flat_map f (take i xs)) (f (get_or xs i d)) tt (Err e) first lost) err)
