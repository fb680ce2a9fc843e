-- Cells in the order of the columns.
use Rattle.std.proofs.Common.{◌≡◌, ℕ, zero, suc, ◌<◌, ◌≤◌, List, [], ◌∷◌, ◌++◌, length, take, get_or, set, Bool, true, false, ap, refl, sym, ◌∙◌, arith, Result, Ok, Err, IfOk, Option, Some, None, take-suc, take-suc-set, take_all}
use native.Mathlib.Numerals.{unary_clauses}
use Rattle.std.specs.Bool.{OnTrue}
use Rattle.std.specs.List.{slice_get}
use Rattle.avro_datum.specs.declared.datum.Datum.{Datum}
use Rattle.manifest_columns.specs.declared.column.Kind.{Kind}
use Rattle.manifest_columns.specs.declared.slots.Slot.{Slot}
use Rattle.manifest_cells.specs.Cells.{Cell, cell, cells_of}

pub cells_length : (ks : List Kind) (ss : List Slot) (ds : List Datum) → length ks ≡ length ss → length (cells_of ks ss ds) ≡ length ss
cells_length [] [] ds e = refl
cells_length [] (s ∷ ss) ds e = absurd (omega (arith, e))
cells_length (k ∷ ks) [] ds e = absurd (omega (arith, e))
cells_length (k ∷ ks) (s ∷ ss) ds e = ap suc (cells_length ks ss ds (omega (arith, e)))

pub get_cell : (ks : List Kind) (ss : List Slot) (ds : List Datum) (k : Kind) (s : Slot) (c : Cell) (n : ℕ) → n < length ks → n < length ss → get_or (cells_of ks ss ds) n c ≡ cell (get_or ks n k) (get_or ss n s) ds
get_cell [] ss ds k s c n a b = absurd (omega (arith, a))
get_cell (x ∷ ks) [] ds k s c n a b = absurd (omega (arith, b))
get_cell (x ∷ ks) (y ∷ ss) ds k s c zero a b = refl
get_cell (x ∷ ks) (y ∷ ss) ds k s c (suc n) a b = get_cell ks ss ds k s c n (omega (arith, a)) (omega (arith, b))

pub cell_at : (ks : List Kind) (ss : List Slot) (ds : List Datum) (k : Kind) (s : Slot) (n : ℕ) → n < length ks → n < length ss → slice_get (cells_of ks ss ds) n ≡ Some (cell (get_or ks n k) (get_or ss n s) ds)
cell_at [] ss ds k s n a b = absurd (omega (arith, a))
cell_at (x ∷ ks) [] ds k s n a b = absurd (omega (arith, b))
cell_at (x ∷ ks) (y ∷ ss) ds k s zero a b = refl
cell_at (x ∷ ks) (y ∷ ss) ds k s (suc n) a b = cell_at ks ss ds k s n (omega (arith, a)) (omega (arith, b))

-- One more column is read, at the slot that stands in its place.
pub step : (ks : List Kind) (ss : List Slot) (ds : List Datum) (k : Kind) (s : Slot) (n m : ℕ) (xs ys : List Cell) → m ≡ suc n → length ks ≡ length ss → n < length ss → s ≡ get_or ss n s → n < length xs → take n xs ≡ take n (cells_of ks ss ds) → ys ≡ set xs n (cell (get_or ks n k) s ds) → take m ys ≡ take m (cells_of ks ss ds)
step ks ss ds k s n m xs ys next len b at c so_far is =
    let x : Cell = cell (get_or ks n k) s ds in
    let in_all : n < length (cells_of ks ss ds) = omega (arith, b, cells_length ks ss ds len) in
    let last : x ≡ get_or (cells_of ks ss ds) n x = ap (λ (t : Slot). cell (get_or ks n k) t ds) at ∙ sym (get_cell ks ss ds k s x n (omega (arith, len, b)) b) in
    rw next (rw is (take-suc-set xs n x c ∙ ap (λ (cs : List Cell). cs ++ x ∷ []) so_far ∙ ap (λ (y : Cell). take n (cells_of ks ss ds) ++ y ∷ []) last ∙ sym (take-suc (cells_of ks ss ds) n x in_all)))

-- All columns are read.
pub all_read : (xs ys : List Cell) (n : ℕ) → length xs ≤ n → length ys ≤ n → take n xs ≡ take n ys → xs ≡ ys
all_read xs ys n a b e = sym (take_all n xs a) ∙ e ∙ take_all n ys b

-- A column that doesn't fit.
pub not_at : (ks : List Kind) (ss : List Slot) (ds : List Datum) (k : Kind) (s : Slot) (n : ℕ) (xs : List Cell) → n < length ks → n < length ss → s ≡ get_or ss n s → (slice_get xs n ≡ Some (cell (get_or ks n k) s ds) → ⊥) → slice_get xs n ≡ slice_get (cells_of ks ss ds) n → ⊥
not_at ks ss ds k s n xs a b at not e = not (e ∙ cell_at ks ss ds k s n a b ∙ sym (ap (λ (t : Slot). Some (cell (get_or ks n k) t ds)) at))

pub same_some : {A : Type 0} {x y : A} → Some x ≡ Some y → x ≡ y
same_some e = cc

take_next : {A : Type 0} (fs : List A) (n : ℕ) (d : A) → slice_get fs n ≡ Some d → take (suc n) fs ≡ take n fs ++ d ∷ []
take_next [] zero d e = absurd cc
take_next [] (suc n) d e = absurd cc
take_next (x ∷ xs) zero d e = ap (λ y. y ∷ []) (same_some e)
take_next (x ∷ xs) (suc n) d e = ap (λ ys. x ∷ ys) (take_next xs n d e)

-- What holds before a field was set, and isn't told of it, holds after.
pub stays : {E P : Type 0} (r : Result Bool E) → P → IfOk r (λ fits. OnTrue fits P)
stays (Ok true) h = h
stays (Ok false) h = tt
stays (Err e) h = tt

-- What holds of a field that was set.
pub on_true : {P : Type 0} (b : Bool) → OnTrue b P → b ≡ true → P
on_true true h e = h
on_true false h e = absurd cc

-- One more field is written.
pub one_more : {A : Type 0} (fs : List A) (n m : ℕ) (xs ys : List A) (d : A) → m ≡ suc n → xs ≡ take n fs → slice_get fs n ≡ Some d → ys ≡ xs ++ d ∷ [] → ys ≡ take m fs
one_more fs n m xs ys d next so_far at is = is ∙ ap (λ zs. zs ++ d ∷ []) so_far ∙ sym (take_next fs n d at) ∙ sym (ap (λ k. take k fs) next)
