-- Cells of a data file in the order of the columns.
use Rattle.std.proofs.Common.{◌≡◌, ℕ, zero, suc, ◌<◌, List, [], ◌∷◌, ◌++◌, length, take, get_or, set, ap, refl, sym, ◌∙◌, arith, Some, take-suc, take-suc-set}
use Rattle.std.specs.List.{slice_get}
use Rattle.avro_datum.specs.declared.datum.Datum.{Datum}
use Rattle.manifest_columns.specs.declared.column.Kind.{Kind}
use Rattle.manifest_columns.specs.declared.slots.Slot.{Slot}
use Rattle.manifest_cells.specs.Cells.{Cell}
use Rattle.manifest_files.specs.declared.partition.PartSlot.{PartSlot}
use Rattle.manifest_files.specs.Files.{file_cell, file_cells_of}

pub cells_length : (ps : List PartSlot) (ds : List Datum) (ks : List Kind) (ss : List Slot) → length ks ≡ length ss → length (file_cells_of ps ds ks ss) ≡ length ss
cells_length ps ds [] [] e = refl
cells_length ps ds [] (s ∷ ss) e = absurd (omega (arith, e))
cells_length ps ds (k ∷ ks) [] e = absurd (omega (arith, e))
cells_length ps ds (k ∷ ks) (s ∷ ss) e = ap suc (cells_length ps ds ks ss (omega (arith, e)))

pub get_cell : (ps : List PartSlot) (ds : List Datum) (ks : List Kind) (ss : List Slot) (k : Kind) (s : Slot) (c : Cell) (n : ℕ) → n < length ks → n < length ss → get_or (file_cells_of ps ds ks ss) n c ≡ file_cell ps ds (get_or ks n k) (get_or ss n s)
get_cell ps ds [] ss k s c n a b = absurd (omega (arith, a))
get_cell ps ds (x ∷ ks) [] k s c n a b = absurd (omega (arith, b))
get_cell ps ds (x ∷ ks) (y ∷ ss) k s c zero a b = refl
get_cell ps ds (x ∷ ks) (y ∷ ss) k s c (suc n) a b = get_cell ps ds ks ss k s c n (omega (arith, a)) (omega (arith, b))

pub cell_at : (ps : List PartSlot) (ds : List Datum) (ks : List Kind) (ss : List Slot) (k : Kind) (s : Slot) (n : ℕ) → n < length ks → n < length ss → slice_get (file_cells_of ps ds ks ss) n ≡ Some (file_cell ps ds (get_or ks n k) (get_or ss n s))
cell_at ps ds [] ss k s n a b = absurd (omega (arith, a))
cell_at ps ds (x ∷ ks) [] k s n a b = absurd (omega (arith, b))
cell_at ps ds (x ∷ ks) (y ∷ ss) k s zero a b = refl
cell_at ps ds (x ∷ ks) (y ∷ ss) k s (suc n) a b = cell_at ps ds ks ss k s n (omega (arith, a)) (omega (arith, b))

-- One more column is read, at the slot that stands in its place.
pub step : (ps : List PartSlot) (ds : List Datum) (ks : List Kind) (ss : List Slot) (k : Kind) (s : Slot) (n m : ℕ) (xs ys : List Cell) → m ≡ suc n → length ks ≡ length ss → n < length ss → s ≡ get_or ss n s → n < length xs → take n xs ≡ take n (file_cells_of ps ds ks ss) → ys ≡ set xs n (file_cell ps ds (get_or ks n k) s) → take m ys ≡ take m (file_cells_of ps ds ks ss)
step ps ds ks ss k s n m xs ys next len b at c so_far is =
    let x : Cell = file_cell ps ds (get_or ks n k) s in
    let in_all : n < length (file_cells_of ps ds ks ss) = omega (arith, b, cells_length ps ds ks ss len) in
    let last : x ≡ get_or (file_cells_of ps ds ks ss) n x = ap (file_cell ps ds (get_or ks n k)) at ∙ sym (get_cell ps ds ks ss k s x n (omega (arith, len, b)) b) in
    rw next (rw is (take-suc-set xs n x c ∙ ap (λ (cs : List Cell). cs ++ x ∷ []) so_far ∙ ap (λ (y : Cell). take n (file_cells_of ps ds ks ss) ++ y ∷ []) last ∙ sym (take-suc (file_cells_of ps ds ks ss) n x in_all)))

-- A column that doesn't fit.
pub not_at : (ps : List PartSlot) (ds : List Datum) (ks : List Kind) (ss : List Slot) (k : Kind) (s : Slot) (n : ℕ) (xs : List Cell) → n < length ks → n < length ss → s ≡ get_or ss n s → (slice_get xs n ≡ Some (file_cell ps ds (get_or ks n k) s) → ⊥) → slice_get xs n ≡ slice_get (file_cells_of ps ds ks ss) n → ⊥
not_at ps ds ks ss k s n xs a b at not e = not (e ∙ cell_at ps ds ks ss k s n a b ∙ sym (ap (λ (t : Slot). Some (file_cell ps ds (get_or ks n k) t)) at))
