-- The fields of a row in order.
use Rattle.std.proofs.Common.{◌≡◌, ℕ, zero, suc, ℤ, ◌<◌, ◌≤◌, ◌+◌, List, [], ◌∷◌, ◌++◌, length, take, set, get_or, Bool, true, false, Result, Ok, Err, IfOk, Option, Some, ap, refl, sym, ◌∙◌, arith}
use native.Mathlib.Numerals.{unary_clauses}
use Rattle.std.specs.List.{slice_get}
use Rattle.avro_datum.specs.declared.datum.Datum.{Datum}
use Rattle.avro_schema.specs.declared.schema.Field.{Field}
use Rattle.manifest_columns.specs.declared.slots.Slot.{Slot}
use Rattle.manifest_columns.specs.declared.column.Kind.TheVariants.{Bool as Truth}
use Rattle.manifest_cells.specs.Cells.{Cell, cell, held, records_in, listed_as, Sets}
use Rattle.manifest_cells.specs.declared.field_err.FieldErr.{FieldErr}
use Rattle.manifest_cells.specs.declared.field_err.FieldErr.TheVariants as errors
use Rattle.manifest_cells.specs.FieldErrors.{OnBadField}
use Rattle.manifest_cells.proofs.InOrder.{cells_length, all_read, same_some}
use Rattle.manifest_rows.specs.declared.row.FieldSummary.{FieldSummary}
use Rattle.manifest_rows.specs.declared.row.ManifestRow.{ManifestRow}
use Rattle.manifest_rows.specs.Rows.{cells, summary_cells, row_kinds, row_slots, held_cells, Fills, IsBadAt, NoRow, Reads}
use Rattle.manifest_rows.specs.Written.{row_fields}

pub width : (row : ManifestRow) → length (cells row) ≡ 15
unfolding cells
width row = refl

pub field_count : (row : ManifestRow) → length (row_fields row) ≡ 15
unfolding row_fields
field_count row = refl

pub slots_width : (fs : List Field) → length (row_slots fs) ≡ 15
slots_width fs = refl

pub held_width : (slots : List Slot) (ds : List Datum) → length slots ≡ 15 → length (held_cells slots ds) ≡ 15
held_width slots ds len = cells_length row_kinds slots ds (sym len) ∙ len

pub all_filled : (slots : List Slot) (ds : List Datum) (n : ℕ) (row : ManifestRow) → length slots ≡ 15 → length slots ≤ n → take n (cells row) ≡ take n (held_cells slots ds) → cells row ≡ held_cells slots ds
all_filled slots ds n row len all so_far = all_read (cells row) (held_cells slots ds) n (omega (arith, len, all, width row)) (omega (arith, len, all, held_width slots ds len)) so_far

list_filled : {E : Type 0} (r : Result Bool E) (slot : Slot) (ds : List Datum) (old : ManifestRow) (now : Option (List FieldSummary)) → IfOk r (λ fits. Sets (listed_as summary_cells) (records_in slot.within (held ds slot.place)) fits now) → IfOk r (λ fits. Fills 7 (cell (get_or row_kinds 7 Truth) slot ds) old fits (record old { partitions = now }))
unfolding cells
list_filled (Ok true) slot ds old now h = ap (λ (c : Cell). set (cells old) 7 c) h
list_filled (Ok false) slot ds old now h = λ row e. h row.partitions (same_some e)
list_filled (Err x) slot ds old now h = tt

-- the list of summaries was set, or doesn't fit
pub fills_list : {E : Type 0} (r : Result Bool E) (place : ℕ) (slot : Slot) (ds : List Datum) (found : Option Datum) (old : ManifestRow) (now : Option (List FieldSummary)) → place ≡ 7 → found ≡ held ds slot.place → IfOk r (λ fits. Sets (listed_as summary_cells) (records_in slot.within found) fits now) → IfOk r (λ fits. Fills place (cell (get_or row_kinds place Truth) slot ds) old fits (record old { partitions = now }))
fills_list r place slot ds found old now e f h = rw e (list_filled r slot ds old now (rw f at h))

pub was_set : (n : ℕ) (c : Cell) (old now : ManifestRow) (b : Bool) → Fills n c old b now → b ≡ true → cells now ≡ set (cells old) n c
was_set n c old now true h e = h
was_set n c old now false h e = absurd cc

pub was_not_set : (n : ℕ) (c : Cell) (old now : ManifestRow) (b : Bool) → Fills n c old b now → b ≡ false → (row : ManifestRow) → slice_get (cells row) n ≡ Some c → ⊥
was_not_set n c old now false h e = h
was_not_set n c old now true h e = absurd cc

pub no_row : (slots : List Slot) (ds : List Datum) (r : Result ManifestRow FieldErr) → Reads slots ds r → OnBadField r (NoRow slots ds)
no_row slots ds (Ok row) h = tt
no_row slots ds (Err errors.Memory) h = tt
no_row slots ds (Err (errors.BadField id)) h = λ row e. h.fits_not row (ap (λ (cs : List Cell). slice_get cs h.place) e)
