-- The fields of a data file in order.
use Rattle.std.proofs.Common.{◌≡◌, ℕ, zero, suc, ℤ, ◌≤◌, List, [], ◌∷◌, ◌++◌, length, take, set, Bool, true, false, Result, Ok, Err, IfOk, Option, Some, get_or, ap, refl, sym, ◌∙◌, arith}
use Rattle.std.specs.List.{slice_get}
use Rattle.avro_datum.specs.declared.datum.Datum.{Datum}
use Rattle.manifest_columns.specs.declared.slots.Slot.{Slot}
use Rattle.manifest_columns.specs.declared.column.Kind.TheVariants.{Bool as Truth}
use Rattle.manifest_cells.specs.Cells.{Cell, Sets, held, records_in, listed_as, int_long_cells, int_bytes_cells}
use Rattle.manifest_cells.specs.declared.field_err.FieldErr.{FieldErr}
use Rattle.manifest_cells.specs.declared.field_err.FieldErr.TheVariants as errors
use Rattle.manifest_cells.specs.FieldErrors.{OnBadField}
use Rattle.manifest_cells.proofs.InOrder.{all_read, same_some}
use Rattle.manifest_files.proofs.InOrder.{cells_length}
use Rattle.manifest_files.specs.declared.file.DataFile.{DataFile}
use Rattle.manifest_files.specs.declared.partition.PartSlot.{PartSlot}
use Rattle.manifest_files.specs.Files.{file_cells, file_cell, file_kinds, held_file_cells, FillsFile, NoFile, ReadsFile}
use Rattle.manifest_files.specs.Written.{file_fields}

pub width : (file : DataFile) → length (file_cells file) ≡ 17
unfolding file_cells
width file = refl

pub field_count : (file : DataFile) → length (file_fields file) ≡ 17
unfolding file_fields
field_count file = refl

pub held_width : (slots : List Slot) (parts : List PartSlot) (ds : List Datum) → length slots ≡ 17 → length (held_file_cells slots parts ds) ≡ 17
held_width slots parts ds len = cells_length parts ds file_kinds slots (sym len) ∙ len

pub all_filled : (slots : List Slot) (parts : List PartSlot) (ds : List Datum) (n : ℕ) (file : DataFile) → length slots ≡ 17 → length slots ≤ n → take n (file_cells file) ≡ take n (held_file_cells slots parts ds) → file_cells file ≡ held_file_cells slots parts ds
all_filled slots parts ds n file len all so_far = all_read (file_cells file) (held_file_cells slots parts ds) n (omega (arith, len, all, width file)) (omega (arith, len, all, held_width slots parts ds len)) so_far

pub was_set : (n : ℕ) (c : Cell) (old now : DataFile) (b : Bool) → FillsFile n c old b now → b ≡ true → file_cells now ≡ set (file_cells old) n c
was_set n c old now true h e = h
was_set n c old now false h e = absurd cc

pub was_not_set : (n : ℕ) (c : Cell) (old now : DataFile) (b : Bool) → FillsFile n c old b now → b ≡ false → (file : DataFile) → slice_get (file_cells file) n ≡ Some c → ⊥
was_not_set n c old now false h e = h
was_not_set n c old now true h e = absurd cc

pub no_file : (slots : List Slot) (parts : List PartSlot) (ds : List Datum) (r : Result DataFile FieldErr) → ReadsFile slots parts ds r → OnBadField r (NoFile slots parts ds)
no_file slots parts ds (Ok file) h = tt
no_file slots parts ds (Err errors.Memory) h = tt
no_file slots parts ds (Err (errors.BadField id)) h = λ file e. h.fits_not file (ap (λ (cs : List Cell). slice_get cs h.place) e)

-- A field was set, or doesn't fit.
set_fits : {E A : Type 0} (r : Result Bool E) (n : ℕ) (c : Cell) (old new : DataFile) (said : A → Cell) (field : DataFile → A) (now : A) → (said now ≡ c → file_cells new ≡ set (file_cells old) n c) → ((f : DataFile) → slice_get (file_cells f) n ≡ Some (said (field f))) → IfOk r (λ fits. Sets said c fits now) → IfOk r (λ fits. FillsFile n c old fits new)
set_fits (Ok true) n c old new said field now put get h = put h
set_fits (Ok false) n c old new said field now put get h = λ f e. h (field f) (same_some (sym (get f) ∙ e))
set_fits (Err x) n c old new said field now put get h = tt

pub fills_column_sizes : {E : Type 0} (r : Result Bool E) (place : ℕ) (slot : Slot) (parts : List PartSlot) (ds : List Datum) (old : DataFile) (now : Option (List (ℤ × ℤ))) → place ≡ 5 → IfOk r (λ fits. Sets (listed_as int_long_cells) (records_in slot.within (held ds slot.place)) fits now) → IfOk r (λ fits. FillsFile place (file_cell parts ds (get_or file_kinds place Truth) slot) old fits (record old { column_sizes = now }))
unfolding file_cells
fills_column_sizes r place slot parts ds old now e h = rw e (set_fits r 5 (records_in slot.within (held ds slot.place)) old (record old { column_sizes = now }) (listed_as int_long_cells) (λ f. f.column_sizes) now (λ q. ap (λ (c : Cell). set (file_cells old) 5 c) q) (λ f. refl) h)

pub fills_value_counts : {E : Type 0} (r : Result Bool E) (place : ℕ) (slot : Slot) (parts : List PartSlot) (ds : List Datum) (old : DataFile) (now : Option (List (ℤ × ℤ))) → place ≡ 6 → IfOk r (λ fits. Sets (listed_as int_long_cells) (records_in slot.within (held ds slot.place)) fits now) → IfOk r (λ fits. FillsFile place (file_cell parts ds (get_or file_kinds place Truth) slot) old fits (record old { value_counts = now }))
unfolding file_cells
fills_value_counts r place slot parts ds old now e h = rw e (set_fits r 6 (records_in slot.within (held ds slot.place)) old (record old { value_counts = now }) (listed_as int_long_cells) (λ f. f.value_counts) now (λ q. ap (λ (c : Cell). set (file_cells old) 6 c) q) (λ f. refl) h)

pub fills_null_value_counts : {E : Type 0} (r : Result Bool E) (place : ℕ) (slot : Slot) (parts : List PartSlot) (ds : List Datum) (old : DataFile) (now : Option (List (ℤ × ℤ))) → place ≡ 7 → IfOk r (λ fits. Sets (listed_as int_long_cells) (records_in slot.within (held ds slot.place)) fits now) → IfOk r (λ fits. FillsFile place (file_cell parts ds (get_or file_kinds place Truth) slot) old fits (record old { null_value_counts = now }))
unfolding file_cells
fills_null_value_counts r place slot parts ds old now e h = rw e (set_fits r 7 (records_in slot.within (held ds slot.place)) old (record old { null_value_counts = now }) (listed_as int_long_cells) (λ f. f.null_value_counts) now (λ q. ap (λ (c : Cell). set (file_cells old) 7 c) q) (λ f. refl) h)

pub fills_lower_bounds : {E : Type 0} (r : Result Bool E) (place : ℕ) (slot : Slot) (parts : List PartSlot) (ds : List Datum) (old : DataFile) (now : Option (List (ℤ × List ℕ))) → place ≡ 8 → IfOk r (λ fits. Sets (listed_as int_bytes_cells) (records_in slot.within (held ds slot.place)) fits now) → IfOk r (λ fits. FillsFile place (file_cell parts ds (get_or file_kinds place Truth) slot) old fits (record old { lower_bounds = now }))
unfolding file_cells
fills_lower_bounds r place slot parts ds old now e h = rw e (set_fits r 8 (records_in slot.within (held ds slot.place)) old (record old { lower_bounds = now }) (listed_as int_bytes_cells) (λ f. f.lower_bounds) now (λ q. ap (λ (c : Cell). set (file_cells old) 8 c) q) (λ f. refl) h)

pub fills_upper_bounds : {E : Type 0} (r : Result Bool E) (place : ℕ) (slot : Slot) (parts : List PartSlot) (ds : List Datum) (old : DataFile) (now : Option (List (ℤ × List ℕ))) → place ≡ 9 → IfOk r (λ fits. Sets (listed_as int_bytes_cells) (records_in slot.within (held ds slot.place)) fits now) → IfOk r (λ fits. FillsFile place (file_cell parts ds (get_or file_kinds place Truth) slot) old fits (record old { upper_bounds = now }))
unfolding file_cells
fills_upper_bounds r place slot parts ds old now e h = rw e (set_fits r 9 (records_in slot.within (held ds slot.place)) old (record old { upper_bounds = now }) (listed_as int_bytes_cells) (λ f. f.upper_bounds) now (λ q. ap (λ (c : Cell). set (file_cells old) 9 c) q) (λ f. refl) h)

pub fills_nan_value_counts : {E : Type 0} (r : Result Bool E) (place : ℕ) (slot : Slot) (parts : List PartSlot) (ds : List Datum) (old : DataFile) (now : Option (List (ℤ × ℤ))) → place ≡ 14 → IfOk r (λ fits. Sets (listed_as int_long_cells) (records_in slot.within (held ds slot.place)) fits now) → IfOk r (λ fits. FillsFile place (file_cell parts ds (get_or file_kinds place Truth) slot) old fits (record old { nan_value_counts = now }))
unfolding file_cells
fills_nan_value_counts r place slot parts ds old now e h = rw e (set_fits r 14 (records_in slot.within (held ds slot.place)) old (record old { nan_value_counts = now }) (listed_as int_long_cells) (λ f. f.nan_value_counts) now (λ q. ap (λ (c : Cell). set (file_cells old) 14 c) q) (λ f. refl) h)
