-- The fields of an entry in order.
use Rattle.std.proofs.Common.{◌≡◌, ℤ, suc, pos, List, [], Result, Ok, Err, Option, Some, None, ap, refl}
use Rattle.std.specs.Option.{option_map}
use Rattle.std.specs.List.{slice_get}
use Rattle.avro_datum.specs.declared.datum.Datum.{Datum}
use Rattle.avro_datum.specs.declared.datum.Datum.TheVariants.{Null, Int, Long}
use Rattle.manifest_cells.specs.Cells.{Cell, single, held}
use Rattle.manifest_cells.proofs.Back.{conses}
use Rattle.manifest_files.specs.declared.file.Content.TheVariants.{Rows}
use Rattle.manifest_files.specs.declared.file.DataFile.{DataFile}
use Rattle.manifest_cells.specs.declared.field_err.FieldErr.{FieldErr}
use Rattle.manifest_cells.specs.declared.field_err.FieldErr.TheVariants as errors
use Rattle.manifest_files.specs.Files.{IsFile, IsBadFileAt, ReadsFile}
use Rattle.manifest_cells.specs.FieldErrors.{OnBadField}
use Rattle.manifest_entries.specs.declared.entry.Entry.{Entry}
use Rattle.manifest_entries.specs.declared.entry.EntrySlots.{EntrySlots}
use Rattle.manifest_entries.specs.declared.entry.EntryStatus.{EntryStatus}
use Rattle.manifest_entries.specs.declared.entry.EntryStatus.TheVariants.{Added}
use Rattle.manifest_entries.specs.Entries.{NoEntry, ReadsEntry, IsBadEntryAt, entry_cells, found_fields, held_entry_cells, status_number}

pub no_entry : (slots : EntrySlots) (ds : List Datum) (r : Result Entry FieldErr) → ReadsEntry slots ds r → OnBadField r (NoEntry slots ds)
no_entry slots ds (Ok entry) h = tt
no_entry slots ds (Err errors.Memory) h = tt
no_entry slots ds (Err (errors.BadField id)) h = λ entry e. h.fits_not entry (ap (λ (cs : List Cell). slice_get cs h.place) e)

-- some data file
some_file : DataFile
some_file = record {
  content = Rows;
  path = [];
  format = [];
  partition = Null;
  record_count = 0;
  file_size_in_bytes = 0;
  column_sizes = None;
  value_counts = None;
  null_value_counts = None;
  nan_value_counts = None;
  lower_bounds = None;
  upper_bounds = None;
  key_metadata = None;
  split_offsets = None;
  equality_ids = None;
  sort_order_id = None;
  referenced_data_file = None;
}

-- an entry of these numbers
entry_with : EntryStatus → Option ℤ → Option ℤ → Option ℤ → DataFile → Entry
entry_with status snapshot number file_number file = record { status = status; snapshot_id = snapshot; sequence_number = number; file_sequence_number = file_number; data_file = file; at = 0 }

same_cell : (a b : Option Datum) → Some (single a) ≡ Some (single b) → a ≡ b
same_cell a b e = cc

-- No status fits.
pub no_status : (slots : EntrySlots) (ds : List Datum) → ((x : EntryStatus) → Some (Int (status_number x)) ≡ held ds slots.status → ⊥) → IsBadEntryAt slots ds (pos 0)
unfolding entry_with
no_status slots ds not = record { place = 0; has_id = refl; fits_before = (entry_with Added None None None some_file, refl); fits_not = λ entry e. not entry.status (same_cell _ _ e) }

-- No snapshot id does.
pub no_snapshot : (slots : EntrySlots) (ds : List Datum) (status : EntryStatus) → Some (Int (status_number status)) ≡ held ds slots.status → ((x : Option ℤ) → option_map Long x ≡ held ds slots.snapshot_id → ⊥) → IsBadEntryAt slots ds (pos 1)
unfolding entry_with
no_snapshot slots ds status is not = record { place = 1; has_id = refl; fits_before = (entry_with status None None None some_file, conses (ap single is) refl); fits_not = λ entry e. not entry.snapshot_id (same_cell _ _ e) }

-- No sequence number does.
pub no_number : (slots : EntrySlots) (ds : List Datum) (status : EntryStatus) (snapshot : Option ℤ) → Some (Int (status_number status)) ≡ held ds slots.status → option_map Long snapshot ≡ held ds slots.snapshot_id → ((x : Option ℤ) → option_map Long x ≡ held ds slots.sequence_number → ⊥) → IsBadEntryAt slots ds (pos 3)
unfolding entry_with
no_number slots ds status snapshot a b not = record { place = 2; has_id = refl; fits_before = (entry_with status snapshot None None some_file, conses (ap single a) (conses (ap single b) refl)); fits_not = λ entry e. not entry.sequence_number (same_cell _ _ e) }

-- No file sequence number does.
pub no_file_number : (slots : EntrySlots) (ds : List Datum) (status : EntryStatus) (snapshot number : Option ℤ) → Some (Int (status_number status)) ≡ held ds slots.status → option_map Long snapshot ≡ held ds slots.snapshot_id → option_map Long number ≡ held ds slots.sequence_number → ((x : Option ℤ) → option_map Long x ≡ held ds slots.file_sequence_number → ⊥) → IsBadEntryAt slots ds (pos 4)
unfolding entry_with
no_file_number slots ds status snapshot number a b c not = record { place = 3; has_id = refl; fits_before = (entry_with status snapshot number None some_file, conses (ap single a) (conses (ap single b) (conses (ap single c) refl))); fits_not = λ entry e. not entry.file_sequence_number (same_cell _ _ e) }

-- A field of the data file doesn't.
pub no_data_file : (slots : EntrySlots) (ds : List Datum) (status : EntryStatus) (snapshot number file_number : Option ℤ) (id : ℤ) → Some (Int (status_number status)) ≡ held ds slots.status → option_map Long snapshot ≡ held ds slots.snapshot_id → option_map Long number ≡ held ds slots.sequence_number → option_map Long file_number ≡ held ds slots.file_sequence_number → IsBadFileAt slots.file slots.parts (found_fields (held ds slots.data_file)) id → IsBadEntryAt slots ds id
unfolding entry_with
no_data_file slots ds status snapshot number file_number id a b c d bad = record {
  place = suc (suc (suc (suc bad.place)));
  has_id = bad.has_id;
  fits_before = (entry_with status snapshot number file_number bad.fits_before.0, conses (ap single a) (conses (ap single b) (conses (ap single c) (conses (ap single d) bad.fits_before.1))));
  fits_not = λ entry e. bad.fits_not entry.data_file e;
}

-- All fields fit.
pub all_fit : (slots : EntrySlots) (ds : List Datum) (entry : Entry) → Some (Int (status_number entry.status)) ≡ held ds slots.status → option_map Long entry.snapshot_id ≡ held ds slots.snapshot_id → option_map Long entry.sequence_number ≡ held ds slots.sequence_number → option_map Long entry.file_sequence_number ≡ held ds slots.file_sequence_number → IsFile slots.file slots.parts (found_fields (held ds slots.data_file)) entry.data_file → entry_cells entry ≡ held_entry_cells slots ds
all_fit slots ds entry a b c d file = conses (ap single a) (conses (ap single b) (conses (ap single c) (conses (ap single d) file)))

-- The data file was refused.
pub file_refused : (slots : EntrySlots) (ds : List Datum) (status : EntryStatus) (snapshot number file_number : Option ℤ) (e : FieldErr) → Some (Int (status_number status)) ≡ held ds slots.status → option_map Long snapshot ≡ held ds slots.snapshot_id → option_map Long number ≡ held ds slots.sequence_number → option_map Long file_number ≡ held ds slots.file_sequence_number → ReadsFile slots.file slots.parts (found_fields (held ds slots.data_file)) (Err e) → ReadsEntry slots ds (Err e)
file_refused slots ds status snapshot number file_number errors.Memory a b c d h = tt
file_refused slots ds status snapshot number file_number (errors.BadField id) a b c d h = no_data_file slots ds status snapshot number file_number id a b c d h
