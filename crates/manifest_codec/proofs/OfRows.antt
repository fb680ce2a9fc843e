-- Manifest lists.
use Rattle.std.proofs.Common.{◌≡◌, ℕ, ℤ, ◌-◌, List, length, Result, Ok, Err, refl, sym, ap, subst}
use Rattle.std.specs.Borrow.{Bor}
use Rattle.std.specs.List.{slice_get}
use Rattle.avro_container.specs.Container.{Pair}
use Rattle.avro_schema.specs.declared.schema.Field.{Field}
use Rattle.avro_datum.specs.declared.datum.Datum.{Datum}
use Rattle.avro_schema.specs.declared.schema.Schema.{out-Schema}
use Rattle.manifest_columns.specs.declared.column.Column.{Column}
use Rattle.manifest_columns.specs.Shapes.{fields_of}
use Rattle.manifest_columns.specs.Tables.{row_columns}
use Rattle.manifest_columns.specs.declared.slots.Slot.{Slot}
use Rattle.manifest_rows.specs.declared.row.ManifestRow.{ManifestRow}
use Rattle.manifest_rows.specs.Rows.{row_slots}
use Rattle.manifest_codec.specs.declared.fault.ManifestErr.{ManifestErr}
use Rattle.manifest_codec.specs.declared.fault.ManifestErr.TheVariants as errors
use Rattle.manifest_codec.specs.declared.container.Container.{Container as File}
use Rattle.manifest_codec.specs.declared.objects.Progress.{Progress}
use Rattle.manifest_codec.specs.Faults.{Fault, Fails, OnFault}
use Rattle.manifest_codec.specs.Objects.{Objects, objects_from}
use Rattle.manifest_codec.specs.Schemas.{FieldsAre, Opens, checked, file_at}
use Rattle.manifest_codec.specs.Lists.{IsRowAt, IsBadRow, GivesRows, GivesList}
use Rattle.manifest_codec.proofs.Records.{apart, not_checked, opened}

-- a bad column excludes a row
pub no_row : (slots : List Slot) (at : ℕ) (d : Datum) (row : ManifestRow) (id : ℤ) → IsRowAt slots at d row → IsBadRow slots d id → ⊥
no_row slots at d row id h b = b.fits_not row (ap (λ cs. slice_get cs b.place) h.0)

-- so no refused file is a list
pub no_list : (file : Result (List Field × List Pair × Objects) Fault) (r : Result (List ManifestRow) ManifestErr) → GivesList file r → OnFault r ((rows : List ManifestRow) → GivesList file (Ok rows) → ⊥)
no_list file (Ok rows) h = tt
no_list file (Err errors.Memory) h = tt
no_list (Ok (fs, meta, objects)) (Err (errors.Bad at cause)) h = λ rows are. apart (IsRowAt (row_slots fs)) (IsBadRow (row_slots fs)) objects rows at cause (no_row (row_slots fs)) are h
no_list (Err fault) (Err (errors.Bad at cause)) h = λ rows are. are

pub memory : (file : Result (List Field × List Pair × Objects) Fault) → GivesList file (Err errors.Memory)
memory (Ok x) = tt
memory (Err e) = tt

-- a file that wasn't opened, or whose schema isn't that of rows
pub refused : (file : Result (List Field × List Pair × Objects) Fault) (e : ManifestErr) → Fails e file → GivesList file (Err e)
refused file errors.Memory h = memory file
refused file (errors.Bad at cause) h =
    let P : Result (List Field × List Pair × Objects) Fault → Type 0 = λ r. GivesList r (Err (errors.Bad at cause)) in
    subst P (sym h) refl

pub not_of_rows : (columns : List Column) (bytes : List ℕ) (file : File) (e : ManifestErr) → columns ≡ row_columns → Opens bytes (Ok file) → FieldsAre (checked columns (fields_of (out-Schema file.schema))) (Err e)
    → GivesList (file_at (checked row_columns) bytes) (Err e)
not_of_rows columns bytes file e same o h =
    let P : List Column → Type 0 = λ cs. FieldsAre (checked cs (fields_of (out-Schema file.schema))) (Err e) in
    refused (file_at (checked row_columns) bytes) e (not_checked (checked row_columns) bytes file e o (subst P same h))

-- a file that was opened
pub given : (columns : List Column) (bytes : List ℕ) (file : File) (fs : Bor (List Field)) (slots : List Slot) (place : Progress) (result : Result (List ManifestRow) ManifestErr) → columns ≡ row_columns → Opens bytes (Ok file)
    → FieldsAre (checked columns (fields_of (out-Schema file.schema))) (Ok fs) → slots ≡ row_slots fs.now
    → place ≡ record { from = file.header.end; to = file.header.end; at = 0; count = 0; next = file.header.end; blocks = length bytes - file.header.end }
    → GivesRows slots (objects_from file bytes place) result → GivesList (file_at (checked row_columns) bytes) result
given columns bytes file fs slots place result same o h is at rows =
    let P : Result (List Field × List Pair × Objects) Fault → Type 0 = λ r. GivesList r result in
    let Q : List Slot → Type 0 = λ slots. GivesRows slots (objects_from file bytes place) result in
    let R : List Column → Type 0 = λ cs. FieldsAre (checked cs (fields_of (out-Schema file.schema))) (Ok fs) in
    subst P (sym (opened (checked row_columns) bytes file fs.now place o (subst R same h) at)) (subst Q is rows)
