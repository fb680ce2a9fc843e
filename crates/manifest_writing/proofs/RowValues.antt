-- The record of a row is a value of its schema.
use Rattle.std.proofs.Common.{◌≡◌, ℕ, ℤ, pos, negsuc, ◌<◌, ◌≤◌, ◌*◌, ◌+◌, ◌^◌, List, [], ◌∷◌, length, map, Bool, true, false, Option, Some, None, option_map, IfSome, FitsSigned, w32, w64, refl, sym, ap, ◌∙◌, subst, arith}
use Rattle.std.specs.List.{AllByRecursion}
use Rattle.std.proofs.lemmas.List.{length-map}
use Rattle.avro_container.specs.Long.{zigzag}
use Rattle.avro_schema.specs.declared.schema.Logical.TheVariants.{Plain}
use Rattle.avro_schema.specs.declared.schema.Schema.{Schema}
use Rattle.avro_schema.specs.declared.schema.Schema.TheVariants as types
use Rattle.avro_schema.specs.Form.{Form, null, boolean, int, long, bytes, string, array, fields, union, no_forms, form, forms_of, form_of, field_form, depth}
use Rattle.manifest_writing.proofs.SchemaKinds.{form-Null, form-Boolean, form-Int, form-Long, form-Blob, form-Str, form-Array, form-Fields, form-Union, form-field}
use Rattle.avro_datum.specs.declared.datum.Datum.{Datum}
use Rattle.avro_datum.specs.declared.datum.Datum.TheVariants.{Null, Bool as Truth, Int, Long, Blob, Str, Fields}
use Rattle.avro_datum.specs.Spelling.{IsInt}
use Rattle.avro_datum.specs.Writing.{IsOf}
use Rattle.manifest_columns.specs.Tables.{written_row_columns, written_summary_columns}
use Rattle.manifest_columns.specs.Written.{written_field, plain_field}
use Rattle.manifest_columns.specs.Name.{record_name_of}
use Rattle.manifest_columns.specs.declared.name.RecordName.TheVariants as names
use Rattle.manifest_cells.specs.Cells.{content_number}
use Rattle.manifest_cells.specs.Written.{optional, array_of}
use Rattle.manifest_cells.proofs.Back.{conses}
use Rattle.manifest_rows.specs.declared.row.FieldSummary.{FieldSummary}
use Rattle.manifest_rows.specs.declared.row.ManifestRow.{ManifestRow}
use Rattle.manifest_rows.specs.Written.{row_fields, summary_record}
use Rattle.manifest_writing.specs.Lists.{IsWritable, IntsFit, LongsFit, list_schema}

-- the forms of a value that may lack, of a summary and of a row
pub nullable : Form → Form
nullable f = union (form null (form f no_forms))

pub summary_forms : List Form
summary_forms = boolean ∷ nullable boolean ∷ nullable bytes ∷ nullable bytes ∷ []

pub row_forms : List Form
row_forms = string ∷ long ∷ int ∷ int ∷ long ∷ long ∷ long ∷ int ∷ int ∷ int ∷ long ∷ long ∷ long ∷ nullable (array (fields (forms_of summary_forms))) ∷ nullable bytes ∷ []

nullable_form : (s : Schema) (f : Form) → form_of s ≡ f → form_of (types.Union (types.Null ∷ s ∷ [])) ≡ nullable f
unfolding nullable
nullable_form s f e = form-Union (types.Null ∷ s ∷ []) ∙ ap (λ (fs : List Form). union (forms_of fs)) (conses form-Null (ap (λ (g : Form). g ∷ []) e))

summary_forms_are : map field_form (map plain_field written_summary_columns) ≡ summary_forms
unfolding summary_forms
summary_forms_are =
    conses (form-field _ ∙ form-Boolean)
    (conses (form-field _ ∙ nullable_form types.Bool boolean form-Boolean)
    (conses (form-field _ ∙ nullable_form (types.Blob Plain) bytes (form-Blob Plain))
    (conses (form-field _ ∙ nullable_form (types.Blob Plain) bytes (form-Blob Plain)) refl)))

summaries : Schema
summaries = types.List (types.Fields (record_name_of names.FieldSummary) (map plain_field written_summary_columns)) (Some (pos 508)) false

summaries_form : form_of summaries ≡ array (fields (forms_of summary_forms))
unfolding summaries
summaries_form =
    form-Array (types.Fields (record_name_of names.FieldSummary) (map plain_field written_summary_columns)) (Some (pos 508)) false
    ∙ ap array (form-Fields (record_name_of names.FieldSummary) (map plain_field written_summary_columns) ∙ ap (λ (fs : List Form). fields (forms_of fs)) summary_forms_are)

row_forms_are : map field_form (map written_field written_row_columns) ≡ row_forms
unfolding row_forms summaries
row_forms_are =
    conses (form-field _ ∙ form-Str Plain)
    (conses (form-field _ ∙ form-Long Plain)
    (conses (form-field _ ∙ form-Int Plain)
    (conses (form-field _ ∙ form-Int Plain)
    (conses (form-field _ ∙ form-Long Plain)
    (conses (form-field _ ∙ form-Long Plain)
    (conses (form-field _ ∙ form-Long Plain)
    (conses (form-field _ ∙ form-Int Plain)
    (conses (form-field _ ∙ form-Int Plain)
    (conses (form-field _ ∙ form-Int Plain)
    (conses (form-field _ ∙ form-Long Plain)
    (conses (form-field _ ∙ form-Long Plain)
    (conses (form-field _ ∙ form-Long Plain)
    (conses (form-field _ ∙ nullable_form summaries (array (fields (forms_of summary_forms))) summaries_form)
    (conses (form-field _ ∙ nullable_form (types.Blob Plain) bytes (form-Blob Plain)) refl))))))))))))))

pub form_is : form_of list_schema ≡ fields (forms_of row_forms)
form_is = form-Fields (record_name_of names.ManifestFile) (map written_field written_row_columns) ∙ ap (λ (fs : List Form). fields (forms_of fs)) row_forms_are

shallow_forms : depth (fields (forms_of row_forms)) ≤ 32
unfolding row_forms summary_forms nullable
shallow_forms = omega arith

pub is_shallow : depth (form_of list_schema) ≤ 32
is_shallow = subst (λ (f : Form). depth f ≤ 32) (sym form_is) shallow_forms

-- A number in the range of its type.
is_int : (z : ℤ) → FitsSigned w32 z → IsInt z
is_int (pos n) f = f.sfits
is_int (negsuc n) f = f.sfits

is_long : (z : ℤ) → FitsSigned w64 z → zigzag z < 2 ^ 64
is_long (pos n) f = omega (arith, f.sfits)
is_long (negsuc n) f = omega (arith, f.sfits)

of_int : (z : ℤ) → FitsSigned w32 z → IsOf int (Int z)
unfolding IsOf
of_int z f = (z, refl, is_int z f)

of_long : (z : ℤ) → FitsSigned w64 z → IsOf long (Long z)
unfolding IsOf
of_long z f = (z, refl, is_long z f)

-- A value that may lack.
of_optional : {A : Type 0} (f : Form) (say : A → Datum) (o : Option A) → IfSome o (λ x. IsOf f (say x)) → IsOf (nullable f) (optional (option_map say o))
unfolding IsOf nullable
of_optional f say None h = (0, Null, refl, omega arith, refl)
of_optional f say (Some x) h = (1, say x, refl, omega arith, h)

of_bytes : (o : Option (List ℕ)) → IfSome o (λ x. IsOf bytes (Blob x))
unfolding IsOf
of_bytes None = tt
of_bytes (Some x) = (x, refl)

of_bool : (o : Option Bool) → IfSome o (λ x. IsOf boolean (Truth x))
unfolding IsOf
of_bool None = tt
of_bool (Some x) = (x, refl)

of_summary : (s : FieldSummary) → IsOf (fields (forms_of summary_forms)) (summary_record s)
unfolding IsOf summary_forms
of_summary s = (_, refl, ((s.contains_null, refl), (of_optional boolean Truth s.contains_nan (of_bool s.contains_nan), (of_optional bytes Blob s.lower_bound (of_bytes s.lower_bound), (of_optional bytes Blob s.upper_bound (of_bytes s.upper_bound), tt)))))

of_summaries : (ss : List FieldSummary) → AllByRecursion (IsOf (fields (forms_of summary_forms))) (map summary_record ss)
of_summaries [] = tt
of_summaries (s ∷ ss) = (of_summary s, of_summaries ss)

of_list : (o : Option (List FieldSummary)) → IfSome o (λ ss. length ss ≤ 16777216) → IfSome o (λ ss. IsOf (array (fields (forms_of summary_forms))) (array_of summary_record ss))
unfolding IsOf
of_list None h = tt
of_list (Some ss) h = (map summary_record ss, refl, of_summaries ss, omega (arith, h, length-map ss summary_record))

of_forms : (row : ManifestRow) → IsWritable row → IntsFit row → LongsFit row → IsOf (fields (forms_of row_forms)) (Fields (row_fields row))
unfolding IsOf row_fields row_forms
of_forms row w i l =
    let length : zigzag (pos row.manifest_length) < 2 ^ 64 = omega (arith, w.size) in (
      _,
      refl,
      (
        (row.manifest_path, refl, w.path),
        (
          (pos row.manifest_length, refl, length),
          (
            of_int row.partition_spec_id i.0,
            (
              of_content row.is_deletes,
              (
                of_long row.sequence_number l.0,
                (
                  of_long row.min_sequence_number l.1,
                  (
                    of_long row.added_snapshot_id l.2,
                    (
                      of_int row.added_files_count i.1,
                      (
                        of_int row.existing_files_count i.2,
                        (
                          of_int row.deleted_files_count i.3,
                          (
                            of_long row.added_rows_count l.3,
                            (
                              of_long row.existing_rows_count l.4,
                              (
                                of_long row.deleted_rows_count l.5,
                                (
                                  of_optional _ (array_of summary_record) row.partitions (of_list row.partitions w.summaries),
                                  (of_optional bytes Blob row.key_metadata (of_bytes row.key_metadata), tt),
                                ),
                              ),
                            ),
                          ),
                        ),
                      ),
                    ),
                  ),
                ),
              ),
            ),
          ),
        ),
      ),
    )
  where
    of_content : (b : Bool) → IsOf int (Int (content_number b))
    of_content true = (_, refl, omega arith)
    of_content false = (_, refl, omega arith)

-- The record of a row.
pub of_schema : (row : ManifestRow) → IsWritable row → IntsFit row → LongsFit row → IsOf (form_of list_schema) (Fields (row_fields row))
of_schema row w i l = subst (λ (f : Form). IsOf f (Fields (row_fields row))) (sym form_is) (of_forms row w i l)
