-- Fields and branches of a schema, one at a time.
use Rattle.std.proofs.Common.{◌≡◌, ℕ, zero, suc, ◌+◌, ◌<◌, List, [], ◌∷◌, length, drop, map, get_or, refl, ap, ◌∙◌, arith}
use Rattle.avro_schema.specs.declared.schema.Schema.{Schema}
use Rattle.avro_schema.specs.declared.schema.Field.{Field, fold_out-Field}
use Rattle.avro_schema.specs.Form.{Form, Forms, form_of, field_form, forms_of, form_step, field_step}
use Rattle.avro_container.specs.Reading.{ahead}
use Rattle.avro_datum.specs.Reading.{read, read_all, read_nth, count_of}

pub field_form-schema : (f : Field) → field_form f ≡ form_of f.schema
field_form-schema f = fold_out-Field Form Form form_step field_step f

-- the forms of fields
abbrev pub forms : List Field → Forms
forms fs = forms_of (map field_form fs)

pub fields_next : (fs : List Field) (i : ℕ) (f : Field) (bytes : List ℕ) → drop i fs ≡ f ∷ drop (i + 1) fs
    → read_all (forms (drop i fs)) bytes ≡ ahead (read (form_of f.schema) bytes) (read_all (forms (drop (i + 1) fs)))
unfolding read
fields_next fs i f bytes e = ap (λ gs. read_all (forms gs) bytes) e ∙ ap (λ g. ahead (read g bytes) (read_all (forms (drop (i + 1) fs)))) (field_form-schema f)

-- the forms of branches
abbrev pub unions : List Schema → Forms
unions ss = forms_of (map form_of ss)

pub count_branches : (ss : List Schema) → count_of (unions ss) ≡ length ss
count_branches [] = refl
count_branches (s ∷ ss) = ap suc (count_branches ss)

pub nth_branch : (ss : List Schema) (n : ℕ) (d : Schema) (bytes : List ℕ) → n < length ss → read_nth (unions ss) n bytes ≡ read (form_of (get_or ss n d)) bytes
unfolding read
nth_branch [] n d bytes h = absurd (omega arith)
nth_branch (s ∷ ss) zero d bytes h = refl
nth_branch (s ∷ ss) (suc n) d bytes h = nth_branch ss n d bytes (omega arith)
