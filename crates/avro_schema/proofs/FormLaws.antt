-- The form of each kind of schema.
use Rattle.std.proofs.Common.{◌≡◌, ℕ, suc, ◌+◌, List, [], ◌∷◌, length, map, Bool, Option, ℤ, refl, ap, ◌∙◌, rules, arith}
use Rattle.avro_schema.specs.declared.schema.Field.{Field, fold_out-Field}
use Rattle.avro_schema.specs.declared.schema.Logical.{Logical}
use Rattle.avro_schema.specs.declared.schema.Schema.{Schema, the_lemmas}
use Rattle.avro_schema.specs.declared.schema.Schema.TheVariants.{Null, Bool as Boolean, Int, Long, Float4, Float8, Blob, Str, Fix, Choice, List as Array, Pairs, Fields, Union}
use Rattle.avro_schema.specs.Form.{Form, null, boolean, int, long, float4, float8, bytes, string, fixed, choice, array, pairs, fields, union, forms_of, form_of, field_form, form_step, field_step, width, field_widths, branch_widths}

pub form-Null : form_of Null ≡ null
form-Null = search (rules, the_lemmas)

pub form-Boolean : form_of Boolean ≡ boolean
form-Boolean = search (rules, the_lemmas)

pub form-Int : (l : Logical) → form_of (Int l) ≡ int
form-Int l = search (rules, the_lemmas)

pub form-Long : (l : Logical) → form_of (Long l) ≡ long
form-Long l = search (rules, the_lemmas)

pub form-Float4 : form_of Float4 ≡ float4
form-Float4 = search (rules, the_lemmas)

pub form-Float8 : form_of Float8 ≡ float8
form-Float8 = search (rules, the_lemmas)

pub form-Blob : (l : Logical) → form_of (Blob l) ≡ bytes
form-Blob l = search (rules, the_lemmas)

pub form-Str : (l : Logical) → form_of (Str l) ≡ string
form-Str l = search (rules, the_lemmas)

pub form-Fix : (name : List ℕ) (size : ℕ) (l : Logical) → form_of (Fix name size l) ≡ fixed size
form-Fix name size l = search (rules, the_lemmas)

pub form-Choice : (name : List ℕ) (symbols : List (List ℕ)) → form_of (Choice name symbols) ≡ choice (length symbols)
form-Choice name symbols = search (rules, the_lemmas)

pub form-Array : (t : Schema) (id : Option ℤ) (m : Bool) → form_of (Array t id m) ≡ array (form_of t)
form-Array t id m = search (rules, the_lemmas)

pub form-Pairs : (t : Schema) (k v : Option ℤ) → form_of (Pairs t k v) ≡ pairs (form_of t)
form-Pairs t k v = search (rules, the_lemmas)

pub form-Fields : (name : List ℕ) (fs : List Field) → form_of (Fields name fs) ≡ fields (forms_of (map field_form fs))
form-Fields name fs = search (rules, the_lemmas)

pub form-Union : (bs : List Schema) → form_of (Union bs) ≡ union (forms_of (map form_of bs))
form-Union bs = search (rules, the_lemmas)

pub form-field : (f : Field) → field_form f ≡ form_of f.schema
form-field f = fold_out-Field Form Form form_step field_step f

-- how many record fields there are in one field and within it
abbrev pub field_width : Field → ℕ
field_width f = suc (width (form_of f.schema))

abbrev pub schema_width : Schema → ℕ
schema_width s = width (form_of s)

-- the numbers of several
abbrev pub total : {A : Type 0} → (A → ℕ) → List A → ℕ
total w [] = 0
total w (x ∷ xs) = w x + total w xs

pub widths-fields : (fs : List Field) → field_widths (forms_of (map field_form fs)) ≡ total field_width fs
widths-fields [] = refl
widths-fields (f ∷ fs) = ap (λ g. suc (width g + field_widths (forms_of (map field_form fs)))) (form-field f) ∙ rw (widths-fields fs) (omega arith)

pub widths-branches : (bs : List Schema) → branch_widths (forms_of (map form_of bs)) ≡ total schema_width bs
widths-branches [] = refl
widths-branches (b ∷ bs) = ap (λ n. width (form_of b) + n) (widths-branches bs)

pub width-Fields : (name : List ℕ) (fs : List Field) → schema_width (Fields name fs) ≡ total field_width fs
width-Fields name fs = ap width (form-Fields name fs) ∙ widths-fields fs

pub width-Union : (bs : List Schema) → schema_width (Union bs) ≡ total schema_width bs
width-Union bs = ap width (form-Union bs) ∙ widths-branches bs
