-- Schemas by kind: their forms, and that each is of one of the kinds.
use Rattle.std.proofs.Common.{◌≡◌, ℕ, ℤ, List, length, map, Bool, Option, sym, ◌∙◌, rules}
use Rattle.avro_schema.specs.declared.schema.Field.{Field, fold_out-Field}
use Rattle.avro_schema.specs.declared.schema.Logical.{Logical}
use Rattle.avro_schema.specs.declared.schema.Schema.{Schema, out-Schema, roll-Schema, the_lemmas}
use Rattle.avro_schema.specs.declared.schema.Schema.TheViews.{roll-out-Schema}
use Rattle.avro_schema.specs.declared.schema.Schema.TheOpen.{Schema-F}
use Rattle.avro_schema.specs.declared.schema.Schema.TheVariants.{Null, Bool as Boolean, Int, Long, Float4, Float8, Blob, Str, Fix, Choice, List as Array, Pairs, Fields, Union, rolls-Null, rolls-Bool, rolls-Int, rolls-Long, rolls-Float4, rolls-Float8, rolls-Blob, rolls-Str, rolls-Fix, rolls-Choice, rolls-List, rolls-Pairs, rolls-Fields, rolls-Union}
use Rattle.avro_schema.specs.Form.{Form, null, boolean, int, long, bytes, string, array, pairs, fields, union, forms_of, form_of, field_form, form_step, field_step}

pub form-Null : form_of Null ≡ null
form-Null = search (rules, the_lemmas)

pub form-Boolean : form_of Boolean ≡ boolean
form-Boolean = search (rules, the_lemmas)

pub form-Int : (l : Logical) → form_of (Int l) ≡ int
form-Int l = search (rules, the_lemmas)

pub form-Long : (l : Logical) → form_of (Long l) ≡ long
form-Long l = search (rules, the_lemmas)

pub form-Blob : (l : Logical) → form_of (Blob l) ≡ bytes
form-Blob l = search (rules, the_lemmas)

pub form-Str : (l : Logical) → form_of (Str l) ≡ string
form-Str l = search (rules, the_lemmas)

pub form-Array : (t : Schema) (id : Option ℤ) (m : Bool) → form_of (Array t id m) ≡ array (form_of t)
form-Array t id m = search (rules, the_lemmas)

pub form-Pairs : (t : Schema) (k v : Option ℤ) → form_of (Pairs t k v) ≡ pairs (form_of t)
form-Pairs t k v = search (rules, the_lemmas)

pub form-Fields : (name : List ℕ) (fs : List Field) → form_of (Fields name fs) ≡ fields (forms_of (map field_form fs))
form-Fields name fs = search (rules, the_lemmas)

pub form-Union : (bs : List Schema) → form_of (Union bs) ≡ union (forms_of (map form_of bs))
form-Union bs = search (rules, the_lemmas)

pub form-field : (f : Field) → field_form f ≡ form_of f.schema
form-field f = fold_out-Field Form Form form_step field_step f

pub data Kind (s : Schema) : Type 0 where
  is_null : s ≡ Null → Kind s
  is_boolean : s ≡ Boolean → Kind s
  is_int : (l : Logical) → s ≡ Int l → Kind s
  is_long : (l : Logical) → s ≡ Long l → Kind s
  is_float4 : s ≡ Float4 → Kind s
  is_float8 : s ≡ Float8 → Kind s
  is_blob : (l : Logical) → s ≡ Blob l → Kind s
  is_str : (l : Logical) → s ≡ Str l → Kind s
  is_fixed : (name : List ℕ) (size : ℕ) (l : Logical) → s ≡ Fix name size l → Kind s
  is_choice : (name : List ℕ) (symbols : List (List ℕ)) → s ≡ Choice name symbols → Kind s
  is_array : (t : Schema) (id : Option ℤ) (m : Bool) → s ≡ Array t id m → Kind s
  is_pairs : (t : Schema) (k v : Option ℤ) → s ≡ Pairs t k v → Kind s
  is_fields : (name : List ℕ) (fs : List Field) → s ≡ Fields name fs → Kind s
  is_union : (bs : List Schema) → s ≡ Union bs → Kind s

pub kind_of : (s : Schema) → Kind s
kind_of s = elim (out-Schema s) as (λ o. roll-Schema o ≡ s → Kind s) [
  | Schema-F.Null ↦ λ e. is_null (sym e ∙ rolls-Null)
  | Schema-F.Bool ↦ λ e. is_boolean (sym e ∙ rolls-Bool)
  | Schema-F.Int l ↦ λ e. is_int l (sym e ∙ rolls-Int l)
  | Schema-F.Long l ↦ λ e. is_long l (sym e ∙ rolls-Long l)
  | Schema-F.Float4 ↦ λ e. is_float4 (sym e ∙ rolls-Float4)
  | Schema-F.Float8 ↦ λ e. is_float8 (sym e ∙ rolls-Float8)
  | Schema-F.Blob l ↦ λ e. is_blob l (sym e ∙ rolls-Blob l)
  | Schema-F.Str l ↦ λ e. is_str l (sym e ∙ rolls-Str l)
  | Schema-F.Fix name size l ↦ λ e. is_fixed name size l (sym e ∙ rolls-Fix name size l)
  | Schema-F.Choice name symbols ↦ λ e. is_choice name symbols (sym e ∙ rolls-Choice name symbols)
  | Schema-F.List t id m ↦ λ e. is_array t id m (sym e ∙ rolls-List t id m)
  | Schema-F.Pairs t k v ↦ λ e. is_pairs t k v (sym e ∙ rolls-Pairs t k v)
  | Schema-F.Fields name fs ↦ λ e. is_fields name fs (sym e ∙ rolls-Fields name fs)
  | Schema-F.Union bs ↦ λ e. is_union bs (sym e ∙ rolls-Union bs)
] (roll-out-Schema s)
