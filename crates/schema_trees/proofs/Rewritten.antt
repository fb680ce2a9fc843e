-- What is written is spelled so.
use Rattle.std.proofs.Common.{◌≡◌, ℕ, ℤ, pos, negsuc, ◌<◌, ◌^◌, ◌++◌, List, [], ◌∷◌, codes, map, cond, Some, None, option_and_then, Result, Ok, Err, IfOk, refl, sym, ap, ◌∙◌, arith, subst}
use Rattle.std.proofs.lemmas.Bool.{lt-ltb}
use Rattle.std.specs.Fmt.{decimal}
use Rattle.serde_json.specs.Find.{as_i64, of_integer}
use Rattle.serde_json.specs.View.{view, items_of}
use Rattle.serde_json.specs.declared.value.Value.{Value}
use Rattle.avro_schema.specs.Attribute.{id_at, narrow_signed}
use Rattle.schema_types.specs.declared.types.SpecField.{SpecField}
use Rattle.schema_types.specs.declared.types.Spec.{Spec}
use Rattle.schema_types.specs.declared.types.Transform.{Transform}
use Rattle.schema_types.specs.declared.types.Transform.TheVariants.{Identity, Bucket, Truncate, Year, Month, Day, Hour, Void, Unknown}
use Rattle.schema_trees.specs.Reading.{spec_of}
use Rattle.schema_trees.specs.Spelling.{SpellsEach, SpellsField, SpellsSpec}
use Rattle.schema_trees.specs.Words.{sized_transform, number_before, bracketed, transform_of}
use Rattle.schema_trees.specs.Writing.{transform_text, field_tree, written_spec, IsInt, HasSize, FieldFits, FieldsFit, IsSpec}
use Rattle.schema_trees.proofs.Again.{spec_again}
use Rattle.schema_trees.proofs.WordLaws.{number_before-closed, number_of-decimal}

size_back : (n : ℕ) → n < 2 ^ 32 → number_before 93 (decimal n ++ codes "]") ≡ Some n
size_back n h = number_before-closed 93 (decimal n) ∙ number_of-decimal n h

pub transform_back : (t : Transform) → HasSize t → transform_of (transform_text t) ≡ t
unfolding transform_of bracketed number_before
transform_back Identity h = refl
transform_back (Bucket n) h = ap (sized_transform (codes "bucket")) (size_back n h)
transform_back (Truncate n) h = ap (sized_transform (codes "truncate")) (size_back n h)
transform_back Year h = refl
transform_back Month h = refl
transform_back Day h = refl
transform_back Hour h = refl
transform_back Void h = refl
transform_back Unknown h = refl

pub int_back : (z : ℤ) → IsInt z → option_and_then narrow_signed (as_i64 (of_integer z)) ≡ Some z
int_back (pos n) h =
    let wide : n < 2 ^ 63 = omega (arith, h) in
    ap (λ b. option_and_then narrow_signed (cond b (Some (pos n)) None)) (lt-ltb n (2 ^ 63) wide) ∙ ap (λ b. cond b (Some (pos n)) None) (lt-ltb n (2 ^ 31) h)
int_back (negsuc n) h = ap (λ b. cond b (Some (negsuc n)) None) (lt-ltb n (2 ^ 31) h)

field_spelled : (f : SpecField) → FieldFits f → SpellsField (field_tree f) f
unfolding field_tree id_at
field_spelled f h = record {
  is_field_id = int_back f.field_id h.field_id;
  is_name = refl;
  is_source_id = int_back f.source_id h.source_id;
  word = transform_text f.transform;
  is_word = refl;
  is_transform = sym (transform_back f.transform h.size);
}

fields_spelled : (fs : List SpecField) → FieldsFit fs → SpellsEach SpellsField (items_of (map field_tree fs)) fs
fields_spelled [] h = tt
fields_spelled (f ∷ fs) h = (field_spelled f h.0, fields_spelled fs h.1)

pub spec_spelled : (s : Spec) → IsSpec s → SpellsSpec (written_spec s) s
unfolding written_spec id_at
spec_spelled s h = record {
  is_spec_id = int_back s.id h.id;
  items = items_of (map field_tree s.fields);
  are_fields = refl;
  spelled = fields_spelled s.fields h.fields;
  are_new = h.are_new;
}

pub spelled_of : {E : Type 0} (s : Spec) (r : Result Value E) → IfOk r (λ v. view v ≡ written_spec s) → IfOk r (λ v. IsSpec s → SpellsSpec (view v) s)
spelled_of s (Ok v) e = λ w. subst (λ d. SpellsSpec d s) (sym e) (spec_spelled s w)
spelled_of s (Err e) is = tt

pub again_of : {E : Type 0} (s : Spec) (r : Result Value E) → IfOk r (λ v. view v ≡ written_spec s) → IfOk r (λ v. IsSpec s → spec_of (view v) ≡ Ok s)
again_of s (Ok v) e = λ w. spec_again (view v) s (subst (λ d. SpellsSpec d s) (sym e) (spec_spelled s w))
again_of s (Err e) is = tt
