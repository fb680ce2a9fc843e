-- Values written one after the other.
use Rattle.std.proofs.Common.{◌≡◌, ℕ, zero, suc, ◌+◌, ◌<◌, List, [], ◌∷◌, ◌++◌, length, drop, map, get_or, refl, sym, ap, ◌∙◌, arith, subst, append_assoc}
use Rattle.avro_datum.specs.declared.datum.Datum.{Datum}
use Rattle.avro_schema.specs.declared.schema.Schema.{Schema}
use Rattle.avro_schema.specs.declared.schema.Field.{Field}
use Rattle.avro_schema.specs.Form.{form_of, forms_of}
use Rattle.avro_datum.specs.Writing.{IsOf, AreOf, IsOfNth, written, written_all, written_nth}
use Rattle.avro_datum.proofs.Schemas.{forms, field_form-schema}

pub nth_within : (ss : List Schema) (n : ℕ) (d : Datum) → IsOfNth (forms_of (map form_of ss)) n d → n < length ss
unfolding IsOf
nth_within [] n d h = absurd h
nth_within (s ∷ ss) zero d h = omega arith
nth_within (s ∷ ss) (suc n) d h = omega (arith, nth_within ss n d h)

pub nth_is : (ss : List Schema) (n : ℕ) (d : Datum) (s : Schema) → IsOfNth (forms_of (map form_of ss)) n d → IsOf (form_of (get_or ss n s)) d
unfolding IsOf
nth_is [] n d s h = absurd h
nth_is (t ∷ ss) zero d s h = h
nth_is (t ∷ ss) (suc n) d s h = nth_is ss n d s h

pub nth_written : (ss : List Schema) (n : ℕ) (d : Datum) (s : Schema) → n < length ss → written_nth (forms_of (map form_of ss)) n d ≡ written (form_of (get_or ss n s)) d
unfolding written
nth_written [] n d s h = absurd (omega arith)
nth_written (t ∷ ss) zero d s h = refl
nth_written (t ∷ ss) (suc n) d s h = nth_written ss n d s (omega arith)

pub all_goes_on : (front : List ℕ) (fs : List Field) (i : ℕ) (f : Field) (d : Datum) (ds : List Datum) (total : List ℕ) → drop i fs ≡ f ∷ drop (i + 1) fs
    → front ++ written_all (forms (drop i fs)) (d ∷ ds) ≡ total → (front ++ written (form_of f.schema) d) ++ written_all (forms (drop (i + 1) fs)) ds ≡ total
unfolding written
all_goes_on front fs i f d ds total e so =
    append_assoc front (written (form_of f.schema) d) (written_all (forms (drop (i + 1) fs)) ds)
    ∙ ap (λ g. front ++ (written g d ++ written_all (forms (drop (i + 1) fs)) ds)) (sym (field_form-schema f))
    ∙ ap (λ gs. front ++ written_all (forms gs) (d ∷ ds)) (sym e) ∙ so

pub all_is_next : (fs : List Field) (i : ℕ) (f : Field) (d : Datum) (ds : List Datum) → drop i fs ≡ f ∷ drop (i + 1) fs → AreOf (forms (drop i fs)) (d ∷ ds) → IsOf (form_of f.schema) d × AreOf (forms (drop (i + 1) fs)) ds
unfolding IsOf
all_is_next fs i f d ds e h =
    let here : AreOf (forms (f ∷ drop (i + 1) fs)) (d ∷ ds) = subst (λ gs. AreOf (forms gs) (d ∷ ds)) e h in
    (subst (λ g. IsOf g d) (field_form-schema f) here.0, here.1)

pub nth_is_at : (ss : List Schema) (n : ℕ) (d : Datum) (s : Schema) → s ≡ get_or ss n s → IsOfNth (forms_of (map form_of ss)) n d → IsOf (form_of s) d
nth_is_at ss n d s e h = subst (λ t. IsOf (form_of t) d) (sym e) (nth_is ss n d s h)

pub nth_written_at : (ss : List Schema) (n : ℕ) (d : Datum) (s : Schema) → s ≡ get_or ss n s → n < length ss → written_nth (forms_of (map form_of ss)) n d ≡ written (form_of s) d
nth_written_at ss n d s e h = nth_written ss n d s h ∙ ap (λ t. written (form_of t) d) (sym e)
