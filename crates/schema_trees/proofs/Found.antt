-- What is read is spelled so.
use Rattle.std.proofs.Common.{◌≡◌, ℕ, ℤ, suc, ◌++◌, List, [], ◌∷◌, codes, Result, Ok, Err, refl, sym, ap, ◌∙◌, subst, Option, Some, None, is_some, option_and_then, cond, Bool, true, false}
use Rattle.serde_json.specs.Data.{Data, Items, no_items, item}
use Rattle.serde_json.specs.Find.{get, as_array, as_object}
use Rattle.avro_schema.specs.Attribute.{text_at, id_at}
use Rattle.avro_schema.specs.Path.{key_path, index_path}
use Rattle.schema_types.specs.declared.types.SpecField.{SpecField}
use Rattle.schema_types.specs.declared.types.Spec.{Spec}
use Rattle.schema_trees.specs.Ids.{is_seen, with_id, AreNew}
use Rattle.schema_trees.specs.Reading.{Fault, Read, Reader, ◌>>=◌, wanted, in_object, int_in, text_in, new_id, with_first, each, field_at, spec_of}
use Rattle.schema_trees.specs.Spelling.{SpellsEach, SpellsField, field_ids, SpellsSpec}
use Rattle.schema_trees.specs.Words.{transform_of}

pub same_ok : {A : Type 0} {x y : A} → ◌≡◌ {A = Result A Fault} (Ok x) (Ok y) → x ≡ y
same_ok e = cc

pub same_value : {A B : Type 0} {x y : A × B} → ◌≡◌ {A = Result (A × B) Fault} (Ok x) (Ok y) → x.0 ≡ y.0
same_value e = ap (λ p. p.0) (same_ok e)

pub same_rest : {A B : Type 0} {x y : A × B} → ◌≡◌ {A = Result (A × B) Fault} (Ok x) (Ok y) → x.1 ≡ y.1
same_rest e = ap (λ p. p.1) (same_ok e)

pub bind_ok : {A B : Type 0} (r : Result A Fault) (f : A → Result B Fault) (y : B) → (r >>= f) ≡ Ok y → (x : A) × (r ≡ Ok x) × (f x ≡ Ok y)
bind_ok (Ok x) f y e = (x, refl, e)
bind_ok (Err d) f y e = absurd cc

pub wanted_ok : {A : Type 0} (path : List ℕ) (o : Option A) (x : A) → wanted path o ≡ Ok x → o ≡ Some x
wanted_ok path None x e = absurd cc
wanted_ok path (Some y) x e = cc

pub object_ok : {A : Type 0} (path : List ℕ) (d : Data) (r : Result A Fault) (x : A) → in_object path d r ≡ Ok x → r ≡ Ok x
object_ok {A} path d r x e = go (is_some (as_object d)) e
  where
    go : (b : Bool) → cond b r (Err path) ≡ Ok x → r ≡ Ok x
    go true e = e
    go false e = absurd cc

-- an id was read that none before it is
pub new_found : (path key : List ℕ) (d : Data) (seen : List ℤ) (id : ℤ) (after : List ℤ) → new_id path key d seen ≡ Ok (id, after)
    → (id_at key d ≡ Some id) × (is_seen id seen ≡ false) × (after ≡ with_id id seen)
unfolding new_id int_in
new_found path key d seen id after e =
    let got = bind_ok (wanted (key_path path key) (id_at key d)) (λ z. cond {A = Read ℤ} (is_seen z seen) (Err (key_path path key)) (Ok (z, with_id z seen))) (id, after) e in
    go got.0 (wanted_ok (key_path path key) (id_at key d) got.0 got.1) (is_seen got.0 seen) refl got.2
  where
    go : (z : ℤ) → id_at key d ≡ Some z → (b : Bool) → is_seen z seen ≡ b → cond {A = Read ℤ} b (Err (key_path path key)) (Ok (z, with_id z seen)) ≡ Ok (id, after)
        → (id_at key d ≡ Some id) × (is_seen id seen ≡ false) × (after ≡ with_id id seen)
    go z is true unseen f = absurd cc
    go z is false unseen f =
        let same : z ≡ id = same_value f in
        (is ∙ ap (λ (w : ℤ). Some w) same, ap (λ w. is_seen w seen) (sym same) ∙ unseen, sym (same_rest f) ∙ ap (λ w. with_id w seen) same)

-- those that were met, and these
abbrev pub with_ids : List ℤ → List ℤ → List ℤ
with_ids seen [] = seen
with_ids seen (id ∷ ids) = with_ids (with_id id seen) ids

pub with_ids-append : (seen xs ys : List ℤ) → with_ids (with_ids seen xs) ys ≡ with_ids seen (xs ++ ys)
with_ids-append seen [] ys = refl
with_ids-append seen (x ∷ xs) ys = with_ids-append (with_id x seen) xs ys

-- a value is spelled, and its ids are new behind those before it
pub record IsFoundAt {A : Type 0} (P : A → Type 0) (ids : A → List ℤ) (seen : List ℤ) (x : A) (after : List ℤ) : Type 0 where
  pub spells : P x
  pub met : after ≡ with_ids seen (ids x)
  pub are_new : AreNew seen (ids x)

abbrev pub IsFound : {A : Type 0} → (Data → A → Type 0) → (A → List ℤ) → Reader A → Type 0
IsFound {A} P ids one = (path : List ℕ) (d : Data) (seen : List ℤ) (x : A) (after : List ℤ) → one path d seen ≡ Ok (x, after) → IsFoundAt (P d) ids seen x after

-- Ids.

-- the ids of each in turn
abbrev pub ids_of : {A : Type 0} → (A → List ℤ) → List A → List ℤ
ids_of ids [] = []
ids_of ids (x ∷ xs) = ids x ++ ids_of ids xs

pub new-append : (seen xs ys : List ℤ) → AreNew seen xs → AreNew (with_ids seen xs) ys → AreNew seen (xs ++ ys)
new-append seen [] ys a b = b
new-append seen (x ∷ xs) ys a b = (a.0, new-append (with_id x seen) xs ys a.1 b)

-- Trees in a list.

first_found : {A : Type 0} (x : A) (r : Read (List A)) (xs : List A) (after : List ℤ) → with_first x r ≡ Ok (xs, after) → (ys : List A) × (r ≡ Ok (ys, after)) × (x ∷ ys ≡ xs)
first_found x (Ok ys) xs after e = (ys.0, ap (λ (s : List ℤ). Ok (ys.0, s)) (same_rest e), same_value e)
first_found x (Err d) xs after e = absurd cc

pub each_found : {A : Type 0} (P : Data → A → Type 0) (ids : A → List ℤ) (one : Reader A) → IsFound P ids one → (path : List ℕ) (i : ℕ) (ds : Items) (seen : List ℤ) (xs : List A) (after : List ℤ)
    → each one path i ds seen ≡ Ok (xs, after) → IsFoundAt (SpellsEach P ds) (ids_of ids) seen xs after
unfolding each
each_found {A} P ids one h path i no_items seen xs after e =
    subst (λ (ys : List A). IsFoundAt (SpellsEach P no_items) (ids_of ids) seen ys after) (same_value e)
    (record { spells = tt; met = sym (same_rest e); are_new = tt })
each_found {A} P ids one h path i (item d ds) seen xs after e =
    let first = bind_ok (one (index_path path i) d seen) (λ x. with_first x.0 (each one path (suc i) ds x.1)) (xs, after) e in
    let x = first.0.0 in
    let between = first.0.1 in
    let behind = first_found x (each one path (suc i) ds between) xs after first.2 in
    let one_is = h (index_path path i) d seen x between first.1 in
    let more = each_found P ids one h path (suc i) ds between behind.0 after behind.1 in
    subst (λ (ys : List A). IsFoundAt (SpellsEach P (item d ds)) (ids_of ids) seen ys after) behind.2
    (record {
      spells = (one_is.spells, more.spells);
      met = more.met ∙ ap (λ s. with_ids s (ids_of ids behind.0)) one_is.met ∙ with_ids-append seen (ids x) (ids_of ids behind.0);
      are_new = new-append seen (ids x) (ids_of ids behind.0) one_is.are_new (subst (λ s. AreNew s (ids_of ids behind.0)) one_is.met more.are_new);
    })

-- Partition specs.

-- the id of a spec's field
abbrev pub own_id : SpecField → List ℤ
own_id f = f.field_id ∷ []

pub field_found : IsFound SpellsField own_id field_at
unfolding field_at text_in int_in
field_found path d seen f after e =
    let named : ℤ × List ℤ → List ℕ → ℤ → List ℕ → Read SpecField = λ id name source word. Ok (record { field_id = id.0; source_id = source; name = name; transform = transform_of word }, id.1) in
    let place : List ℕ = key_path path (codes "transform") in
    let whole = object_ok path d _ (f, after) e in
    let id = bind_ok (new_id path (codes "field-id") d seen) _ (f, after) whole in
    let name = bind_ok (wanted (key_path path (codes "name")) (text_at (codes "name") d)) _ (f, after) id.2 in
    let source = bind_ok (wanted (key_path path (codes "source-id")) (id_at (codes "source-id") d)) _ (f, after) name.2 in
    let word = bind_ok (wanted place (text_at (codes "transform") d)) _ (f, after) source.2 in
    let met = new_found path (codes "field-id") d seen id.0.0 id.0.1 id.1 in
    let made : SpecField = record { field_id = id.0.0; source_id = source.0; name = name.0; transform = transform_of word.0 } in
    let it : IsFoundAt (SpellsField d) own_id seen made id.0.1 = record {
      spells = record {
        is_field_id = met.0;
        is_name = wanted_ok (key_path path (codes "name")) (text_at (codes "name") d) name.0 name.1;
        is_source_id = wanted_ok (key_path path (codes "source-id")) (id_at (codes "source-id") d) source.0 source.1;
        word = word.0;
        is_word = wanted_ok place (text_at (codes "transform") d) word.0 word.1;
        is_transform = refl;
      };
      met = met.2;
      are_new = (met.1, tt);
    } in
    let last : ◌≡◌ {A = Read SpecField} (Ok (made, id.0.1)) (Ok (f, after)) = word.2 in
    subst (λ (s : List ℤ). IsFoundAt (SpellsField d) own_id seen f s) (same_rest last) (subst (λ (g : SpecField). IsFoundAt (SpellsField d) own_id seen g id.0.1) (same_value last) it)

pub ids-fields : (fs : List SpecField) → ids_of own_id fs ≡ field_ids fs
ids-fields [] = refl
ids-fields (f ∷ fs) = ap (λ ids. f.field_id ∷ ids) (ids-fields fs)

pub spec_found : (d : Data) (s : Spec) → spec_of d ≡ Ok s → SpellsSpec d s
unfolding spec_of int_in
spec_found d s e =
    let whole = object_ok [] d _ s e in
    let items = bind_ok (wanted (key_path [] (codes "fields")) (option_and_then as_array (get (codes "fields") d))) _ s whole in
    let fields = bind_ok (each field_at (codes "fields") 0 items.0 []) _ s items.2 in
    let id = bind_ok (wanted (key_path [] (codes "spec-id")) (id_at (codes "spec-id") d)) _ s fields.2 in
    let them = each_found SpellsField own_id field_at field_found (codes "fields") 0 items.0 [] fields.0.0 fields.0.1 fields.1 in
    let made : Spec = record { id = id.0; fields = fields.0.0 } in
    let it : SpellsSpec d made = record {
      is_spec_id = wanted_ok (key_path [] (codes "spec-id")) (id_at (codes "spec-id") d) id.0 id.1;
      items = items.0;
      are_fields = wanted_ok (key_path [] (codes "fields")) (option_and_then as_array (get (codes "fields") d)) items.0 items.1;
      spelled = them.spells;
      are_new = subst (AreNew []) (ids-fields fields.0.0) them.are_new;
    } in
    subst (SpellsSpec d) (same_ok id.2) it
