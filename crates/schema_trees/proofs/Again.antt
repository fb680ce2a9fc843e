-- What is spelled is read.
use Rattle.std.proofs.Common.{◌≡◌, ℕ, ℤ, suc, ◌++◌, List, [], ◌∷◌, codes, Result, Ok, Err, refl, sym, ap, ◌∙◌, subst, Option, Some, None, option_and_then, cond, false}
use Rattle.serde_json.specs.Data.{Data, null, boolean, number, string, array, object, Items, no_items, item}
use Rattle.serde_json.specs.Find.{get, as_str, as_array}
use Rattle.avro_schema.specs.Attribute.{text_at, id_at}
use Rattle.avro_schema.specs.Path.{key_path, index_path}
use Rattle.schema_types.specs.declared.types.SpecField.{SpecField}
use Rattle.schema_types.specs.declared.types.Spec.{Spec}
use Rattle.schema_types.specs.declared.types.Transform.{Transform}
use Rattle.schema_trees.specs.Ids.{is_seen, with_id, AreNew}
use Rattle.schema_trees.specs.Reading.{Fault, Read, Reader, ◌>>=◌, wanted, in_object, int_in, text_in, new_id, with_first, each, field_at, spec_of}
use Rattle.schema_trees.specs.Spelling.{SpellsEach, SpellsField, SpellsSpec}
use Rattle.schema_trees.specs.Words.{transform_of}
use Rattle.schema_trees.proofs.Found.{ids_of, own_id, ids-fields, with_ids, with_ids-append}

abbrev pub IsRead : {A : Type 0} → (Data → A → Type 0) → (A → List ℤ) → Reader A → Type 0
IsRead {A} P ids one = (path : List ℕ) (d : Data) (seen : List ℤ) (x : A) → P d x → AreNew seen (ids x) → one path d seen ≡ Ok (x, with_ids seen (ids x))

pub new-front : (seen xs ys : List ℤ) → AreNew seen (xs ++ ys) → AreNew seen xs
new-front seen [] ys a = tt
new-front seen (x ∷ xs) ys a = (a.0, new-front (with_id x seen) xs ys a.1)

pub new-back : (seen xs ys : List ℤ) → AreNew seen (xs ++ ys) → AreNew (with_ids seen xs) ys
new-back seen [] ys a = a
new-back seen (x ∷ xs) ys a = new-back (with_id x seen) xs ys a.1

pub each_again : {A : Type 0} (P : Data → A → Type 0) (ids : A → List ℤ) (one : Reader A) → IsRead P ids one → (path : List ℕ) (i : ℕ) (ds : Items) (seen : List ℤ) (xs : List A)
    → SpellsEach P ds xs → AreNew seen (ids_of ids xs) → each one path i ds seen ≡ Ok (xs, with_ids seen (ids_of ids xs))
unfolding each
each_again {A} P ids one h path i no_items seen [] s new = refl
each_again {A} P ids one h path i no_items seen (x ∷ xs) s new = absurd s
each_again {A} P ids one h path i (item d ds) seen [] s new = absurd s
each_again {A} P ids one h path i (item d ds) seen (x ∷ xs) s new =
    let first = h (index_path path i) d seen x s.0 (new-front seen (ids x) (ids_of ids xs) new) in
    let more = each_again P ids one h path (suc i) ds (with_ids seen (ids x)) xs s.1 (new-back seen (ids x) (ids_of ids xs) new) in
    ap (λ r. r >>= λ y. with_first y.0 (each one path (suc i) ds y.1)) first ∙ ap (with_first x) more ∙ ap (λ (k : List ℤ). Ok (x ∷ xs, k)) (with_ids-append seen (ids x) (ids_of ids xs))

-- a tree with a member is an object
pub object_is : {A : Type 0} (path : List ℕ) (d : Data) (key : List ℕ) (t : Data) (r : Result A Fault) → get key d ≡ Some t → in_object path d r ≡ r
object_is path null key t r e = absurd cc
object_is path (boolean b) key t r e = absurd cc
object_is path (number n) key t r e = absurd cc
object_is path (string s) key t r e = absurd cc
object_is path (array ds) key t r e = absurd cc
object_is path (object ms) key t r e = refl

-- what is under a key stands there
pub there : {A : Type 0} (key : List ℕ) (d : Data) (f : Data → Option A) (x : A) → option_and_then f (get key d) ≡ Some x → (t : Data) × (get key d ≡ Some t)
there key d f x e = go (get key d) e refl
  where
    go : (o : Option Data) → option_and_then f o ≡ Some x → get key d ≡ o → (t : Data) × (get key d ≡ Some t)
    go None e is = absurd cc
    go (Some t) e is = (t, is)

pub new_again : (path key : List ℕ) (d : Data) (seen : List ℤ) (id : ℤ) → id_at key d ≡ Some id → is_seen id seen ≡ false → new_id path key d seen ≡ Ok (id, with_id id seen)
unfolding new_id int_in
new_again path key d seen id is new = ap (λ o. wanted (key_path path key) o >>= λ z. cond {A = Read ℤ} (is_seen z seen) (Err (key_path path key)) (Ok (z, with_id z seen))) is ∙ ap (λ b. cond {A = Read ℤ} b (Err (key_path path key)) (Ok (id, with_id id seen))) new

field_again : IsRead SpellsField own_id field_at
unfolding field_at text_in int_in
field_again path d seen f s new =
    let object = there (codes "name") d as_str f.name s.is_name in
    let made : ℤ × List ℤ → List ℕ → ℤ → Transform → Read SpecField = λ id name source transform. Ok (record { field_id = id.0; source_id = source; name = name; transform = transform }, id.1) in
    let behind : ℤ × List ℤ → Read SpecField = λ id.
    wanted (key_path path (codes "name")) (text_at (codes "name") d) >>= λ name.
    wanted (key_path path (codes "source-id")) (id_at (codes "source-id") d) >>= λ source.
    wanted (key_path path (codes "transform")) (text_at (codes "transform") d) >>= λ word.
    made id name source (transform_of word) in
    let id : ℤ × List ℤ = (f.field_id, with_id f.field_id seen) in
    object_is path d (codes "name") object.0 (new_id path (codes "field-id") d seen >>= behind) object.1
    ∙ ap (λ r. r >>= behind) (new_again path (codes "field-id") d seen f.field_id s.is_field_id new.0)
    ∙ ap (λ o. wanted (key_path path (codes "name")) o >>= λ name. wanted (key_path path (codes "source-id")) (id_at (codes "source-id") d) >>= λ source. wanted (key_path path (codes "transform")) (text_at (codes "transform") d) >>= λ word. made id name source (transform_of word)) s.is_name
    ∙ ap (λ o. wanted (key_path path (codes "source-id")) o >>= λ source. wanted (key_path path (codes "transform")) (text_at (codes "transform") d) >>= λ word. made id f.name source (transform_of word)) s.is_source_id
    ∙ ap (λ o. wanted (key_path path (codes "transform")) o >>= λ word. made id f.name f.source_id (transform_of word)) s.is_word
    ∙ ap (made id f.name f.source_id) (sym s.is_transform)

pub spec_again : (d : Data) (s : Spec) → SpellsSpec d s → spec_of d ≡ Ok s
unfolding spec_of int_in
spec_again d s spelled =
    let array = there (codes "fields") d as_array spelled.items spelled.are_fields in
    let ending : List SpecField × List ℤ → Result Spec Fault = λ fields. wanted (key_path [] (codes "spec-id")) (id_at (codes "spec-id") d) >>= λ id. Ok (record { id = id; fields = fields.0 }) in
    let whole : Option Items → Result Spec Fault = λ o. wanted (key_path [] (codes "fields")) o >>= λ ds. each field_at (codes "fields") 0 ds [] >>= ending in
    object_is [] d (codes "fields") array.0 (whole (option_and_then as_array (get (codes "fields") d))) array.1
    ∙ ap whole spelled.are_fields
    ∙ ap (λ r. r >>= ending) (each_again SpellsField own_id field_at field_again (codes "fields") 0 spelled.items [] s.fields spelled.spelled (subst (AreNew []) (sym (ids-fields s.fields)) spelled.are_new))
    ∙ ap (λ o. wanted (key_path [] (codes "spec-id")) o >>= λ id. Ok (record { id = id; fields = s.fields })) spelled.is_spec_id
