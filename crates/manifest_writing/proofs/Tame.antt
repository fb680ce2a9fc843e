-- The trees that are written for schemas.
use Rattle.std.proofs.Common.{◌≡◌, ℕ, zero, suc, ℤ, ◌<◌, ◌≤◌, ◌*◌, List, [], ◌∷◌, map, codes, Bool, true, false, cond, Option, Some, None, refl, sym, ap, subst, ◌∙◌, arith, rules}
use Rattle.std.specs.List.{AllByRecursion}
use Rattle.serde_json.specs.Data.{Data, null, boolean, number, string, array, object, unsigned, Items, item, Members, no_members, put, depth as data_depth}
use Rattle.serde_json.specs.Read.{read}
use Rattle.serde_json.specs.Written.{has_float}
use Rattle.serde_json.specs.View.{items_of}
use Rattle.avro_schema.specs.declared.schema.Field.{Field, fold_out-Field}
use Rattle.avro_schema.specs.declared.schema.Logical.{Logical}
use Rattle.avro_schema.specs.declared.schema.Logical.TheVariants.{Plain, Date, TimeMicros, TimestampMicros, Decimal, Uuid}
use Rattle.avro_schema.specs.declared.schema.Schema.{Schema, the_lemmas}
use Rattle.avro_schema.specs.declared.schema.Schema.TheVariants.{Null, Bool as Boolean, Int, Long, Float4, Float8, Blob, Str, Fix, Choice, List as Array, Pairs, Fields, Union}
use Rattle.avro_schema.specs.Form as form
use Rattle.avro_schema.specs.Form.{Form, form_of, field_form, forms_of, depth, deepest}
use Rattle.avro_schema.specs.Spelling.{strings}
use Rattle.avro_schema.specs.Writing.{is_written, with_name, Writes, once, schema_step, field_step, written_each, written_type, written_field, written_schema, put_id, put_word, put_logical, typed, primitive_tree, fixed_tree, choice_tree, put_map, array_tree, map_tree, record_tree, begins_with_null, put_default, field_tree}
use Rattle.manifest_writing.proofs.SchemaKinds.{form-Array, form-Pairs, form-Fields, form-Union, form-field}
use Rattle.manifest_writing.proofs.SchemaKinds.{Kind, kind_of, is_null, is_boolean, is_int, is_long, is_float4, is_float8, is_blob, is_str, is_fixed, is_choice, is_array, is_pairs, is_fields, is_union}
use Rattle.manifest_writing.proofs.Trees.{IsTame, AreTame, weaker, tame_put, tame_none, tame_object, tame_text, tame_integer, tame_unsigned, tame_array}

strings-map : (ts : List (List ℕ)) → items_of (map string ts) ≡ strings ts
strings-map [] = refl
strings-map (t ∷ ts) = ap (item (string t)) (strings-map ts)

pub field-written : (f : Field) (names : List (List ℕ)) → written_field f names ≡ (field_tree f.name (written_type f.schema names).0 f.field_id, (written_type f.schema names).1)
field-written f names = ap (λ (w : Writes Data). w names) (fold_out-Field (Writes Data) (Writes Data) schema_step field_step f)

-- Members.

with_text : (n : ℕ) (k t : List ℕ) (ms : Members) → AreTame n ms → AreTame n (put k (string t) ms)
with_text n k t ms p = tame_put n k (string t) ms (tame_text n t) p

of_type : (n : ℕ) (word : List ℕ) → AreTame n (typed word)
of_type n word = with_text n (codes "type") word no_members (tame_none n)

with_id : (n : ℕ) (k : List ℕ) (id : Option ℤ) (ms : Members) → AreTame n ms → AreTame n (put_id k id ms)
unfolding put_id
with_id n k None ms p = p
with_id n k (Some id) ms p = tame_put n k _ ms (tame_integer n id) p

with_logical : (n : ℕ) (l : Logical) (ms : Members) → AreTame n ms → AreTame n (put_logical l ms)
unfolding put_logical
with_logical n Plain ms p = p
with_logical n Date ms p = with_text n (codes "logicalType") (codes "date") ms p
with_logical n TimeMicros ms p = with_text n (codes "logicalType") (codes "time-micros") ms p
with_logical n (TimestampMicros utc) ms p = tame_put n (codes "adjust-to-utc") (boolean utc) _ (refl, omega arith) (with_text n (codes "logicalType") (codes "timestamp-micros") ms p)
with_logical n (Decimal precision scale) ms p =
    tame_put n (codes "scale") _ _ (tame_unsigned n scale) (tame_put n (codes "precision") _ _ (tame_unsigned n precision) (with_text n (codes "logicalType") (codes "decimal") ms p))
with_logical n Uuid ms p = with_text n (codes "logicalType") (codes "uuid") ms p

with_map : (n : ℕ) (m : Bool) (ms : Members) → AreTame n ms → AreTame n (put_map m ms)
unfolding put_map
with_map n true ms p = with_text n (codes "logicalType") (codes "map") ms p
with_map n false ms p = p

with_default : (n : ℕ) (d : Data) (ms : Members) → AreTame n ms → AreTame n (put_default d ms)
unfolding put_default
with_default n d ms p = elim (begins_with_null d) as (λ b. AreTame n (cond b (put (codes "default") null ms) ms)) [ true ↦ tame_put n (codes "default") null ms (refl, omega arith) p | false ↦ p ]

-- Types without types in them.

tame_primitive : (word : List ℕ) (l : Logical) → IsTame 1 (primitive_tree word l)
unfolding primitive_tree
tame_primitive word Plain = tame_text 1 word
tame_primitive word Date = tame_object 0 _ (with_logical 0 Date (typed word) (of_type 0 word))
tame_primitive word TimeMicros = tame_object 0 _ (with_logical 0 TimeMicros (typed word) (of_type 0 word))
tame_primitive word (TimestampMicros utc) = tame_object 0 _ (with_logical 0 (TimestampMicros utc) (typed word) (of_type 0 word))
tame_primitive word (Decimal precision scale) = tame_object 0 _ (with_logical 0 (Decimal precision scale) (typed word) (of_type 0 word))
tame_primitive word Uuid = tame_object 0 _ (with_logical 0 Uuid (typed word) (of_type 0 word))

tame_fixed : (name : List ℕ) (size : ℕ) (l : Logical) → IsTame 1 (fixed_tree name size l)
unfolding fixed_tree
tame_fixed name size l =
    let named : Members = put (codes "name") (string name) (typed (codes "fixed")) in
    let sized : Members = put (codes "size") (number (unsigned size)) named in
    tame_object 0 (put_logical l sized) (with_logical 0 l sized (tame_put 0 (codes "size") (number (unsigned size)) named (tame_unsigned 0 size) (with_text 0 (codes "name") name (typed (codes "fixed")) (of_type 0 (codes "fixed")))))

all_texts : (ts : List (List ℕ)) → AllByRecursion (IsTame 0) (map string ts)
all_texts [] = tt
all_texts (t ∷ ts) = (tame_text 0 t, all_texts ts)

tame_choice : (name : List ℕ) (symbols : List (List ℕ)) → IsTame 2 (choice_tree name symbols)
unfolding choice_tree
tame_choice name symbols =
    let named : Members = put (codes "name") (string name) (typed (codes "enum")) in
    let texts : IsTame 1 (array (strings symbols)) = subst (λ (ds : Items). IsTame 1 (array ds)) (strings-map symbols) (tame_array 0 (map string symbols) (all_texts symbols)) in
    tame_object 1 (put (codes "symbols") (array (strings symbols)) named) (tame_put 1 (codes "symbols") (array (strings symbols)) named texts (with_text 1 (codes "name") name (typed (codes "enum")) (of_type 1 (codes "enum"))))

-- Types with types in them.

tame_list : (n : ℕ) (d : Data) (id : Option ℤ) (m : Bool) → IsTame n d → IsTame (suc n) (array_tree d id m)
unfolding array_tree
tame_list n d id m p =
    let items : Members = put (codes "items") d (typed (codes "array")) in
    tame_object n (put_id (codes "element-id") id (put_map m items)) (with_id n (codes "element-id") id (put_map m items) (with_map n m items (tame_put n (codes "items") d (typed (codes "array")) p (of_type n (codes "array")))))

tame_map : (n : ℕ) (d : Data) (k v : Option ℤ) → IsTame n d → IsTame (suc n) (map_tree d k v)
unfolding map_tree
tame_map n d k v p =
    let values : Members = put (codes "values") d (typed (codes "map")) in
    let keyed : Members = put_id (codes "key-id") k values in
    tame_object n (put_id (codes "value-id") v keyed) (with_id n (codes "value-id") v keyed (with_id n (codes "key-id") k values (tame_put n (codes "values") d (typed (codes "map")) p (of_type n (codes "map")))))

tame_field : (n : ℕ) (name : List ℕ) (d : Data) (id : Option ℤ) → IsTame n d → IsTame (suc n) (field_tree name d id)
unfolding field_tree
tame_field n name d id p =
    let of_it : Members = put (codes "type") d no_members in
    let named : Members = put (codes "name") (string name) of_it in
    let marked : Members = put_id (codes "field-id") id named in
    tame_object n (put_default d marked) (with_default n d marked (with_id n (codes "field-id") id named (with_text n (codes "name") name of_it (tame_put n (codes "type") d no_members p (tame_none n)))))

tame_record : (n : ℕ) (name : List ℕ) (ds : List Data) → AllByRecursion (IsTame n) ds → IsTame (suc (suc n)) (record_tree name ds)
unfolding record_tree
tame_record n name ds p =
    let named : Members = put (codes "name") (string name) (typed (codes "record")) in
    tame_object (suc n) (put (codes "fields") (array (items_of ds)) named) (tame_put (suc n) (codes "fields") (array (items_of ds)) named (tame_array n ds p) (with_text (suc n) (codes "name") name (typed (codes "record")) (of_type (suc n) (codes "record"))))

abbrev Tree : Data × List (List ℕ) → Data
Tree x = x.0

tame_once : (n : ℕ) (name : List ℕ) (w : Writes Data) (ns : List (List ℕ)) → IsTame n (w ns).0 → IsTame n (once name w ns).0
tame_once n name w ns p = either_way (is_written name ns)
  where
    either_way : (b : Bool) → IsTame n (Tree (cond b (string name, ns) ((w ns).0, with_name name (w ns).1)))
    either_way true = tame_text n name
    either_way false = p

module _ (left : ℕ) (told : (t : Schema) → depth (form_of t) ≤ left → (ns : List (List ℕ)) → IsTame (3 * left) (written_type t ns).0) where
  branches : (bs : List Schema) (ns : List (List ℕ)) → deepest (forms_of (map form_of bs)) ≤ left → AllByRecursion (IsTame (3 * left)) (written_each (map written_type bs) ns).0
  branches [] ns h = tt
  branches (b ∷ bs) ns h = (told b (omega (arith, h)) ns, branches bs (written_type b ns).1 (omega (arith, h)))

  fields : (fs : List Field) (ns : List (List ℕ)) → deepest (forms_of (map field_form fs)) ≤ left → AllByRecursion (IsTame (suc (3 * left))) (written_each (map written_field fs) ns).0
  fields [] ns h = tt
  fields (f ∷ fs) ns h =
      let here : depth (field_form f) ≡ depth (form_of f.schema) = ap depth (form-field f) in
      let w = written_type f.schema ns in
      let own : IsTame (suc (3 * left)) (field_tree f.name w.0 f.field_id) = tame_field (3 * left) f.name w.0 f.field_id (told f.schema (omega (arith, h, here)) ns) in
      let P : Data × List (List ℕ) → Type 0 = λ x. AllByRecursion (IsTame (suc (3 * left))) (x.0 ∷ (written_each (map written_field fs) x.1).0) in
      subst P (sym (field-written f ns)) (own, fields fs w.1 (omega (arith, h)))

  at : (s t : Schema) (ns : List (List ℕ)) (x : Data × List (List ℕ)) (m : ℕ) → s ≡ t → written_type t ns ≡ x → m ≤ 3 * suc left → IsTame m x.0 → IsTame (3 * suc left) (written_type s ns).0
  at s t ns x m e w h p = subst (λ u. IsTame (3 * suc left) (written_type u ns).0) (sym e) (subst (λ y. IsTame (3 * suc left) y.0) (sym w) (weaker m (3 * suc left) x.0 h p))

  kind_tame : (s : Schema) (ns : List (List ℕ)) → depth (form_of s) ≤ suc left → Kind s → IsTame (3 * suc left) (written_type s ns).0
  kind_tame s ns h (is_null e) = at s Null ns (string (codes "null"), ns) 1 e (search (rules, the_lemmas)) (omega arith) (tame_text 1 (codes "null"))
  kind_tame s ns h (is_boolean e) = at s Boolean ns (string (codes "boolean"), ns) 1 e (search (rules, the_lemmas)) (omega arith) (tame_text 1 (codes "boolean"))
  kind_tame s ns h (is_float4 e) = at s Float4 ns (string (codes "float"), ns) 1 e (search (rules, the_lemmas)) (omega arith) (tame_text 1 (codes "float"))
  kind_tame s ns h (is_float8 e) = at s Float8 ns (string (codes "double"), ns) 1 e (search (rules, the_lemmas)) (omega arith) (tame_text 1 (codes "double"))
  kind_tame s ns h (is_int l e) = at s (Int l) ns (primitive_tree (codes "int") l, ns) 1 e (search (rules, the_lemmas)) (omega arith) (tame_primitive (codes "int") l)
  kind_tame s ns h (is_long l e) = at s (Long l) ns (primitive_tree (codes "long") l, ns) 1 e (search (rules, the_lemmas)) (omega arith) (tame_primitive (codes "long") l)
  kind_tame s ns h (is_blob l e) = at s (Blob l) ns (primitive_tree (codes "bytes") l, ns) 1 e (search (rules, the_lemmas)) (omega arith) (tame_primitive (codes "bytes") l)
  kind_tame s ns h (is_str l e) = at s (Str l) ns (primitive_tree (codes "string") l, ns) 1 e (search (rules, the_lemmas)) (omega arith) (tame_primitive (codes "string") l)
  kind_tame s ns h (is_fixed name size l e) = at s (Fix name size l) ns (once name (λ ms. (fixed_tree name size l, ms)) ns) 1 e (search (rules, the_lemmas)) (omega arith) (tame_once 1 name (λ ms. (fixed_tree name size l, ms)) ns (tame_fixed name size l))
  kind_tame s ns h (is_choice name symbols e) = at s (Choice name symbols) ns (once name (λ ms. (choice_tree name symbols, ms)) ns) 2 e (search (rules, the_lemmas)) (omega arith) (tame_once 2 name (λ ms. (choice_tree name symbols, ms)) ns (tame_choice name symbols))
  kind_tame s ns h (is_array t id m e) =
      let inner : depth (form_of t) ≤ left = omega (arith, h, ap (λ u. depth (form_of u)) e ∙ ap depth (form-Array t id m)) in
      at s (Array t id m) ns (array_tree (written_type t ns).0 id m, (written_type t ns).1) (suc (3 * left)) e (search (rules, the_lemmas)) (omega arith) (tame_list (3 * left) (written_type t ns).0 id m (told t inner ns))
  kind_tame s ns h (is_pairs t k v e) =
      let inner : depth (form_of t) ≤ left = omega (arith, h, ap (λ u. depth (form_of u)) e ∙ ap depth (form-Pairs t k v)) in
      at s (Pairs t k v) ns (map_tree (written_type t ns).0 k v, (written_type t ns).1) (suc (3 * left)) e (search (rules, the_lemmas)) (omega arith) (tame_map (3 * left) (written_type t ns).0 k v (told t inner ns))
  kind_tame s ns h (is_fields name fs e) =
      let inner : deepest (forms_of (map field_form fs)) ≤ left = omega (arith, h, ap (λ u. depth (form_of u)) e ∙ ap depth (form-Fields name fs)) in
      let w : Writes Data = λ ms. (record_tree name (written_each (map written_field fs) ms).0, (written_each (map written_field fs) ms).1) in
      at s (Fields name fs) ns (once name w ns) (suc (suc (suc (3 * left)))) e (search (rules, the_lemmas)) (omega arith)
      (tame_once (suc (suc (suc (3 * left)))) name w ns (tame_record (suc (3 * left)) name (written_each (map written_field fs) ns).0 (fields fs ns inner)))
  kind_tame s ns h (is_union bs e) =
      let inner : deepest (forms_of (map form_of bs)) ≤ left = omega (arith, h, ap (λ u. depth (form_of u)) e ∙ ap depth (form-Union bs)) in
      at s (Union bs) ns (array (items_of (written_each (map written_type bs) ns).0), (written_each (map written_type bs) ns).1) (suc (3 * left)) e (search (rules, the_lemmas)) (omega arith)
      (tame_array (3 * left) (written_each (map written_type bs) ns).0 (branches bs ns inner))

positive : (f : Form) → 0 < depth f
positive form.null = omega arith
positive form.boolean = omega arith
positive form.int = omega arith
positive form.long = omega arith
positive form.float4 = omega arith
positive form.float8 = omega arith
positive form.bytes = omega arith
positive form.string = omega arith
positive (form.fixed n) = omega arith
positive (form.choice n) = omega arith
positive (form.array f) = omega arith
positive (form.pairs f) = omega arith
positive (form.fields fs) = omega arith
positive (form.union fs) = omega arith

type_tame : (most : ℕ) (s : Schema) → depth (form_of s) ≤ most → (ns : List (List ℕ)) → IsTame (3 * most) (written_type s ns).0
type_tame zero s h ns = absurd (omega (arith, h, positive (form_of s)))
type_tame (suc left) s h ns = kind_tame left (type_tame left) s ns h (kind_of s)

pub no_float : (s : Schema) → has_float (written_schema s) ≡ false
unfolding written_schema
no_float s = (type_tame (depth (form_of s)) s (omega arith) []).0

-- it may be read
pub shallow : (s : Schema) → depth (form_of s) ≤ 32 → data_depth (written_schema s) ≤ 127
unfolding written_schema
shallow s h = omega (arith, (type_tame 32 s h []).1)

-- the text of such a tree is read
pub text_reads : (s : Schema) (d : Data) (text : List ℕ) → d ≡ written_schema s → (data_depth d ≤ 127 → read text ≡ Some d) → depth (form_of s) ≤ 32 → read text ≡ Some (written_schema s)
text_reads s d text e h fits =
    let P : Data → Type 0 = λ d. data_depth d ≤ 127 → read text ≡ Some d in
    subst P e h (shallow s fits)
