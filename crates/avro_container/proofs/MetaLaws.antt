-- The metadata of a header, and what they say of schema and codec.
use Rattle.std.proofs.Common.{◌≡◌, ℕ, suc, ◌-◌, List, [], ◌∷◌, ◌++◌, length, map, Result, Ok, Err, Option, Some, None, refl, sym, ap, ◌∙◌, cond, Bool, true, false, subst, arith, length-append, IfSome, nat_lt, codes}
use mathlib.Core.List.{reverse, reverse_aux}
use Rattle.std.specs.List.{find}
use Rattle.std.specs.Option.{option_map}
use Rattle.std.specs.Str.{is_utf8, IsUtf8, bytes_eq}
use Rattle.std.proofs.lemmas.Str.{IsUtf8-from_is_utf8, is_utf8-from_IsUtf8}
use Rattle.std.proofs.lemmas.Slice.Eq.{bytes_eq-Decides}
use Rattle.avro_container.specs.declared.fault.ContainerCause.{ContainerCause}
use Rattle.avro_container.specs.declared.fault.ContainerCause.TheVariants.{BadUtf8, Codec}
use Rattle.avro_container.specs.declared.metadata.Entry.{Entry}
use Rattle.avro_container.specs.Spelling.{SpellsText, Fronts, Joins}
use Rattle.avro_container.specs.Reading.{Read, Fault, ◌>>=◌, blob_at, string_at, blocks_at}
use Rattle.avro_container.specs.Container.{Pair, SpellsPair, SpellsMeta, value_of, most_items}
use Rattle.avro_container.specs.ContainerReading.{causes, entry_at, entries_at, pair_of, last_of, text_of, judged, with_schema, schema_of}
use Rattle.avro_container.proofs.Binding.{same_value, same_rest, bind_ok, pass_ok, joined, as_spelled, ends_at, regrouped, IsFound, IsRead}
use Rattle.avro_container.proofs.Found.{blob_found, string_found, blocks_found}
use Rattle.avro_container.proofs.Again.{blob_again, string_again, blocks_again}
use Rattle.avro_container.proofs.Mapped.{mapped, mapped-blocks, unmapped}

-- a key in UTF-8, and a value
unfoldable pair_at : List ℕ → Read ContainerCause Pair
pair_at bytes = string_at causes bytes >>= λ k. blob_at causes k.1 >>= λ v. Ok ((k.0, v.0), v.1)

pair_found : IsFound SpellsPair pair_at
unfolding pair_at SpellsPair
pair_found bytes x rest e =
    let key = bind_ok (string_at causes bytes) (λ k. blob_at causes k.1 >>= λ v. Ok ((k.0, v.0), v.1)) (x, rest) e in
    let val = bind_ok (blob_at causes key.0.1) (λ v. Ok ((key.0.0, v.0), v.1)) (x, rest) key.2 in
    let front = string_found causes bytes key.0.0 key.0.1 key.1 in
    let text : Fronts (SpellsText key.0.0) bytes key.0.1 = record { front = front.front; spells = front.spells.1; is = front.is } in
    let both = joined text (blob_found causes key.0.1 val.0.0 val.0.1 val.1) in
    let whole : Fronts (λ b. IsUtf8 key.0.0 × Joins (SpellsText key.0.0) (SpellsText val.0.0) b) bytes val.0.1 = as_spelled (λ b s. (front.spells.0, s)) both in
    ends_at (same_rest val.2) (subst (λ y. Fronts (λ b. IsUtf8 y.0 × Joins (SpellsText y.0) (SpellsText y.1) b) bytes val.0.1) (same_value val.2) whole)

pair_again : IsRead SpellsPair pair_at
unfolding pair_at SpellsPair
pair_again x b rest s =
    ap (λ y. string_at causes y >>= λ k. blob_at causes k.1 >>= λ v. Ok ((k.0, v.0), v.1)) (regrouped b rest s.1)
    ∙ ap (λ r. r >>= λ k. blob_at causes k.1 >>= λ v. Ok ((k.0, v.0), v.1)) (string_again causes s.1.front (s.1.rest ++ rest) x.0 s.0 s.1.first)
    ∙ ap (λ r. r >>= λ v. Ok ((x.0, v.0), v.1)) (blob_again causes s.1.rest rest x.1 s.1.second)

-- an entry without its place is a pair
entry_is_pair : (n : ℕ) (bytes : List ℕ) → mapped pair_of (entry_at n bytes) ≡ pair_at bytes
unfolding entry_at pair_at
entry_is_pair n bytes =
    elim (string_at causes bytes) as (λ r. mapped pair_of (r >>= λ k. blob_at causes k.1 >>= λ v. Ok (record { key = k.0; value = v.0; at = n - length k.1 }, v.1)) ≡ (r >>= λ k. blob_at causes k.1 >>= λ v. Ok ((k.0, v.0), v.1))) [
      | Ok k ↦ elim (blob_at causes k.1) as (λ r. mapped pair_of (r >>= λ v. Ok (record { key = k.0; value = v.0; at = n - length k.1 }, v.1)) ≡ (r >>= λ v. Ok ((k.0, v.0), v.1))) [ Ok v ↦ refl | Err e ↦ refl ]
      | Err e ↦ refl
    ]

pub meta_found : (n : ℕ) (bytes : List ℕ) (es : List Entry) (rest : List ℕ) → entries_at n bytes ≡ Ok (es, rest) → Fronts (SpellsMeta (map pair_of es)) bytes rest
unfolding entries_at
meta_found n bytes es rest e =
    blocks_found causes SpellsPair pair_at pair_found (suc (length bytes)) most_items bytes (map pair_of es) rest
    (sym (mapped-blocks causes pair_of (entry_at n) pair_at (entry_is_pair n) (suc (length bytes)) most_items bytes) ∙ ap (mapped (map pair_of)) e)

pub meta_again : (n : ℕ) (meta : List Pair) (b rest : List ℕ) → SpellsMeta meta b → (es : List Entry) × (entries_at n (b ++ rest) ≡ Ok (es, rest)) × (map pair_of es ≡ meta)
unfolding entries_at
meta_again n meta b rest s =
    let k = suc (length (b ++ rest)) in
    unmapped (map pair_of) (blocks_at causes (entry_at n) k most_items (b ++ rest)) meta rest
    (mapped-blocks causes pair_of (entry_at n) pair_at (entry_is_pair n) k most_items (b ++ rest)
    ∙ blocks_again causes SpellsPair pair_at pair_again s k rest (omega (arith, length-append b rest)))

-- The last value of a key, of pairs as of entries.

module _ {A B : Type 0} (f : A → B) where
  map-reverse_aux : (xs ys : List A) → map f (reverse_aux xs ys) ≡ reverse_aux (map f xs) (map f ys)
  map-reverse_aux [] ys = refl
  map-reverse_aux (x ∷ xs) ys = map-reverse_aux xs (x ∷ ys)

  find-map : (p : B → Bool) (xs : List A) → find p (map f xs) ≡ option_map f (find (λ x. p (f x)) xs)
  find-map p [] = refl
  find-map p (x ∷ xs) = elim (p (f x)) as (λ t. cond t (Some (f x)) (find p (map f xs)) ≡ option_map f (cond t (Some x) (find (λ x. p (f x)) xs))) [ true ↦ refl | false ↦ find-map p xs ]

value_in : Option Entry → Option (List ℕ)
value_in o = option_map (λ e. e.value) o

value_of-entries : (key : List ℕ) (es : List Entry) → value_of key (map pair_of es) ≡ value_in (last_of key es)
unfolding value_in
value_of-entries key es =
    ap (λ xs. option_map (λ e. e.1) (find (λ e. bytes_eq e.0 key) xs)) (sym (map-reverse_aux pair_of es []))
    ∙ ap (option_map (λ e. e.1)) (find-map pair_of (λ e. bytes_eq e.0 key) (reverse es))
    ∙ twice (find (λ e. bytes_eq e.key key) (reverse es))
  where
    twice : (o : Option Entry) → option_map (λ e. e.1) (option_map pair_of o) ≡ option_map (λ e. e.value) o
    twice None = refl
    twice (Some e) = refl

-- what the metadata say
pub record Says (c s : Option (List ℕ)) (t : List ℕ) : Type 0 where
  pub codec : IfSome c (λ x. x ≡ codes "null")
  pub text : s ≡ Some t
  pub utf8 : IsUtf8 t

text_found : (n : ℕ) (s : Entry) (text : List ℕ) → text_of n s ≡ Ok text → (s.value ≡ text) × IsUtf8 text
text_found n s text e =
    let test = pass_ok (is_utf8 s.value) (BadUtf8, n - s.at) s.value text e in
    (test.1, subst IsUtf8 test.1 (IsUtf8-from_is_utf8 s.value test.0))

text_again : (n : ℕ) (s : Entry) (text : List ℕ) → s.value ≡ text → IsUtf8 text → text_of n s ≡ Ok text
text_again n s text e u = ap (λ t. cond t (Ok s.value) (Err (BadUtf8, n - s.at))) (ap is_utf8 e ∙ is_utf8-from_IsUtf8 text u) ∙ ap Ok e

-- the fault of another codec, or of the schema before it
abbrev other_codec : ℕ → Entry → Entry → Bool → Bool → Result (List ℕ) (Fault ContainerCause)
other_codec n c s is_text is_first = cond is_text (Err (Codec, n - c.at)) (cond is_first (Err (Codec, n - c.at)) (Err (BadUtf8, n - s.at)))

judged_found : (n : ℕ) (c : Option Entry) (s : Entry) (text : List ℕ) → judged n c s ≡ Ok text → Says (value_in c) (Some s.value) text
unfolding value_in
judged_found n None s text e = let t = text_found n s text e in record { codec = tt; text = ap Some t.0; utf8 = t.1 }
judged_found n (Some c) s text e =
    elim (bytes_eq c.value (codes "null")) as (λ t. bytes_eq c.value (codes "null") ≡ t
    → cond t (text_of n s) (other_codec n c s (is_utf8 s.value) (nat_lt c.at s.at)) ≡ Ok text → Says (Some c.value) (Some s.value) text) [
      | true ↦ λ t e. (let found = text_found n s text e in record { codec = (bytes_eq-Decides c.value (codes "null")).0 t; text = ap Some found.0; utf8 = found.1 })
      | false ↦ λ t e. absurd (refused (is_utf8 s.value) (nat_lt c.at s.at) e)
    ] refl e
  where
    refused : (a b : Bool) → other_codec n c s a b ≡ Ok text → ⊥
    refused true b e = cc
    refused false true e = cc
    refused false false e = cc

judged_again : (n : ℕ) (c : Option Entry) (s : Entry) (text : List ℕ) → Says (value_in c) (Some s.value) text → judged n c s ≡ Ok text
unfolding value_in
judged_again n None s text says = text_again n s text (some_same says.text) says.utf8
  where
    some_same : {x y : List ℕ} → Some x ≡ Some y → x ≡ y
    some_same e = cc
judged_again n (Some c) s text says =
    let same : s.value ≡ text = some_same says.text in
    let null : bytes_eq c.value (codes "null") ≡ true = (bytes_eq-Decides c.value (codes "null")).1 says.codec in
    ap (λ t. cond t (text_of n s) (other_codec n c s (is_utf8 s.value) (nat_lt c.at s.at))) null
    ∙ text_again n s text same says.utf8
  where
    some_same : {x y : List ℕ} → Some x ≡ Some y → x ≡ y
    some_same e = cc

with_schema_found : (n : ℕ) (c s : Option Entry) (text : List ℕ) → with_schema n c s ≡ Ok text → Says (value_in c) (value_in s) text
unfolding value_in
with_schema_found n c None text e = absurd cc
with_schema_found n c (Some s) text e = judged_found n c s text e

with_schema_again : (n : ℕ) (c s : Option Entry) (text : List ℕ) → Says (value_in c) (value_in s) text → with_schema n c s ≡ Ok text
unfolding value_in
with_schema_again n c None text says = absurd (no_text says.text)
  where
    no_text : {y : List ℕ} → None ≡ Some y → ⊥
    no_text e = cc
with_schema_again n c (Some s) text says = judged_again n c s text says

pub schema_found : (n : ℕ) (es : List Entry) (text : List ℕ) → schema_of n es ≡ Ok text → Says (value_of (codes "avro.codec") (map pair_of es)) (value_of (codes "avro.schema") (map pair_of es)) text
unfolding schema_of
schema_found n es text e =
    let says = with_schema_found n (last_of (codes "avro.codec") es) (last_of (codes "avro.schema") es) text e in
    subst (λ c. Says c (value_of (codes "avro.schema") (map pair_of es)) text) (sym (value_of-entries (codes "avro.codec") es))
    (subst (λ s. Says (value_in (last_of (codes "avro.codec") es)) s text) (sym (value_of-entries (codes "avro.schema") es)) says)

pub schema_again : (n : ℕ) (es : List Entry) (meta : List Pair) (text : List ℕ) → map pair_of es ≡ meta → Says (value_of (codes "avro.codec") meta) (value_of (codes "avro.schema") meta) text → schema_of n es ≡ Ok text
unfolding schema_of
schema_again n es meta text is says =
    let codec : value_of (codes "avro.codec") meta ≡ value_in (last_of (codes "avro.codec") es) = ap (value_of (codes "avro.codec")) (sym is) ∙ value_of-entries (codes "avro.codec") es in
    let schema : value_of (codes "avro.schema") meta ≡ value_in (last_of (codes "avro.schema") es) = ap (value_of (codes "avro.schema")) (sym is) ∙ value_of-entries (codes "avro.schema") es in
    with_schema_again n (last_of (codes "avro.codec") es) (last_of (codes "avro.schema") es) text
    (subst (λ c. Says c (value_in (last_of (codes "avro.schema") es)) text) codec (subst (λ s. Says (value_of (codes "avro.codec") meta) s text) schema says))
