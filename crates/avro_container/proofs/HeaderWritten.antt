-- What is written is a header.
use Rattle.std.proofs.Common.{◌≡◌, ℕ, zero, suc, ◌+◌, ◌≤◌, ◌<◌, ◌^◌, List, [], ◌∷◌, ◌++◌, length, map, get_or, Some, None, refl, sym, ap, ◌∙◌, cond, Bool, true, false, subst, arith, IfSome, IsSomeAnd, codes, length-append}
use Rattle.std.proofs.lemmas.List.{get_or-map}
use Rattle.std.proofs.lemmas.List.Sorted.{All-permutation, length_permutation}
use Rattle.std.proofs.lemmas.Slice.Eq.{bytes_eq-Decides}
use Rattle.std.proofs.lemmas.Str.{IsUtf8-from_ascii}
use Rattle.std.specs.Cmp.Lexicographic.{slice_cmp}
use Rattle.std.specs.List.{Contains, AllByRecursion, IsDistinct, All, list_any}
use Rattle.std.specs.List.Sorted.{IsSortedByKey}
use Rattle.std.specs.Ordering.{nat_cmp}
use Rattle.std.specs.Str.{IsUtf8, bytes_eq}
use Rattle.avro_container.specs.declared.writing.LentPair.{LentPair}
use Rattle.avro_container.specs.Lent.{pair_seen}
use Rattle.avro_container.specs.Writing.{written_text, written_blocks}
use Rattle.avro_container.specs.Container.{Pair, magic, most_items, value_of, SpellsPair, SpellsHeader}
use Rattle.avro_container.specs.ContainerWriting.{written_pair, with_codec, IsInOrder, written_header}
use Rattle.avro_container.proofs.Written.{text_within, blocks_within}
use Rattle.avro_container.proofs.PairLists.{any_none, any_some, all_by_recursion, value_none, value_pair, value_moved, one_value}

length-map : {A B : Type 0} (f : A → B) (xs : List A) → length (map f xs) ≡ length xs
length-map f [] = refl
length-map f (x ∷ xs) = ap suc (length-map f xs)

-- lent pairs in the order of their keys are seen in that order
pub seen_in_order : (xs : List LentPair) → IsSortedByKey (λ p. p.key) (λ x y. slice_cmp nat_cmp x.now y.now) xs → IsSortedByKey (λ e. e.0) (slice_cmp nat_cmp) (map pair_seen xs)
seen_in_order [] h = λ k d low high. absurd (omega arith)
seen_in_order (x ∷ xs) h = λ k d low high.
    let within : k + 1 < length (x ∷ xs) = omega (arith, length-map pair_seen (x ∷ xs)) in
    let one = get_or-map pair_seen (x ∷ xs) (k + 1) x d within in
    let other = get_or-map pair_seen (x ∷ xs) k x d (omega arith) in
    rw (one, other) (h k x low within)

pair_spelled : (e : Pair) → IsUtf8 e.0 → length (written_pair e) < 2 ^ 63 → SpellsPair e (written_pair e)
unfolding SpellsPair
pair_spelled e text small =
    let both = length-append (written_text e.0) (written_text e.1) in
    (text, record { front = written_text e.0; rest = written_text e.1; first = text_within e.0 (omega (arith, both, small)); second = text_within e.1 (omega (arith, both, small)); is = refl })

-- The codec and the schema of the pairs as they are written.

Named : List Pair → Bool → List Pair
Named meta t = cond t meta ((codes "avro.codec", codes "null") ∷ meta)

has_codec : List Pair → Bool
has_codec meta = list_any (λ e. bytes_eq e.0 (codes "avro.codec")) meta

codec_is : (meta : List Pair) → IsDistinct bytes_eq (map (λ e. e.0) meta) → IfSome (value_of (codes "avro.codec") meta) (λ c. c ≡ codes "null") → (e : Pair) → Contains meta e → e.0 ≡ codes "avro.codec" → e.1 ≡ codes "null"
codec_is meta keys codec e inside same =
    elim (value_of (codes "avro.codec") meta) as (λ o. value_of (codes "avro.codec") meta ≡ o → IfSome o (λ c. c ≡ codes "null") → e.1 ≡ codes "null") [
      | None ↦ λ o h. absurd (value_none (codes "avro.codec") meta o e inside same)
      | Some w ↦ λ o h. (one_value (codes "avro.codec") w meta keys o e inside same ∙ h)
    ] refl codec

codec_named : (meta : List Pair) (t : Bool) → has_codec meta ≡ t → IsDistinct bytes_eq (map (λ e. e.0) meta) → IfSome (value_of (codes "avro.codec") meta) (λ c. c ≡ codes "null")
    → ((e : Pair) → Contains (Named meta t) e → e.0 ≡ codes "avro.codec" → e.1 ≡ codes "null") × ((e : Pair) × Contains (Named meta t) e × (e.0 ≡ codes "avro.codec"))
unfolding Named has_codec
codec_named meta true t keys codec =
    let e = any_some (λ e. bytes_eq e.0 (codes "avro.codec")) meta t in
    (codec_is meta keys codec, (e.0, e.1, (bytes_eq-Decides e.0.0 (codes "avro.codec")).0 e.2))
codec_named meta false t keys codec = (each, ((codes "avro.codec", codes "null"), (0, omega arith, refl), refl))
  where
    each : (e : Pair) → Contains ((codes "avro.codec", codes "null") ∷ meta) e → e.0 ≡ codes "avro.codec" → e.1 ≡ codes "null"
    each e (zero, within, is) same = ap (λ p. p.1) (sym is)
    each e (suc k, within, is) same =
        let fails = any_none (λ e. bytes_eq e.0 (codes "avro.codec")) meta t e (k, omega arith, is) in
        let passes : bytes_eq e.0 (codes "avro.codec") ≡ true = (bytes_eq-Decides e.0 (codes "avro.codec")).1 same in absurd cc

schema_named : (meta : List Pair) (t : Bool) (text : List ℕ) → IsDistinct bytes_eq (map (λ e. e.0) meta) → value_of (codes "avro.schema") meta ≡ Some text
    → ((e : Pair) → Contains (Named meta t) e → e.0 ≡ codes "avro.schema" → e.1 ≡ text) × ((e : Pair) × Contains (Named meta t) e × (e.0 ≡ codes "avro.schema"))
unfolding Named
schema_named meta true text keys is = let e = value_pair (codes "avro.schema") text meta is in (one_value (codes "avro.schema") text meta keys is, (e.0, e.1, e.2))
schema_named meta false text keys is =
    let e = value_pair (codes "avro.schema") text meta is in
    (each, (e.0, (suc e.1.0, omega (arith, e.1.1), e.1.2), e.2))
  where
    other_length : codes "avro.codec" ≡ codes "avro.schema" → ⊥
    other_length e = let sizes : 10 ≡ 11 = ap length e in omega (arith, sizes)

    each : (e : Pair) → Contains ((codes "avro.codec", codes "null") ∷ meta) e → e.0 ≡ codes "avro.schema" → e.1 ≡ text
    each e (zero, within, at) same = absurd (other_length (ap (λ p. p.0) at ∙ same))
    each e (suc k, within, at) same = one_value (codes "avro.schema") text meta keys is e (k, omega arith, at) same

is_ascii : (bs : List ℕ) → AllByRecursion (λ b. b < 128) bs → (i : ℕ) → get_or bs i 0 < 128
is_ascii [] h i = omega arith
is_ascii (b ∷ bs) h zero = h.0
is_ascii (b ∷ bs) h (suc i) = is_ascii bs h.1 i

-- bytes below 128 are UTF-8
pub ascii_is_text : (bs : List ℕ) → AllByRecursion (λ b. b < 128) bs → IsUtf8 bs
ascii_is_text bs h = IsUtf8-from_ascii bs (is_ascii bs h)

codec_is_text : IsUtf8 (codes "avro.codec")
codec_is_text =
    let few : AllByRecursion (λ b. b < 128) (codes "avro.codec") = (omega arith, (omega arith, (omega arith, (omega arith, (omega arith, (omega arith, (omega arith, (omega arith, (omega arith, (omega arith, tt)))))))))) in
    ascii_is_text (codes "avro.codec") few

texts_named : (meta : List Pair) (t : Bool) → All (λ e. IsUtf8 e.0) meta → All (λ e. IsUtf8 e.0) (Named meta t)
unfolding Named
texts_named meta true h = h
texts_named meta false h = at
  where
    at : (k : ℕ) (d : Pair) → k < length ((codes "avro.codec", codes "null") ∷ meta) → IsUtf8 (get_or ((codes "avro.codec", codes "null") ∷ meta) k d).0
    at zero d within = codec_is_text
    at (suc k) d within = h k d (omega arith)

length-Named : (meta : List Pair) (t : Bool) → length (Named meta t) ≤ length meta + 1
unfolding Named
length-Named meta true = omega arith
length-Named meta false = omega arith

pub header_spells : (meta pairs : List Pair) (sync : List ℕ) → IsDistinct bytes_eq (map (λ e. e.0) meta) → IsSomeAnd (value_of (codes "avro.schema") meta) IsUtf8 → IfSome (value_of (codes "avro.codec") meta) (λ c. c ≡ codes "null")
    → length meta ≤ 16777215 → IsInOrder meta pairs → length sync ≡ 16 → length (written_header pairs sync) < 2 ^ 63 → All (λ e. IsUtf8 e.0) meta
    → (text : List ℕ) × (value_of (codes "avro.schema") meta ≡ Some text) × SpellsHeader text pairs sync (written_header pairs sync)
unfolding Named has_codec
header_spells meta pairs sync keys schema codec few order marker small texts =
    elim (value_of (codes "avro.schema") meta) as (λ o. value_of (codes "avro.schema") meta ≡ o → IsSomeAnd o IsUtf8 → (text : List ℕ) × (o ≡ Some text) × SpellsHeader text pairs sync (written_header pairs sync)) [
      | None ↦ λ o h. absurd h
      | Some text ↦ λ o h. (
          let named = codec_named meta (has_codec meta) refl keys codec in
          let told = schema_named meta (has_codec meta) text keys o in
          let codec_after = value_moved (codes "avro.codec") (codes "null") (with_codec meta) pairs order.same named.0 named.1.0 named.1.1 named.1.2 in
          let schema_after = value_moved (codes "avro.schema") text (with_codec meta) pairs order.same told.0 told.1.0 told.1.1 told.1.2 in
          let sizes : length (written_blocks written_pair pairs) < 2 ^ 63 = omega (arith, length-append magic (written_blocks written_pair pairs ++ sync), length-append (written_blocks written_pair pairs) sync) in
          let texts_after = all_by_recursion (λ e. IsUtf8 e.0) pairs (All-permutation (λ e. IsUtf8 e.0) (with_codec meta) pairs order.same (texts_named meta (has_codec meta) texts)) in
          let count : length pairs ≤ most_items = omega (arith, length_permutation (with_codec meta) pairs order.same, length-Named meta (has_codec meta)) in (
            text,
            refl,
            record {
              middle = written_blocks written_pair pairs;
              map = blocks_within SpellsPair (λ e. IsUtf8 e.0) written_pair pair_spelled most_items pairs texts_after count (omega arith) sizes;
              codec = subst (λ o. IfSome o (λ c. c ≡ codes "null")) (sym codec_after) refl;
              text = schema_after;
              utf8 = h;
              marker = marker;
              is = refl;
            },
          ))
    ] refl schema

-- what stands at the end of a list is no longer than the list
pub shorter : (old new more : List ℕ) → new ≡ old ++ more → length new < 2 ^ 63 → length more < 2 ^ 63
shorter old new more is small = omega (arith, ap length is, length-append old more, small)
