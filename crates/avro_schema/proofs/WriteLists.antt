-- Lists that are written one item after the other, as loops do, and the names that were written.
use Rattle.std.proofs.Common.{◌≡◌, ℕ, List, [], ◌∷◌, ◌++◌, map, String, string_bytes, string_cmp, nat_cmp, Ordering, Less, Equal, Greater, Global, refl, ap, ◌∙◌}
use Rattle.std.specs.Cmp.Lexicographic.{slice_cmp}
use Rattle.std.specs.List.{list_any}
use Rattle.std.specs.Ordering.{match_ordering}
use Rattle.std.specs.BTreeMap.{is_at}
use Rattle.std.specs.BTreeSet.{insert_key}
use Rattle.serde_json.specs.Data.{Data, string, item}
use Rattle.serde_json.specs.View.{items_of}
use Rattle.avro_schema.specs.declared.schema.Field.{Field, fold_out-Field}
use Rattle.avro_schema.specs.Spelling.{strings}
use Rattle.avro_schema.specs.Writing.{is_written, with_name, Writes, schema_step, field_step, written_type, written_field, field_tree}

pub strings-map : (ts : List (List ℕ)) → items_of (map string ts) ≡ strings ts
strings-map [] = refl
strings-map (t ∷ ts) = ap (item (string t)) (strings-map ts)

pub is_written-map : (name : List ℕ) (ks : List (String Global)) → list_any (is_at (λ k. slice_cmp nat_cmp name (string_bytes k))) ks ≡ is_written name (map string_bytes ks)
is_written-map name [] = refl
is_written-map name (k ∷ ks) = rw (is_written-map name ks) refl

map-match_ordering : (o : Ordering) (a b c : List (String Global)) → map string_bytes (match_ordering o a b c) ≡ match_ordering o (map string_bytes a) (map string_bytes b) (map string_bytes c)
map-match_ordering Less a b c = refl
map-match_ordering Equal a b c = refl
map-match_ordering Greater a b c = refl

pub map-insert_key : (ks : List (String Global)) (k : String Global) → map string_bytes (insert_key string_cmp ks k) ≡ with_name (string_bytes k) (map string_bytes ks)
map-insert_key [] k = refl
map-insert_key (x ∷ ks) k = map-match_ordering (string_cmp k x) _ _ _ ∙ rw (map-insert_key ks k) refl

-- what was written before, and what is written behind it
abbrev pub behind : List Data → List Data × List (List ℕ) → List Data × List (List ℕ)
behind front x = (front ++ x.0, x.1)

pub field-written : (f : Field) (names : List (List ℕ)) → written_field f names ≡ (field_tree f.name (written_type f.schema names).0 f.field_id, (written_type f.schema names).1)
field-written f names = ap (λ (w : Writes Data). w names) (fold_out-Field (Writes Data) (Writes Data) schema_step field_step f)
