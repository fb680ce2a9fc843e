-- Values that are spelled by no bytes are read in each place, and reading ends there.
use Rattle.std.proofs.Common.{◌≡◌, ℕ, zero, suc, ◌+◌, ◌<◌, ◌≤◌, List, [], ◌∷◌, length, drop, get_or, add-one, drop-cons, Ok, Err, true, false, refl, sym, ap, ◌∙◌, arith, lt-ltb}
use Rattle.std.proofs.lemmas.Bool.{le-ltb}
use Rattle.std.proofs.lemmas.List.{drop_all}
use Rattle.std.specs.Prelude.{is_ok}
use Rattle.avro_schema.specs.Form.{Form, null, boolean, int, long, float4, float8, bytes as blob, string, fixed, choice, array, pairs, fields, union, Forms, no_forms, form, form_of}
use Rattle.avro_schema.specs.declared.schema.Field.{Field}
use Rattle.avro_container.specs.LongReading.{long_at, unsigned_at, groups_at}
use Rattle.avro_container.specs.Reading.{Causes, Read, ◌>>=◌, number_at, length_at, bytes_at, blob_at, string_at, head_at, items_at, blocks_at, ahead, end_of}
use Rattle.avro_container.proofs.Ends.{end-ahead}
use Rattle.avro_pieces.specs.Pieces.{causes, int_at, position_at, bool_at}
use Rattle.avro_datum.specs.declared.datum.Datum.TheVariants.{Fix, Fields}
use Rattle.avro_datum.specs.Reading.{read, read_all}
use Rattle.avro_datum.specs.NoBytes.{takes_none, all_take_none}
use Rattle.avro_datum.proofs.Schemas.{forms, fields_next}

module _ {C A : Type 0} where
  -- reading succeeds where it has an end
  ok_at : (r : Read C A) (rest : List ℕ) → end_of r ≡ Ok rest → is_ok r ≡ true
  ok_at (Ok x) rest e = refl
  ok_at (Err d) rest e = absurd cc

  same_ok_by_end : {B : Type 0} (r : Read C A) (s : Read C B) → end_of r ≡ end_of s → is_ok r ≡ is_ok s
  same_ok_by_end (Ok x) (Ok y) e = refl
  same_ok_by_end (Ok x) (Err d) e = absurd cc
  same_ok_by_end (Err d) (Ok y) e = absurd cc
  same_ok_by_end (Err d) (Err g) e = refl

  first_ok : (r : Read C A) (more : List ℕ → Read C (List A)) → is_ok (ahead r more) ≡ true → is_ok r ≡ true
  first_ok (Ok x) more e = refl
  first_ok (Err d) more e = absurd cc

  not_ahead : (r : Read C A) (more : List ℕ → Read C (List A)) → is_ok r ≡ false → is_ok (ahead r more) ≡ false
  not_ahead (Ok x) more e = absurd cc
  not_ahead (Err d) more e = refl

  -- what was read, made into something else
  end_kept : {B : Type 0} (make : A → B) (r : Read C A) → end_of (r >>= λ x. Ok (make x.0, x.1)) ≡ end_of r
  end_kept make (Ok x) = refl
  end_kept make (Err d) = refl

  -- any number of items of no bytes
  pub items_of_none : (item : List ℕ → Read C A) (n : ℕ) (bytes : List ℕ) → end_of (item bytes) ≡ Ok bytes → end_of (items_at item n bytes) ≡ Ok bytes
  unfolding items_at
  items_of_none item zero bytes e = refl
  items_of_none item (suc n) bytes e = end-ahead (item bytes) (items_at item n) bytes e ∙ items_of_none item n bytes e

no_part : {C : Type 0} (c : Causes C) (bytes : List ℕ) → end_of (bytes_at c 0 bytes) ≡ Ok bytes
unfolding bytes_at
no_part c bytes = rw (le-ltb (length bytes) 0 (omega arith)) refl

a_part : {C : Type 0} (c : Causes C) (n : ℕ) → bytes_at c (suc n) [] ≡ Err (c.short, 0)
unfolding bytes_at
a_part c n = rw (lt-ltb 0 (suc n) (omega arith)) refl

mutual
  unfolding read bool_at int_at position_at number_at length_at bytes_at blob_at string_at head_at blocks_at long_at unsigned_at groups_at

  pub ends_there : (f : Form) (bytes : List ℕ) → takes_none f ≡ true → end_of (read f bytes) ≡ Ok bytes
  ends_there null bytes e = refl
  ends_there boolean bytes e = absurd cc
  ends_there int bytes e = absurd cc
  ends_there long bytes e = absurd cc
  ends_there float4 bytes e = absurd cc
  ends_there float8 bytes e = absurd cc
  ends_there blob bytes e = absurd cc
  ends_there string bytes e = absurd cc
  ends_there (fixed zero) bytes e = end_kept Fix (bytes_at causes 0 bytes) ∙ no_part causes bytes
  ends_there (fixed (suc n)) bytes e = absurd (let some = a_part causes n in cc)
  ends_there (choice n) bytes e = absurd cc
  ends_there (array f) bytes e = absurd cc
  ends_there (pairs f) bytes e = absurd cc
  ends_there (fields fs) bytes e = end_kept Fields (read_all fs bytes) ∙ all_end_there fs bytes (sym (same_ok_by_end _ _ (end_kept Fields (read_all fs []))) ∙ e)
  ends_there (union fs) bytes e = absurd cc

  pub all_end_there : (fs : Forms) (bytes : List ℕ) → all_take_none fs ≡ true → end_of (read_all fs bytes) ≡ Ok bytes
  all_end_there no_forms bytes e = refl
  all_end_there (form f fs) bytes e =
      let first : is_ok (read f []) ≡ true = first_ok (read f []) (read_all fs) e in
      let others : is_ok (read_all fs []) ≡ true = sym (same_ok_by_end _ _ (end-ahead (read f []) (read_all fs) [] (ends_there f [] first))) ∙ e in
      end-ahead (read f bytes) (read_all fs) bytes (ends_there f bytes first) ∙ all_end_there fs bytes others

-- Fields, one at a time.

pub fields_take_none : (fs : List Field) (i : ℕ) (f : Field) → drop i fs ≡ f ∷ drop (i + 1) fs → takes_none (form_of f.schema) ≡ true
    → all_take_none (forms (drop i fs)) ≡ all_take_none (forms (drop (i + 1) fs))
fields_take_none fs i f is none =
    ap is_ok (fields_next fs i f [] is) ∙ same_ok_by_end _ _ (end-ahead (read (form_of f.schema) []) (read_all (forms (drop (i + 1) fs))) [] (ends_there (form_of f.schema) [] none))

pub fields_take_some : (fs : List Field) (i : ℕ) (f : Field) → drop i fs ≡ f ∷ drop (i + 1) fs → takes_none (form_of f.schema) ≡ false
    → all_take_none (forms (drop i fs)) ≡ false
fields_take_some fs i f is some = ap is_ok (fields_next fs i f [] is) ∙ not_ahead (read (form_of f.schema) []) (read_all (forms (drop (i + 1) fs))) some

pub no_fields : (fs : List Field) (i : ℕ) → length fs ≤ i → all_take_none (forms (drop i fs)) ≡ true
unfolding read
no_fields fs i h = ap (λ gs. all_take_none (forms gs)) (drop_all i fs h)

pub item_at : {A : Type 0} (xs : List A) (i : ℕ) (x : A) → i < length xs → x ≡ get_or xs i x → drop i xs ≡ x ∷ drop (i + 1) xs
item_at xs i x h e = (rw add-one (drop-cons xs i x h)) ∙ ap (λ y. y ∷ drop (i + 1) xs) (sym e)
