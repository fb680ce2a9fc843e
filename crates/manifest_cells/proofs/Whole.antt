-- Lists of records that are read whole, or none of them.
use Rattle.std.proofs.Common.{◌≡◌, ℕ, List, [], map, Option, Some, None, sym, ap, ◌∙◌}
use Rattle.std.specs.Option.{option_map}
use Rattle.std.specs.List.{slice_get}
use Rattle.std.proofs.lemmas.Option.{slice_get-map}
use Rattle.avro_datum.specs.declared.datum.Datum.{Datum, out-Datum}
use Rattle.avro_datum.specs.declared.datum.Datum.TheOpen.{Datum-F}
use Rattle.avro_datum.specs.declared.datum.Datum.TheVariants.{List as Array, outs-List}
use Rattle.manifest_cells.specs.Cells.{Cell, single, records, listed_as}

none_of_it : {A B : Type 0} (said : A → B) (o : Option A) (b : B) → ((x : A) → said x ≡ b → ⊥) → option_map said o ≡ Some b → ⊥
none_of_it said (Some x) b not h = not x cc
none_of_it said None b not h = absurd cc

-- no list is what these items are, one of which nothing is
pub no_list : {A B C : Type 0} (said : A → B) (f : C → B) (ds : List C) (n : ℕ) (d : C) → slice_get ds n ≡ Some d → ((x : A) → said x ≡ f d → ⊥) → (xs : List A) → map said xs ≡ map f ds → ⊥
no_list {B = B} said f ds n d at not xs e = none_of_it said (slice_get xs n) (f d) not (sym (slice_get-map said xs n) ∙ ap (λ (ys : List B). slice_get ys n) e ∙ slice_get-map f ds n ∙ ap (λ o. option_map f o) at)

-- no list is these items, one of which nothing is
pub no_items : {A B : Type 0} (said : A → B) (bs : List B) (n : ℕ) (b : B) → slice_get bs n ≡ Some b → ((x : A) → said x ≡ b → ⊥) → (xs : List A) → map said xs ≡ bs → ⊥
no_items {B = B} said bs n b at not xs e = none_of_it said (slice_get xs n) b not (sym (slice_get-map said xs n) ∙ ap (λ (ys : List B). slice_get ys n) e ∙ at)

in_array : Datum-F Datum → List Datum
in_array (Datum-F.List ds) = ds
in_array _ = []

same_items : (xs ys : List Datum) → Array xs ≡ Array ys → xs ≡ ys
unfolding in_array
same_items xs ys e = sym (ap in_array (outs-List xs)) ∙ ap (λ (d : Datum). in_array (out-Datum d)) e ∙ ap in_array (outs-List ys)

same_value : (c d : Datum) → single (Some c) ≡ single (Some d) → c ≡ d
same_value c d e = cc

-- no array is one of these items
pub no_array : {A : Type 0} (said : A → Datum) (ds : List Datum) → ((xs : List A) → map said xs ≡ ds → ⊥) → (x : Option (List A)) → single (option_map (λ xs. Array (map said xs)) x) ≡ single (Some (Array ds)) → ⊥
no_array said ds not None h = absurd cc
no_array said ds not (Some xs) h = not xs (same_items (map said xs) ds (same_value _ _ h))

-- no list is what these records are
pub no_records : {A : Type 0} (said : A → List (Option Datum)) (cs : List (List (Option Datum))) → ((xs : List A) → map said xs ≡ cs → ⊥) → (x : Option (List A)) → listed_as said x ≡ records (Some cs) → ⊥
no_records said cs not None h = absurd cc
no_records said cs not (Some xs) h = not xs cc

-- no list of records is one value
pub no_single : {A : Type 0} (said : A → List (Option Datum)) (c : Option Datum) (x : Option (List A)) → listed_as said x ≡ single c → ⊥
no_single said c x h = absurd cc
