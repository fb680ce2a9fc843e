-- Written values are read as themselves.
use Rattle.std.proofs.Common.{◌≡◌, ℕ, ℤ, List, [], ◌∷◌, map, Bool, Option, Some, None, refl, sym, ap, ◌∙◌}
use Rattle.std.specs.Option.{option_map}
use Rattle.avro_datum.specs.declared.datum.Datum.{Datum, out-Datum}
use Rattle.avro_datum.specs.declared.datum.Datum.TheOpen.{Datum-F}
use Rattle.avro_datum.specs.declared.datum.Datum.TheVariants.{Null, Bool as Truth, Int, Long, Blob, Str, List as Array, Branch, outs-Null, outs-Bool, outs-Int, outs-Long, outs-Blob, outs-Str, outs-List, outs-Branch, Fields, outs-Fields}
use Rattle.manifest_cells.specs.Cells.{Cell, single, records, plain, inside, not_null, items_in, fields_in, held, record_cells, records_in, listed, listed_as, int_long_cells, int_bytes_cells}
use Rattle.manifest_cells.specs.Written.{optional, array_of, int_long_record, int_bytes_record}

-- A value that is neither null nor in a union.
pub IsPlain : Datum → Type 0
IsPlain d = (inside d (out-Datum d) ≡ Some d) × (not_null d (out-Datum d) ≡ Some d)

pub plain_bool : (b : Bool) → IsPlain (Truth b)
unfolding IsPlain
plain_bool b = (ap (inside (Truth b)) (outs-Bool b), ap (not_null (Truth b)) (outs-Bool b))

pub plain_int : (n : ℤ) → IsPlain (Int n)
unfolding IsPlain
plain_int n = (ap (inside (Int n)) (outs-Int n), ap (not_null (Int n)) (outs-Int n))

pub plain_long : (n : ℤ) → IsPlain (Long n)
unfolding IsPlain
plain_long n = (ap (inside (Long n)) (outs-Long n), ap (not_null (Long n)) (outs-Long n))

pub plain_blob : (b : List ℕ) → IsPlain (Blob b)
unfolding IsPlain
plain_blob b = (ap (inside (Blob b)) (outs-Blob b), ap (not_null (Blob b)) (outs-Blob b))

pub plain_text : (b : List ℕ) → IsPlain (Str b)
unfolding IsPlain
plain_text b = (ap (inside (Str b)) (outs-Str b), ap (not_null (Str b)) (outs-Str b))

pub plain_array : (ds : List Datum) → IsPlain (Array ds)
unfolding IsPlain
plain_array ds = (ap (inside (Array ds)) (outs-List ds), ap (not_null (Array ds)) (outs-List ds))

-- what is held in a field that may not lack
pub held_needed : (d : Datum) → IsPlain d → Some d ≡ plain (Some d)
unfolding IsPlain plain
held_needed d p = sym p.0

-- what is held in one that may
pub held_optional : {A : Type 0} (say : A → Datum) → ((x : A) → IsPlain (say x)) → (o : Option A) → option_map say o ≡ plain (Some (optional (option_map say o)))
unfolding IsPlain plain
held_optional say p None = sym (ap (inside (Branch 0 Null)) (outs-Branch 0 Null) ∙ ap (not_null Null) outs-Null)
held_optional say p (Some x) = sym (ap (inside (Branch 1 (say x))) (outs-Branch 1 (say x)) ∙ (p x).1)

-- A column that may not lack.
pub needed : (d : Datum) → IsPlain d → single (Some d) ≡ single (plain (Some d))
needed d p = ap single (held_needed d p)

-- A column that may.
pub maybe : {A : Type 0} (say : A → Datum) → ((x : A) → IsPlain (say x)) → (o : Option A) → single (option_map say o) ≡ single (plain (Some (optional (option_map say o))))
maybe say p o = ap single (held_optional say p o)

pub conses : {A : Type 0} {x y : A} {xs ys : List A} → x ≡ y → xs ≡ ys → ◌≡◌ {A = List A} (x ∷ xs) (y ∷ ys)
conses {A = A} {x = x} {ys = ys} e f = ap (λ (zs : List A). x ∷ zs) f ∙ ap (λ (z : A). z ∷ ys) e

each : {A : Type 0} (said : A → List (Option Datum)) (record_of : A → Datum) (places : List (Option ℕ)) → ((x : A) → said x ≡ record_cells places (record_of x)) → (xs : List A) → map said xs ≡ map (record_cells places) (map record_of xs)
each said record_of places h [] = refl
each said record_of places h (x ∷ xs) = conses (h x) (each said record_of places h xs)

in_places : {A : Type 0} (said : A → List (Option Datum)) (record_of : A → Datum) (places : List (Option ℕ)) → ((x : A) → said x ≡ record_cells places (record_of x)) → (o : Option (List A)) → listed_as said o ≡ records_in places (option_map (array_of record_of) o)
in_places said record_of places h None = refl
in_places said record_of places h (Some xs) = ap (λ (cs : List (List (Option Datum))). records (Some cs)) (each said record_of places h xs) ∙ sym (ap (λ (t : Datum-F Datum). listed places (Array (map record_of xs)) (items_in t)) (outs-List (map record_of xs)))

-- A list of records that may lack.
pub maybe_list : {A : Type 0} (said : A → List (Option Datum)) (record_of : A → Datum) (places : List (Option ℕ)) → ((x : A) → said x ≡ record_cells places (record_of x)) → (o : Option (List A)) → listed_as said o ≡ records_in places (plain (Some (optional (option_map (array_of record_of) o))))
maybe_list said record_of places h o = in_places said record_of places h o ∙ ap (records_in places) (held_optional (array_of record_of) (λ xs. plain_array (map record_of xs)) o)

-- where a written record of two fields has them
unfoldable pub both : List (Option ℕ)
both = Some 0 ∷ Some 1 ∷ []

-- A pair's record holds the pair.
pub int_long_back : (p : ℤ × ℤ) → int_long_cells p ≡ record_cells both (int_long_record p)
unfolding both
int_long_back p =
    conses (held_needed (Int p.0) (plain_int p.0)) (conses (held_needed (Long p.1) (plain_long p.1)) refl)
    ∙ sym (ap (λ (t : Datum-F Datum). map (held (fields_in t)) both) (outs-Fields (Int p.0 ∷ Long p.1 ∷ [])))

pub int_bytes_back : (p : ℤ × List ℕ) → int_bytes_cells p ≡ record_cells both (int_bytes_record p)
unfolding both
int_bytes_back p =
    conses (held_needed (Int p.0) (plain_int p.0)) (conses (held_needed (Blob p.1) (plain_blob p.1)) refl)
    ∙ sym (ap (λ (t : Datum-F Datum). map (held (fields_in t)) both) (outs-Fields (Int p.0 ∷ Blob p.1 ∷ [])))
