-- Written partitions are read as themselves.
use Rattle.std.proofs.Common.{◌≡◌, ℕ, ℤ, zero, suc, List, [], ◌∷◌, map, drop, Bool, true, false, Option, Some, None, refl, sym, ap, ◌∙◌, if◌then◌else◌}
use Rattle.std.specs.Option.{option_map}
use Rattle.std.specs.List.{slice_get}
use Rattle.avro_datum.specs.declared.datum.Datum.{Datum, out-Datum}
use Rattle.avro_datum.specs.declared.datum.Datum.TheOpen.{Datum-F}
use Rattle.avro_datum.specs.declared.datum.Datum.TheVariants.{Null, Int, Long, Fields, Branch, outs-Null, outs-Int, outs-Long, outs-Fields, outs-Branch}
use Rattle.manifest_cells.specs.Cells.{plain, inside, not_null, held, fields_in}
use Rattle.manifest_cells.specs.Written.{optional}
use Rattle.manifest_files.specs.declared.partition.PartSlot.{PartSlot}
use Rattle.manifest_files.specs.Partitions.{consed, all_there, scalar, part_value, part_in, partition_of, partition_in, written_scalar, written_value, written_partition, written_parts}

-- A value is written and read again as itself.
IsBack : PartSlot → Datum → Type 0
IsBack slot v = part_value slot (plain (Some (written_value v))) ≡ Some v

null_back : (slot : PartSlot) → IsBack slot Null
unfolding IsBack plain
null_back slot =
    ap (λ t. part_value slot (plain (Some (optional (written_scalar (scalar false Null t)))))) outs-Null
    ∙ ap (λ t. part_value slot (plain (Some (optional (not_null Null t))))) outs-Null
    ∙ ap (λ t. part_value slot (inside (Branch 0 Null) t)) (outs-Branch 0 Null)
    ∙ ap (λ t. part_value slot (not_null Null t)) outs-Null

value_back : (slot : PartSlot) (v : Datum) → slot.is_void ≡ false → scalar false v (out-Datum v) ≡ Some v → not_null v (out-Datum v) ≡ Some v → scalar slot.is_long v (out-Datum v) ≡ Some v → IsBack slot v
unfolding IsBack plain
value_back slot v void a b c =
    ap (λ o. part_value slot (plain (Some (optional (written_scalar o))))) a
    ∙ ap (λ o. part_value slot (plain (Some (optional o)))) b
    ∙ ap (λ t. part_value slot (inside (Branch 1 v) t)) (outs-Branch 1 v)
    ∙ ap (part_value slot) b
    ∙ ap (λ x. if x then Some Null else scalar slot.is_long v (out-Datum v)) void
    ∙ c

by_width : (slot : PartSlot) (n : ℤ) (b : Bool) → slot.is_void ≡ false → slot.is_long ≡ b → IsBack slot (if b then Long n else Int n)
by_width slot n true void e = value_back slot (Long n) void (ap (scalar false (Long n)) (outs-Long n)) (ap (not_null (Long n)) (outs-Long n)) (ap (scalar slot.is_long (Long n)) (outs-Long n))
by_width slot n false void e = value_back slot (Int n) void (ap (scalar false (Int n)) (outs-Int n)) (ap (not_null (Int n)) (outs-Int n)) (ap (scalar slot.is_long (Int n)) (outs-Int n) ∙ ap (λ (b : Bool). Some (if b then Long n else Int n)) e)

same : {A : Type 0} {x y : A} → Some x ≡ Some y → x ≡ y
same e = cc

-- the same, whatever it was read of
of_shape : (slot : PartSlot) (d v : Datum) (t : Datum-F Datum) → slot.is_void ≡ false → out-Datum d ≡ t → scalar slot.is_long d t ≡ Some v → IsBack slot v
of_shape slot d v Datum-F.Null void e h = rw (sym (same h)) (null_back slot)
of_shape slot d v (Datum-F.Int n) void e h = rw (sym (same h)) (by_width slot n slot.is_long void refl)
of_shape slot d v (Datum-F.List ds) void e h = absurd cc
of_shape slot d v (Datum-F.Pairs ps) void e h = absurd cc
of_shape slot d v (Datum-F.Fields ds) void e h = absurd cc
of_shape slot d v (Datum-F.Branch n inner) void e h = absurd cc
of_shape slot d v t void e h = rw (sym (same h)) (value_back slot d void (ap (scalar false d) e) (ap (not_null d) e) (ap (scalar slot.is_long d) e))

by_void : (slot : PartSlot) (d v : Datum) (b : Bool) → slot.is_void ≡ b → (if b then Some Null else scalar slot.is_long d (out-Datum d)) ≡ Some v → IsBack slot v
by_void slot d v true e h = rw (sym (same h)) (null_back slot)
by_void slot d v false e h = of_shape slot d v (out-Datum d) e refl h

-- A value that was read is written and read again as itself.
found_back : (slot : PartSlot) (o : Option Datum) (v : Datum) → part_value slot o ≡ Some v → IsBack slot v
found_back slot None v h = rw (sym (same h)) (null_back slot)
found_back slot (Some d) v h = by_void slot d v slot.is_void refl h

-- What is there of a list is its first item and the others.
record IsThere (A : Type 0) (o : Option A) (os : Option (List A)) (xs : List A) : Type 0 where
  pub first : A
  pub rest : List A
  pub is_first : o ≡ Some first
  pub is_rest : os ≡ Some rest
  pub is_all : xs ≡ first ∷ rest

there : {A : Type 0} (o : Option A) (os : Option (List A)) (xs : List A) → consed o os ≡ Some xs → IsThere A o os xs
there None os xs e = absurd cc
there (Some x) None xs e = absurd cc
there (Some x) (Some ys) xs e = record { first = x; rest = ys; is_first = refl; is_rest = refl; is_all = sym (same e) }

at_place : (ws : List Datum) (n : ℕ) (d : Datum) (ds : List Datum) → drop n ws ≡ d ∷ ds → slice_get ws n ≡ Some d
at_place [] zero d ds e = absurd cc
at_place [] (suc n) d ds e = absurd cc
at_place (w ∷ ws) zero d ds e = cc
at_place (w ∷ ws) (suc n) d ds e = at_place ws n d ds e

next_place : (ws : List Datum) (n : ℕ) (d : Datum) (ds : List Datum) → drop n ws ≡ d ∷ ds → drop (suc n) ws ≡ ds
next_place [] zero d ds e = absurd cc
next_place [] (suc n) d ds e = absurd cc
next_place (w ∷ ws) zero d ds e = cc
next_place (w ∷ ws) (suc n) d ds e = next_place ws n d ds e

-- All values are read again, from this place on.
values_back : (slots : List PartSlot) (ds vs ws : List Datum) (n : ℕ) → all_there (map (part_in ds) slots) ≡ Some vs → drop n ws ≡ map written_value vs → all_there (map (part_in ws) (written_parts n slots)) ≡ Some vs
unfolding IsBack
values_back [] ds vs ws n e at = e
values_back (slot ∷ slots) ds vs ws n e at =
    let t : IsThere Datum (part_in ds slot) (all_there (map (part_in ds) slots)) vs = there (part_in ds slot) (all_there (map (part_in ds) slots)) vs e in
    let from_here : drop n ws ≡ written_value t.first ∷ map written_value t.rest = at ∙ ap (map written_value) t.is_all in
    let others : all_there (map (part_in ws) (written_parts (suc n) slots)) ≡ Some t.rest = values_back slots ds t.rest ws (suc n) t.is_rest (next_place ws n _ _ from_here) in
    let here : part_value slot (held ws (Some n)) ≡ Some t.first = ap (λ o. part_value slot (plain o)) (at_place ws n _ _ from_here) ∙ found_back slot (held ds slot.place) t.first t.is_first in
    ap (λ o. consed o (all_there (map (part_in ws) (written_parts (suc n) slots)))) here ∙ ap (consed (Some t.first)) others ∙ ap Some (sym t.is_all)

-- A partition is the record of its values.
record IsRecord (slots : List PartSlot) (p : Datum) : Type 0 where
  pub fields : List Datum
  pub values : List Datum
  pub is_there : all_there (map (part_in fields) slots) ≡ Some values
  pub is_record : p ≡ Fields values

of_values : (slots : List PartSlot) (p : Datum) (ds : List Datum) (o : Option (List Datum)) → all_there (map (part_in ds) slots) ≡ o → Some p ≡ option_map (λ values. Fields values) o → IsRecord slots p
of_values slots p ds None e h = absurd cc
of_values slots p ds (Some vs) e h = record { fields = ds; values = vs; is_there = e; is_record = same h }

of_record : (slots : List PartSlot) (p : Datum) (t : Datum-F Datum) → Some p ≡ partition_of slots t → IsRecord slots p
of_record slots p (Datum-F.Fields ds) h = of_values slots p ds (all_there (map (part_in ds) slots)) refl h
of_record slots p t h = absurd cc

is_record : (slots : List PartSlot) (p : Datum) (o : Option Datum) → Some p ≡ partition_in slots o → IsRecord slots p
is_record slots p None h = absurd cc
is_record slots p (Some d) h = of_record slots p (out-Datum d) h

record_back : (slots : List PartSlot) (p : Datum) → IsRecord slots p → Some p ≡ partition_in (written_parts 0 slots) (plain (Some (written_partition p)))
unfolding plain
record_back slots p r =
    let ws : List Datum = map written_value (fields_in (out-Datum p)) in
    let fields : fields_in (out-Datum p) ≡ r.values = ap (λ d. fields_in (out-Datum d)) r.is_record ∙ ap fields_in (outs-Fields r.values) in
    let again : all_there (map (part_in ws) (written_parts 0 slots)) ≡ Some r.values = values_back slots r.fields r.values ws 0 r.is_there (ap (map written_value) fields) in
    ap Some r.is_record
    ∙ sym (ap (λ o. option_map (λ values. Fields values) o) again)
    ∙ sym (ap (partition_of (written_parts 0 slots)) (outs-Fields ws))
    ∙ sym (ap (λ t. partition_in (written_parts 0 slots) (inside (Fields ws) t)) (outs-Fields ws))

-- A partition that was read is written and read again as itself.
pub partition_back : (slots : List PartSlot) (p : Datum) (o : Option Datum) → Some p ≡ partition_in slots o → Some p ≡ partition_in (written_parts 0 slots) (plain (Some (written_partition p)))
partition_back slots p o h = record_back slots p (is_record slots p o h)
