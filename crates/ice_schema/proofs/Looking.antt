-- What is looked through stays as it is.
use Rattle.std.proofs.Common.{◌≡◌, ℤ, List, [], ◌∷◌, map, Option, Some, refl, ap, ◌∙◌, subst, rules}
use Rattle.std.specs.Prelude.{if◌then◌else◌}
use Rattle.std.specs.Ordering.{int_eq}
use Rattle.schema_types.specs.declared.types.ColType.{ColType, the_lemmas, roll-ColType, map-ColType}
use Rattle.schema_types.specs.declared.types.ColType.TheFolds.{ind-ColType}
use Rattle.schema_types.specs.declared.types.ColType.TheOpen.{ColType-F, Column-F}
use Rattle.schema_types.specs.declared.types.Column.{Column, roll-Column, map-Column, fold_out-Column}
use Rattle.ice_schema.specs.Sources.{Looked, type_step, column_step, looked_type, looked_column}

abbrev IsKept : ℤ → ColType → Type 0
IsKept id t = (looked_type id t).0 ≡ t

abbrev IsKeptColumn : ℤ → Column → Type 0
IsKeptColumn id c = (looked_column id c).0 ≡ c

-- a type or a column, with that it is kept
abbrev KeptType : ℤ → Type 0
KeptType id = (t : ColType) × IsKept id t

abbrev KeptColumn : ℤ → Type 0
KeptColumn id = (c : Column) × IsKeptColumn id c

all_kept : (id : ℤ) (cs : List (KeptColumn id)) → map (λ c. c.0) (map (looked_column id) (map (λ c. c.0) cs)) ≡ map (λ c. c.0) cs
all_kept id [] = refl
all_kept id (c ∷ cs) = let first : (looked_column id c.0).0 ≡ c.0 = c.1 in cc (all_kept id cs)

type_kept : (id : ℤ) (y : ColType-F (KeptType id) (KeptColumn id)) → IsKept id (roll-ColType (map-ColType (KeptType id) (KeptColumn id) ColType Column (λ e. e.0) (λ e. e.0) y))
type_kept id ColType-F.Boolean = search (rules, the_lemmas)
type_kept id ColType-F.Int = search (rules, the_lemmas)
type_kept id ColType-F.Long = search (rules, the_lemmas)
type_kept id ColType-F.Float = search (rules, the_lemmas)
type_kept id ColType-F.Double = search (rules, the_lemmas)
type_kept id (ColType-F.Decimal precision scale) = search (rules, the_lemmas)
type_kept id ColType-F.Date = search (rules, the_lemmas)
type_kept id ColType-F.Time = search (rules, the_lemmas)
type_kept id ColType-F.Timestamp = search (rules, the_lemmas)
type_kept id ColType-F.Timestamptz = search (rules, the_lemmas)
type_kept id ColType-F.Str = search (rules, the_lemmas)
type_kept id ColType-F.Uuid = search (rules, the_lemmas)
type_kept id (ColType-F.Fixed length) = search (rules, the_lemmas)
type_kept id ColType-F.Binary = search (rules, the_lemmas)
type_kept id (ColType-F.Struct columns) = search (rules, the_lemmas, all_kept)
type_kept id (ColType-F.List element_id required element) = search (rules, the_lemmas, element.1)
type_kept id (ColType-F.Map key_id key value_id required value) = search (rules, the_lemmas, key.1, value.1)

column_kept : (id : ℤ) (y : Column-F (KeptType id) (KeptColumn id)) → IsKeptColumn id (roll-Column (map-Column (KeptType id) (KeptColumn id) ColType Column (λ e. e.0) (λ e. e.0) y))
column_kept id y = search (rules, the_lemmas)

pub kept : (id : ℤ) (t : ColType) → IsKept id t
kept id = ind-ColType (IsKept id) (IsKeptColumn id) (λ x y is. subst (λ z. IsKept id (roll-ColType z)) is (type_kept id y)) (λ x y is. subst (λ z. IsKeptColumn id (roll-Column z)) is (column_kept id y))

-- what is found in a column
pub found_in : (id : ℤ) (c : Column) → (looked_column id c).1 ≡ (if int_eq c.id id then Some c.ty else (looked_type id c.ty).1)
found_in id c =
    ap (λ x. x.1) (fold_out-Column Looked (Column × Option ColType) type_step (column_step id) c) ∙ ap (λ t. if int_eq c.id id then Some t else (looked_type id c.ty).1) (kept id c.ty)
