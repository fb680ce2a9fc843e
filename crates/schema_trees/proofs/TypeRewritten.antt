-- The tree that is written for a schema spells that schema.
use Rattle.std.proofs.Common.{◌≡◌, ◌≢◌, ℕ, zero, suc, ◌+◌, ◌<◌, ◌≤◌, ◌^◌, ◌==◌, ◌&&◌, ◌++◌, max, List, [], ◌∷◌, codes, map, length, take, drop, get_or, ℤ, pos, negsuc, Bool, true, false, not, nat_lt, cond, Option, Some, None, Result, Ok, Err, IfOk, refl, sym, ap, subst, ◌∙◌, arith, rules, lit<}
use Rattle.std.proofs.lemmas.Bool.{ltb-true, ltb-false, le-ltb, ne_eqb, eq-eqb}
use Rattle.std.proofs.lemmas.Fmt.{digits_decimal, decimal_nonempty}
use Rattle.std.proofs.lemmas.List.{length-append, get_or_append_left}
use Rattle.std.proofs.lemmas.List.Sums.{position_or_len_is}
use Rattle.std.proofs.lemmas.Str.Parse.{numerals_by_value, tells_digits, not_in_digits}
use Rattle.std.proofs.Math.Seq.{take-append_seam, drop-append-add, get_or-append_seam}
use Rattle.std.specs.Fmt.{decimal}
use Rattle.std.specs.List.{before_first, after_first, position_or_len}
use Rattle.std.specs.Option.{option_or}
use Rattle.std.specs.Str.{bytes_eq}
use Rattle.std.specs.Str.Parse.{AllDigits}
use Rattle.serde_json.specs.Data.{Data, string}
use Rattle.serde_json.specs.View.{view, items_of}
use Rattle.serde_json.specs.declared.value.Value.{Value}
use Rattle.avro_schema.specs.Attribute.{id_at}
use Rattle.schema_types.specs.declared.types.ColType.{ColType, out-ColType, roll-ColType, the_lemmas}
use Rattle.schema_types.specs.declared.types.ColType.TheViews.{roll-out-ColType}
use Rattle.schema_types.specs.declared.types.ColType.TheOpen.{ColType-F}
use Rattle.schema_types.specs.declared.types.ColType.TheVariants.{Boolean, Int, Long, Float, Double, Decimal, Date, Time, Timestamp, Timestamptz, Str, Uuid, Fixed, Binary, Struct, List as ListOf, Map, rolls-Boolean, rolls-Int, rolls-Long, rolls-Float, rolls-Double, rolls-Decimal, rolls-Date, rolls-Time, rolls-Timestamp, rolls-Timestamptz, rolls-Str, rolls-Uuid, rolls-Fixed, rolls-Binary, rolls-Struct, rolls-List, rolls-Map}
use Rattle.schema_types.specs.declared.types.Column.{Column, fold_out-Column}
use Rattle.schema_types.specs.declared.types.Schema.{Schema}
use Rattle.schema_types.specs.Depth as depth
use Rattle.schema_types.specs.Depth.{type_depth, column_depth, deepest}
use Rattle.schema_trees.specs.Spelling.{SpellsEach}
use Rattle.schema_trees.specs.TypeReading.{schema_of}
use Rattle.schema_trees.specs.TypeSpelling.{SpellsColumn, SpellsLevel, a_primitive, a_list, a_map, a_struct, SpellsWithin, SpellsSchema}
use Rattle.schema_trees.specs.TypeWords.{fixed_from, fixed_of, decimal_from, behind_space, numbers_of, decimal_of, plain, primitive}
use Rattle.schema_trees.specs.TypeWriting.{fixed_text, decimal_text, struct_tree, list_tree, map_tree, column_object, type_step, column_step, type_tree, column_tree, written_schema, is_int, all_hold, type_fit_step, column_fit_step, type_fits, column_fits, IsSchema}
use Rattle.schema_trees.specs.Words.{number_of, number_before}
use Rattle.schema_trees.specs.Writing.{IsInt}
use Rattle.schema_trees.proofs.Rewritten.{int_back}
use Rattle.schema_trees.proofs.TypeAgain.{schema_again}
use Rattle.schema_trees.proofs.TypeWordLaws.{behind_space-same}
use Rattle.schema_trees.proofs.WordLaws.{number_of-decimal, number_before-closed}

both : (a b : Bool) → (a && b) ≡ true → (a ≡ true) × (b ≡ true)
both true b e = (refl, e)
both false b e = absurd cc

not_true : (b : Bool) → not b ≡ true → b ≡ false
not_true true e = absurd cc
not_true false e = refl

in_range : (z : ℤ) → is_int z ≡ true → IsInt z
in_range (pos n) e = ltb-true n (2 ^ 31) e
in_range (negsuc n) e = ltb-true n (2 ^ 31) e

-- Decimal digits, and a character behind them.

-- no decimal digit is this character
no_digit : (n c : ℕ) → n < 2 ^ 64 → c < 48 → (i : ℕ) → i < length (decimal n) → get_or (decimal n) i 0 ≢ c
no_digit n c h low i within = not_in_digits (numerals_by_value (AllDigits 10) tells_digits) (decimal n) c (digits_decimal (numerals_by_value (AllDigits 10) tells_digits) n h) (λ in_range. omega (arith, in_range, low)) i within

module _ (n c : ℕ) (rest : List ℕ) (h : n < 2 ^ 64) (low : c < 48) where
  position-digits : position_or_len (λ b. b == c) (decimal n ++ (c ∷ rest)) ≡ length (decimal n)
  position-digits =
      let long : length (decimal n ++ (c ∷ rest)) ≡ length (decimal n) + length (c ∷ rest) = length-append (decimal n) (c ∷ rest) in
      position_or_len_is (λ b. b == c) (decimal n ++ (c ∷ rest)) (length (decimal n)) 0 (omega (arith, long))
      (λ k within. ap (λ b. b == c) (get_or_append_left (decimal n) (c ∷ rest) 0 k within) ∙ ne_eqb (get_or (decimal n) k 0) c (no_digit n c h low k within))
      (λ within. ap (λ b. b == c) (get_or-append_seam (decimal n) c rest 0) ∙ eq-eqb c c refl)

  before-digits : before_first (λ b. b == c) (decimal n ++ (c ∷ rest)) ≡ decimal n
  before-digits = ap (λ k. take k (decimal n ++ (c ∷ rest))) position-digits ∙ take-append_seam (decimal n) (c ∷ rest)

  after-digits : after_first (λ b. b == c) (decimal n ++ (c ∷ rest)) ≡ rest
  after-digits = ap (λ k. drop (k + 1) (decimal n ++ (c ∷ rest))) position-digits ∙ drop-append-add (decimal n) (c ∷ rest) 1

digits-no_space : (n : ℕ) (rest : List ℕ) → n < 2 ^ 64 → behind_space (decimal n ++ rest) ≡ decimal n ++ rest
digits-no_space n rest h = behind_space-same (decimal n ++ rest) (λ more same.
    no_digit n 32 h (lit< tt) 0 (decimal_nonempty n h) (sym (get_or_append_left (decimal n) rest 0 0 (decimal_nonempty n h)) ∙ ap (λ t. get_or t 0 0) same))

numbers-back : (p s : ℕ) → p < 2 ^ 32 → s < 2 ^ 32 → numbers_of (decimal p ++ (44 ∷ (decimal s ++ (41 ∷ [])))) ≡ decimal_from (Some p) (Some s)
unfolding numbers_of
numbers-back p s hp hs =
    let wide_p : p < 2 ^ 64 = omega (arith, hp) in
    let wide_s : s < 2 ^ 64 = omega (arith, hs) in
    let t : List ℕ = decimal p ++ (44 ∷ (decimal s ++ (41 ∷ []))) in
    ap (λ w. decimal_from (number_of w) (number_before 41 (behind_space (after_first (λ b. b == 44) t)))) (before-digits p 44 (decimal s ++ (41 ∷ [])) wide_p (lit< tt))
    ∙ ap (λ w. decimal_from (number_of (decimal p)) (number_before 41 (behind_space w))) (after-digits p 44 (decimal s ++ (41 ∷ [])) wide_p (lit< tt))
    ∙ ap (λ w. decimal_from (number_of (decimal p)) (number_before 41 w)) (digits-no_space s (41 ∷ []) wide_s)
    ∙ ap (λ o. decimal_from o (number_before 41 (decimal s ++ (41 ∷ [])))) (number_of-decimal p hp)
    ∙ ap (decimal_from (Some p)) (number_before-closed 41 (decimal s) ∙ number_of-decimal s hs)

other_word : (word : List ℕ) (o : Option ℕ) → bytes_eq word (codes "fixed") ≡ false → fixed_from word o ≡ None
other_word word None e = refl
other_word word (Some n) e = ap (λ b. cond b (Some (Fixed n)) None) e

-- what stands before a character begins as the text does
first_kept : (c b : ℕ) (t : List ℕ) → (b == c) ≡ false → before_first (λ x. x == c) (b ∷ t) ≡ b ∷ before_first (λ x. x == c) t
first_kept c b t other =
    let one_more : 1 + position_or_len (λ x. x == c) t ≡ suc (position_or_len (λ x. x == c) t) = omega arith in
    ap (λ e. take (cond (not e) (1 + position_or_len (λ x. x == c) t) 0) (b ∷ t)) other ∙ ap (λ k. take k (b ∷ t)) one_more

no_fixed : (rest : List ℕ) → fixed_of (100 ∷ rest) ≡ None
unfolding fixed_of
no_fixed rest = other_word (before_first (λ b. b == 91) (100 ∷ rest)) (number_before 93 (after_first (λ b. b == 91) (100 ∷ rest))) (ap (λ w. bytes_eq w (codes "fixed")) (first_kept 91 100 rest refl))

decimal-back : (p s : ℕ) → p ≤ 38 → s < 2 ^ 32 → primitive (decimal_text p s) ≡ Some (Decimal p s)
unfolding primitive plain decimal_of decimal_text
decimal-back p s hp hs =
    let small : p < 2 ^ 32 = omega (arith, hp) in
    let numbers : List ℕ = decimal p ++ (44 ∷ (decimal s ++ (41 ∷ []))) in
    ap (λ o. option_or o (numbers_of numbers)) (no_fixed (codes "ecimal(" ++ numbers))
    ∙ numbers-back p s small hs ∙ ap (λ b. cond b None (Some (Decimal p s))) (le-ltb 38 p hp)

fixed-back : (n : ℕ) → n < 2 ^ 32 → primitive (fixed_text n) ≡ Some (Fixed n)
unfolding primitive plain fixed_of fixed_text
fixed-back n h = ap (λ o. option_or (fixed_from (codes "fixed") o) (decimal_of (fixed_text n))) (number_before-closed 93 (decimal n) ∙ number_of-decimal n h)

-- Trees of types.

tree-Struct : (cs : List Column) → type_tree (Struct cs) ≡ struct_tree (map column_tree cs)
tree-Struct cs = search (rules, the_lemmas)

tree-List : (id : ℤ) (required : Bool) (t : ColType) → type_tree (ListOf id required t) ≡ list_tree id required (type_tree t)
tree-List id required t = search (rules, the_lemmas)

tree-Map : (key_id : ℤ) (key : ColType) (value_id : ℤ) (required : Bool) (value : ColType) → type_tree (Map key_id key value_id required value) ≡ map_tree key_id (type_tree key) value_id required (type_tree value)
tree-Map key_id key value_id required value = search (rules, the_lemmas)

fits-Struct : (cs : List Column) → type_fits (Struct cs) ≡ all_hold (map column_fits cs)
fits-Struct cs = search (rules, the_lemmas)

fits-List : (id : ℤ) (required : Bool) (t : ColType) → type_fits (ListOf id required t) ≡ (is_int id && type_fits t)
fits-List id required t = search (rules, the_lemmas)

fits-Map : (key_id : ℤ) (key : ColType) (value_id : ℤ) (required : Bool) (value : ColType) → type_fits (Map key_id key value_id required value) ≡ ((is_int key_id && type_fits key) && (is_int value_id && type_fits value))
fits-Map key_id key value_id required value = search (rules, the_lemmas)

fits-Decimal : (p s : ℕ) → type_fits (Decimal p s) ≡ (not (nat_lt 38 p) && nat_lt s (2 ^ 32))
fits-Decimal p s = search (rules, the_lemmas)

fits-Fixed : (n : ℕ) → type_fits (Fixed n) ≡ nat_lt n (2 ^ 32)
fits-Fixed n = search (rules, the_lemmas)

depth-Struct : (cs : List Column) → type_depth (Struct cs) ≡ suc (deepest (map column_depth cs))
depth-Struct cs = search (rules, the_lemmas)

depth-List : (id : ℤ) (required : Bool) (t : ColType) → type_depth (ListOf id required t) ≡ suc (type_depth t)
depth-List id required t = search (rules, the_lemmas)

depth-Map : (key_id : ℤ) (key : ColType) (value_id : ℤ) (required : Bool) (value : ColType) → type_depth (Map key_id key value_id required value) ≡ suc (max (type_depth key) (type_depth value))
depth-Map key_id key value_id required value = search (rules, the_lemmas)

tree-Boolean : type_tree Boolean ≡ string (codes "boolean")
tree-Boolean = search (rules, the_lemmas)

tree-Int : type_tree Int ≡ string (codes "int")
tree-Int = search (rules, the_lemmas)

tree-Long : type_tree Long ≡ string (codes "long")
tree-Long = search (rules, the_lemmas)

tree-Float : type_tree Float ≡ string (codes "float")
tree-Float = search (rules, the_lemmas)

tree-Double : type_tree Double ≡ string (codes "double")
tree-Double = search (rules, the_lemmas)

tree-Decimal : (p s : ℕ) → type_tree (Decimal p s) ≡ string (decimal_text p s)
tree-Decimal p s = search (rules, the_lemmas)

tree-Date : type_tree Date ≡ string (codes "date")
tree-Date = search (rules, the_lemmas)

tree-Time : type_tree Time ≡ string (codes "time")
tree-Time = search (rules, the_lemmas)

tree-Timestamp : type_tree Timestamp ≡ string (codes "timestamp")
tree-Timestamp = search (rules, the_lemmas)

tree-Timestamptz : type_tree Timestamptz ≡ string (codes "timestamptz")
tree-Timestamptz = search (rules, the_lemmas)

tree-Str : type_tree Str ≡ string (codes "string")
tree-Str = search (rules, the_lemmas)

tree-Uuid : type_tree Uuid ≡ string (codes "uuid")
tree-Uuid = search (rules, the_lemmas)

tree-Fixed : (n : ℕ) → type_tree (Fixed n) ≡ string (fixed_text n)
tree-Fixed n = search (rules, the_lemmas)

tree-Binary : type_tree Binary ≡ string (codes "binary")
tree-Binary = search (rules, the_lemmas)

column-tree : (c : Column) → column_tree c ≡ column_object c.id c.name c.required (type_tree c.ty)
column-tree c = fold_out-Column Data Data type_step column_step c

column-fits : (c : Column) → column_fits c ≡ (is_int c.id && type_fits c.ty)
column-fits c = fold_out-Column Bool Bool type_fit_step column_fit_step c

column-depth : (c : Column) → column_depth c ≡ type_depth c.ty
column-depth c = fold_out-Column ℕ ℕ depth.type_step depth.column_step c

-- the left one of two is no deeper than the deeper one
left_max : (m n k : ℕ) → max m n ≤ k → m ≤ k
left_max m n k h = grind arith

right_max : (m n k : ℕ) → max m n ≤ k → n ≤ k
right_max m n k h = grind arith

abbrev Told : ℕ → ColType → Type 0
Told n t = SpellsWithin n (type_tree t) t

module _ (left : ℕ) (told : (u : ColType) → type_depth u ≤ left → type_fits u ≡ true → Told left u) where
  abbrev Level : Data → ColType → Type 0
  Level = SpellsLevel (SpellsWithin left)

  object_spelled : (c : Column) → IsInt c.id → Told left c.ty → SpellsColumn (SpellsWithin left) (column_object c.id c.name c.required (type_tree c.ty)) c
  unfolding column_object id_at
  object_spelled c id spells = record { is_id = int_back c.id id; is_name = refl; is_required = refl; type = type_tree c.ty; is_type = refl; spells = spells }

  column_spelled : (c : Column) → column_depth c ≤ left → column_fits c ≡ true → SpellsColumn (SpellsWithin left) (column_tree c) c
  column_spelled c shallow fits =
      let parts = both (is_int c.id) (type_fits c.ty) (sym (column-fits c) ∙ fits) in
      subst (λ d. SpellsColumn (SpellsWithin left) d c) (sym (column-tree c)) (object_spelled c (in_range c.id parts.0) (told c.ty (rw (column-depth c) at shallow) parts.1))

  columns_spelled : (cs : List Column) → deepest (map column_depth cs) ≤ left → all_hold (map column_fits cs) ≡ true → SpellsEach (SpellsColumn (SpellsWithin left)) (items_of (map column_tree cs)) cs
  columns_spelled [] shallow fits = tt
  columns_spelled (c ∷ cs) shallow fits =
      let parts = both (column_fits c) (all_hold (map column_fits cs)) fits in
      (column_spelled c (left_max (column_depth c) (deepest (map column_depth cs)) left shallow) parts.0, columns_spelled cs (right_max (column_depth c) (deepest (map column_depth cs)) left shallow) parts.1)

  struct_spelled : (cs : List Column) → SpellsEach (SpellsColumn (SpellsWithin left)) (items_of (map column_tree cs)) cs → Level (struct_tree (map column_tree cs)) (Struct cs)
  unfolding struct_tree
  struct_spelled cs spelled = a_struct (items_of (map column_tree cs)) cs refl refl spelled refl

  list_spelled : (id : ℤ) (required : Bool) (u : ColType) → IsInt id → Told left u → Level (list_tree id required (type_tree u)) (ListOf id required u)
  unfolding list_tree id_at
  list_spelled id required u fits spelled = a_list (type_tree u) u id required refl refl spelled (int_back id fits) refl refl

  map_spelled : (key_id : ℤ) (key : ColType) (value_id : ℤ) (required : Bool) (value : ColType) → IsInt key_id → IsInt value_id → Told left key → Told left value
      → Level (map_tree key_id (type_tree key) value_id required (type_tree value)) (Map key_id key value_id required value)
  unfolding map_tree id_at
  map_spelled key_id key value_id required value key_fits value_fits key_spelled value_spelled =
      a_map (type_tree key) (type_tree value) key value key_id value_id required refl refl key_spelled (int_back key_id key_fits) refl value_spelled (int_back value_id value_fits) refl refl

  -- what is told of a type, told of one that is equal
  at : (t u : ColType) (d : Data) → t ≡ u → type_tree u ≡ d → Level d u → Level (type_tree t) t
  at t u d e tree spelled = subst (λ v. Level (type_tree v) v) (sym e) (subst (λ x. Level x u) (sym tree) spelled)

  named : (t u : ColType) (word : List ℕ) → t ≡ u → type_tree u ≡ string word → primitive word ≡ Some u → Level (type_tree t) t
  named t u word e tree names = at t u (string word) e tree (a_primitive word refl names)

  -- a list or a struct or a map that is no deeper than the level
  inner_depth : (t u : ColType) (n : ℕ) → type_depth t ≤ suc left → t ≡ u → type_depth u ≡ suc n → n ≤ left
  inner_depth t u n h e is = let whole : type_depth t ≡ suc n = ap type_depth e ∙ is in omega (arith, h, whole)

  kinds : (t : ColType) → type_depth t ≤ suc left → type_fits t ≡ true → Level (type_tree t) t
  unfolding primitive plain
  kinds t shallow fits = elim (out-ColType t) as (λ o. roll-ColType o ≡ t → Level (type_tree t) t) [
    | ColType-F.Boolean ↦ λ e. named t Boolean (codes "boolean") (sym e ∙ rolls-Boolean) tree-Boolean refl
    | ColType-F.Int ↦ λ e. named t Int (codes "int") (sym e ∙ rolls-Int) tree-Int refl
    | ColType-F.Long ↦ λ e. named t Long (codes "long") (sym e ∙ rolls-Long) tree-Long refl
    | ColType-F.Float ↦ λ e. named t Float (codes "float") (sym e ∙ rolls-Float) tree-Float refl
    | ColType-F.Double ↦ λ e. named t Double (codes "double") (sym e ∙ rolls-Double) tree-Double refl
    | ColType-F.Decimal p s ↦ λ e. (
        let is : t ≡ Decimal p s = sym e ∙ rolls-Decimal p s in
        let parts = both (not (nat_lt 38 p)) (nat_lt s (2 ^ 32)) (sym (fits-Decimal p s) ∙ ap type_fits (sym is) ∙ fits) in
        named t (Decimal p s) (decimal_text p s) is (tree-Decimal p s) (decimal-back p s (ltb-false 38 p (not_true (nat_lt 38 p) parts.0)) (ltb-true s (2 ^ 32) parts.1)))
    | ColType-F.Date ↦ λ e. named t Date (codes "date") (sym e ∙ rolls-Date) tree-Date refl
    | ColType-F.Time ↦ λ e. named t Time (codes "time") (sym e ∙ rolls-Time) tree-Time refl
    | ColType-F.Timestamp ↦ λ e. named t Timestamp (codes "timestamp") (sym e ∙ rolls-Timestamp) tree-Timestamp refl
    | ColType-F.Timestamptz ↦ λ e. named t Timestamptz (codes "timestamptz") (sym e ∙ rolls-Timestamptz) tree-Timestamptz refl
    | ColType-F.Str ↦ λ e. named t Str (codes "string") (sym e ∙ rolls-Str) tree-Str refl
    | ColType-F.Uuid ↦ λ e. named t Uuid (codes "uuid") (sym e ∙ rolls-Uuid) tree-Uuid refl
    | ColType-F.Fixed n ↦ λ e. (
        let is : t ≡ Fixed n = sym e ∙ rolls-Fixed n in
        named t (Fixed n) (fixed_text n) is (tree-Fixed n) (fixed-back n (ltb-true n (2 ^ 32) (sym (fits-Fixed n) ∙ ap type_fits (sym is) ∙ fits))))
    | ColType-F.Binary ↦ λ e. named t Binary (codes "binary") (sym e ∙ rolls-Binary) tree-Binary refl
    | ColType-F.Struct cs ↦ λ e. (
        let is : t ≡ Struct cs = sym e ∙ rolls-Struct cs in
        at t (Struct cs) (struct_tree (map column_tree cs)) is (tree-Struct cs) (struct_spelled cs (columns_spelled cs (inner_depth t (Struct cs) (deepest (map column_depth cs)) shallow is (depth-Struct cs)) (sym (fits-Struct cs) ∙ ap type_fits (sym is) ∙ fits))))
    | ColType-F.List id required u ↦ λ e. (
        let is : t ≡ ListOf id required u = sym e ∙ rolls-List id required u in
        let parts = both (is_int id) (type_fits u) (sym (fits-List id required u) ∙ ap type_fits (sym is) ∙ fits) in
        at t (ListOf id required u) (list_tree id required (type_tree u)) is (tree-List id required u) (list_spelled id required u (in_range id parts.0) (told u (inner_depth t (ListOf id required u) (type_depth u) shallow is (depth-List id required u)) parts.1)))
    | ColType-F.Map key_id key value_id required value ↦ λ e. (
        let whole : ColType = Map key_id key value_id required value in
        let is : t ≡ whole = sym e ∙ rolls-Map key_id key value_id required value in
        let halves = both (is_int key_id && type_fits key) (is_int value_id && type_fits value) (sym (fits-Map key_id key value_id required value) ∙ ap type_fits (sym is) ∙ fits) in
        let keys = both (is_int key_id) (type_fits key) halves.0 in
        let values = both (is_int value_id) (type_fits value) halves.1 in
        let within = inner_depth t whole (max (type_depth key) (type_depth value)) shallow is (depth-Map key_id key value_id required value) in
        at t whole (map_tree key_id (type_tree key) value_id required (type_tree value)) is (tree-Map key_id key value_id required value)
        (map_spelled key_id key value_id required value (in_range key_id keys.0) (in_range value_id values.0)
        (told key (left_max (type_depth key) (type_depth value) left within) keys.1) (told value (right_max (type_depth key) (type_depth value) left within) values.1)))
  ] (roll-out-ColType t)

-- each type has a depth
positive : (t : ColType) → 1 ≤ type_depth t
positive t = elim (out-ColType t) as (λ o. roll-ColType o ≡ t → 1 ≤ type_depth t) [
  | ColType-F.Boolean ↦ λ e. at t Boolean 0 (sym e ∙ rolls-Boolean) (search (rules, the_lemmas))
  | ColType-F.Int ↦ λ e. at t Int 0 (sym e ∙ rolls-Int) (search (rules, the_lemmas))
  | ColType-F.Long ↦ λ e. at t Long 0 (sym e ∙ rolls-Long) (search (rules, the_lemmas))
  | ColType-F.Float ↦ λ e. at t Float 0 (sym e ∙ rolls-Float) (search (rules, the_lemmas))
  | ColType-F.Double ↦ λ e. at t Double 0 (sym e ∙ rolls-Double) (search (rules, the_lemmas))
  | ColType-F.Decimal p s ↦ λ e. at t (Decimal p s) 0 (sym e ∙ rolls-Decimal p s) (search (rules, the_lemmas))
  | ColType-F.Date ↦ λ e. at t Date 0 (sym e ∙ rolls-Date) (search (rules, the_lemmas))
  | ColType-F.Time ↦ λ e. at t Time 0 (sym e ∙ rolls-Time) (search (rules, the_lemmas))
  | ColType-F.Timestamp ↦ λ e. at t Timestamp 0 (sym e ∙ rolls-Timestamp) (search (rules, the_lemmas))
  | ColType-F.Timestamptz ↦ λ e. at t Timestamptz 0 (sym e ∙ rolls-Timestamptz) (search (rules, the_lemmas))
  | ColType-F.Str ↦ λ e. at t Str 0 (sym e ∙ rolls-Str) (search (rules, the_lemmas))
  | ColType-F.Uuid ↦ λ e. at t Uuid 0 (sym e ∙ rolls-Uuid) (search (rules, the_lemmas))
  | ColType-F.Fixed n ↦ λ e. at t (Fixed n) 0 (sym e ∙ rolls-Fixed n) (search (rules, the_lemmas))
  | ColType-F.Binary ↦ λ e. at t Binary 0 (sym e ∙ rolls-Binary) (search (rules, the_lemmas))
  | ColType-F.Struct cs ↦ λ e. at t (Struct cs) (deepest (map column_depth cs)) (sym e ∙ rolls-Struct cs) (depth-Struct cs)
  | ColType-F.List id required u ↦ λ e. at t (ListOf id required u) (type_depth u) (sym e ∙ rolls-List id required u) (depth-List id required u)
  | ColType-F.Map key_id key value_id required value ↦ λ e. at t (Map key_id key value_id required value) (max (type_depth key) (type_depth value)) (sym e ∙ rolls-Map key_id key value_id required value) (depth-Map key_id key value_id required value)
] (roll-out-ColType t)
  where
    at : (v u : ColType) (n : ℕ) → v ≡ u → type_depth u ≡ suc n → 1 ≤ type_depth v
    at v u n e is = let whole : type_depth v ≡ suc n = ap type_depth e ∙ is in omega (arith, whole)

type_spelled : (n : ℕ) (t : ColType) → type_depth t ≤ n → type_fits t ≡ true → Told n t
unfolding SpellsWithin
type_spelled zero t shallow fits = absurd (let some = positive t in omega (arith, shallow, some))
type_spelled (suc left) t shallow fits = kinds left (type_spelled left) t shallow fits

pub schema_spelled : (s : Schema) → IsSchema s → SpellsSchema (written_schema s) s
unfolding written_schema id_at
schema_spelled s h = record {
  is_struct = refl;
  is_schema_id = int_back s.id h.id;
  items = items_of (map column_tree s.columns);
  are_fields = refl;
  spelled = columns_spelled 128 (type_spelled 128) s.columns h.is_shallow h.fit;
  are_new = h.are_new;
}

pub schema_spelled_of : {E : Type 0} (s : Schema) (r : Result Value E) → IfOk r (λ v. view v ≡ written_schema s) → IfOk r (λ v. IsSchema s → SpellsSchema (view v) s)
schema_spelled_of s (Ok v) e = λ w. subst (λ d. SpellsSchema d s) (sym e) (schema_spelled s w)
schema_spelled_of s (Err e) is = tt

pub schema_again_of : {E : Type 0} (s : Schema) (r : Result Value E) → IfOk r (λ v. view v ≡ written_schema s) → IfOk r (λ v. IsSchema s → schema_of (view v) ≡ Ok s)
schema_again_of s (Ok v) e = λ w. schema_again (view v) s (subst (λ d. SpellsSchema d s) (sym e) (schema_spelled s w))
schema_again_of s (Err e) is = tt
