-- A type within a type nests less deep.
use Rattle.std.proofs.Common.{◌≡◌, ℕ, nat_cmp, Ordering, Less, Equal, Greater, zero, suc, ◌<◌, ◌≤◌, max, List, [], ◌∷◌, codes, Some, option_and_then, sym, ap, ◌∙◌, subst, arith}
use Rattle.std.specs.Ordering.{match_ordering}
use Rattle.std.specs.Cmp.Lexicographic.{slice_cmp}
use Rattle.serde_json.specs.Data.{Data, null, boolean, number, string, array, object, Items, no_items, item, Members, no_members, member, depth, items_depth, members_depth}
use Rattle.serde_json.specs.Find.{get, get_member, as_array}
use Rattle.schema_types.specs.declared.types.ColType.{ColType}
use Rattle.schema_types.specs.declared.types.Column.{Column}
use Rattle.schema_trees.specs.Nesting.{LimitIsEnough}
use Rattle.schema_trees.specs.Spelling.{SpellsEach}
use Rattle.schema_trees.specs.TypeSpelling.{SpellsColumn, SpellsLevel, a_primitive, a_list, a_map, a_struct, SpellsWithin}
use Rattle.schema_trees.proofs.Again.{there}

below_left : (m n k : ℕ) → k ≤ m → k ≤ max m n
below_left m n k h = grind arith

below_right : (m n k : ℕ) → k ≤ n → k ≤ max m n
below_right m n k h = grind arith

-- a member nests no deeper than the members
member_depth : (key : List ℕ) (ms : Members) (e : Data) → get_member key ms ≡ Some e → depth e ≤ members_depth ms
member_depth key no_members e is = absurd cc
member_depth key (member l x ms) e is = go (member_depth key ms e) (slice_cmp nat_cmp key l) is
  where
    go : (get_member key ms ≡ Some e → depth e ≤ members_depth ms) → (o : Ordering) → match_ordering o (get_member key ms) (Some x) (get_member key ms) ≡ Some e → depth e ≤ max (depth x) (members_depth ms)
    go rest Less f = below_right (depth x) (members_depth ms) (depth e) (rest f)
    go rest Equal f = let same : x ≡ e = cc in below_left (depth x) (members_depth ms) (depth e) (let P : Data → Type 0 = λ y. depth e ≤ depth y in subst P (sym same) (omega arith))
    go rest Greater f = below_right (depth x) (members_depth ms) (depth e) (rest f)

-- what stands in an object nests less deep
inner_depth : (key : List ℕ) (d e : Data) → get key d ≡ Some e → depth e < depth d
inner_depth key null e is = absurd cc
inner_depth key (boolean b) e is = absurd cc
inner_depth key (number n) e is = absurd cc
inner_depth key (string s) e is = absurd cc
inner_depth key (array ds) e is = absurd cc
inner_depth key (object ms) e is = let shallow : depth e ≤ members_depth ms = member_depth key ms e is in omega (arith, shallow)

-- the items of an array in an object nest less deep
items_below : (d a : Data) (ds : Items) → depth a < depth d → as_array a ≡ Some ds → items_depth ds < depth d
items_below d null ds h e = absurd cc
items_below d (boolean b) ds h e = absurd cc
items_below d (number n) ds h e = absurd cc
items_below d (string s) ds h e = absurd cc
items_below d (array xs) ds h e =
    let same : xs ≡ ds = cc in
    let less : items_depth xs < depth d = omega (arith, h) in
    subst (λ ys. items_depth ys < depth d) same less
items_below d (object ms) ds h e = absurd cc

array_depth : (key : List ℕ) (d : Data) (ds : Items) → option_and_then as_array (get key d) ≡ Some ds → items_depth ds < depth d
array_depth key d ds e =
    let found = there key d as_array ds e in
    items_below d found.0 ds (inner_depth key d found.0 found.1) (sym (ap (λ o. option_and_then as_array o) found.1) ∙ e)

module _ (P Q : Data → ColType → Type 0) (bound : ℕ) (h : (e : Data) (u : ColType) → depth e < bound → P e u → Q e u) where
  column_within : (d : Data) (c : Column) → depth d ≤ bound → SpellsColumn P d c → SpellsColumn Q d c
  column_within d c shallow s = record {
    is_id = s.is_id;
    is_name = s.is_name;
    is_required = s.is_required;
    type = s.type;
    is_type = s.is_type;
    spells = (let less : depth s.type < depth d = inner_depth (codes "type") d s.type s.is_type in h s.type c.ty (omega (arith, less, shallow)) s.spells);
  }

  each_within : (ds : Items) (cs : List Column) → items_depth ds ≤ bound → SpellsEach (SpellsColumn P) ds cs → SpellsEach (SpellsColumn Q) ds cs
  each_within no_items [] shallow s = tt
  each_within no_items (c ∷ cs) shallow s = absurd s
  each_within (item d ds) [] shallow s = absurd s
  each_within (item d ds) (c ∷ cs) shallow s =
      (column_within d c (left_of (depth d) (items_depth ds) bound shallow) s.0, each_within ds cs (right_of (depth d) (items_depth ds) bound shallow) s.1)
    where
      left_of : (m n k : ℕ) → max m n ≤ k → m ≤ k
      left_of m n k h = grind arith

      right_of : (m n k : ℕ) → max m n ≤ k → n ≤ k
      right_of m n k h = grind arith

  level_within : (d : Data) (t : ColType) → depth d ≤ bound → SpellsLevel P d t → SpellsLevel Q d t
  level_within d t shallow (a_primitive word is names) = a_primitive word is names
  level_within d t shallow (a_list e element id required is is_there spelled is_id is_required same) =
      let less : depth e < depth d = inner_depth (codes "element") d e is_there in
      a_list e element id required is is_there (h e element (omega (arith, less, shallow)) spelled) is_id is_required same
  level_within d t shallow (a_map k v key value key_id value_id required is is_key key_spelled is_key_id is_value value_spelled is_value_id is_required same) =
      let less_key : depth k < depth d = inner_depth (codes "key") d k is_key in
      let less_value : depth v < depth d = inner_depth (codes "value") d v is_value in
      a_map k v key value key_id value_id required is is_key (h k key (omega (arith, less_key, shallow)) key_spelled) is_key_id is_value (h v value (omega (arith, less_value, shallow)) value_spelled) is_value_id is_required same
  level_within d t shallow (a_struct ds columns is listed spelled same) =
      let less : items_depth ds < depth d = array_depth (codes "fields") d ds listed in
      a_struct ds columns is listed (each_within ds columns (omega (arith, less, shallow)) spelled) same

within : (n most : ℕ) (d : Data) (t : ColType) → depth d < n → SpellsWithin most d t → SpellsWithin n d t
unfolding SpellsWithin
within zero most d t shallow s = absurd (omega (arith, shallow))
within (suc n) zero d t shallow s = absurd s
within (suc n) (suc most) d t shallow s = level_within (SpellsWithin most) (SpellsWithin n) n (λ e u less inner. within n most e u less inner) d t (omega (arith, shallow)) s

pub limit_is_enough : LimitIsEnough
limit_is_enough most d t shallow s = within 128 most d t (omega (arith, shallow)) s
