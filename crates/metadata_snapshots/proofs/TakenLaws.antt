-- What the edit that takes snapshots away keeps: metadata stays well-formed.
use Rattle.std.proofs.Common.{◌≡◌, ℕ, suc, ℤ, ◌≤◌, map, drop, List, [], ◌∷◌, Bool, true, false, not, ◌&&◌, ◌||◌, cond, codes, bytes_eq, Option, Some, None, is_some, option_map, option_and_then, Ordering, Less, Equal, Greater, is_eq, true≢false, refl, sym, ap, ◌∙◌, arith}
use Rattle.std.specs.List.{list_any, AllByRecursion}
use Rattle.std.specs.Ordering.{nat_cmp, match_ordering}
use Rattle.std.specs.Cmp.Lexicographic.{slice_cmp}
use Rattle.std.proofs.lemmas.Slice.Eq.{bytes_eq-Decides}
use Rattle.std.proofs.lemmas.Map.Text.{is_eq-slice_cmp}
use Rattle.serde_json.specs.Data.{Data, null, boolean, number, string, array, object, Items, no_items, item, Members, no_members, member, put, depth, items_depth}
use Rattle.serde_json.specs.Find.{get, get_member, as_array, as_number, as_integer, as_object}
use Rattle.serde_json.specs.View.{items_of}
use Rattle.serde_json.specs.Written.{has_float, items_have_float}
use Rattle.metadata_json.specs.Edits.{set, object_at}
use Rattle.metadata_json.specs.Fields.{signed, list_of, items_in, items_at, members_in, members_at, signed_at}
use Rattle.metadata_json.proofs.Laws.{IsTame, AreTame, get-set, get-set_other, get-members, members-set, members-object_at, list_of-items_of, tame-member, tame-object, tame-none, tame-set, tame-get, tame-array}
use Rattle.metadata_form.specs.declared.fields.Need.TheVariants.{Optional}
use Rattle.metadata_form.specs.declared.rules.Rule.TheVariants as rule
use Rattle.metadata_form.specs.Path.{in_member, in_item}
use Rattle.metadata_form.specs.Form.{unless_minus_one, items_fault, array_fault, members_fault, object_fault}
use Rattle.metadata_form.specs.Fields.{record_fault, found_fault, rule_fault, rules_fault, metadata_rules, snapshot_fields, snapshot_log_fields, partition_statistics_fields, statistics_fault, ref_fields}
use Rattle.metadata_form.specs.Fault.{unless_2, list_fault}
use Rattle.metadata_form.proofs.FormLaws.{KeepAll, no-parts, no-both, no-within, or-false, items-in, array-items, rules-set, rules-drop, first-rule}
use Rattle.metadata_view.specs.View.{current_of, snapshots_of, snapshot_of, main_ref, refs_of, refs_in, ref_of, with_main, new_branch}
use Rattle.metadata_view.specs.Walk.{snapshot_with, has_id, first_return}
use Rattle.metadata_view.specs.Index.{first_double}
use Rattle.metadata_view.specs.Links.{is_main, main_agrees, current_fault, is_whole_ref, first_broken, refs_fault, ref_fault}
use Rattle.metadata_view.specs.declared.types.Snapshot.{Snapshot}
use Rattle.metadata_view.proofs.SoundLaws.{IsSound}
use Rattle.metadata_snapshots.specs.Conditions.{IsKept, leaves_whole}
use Rattle.metadata_snapshots.specs.Edits.{others, after_last, set_array, array_at, without_items, without_history, other_members, set_object, without_refs, without_these, is_of, has_name, without_snapshots}
use Rattle.metadata_snapshots.proofs.FieldLaws.{object-set, whole-parts, whole-on}
use Rattle.metadata_snapshots.proofs.ListLaws.{left, left_known, left_distinct, left_ends}

-- ---- what holds of each item holds of those that stay

module _ (P : Data → Type 0) where
  all-if : (b : Bool) (d : Data) (ds : List Data) → P d → AllByRecursion P ds → AllByRecursion P (cond b (d ∷ ds) ds)
  all-if true d ds p q = (p, q)
  all-if false d ds p q = q

  all-others : (gone : Data → Bool) (ds : List Data) → AllByRecursion P ds → AllByRecursion P (others gone ds)
  unfolding others
  all-others gone [] p = tt
  all-others gone (d ∷ ds) p = all-if (not (gone d)) d (others gone ds) p.0 (all-others gone ds p.1)

  all-either : (b : Bool) (xs ys : List Data) → AllByRecursion P xs → AllByRecursion P ys → AllByRecursion P (cond b xs ys)
  all-either true xs ys p q = p
  all-either false xs ys p q = q

  all-after : (gone : Data → Bool) (ds : List Data) → AllByRecursion P ds → AllByRecursion P (after_last gone ds)
  unfolding after_last
  all-after gone [] p = tt
  all-after gone (d ∷ ds) p = all-either (gone d || list_any gone ds) (after_last gone ds) (d ∷ ds) (all-after gone ds p.1) p

abbrev Keeps : (List Data → List Data) → Type 1
Keeps f = (P : Data → Type 0) (ds : List Data) → AllByRecursion P ds → AllByRecursion P (f ds)

module _ (fault : Data → Option (List ℕ)) where
  each : (i : ℕ) (ds : List Data) → items_fault fault i ds ≡ None → AllByRecursion (λ d. fault d ≡ None) ds
  each i [] h = tt
  each i (d ∷ ds) h =
      let both = no-parts (option_map (in_item i) (fault d)) (items_fault fault (suc i) ds) h in
      (no-within (in_item i) (fault d) both.0, each (suc i) ds both.1)

  none : (i : ℕ) (ds : List Data) → AllByRecursion (λ d. fault d ≡ None) ds → items_fault fault i ds ≡ None
  none i [] h = refl
  none i (d ∷ ds) h = no-both _ _ (ap (option_map (in_item i)) h.0) (none (suc i) ds h.1)

  pub none-others : (gone : Data → Bool) (ds : List Data) → items_fault fault 0 ds ≡ None → items_fault fault 0 (others gone ds) ≡ None
  none-others gone ds h = none 0 (others gone ds) (all-others (λ d. fault d ≡ None) gone ds (each 0 ds h))

all-tame : (n : ℕ) (ds : Items) → items_have_float ds ≡ false → items_depth ds ≤ n → AllByRecursion (IsTame n) (list_of ds)
all-tame n no_items p q = tt
all-tame n (item d ds) p q = let both = or-false (has_float d) (items_have_float ds) p in ((both.0, omega (arith, q)), all-tame n ds both.1 (omega (arith, q)))

-- ---- trees of the form of metadata

record IsFormed (d : Data) : Type 0 where
  tame : IsTame 127 d
  is_object : is_some (as_object d) ≡ true
  rules : rules_fault metadata_rules d ≡ None

formed-set : (k : List ℕ) (v d : Data) → IsTame 126 v → KeepAll k (set k v d) metadata_rules → IsFormed d → IsFormed (set k v d)
formed-set k v d t keep f = record { tame = tame-set 126 k v d t f.tame; is_object = object-set k v d; rules = rules-set metadata_rules k v d keep f.rules }

-- an array that keeps some of its items
module _ (k : List ℕ) (fault : Data → Option (List ℕ)) (f : List Data → List Data) (keeps : Keeps f) (d : Data) where
  abbrev Fitting : Type 0
  Fitting = (v : Data) → found_fault Optional (array_fault fault) (Some v) ≡ None → KeepAll k (set k v d) metadata_rules

  formed-array_at : (o : Option Data) → get k d ≡ o → found_fault Optional (array_fault fault) o ≡ None → Fitting → IsFormed d
      → IsFormed (set_array k (option_map f (option_map list_of (option_and_then as_array o))) d)
  formed-array_at None e old fits w = w
  formed-array_at (Some null) e old fits w = w
  formed-array_at (Some (boolean b)) e old fits w = w
  formed-array_at (Some (number n)) e old fits w = w
  formed-array_at (Some (string s)) e old fits w = w
  formed-array_at (Some (object ms)) e old fits w = w
  formed-array_at (Some (array ds)) e old fits w =
      let t = tame-get 126 k d (array ds) w.tame e in
      let left = f (list_of ds) in
      let whole = none fault 0 left (keeps (λ x. fault x ≡ None) (list_of ds) (each fault 0 (list_of ds) (items-in fault (Some (array ds)) old))) in
      formed-set k (array (items_of left)) d (tame-array 125 left (keeps (IsTame 125) (list_of ds) (all-tame 125 ds t.0 (omega (arith, t.1))))) (fits (array (items_of left)) (array-items fault left whole)) w

  formed-array : found_fault Optional (array_fault fault) (get k d) ≡ None → Fitting → IsFormed d → IsFormed (set_array k (option_map f (array_at k d)) d)
  formed-array old fits w = formed-array_at (get k d) refl old fits w

set-rule : (k : List ℕ) (fault : Data → Option (List ℕ)) (v d : Data) → found_fault Optional fault (Some v) ≡ None → option_map (in_member k) (found_fault Optional fault (get k (set k v d))) ≡ None
set-rule k fault v d h = ap (option_map (in_member k)) (ap (found_fault Optional fault) (get-set k v d) ∙ h)

snapshots-old : (d : Data) → IsFormed d → found_fault Optional (array_fault (record_fault snapshot_fields)) (get (codes "snapshots") d) ≡ None
unfolding rule_fault
snapshots-old d w = no-within (in_member (codes "snapshots")) _ (first-rule rule.Snapshots (drop 18 metadata_rules) d (rules-drop 17 metadata_rules d w.rules))

snapshots-fits : (d v : Data) → found_fault Optional (array_fault (record_fault snapshot_fields)) (Some v) ≡ None → KeepAll (codes "snapshots") (set (codes "snapshots") v d) metadata_rules
unfolding rule_fault
snapshots-fits d v h = let own = set-rule (codes "snapshots") (array_fault (record_fault snapshot_fields)) v d h in (tt, (tt, (tt, (tt, (tt, (tt, (tt, (tt, (tt, (tt, (tt, (tt, (tt, (tt, (tt, (tt, (tt, (own, (tt, (tt, (tt, tt)))))))))))))))))))))

statistics-old : (d : Data) → IsFormed d → found_fault Optional (array_fault statistics_fault) (get (codes "statistics") d) ≡ None
unfolding rule_fault
statistics-old d w = no-within (in_member (codes "statistics")) _ (first-rule rule.Statistics (drop 20 metadata_rules) d (rules-drop 19 metadata_rules d w.rules))

statistics-fits : (d v : Data) → found_fault Optional (array_fault statistics_fault) (Some v) ≡ None → KeepAll (codes "statistics") (set (codes "statistics") v d) metadata_rules
unfolding rule_fault
statistics-fits d v h = let own = set-rule (codes "statistics") (array_fault statistics_fault) v d h in (tt, (tt, (tt, (tt, (tt, (tt, (tt, (tt, (tt, (tt, (tt, (tt, (tt, (tt, (tt, (tt, (tt, (tt, (tt, (own, (tt, tt)))))))))))))))))))))

partition-old : (d : Data) → IsFormed d → found_fault Optional (array_fault (record_fault partition_statistics_fields)) (get (codes "partition-statistics") d) ≡ None
unfolding rule_fault
partition-old d w = no-within (in_member (codes "partition-statistics")) _ (first-rule rule.PartitionStatistics (drop 13 metadata_rules) d (rules-drop 12 metadata_rules d w.rules))

partition-fits : (d v : Data) → found_fault Optional (array_fault (record_fault partition_statistics_fields)) (Some v) ≡ None → KeepAll (codes "partition-statistics") (set (codes "partition-statistics") v d) metadata_rules
unfolding rule_fault
partition-fits d v h = let own = set-rule (codes "partition-statistics") (array_fault (record_fault partition_statistics_fields)) v d h in (tt, (tt, (tt, (tt, (tt, (tt, (tt, (tt, (tt, (tt, (tt, (tt, (own, (tt, (tt, (tt, (tt, (tt, (tt, (tt, (tt, tt)))))))))))))))))))))

log-old : (d : Data) → IsFormed d → found_fault Optional (array_fault (record_fault snapshot_log_fields)) (get (codes "snapshot-log") d) ≡ None
unfolding rule_fault
log-old d w = no-within (in_member (codes "snapshot-log")) _ (first-rule rule.SnapshotLog (drop 17 metadata_rules) d (rules-drop 16 metadata_rules d w.rules))

log-fits : (d v : Data) → found_fault Optional (array_fault (record_fault snapshot_log_fields)) (Some v) ≡ None → KeepAll (codes "snapshot-log") (set (codes "snapshot-log") v d) metadata_rules
unfolding rule_fault
log-fits d v h = let own = set-rule (codes "snapshot-log") (array_fault (record_fault snapshot_log_fields)) v d h in (tt, (tt, (tt, (tt, (tt, (tt, (tt, (tt, (tt, (tt, (tt, (tt, (tt, (tt, (tt, (tt, (own, (tt, (tt, (tt, (tt, tt)))))))))))))))))))))

formed-snapshots : (gone : Data → Bool) (d : Data) → IsFormed d → IsFormed (without_items gone (codes "snapshots") d)
unfolding without_items
formed-snapshots gone d w = formed-array (codes "snapshots") (record_fault snapshot_fields) (others gone) (λ P ds p. all-others P gone ds p) d (snapshots-old d w) (snapshots-fits d) w

formed-statistics : (gone : Data → Bool) (d : Data) → IsFormed d → IsFormed (without_items gone (codes "statistics") d)
unfolding without_items
formed-statistics gone d w = formed-array (codes "statistics") statistics_fault (others gone) (λ P ds p. all-others P gone ds p) d (statistics-old d w) (statistics-fits d) w

formed-partition : (gone : Data → Bool) (d : Data) → IsFormed d → IsFormed (without_items gone (codes "partition-statistics") d)
unfolding without_items
formed-partition gone d w = formed-array (codes "partition-statistics") (record_fault partition_statistics_fields) (others gone) (λ P ds p. all-others P gone ds p) d (partition-old d w) (partition-fits d) w

formed-history : (gone : Data → Bool) (d : Data) → IsFormed d → IsFormed (without_history gone d)
unfolding without_history
formed-history gone d w = formed-array (codes "snapshot-log") (record_fault snapshot_log_fields) (after_last gone) (λ P ds p. all-after P gone ds p) d (log-old d w) (log-fits d) w

-- ---- refs

tame-either : (n : ℕ) (b : Bool) (xs ys : Members) → AreTame n xs → AreTame n ys → AreTame n (cond b xs ys)
tame-either n true xs ys p q = p
tame-either n false xs ys p q = q

tame-others : (n : ℕ) (gone : List ℕ → Bool) (ms : Members) → AreTame n ms → AreTame n (other_members gone ms)
unfolding other_members
tame-others n gone no_members p = tame-none n
tame-others n gone (member k d ms) p =
    let both = or-false (has_float d) _ p.0 in
    let rest = tame-others n gone ms (both.1, omega (arith, p.1)) in
    tame-either n (gone k) (other_members gone ms) (member k d (other_members gone ms)) rest (tame-member n k d (other_members gone ms) (both.0, omega (arith, p.1)) rest)

none-either : (fault : Data → Option (List ℕ)) (b : Bool) (xs ys : Members) → members_fault fault xs ≡ None → members_fault fault ys ≡ None → members_fault fault (cond b xs ys) ≡ None
none-either fault true xs ys p q = p
none-either fault false xs ys p q = q

none-members : (fault : Data → Option (List ℕ)) (gone : List ℕ → Bool) (ms : Members) → members_fault fault ms ≡ None → members_fault fault (other_members gone ms) ≡ None
unfolding other_members
none-members fault gone no_members h = refl
none-members fault gone (member k d ms) h =
    let both = no-parts (option_map (in_member k) (fault d)) (members_fault fault ms) h in
    let rest = none-members fault gone ms both.1 in
    none-either fault (gone k) (other_members gone ms) (member k d (other_members gone ms)) rest (no-both _ _ both.0 rest)

refs-old : (d : Data) → IsFormed d → found_fault Optional (object_fault (record_fault ref_fields)) (get (codes "refs") d) ≡ None
unfolding rule_fault
refs-old d w = no-within (in_member (codes "refs")) _ (first-rule rule.Refs (drop 15 metadata_rules) d (rules-drop 14 metadata_rules d w.rules))

refs-fits : (d v : Data) → found_fault Optional (object_fault (record_fault ref_fields)) (Some v) ≡ None → KeepAll (codes "refs") (set (codes "refs") v d) metadata_rules
unfolding rule_fault
refs-fits d v h = let own = set-rule (codes "refs") (object_fault (record_fault ref_fields)) v d h in (tt, (tt, (tt, (tt, (tt, (tt, (tt, (tt, (tt, (tt, (tt, (tt, (tt, (tt, (own, (tt, (tt, (tt, (tt, (tt, (tt, tt)))))))))))))))))))))

formed-refs_at : (gone : List ℕ → Bool) (d : Data) (o : Option Data) → get (codes "refs") d ≡ o → found_fault Optional (object_fault (record_fault ref_fields)) o ≡ None → IsFormed d
    → IsFormed (set_object (codes "refs") (option_map (other_members gone) (option_and_then as_object o)) d)
formed-refs_at gone d None e old w = w
formed-refs_at gone d (Some null) e old w = w
formed-refs_at gone d (Some (boolean b)) e old w = w
formed-refs_at gone d (Some (number n)) e old w = w
formed-refs_at gone d (Some (string s)) e old w = w
formed-refs_at gone d (Some (array ds)) e old w = w
formed-refs_at gone d (Some (object ms)) e old w =
    let t = tame-get 126 (codes "refs") d (object ms) w.tame e in
    formed-set (codes "refs") (object (other_members gone ms)) d (tame-object 125 (other_members gone ms) (tame-others 125 gone ms (t.0, omega (arith, t.1))))
    (refs-fits d (object (other_members gone ms)) (none-members (record_fault ref_fields) gone ms old)) w

formed-refs : (gone : List ℕ → Bool) (d : Data) → IsFormed d → IsFormed (without_refs gone d)
unfolding without_refs
formed-refs gone d w = formed-refs_at gone d (get (codes "refs") d) refl (refs-old d w) w

formed-these : (gone : Data → Bool) (dropped : List ℕ → Bool) (d : Data) → IsFormed d → IsFormed (without_these gone dropped d)
unfolding without_these
formed-these gone dropped d w = formed-snapshots gone _ (formed-statistics gone _ (formed-partition gone _ (formed-history gone _ (formed-refs dropped d w))))

-- ---- fields that stay

get-array_other : (q k : List ℕ) (o : Option (List Data)) (d : Data) → bytes_eq q k ≡ false → get q (set_array k o d) ≡ get q d
get-array_other q k None d e = refl
get-array_other q k (Some ds) d e = get-set_other q k (array (items_of ds)) d e

get-object_other : (q k : List ℕ) (o : Option Members) (d : Data) → bytes_eq q k ≡ false → get q (set_object k o d) ≡ get q d
get-object_other q k None d e = refl
get-object_other q k (Some ms) d e = get-set_other q k (object ms) d e

get-items_other : (q k : List ℕ) (gone : Data → Bool) (d : Data) → bytes_eq q k ≡ false → get q (without_items gone k d) ≡ get q d
unfolding without_items
get-items_other q k gone d e = get-array_other q k _ d e

get-history_other : (q : List ℕ) (gone : Data → Bool) (d : Data) → bytes_eq q (codes "snapshot-log") ≡ false → get q (without_history gone d) ≡ get q d
unfolding without_history
get-history_other q gone d e = get-array_other q (codes "snapshot-log") _ d e

get-refs_other : (q : List ℕ) (gone : List ℕ → Bool) (d : Data) → bytes_eq q (codes "refs") ≡ false → get q (without_refs gone d) ≡ get q d
unfolding without_refs
get-refs_other q gone d e = get-object_other q (codes "refs") _ d e

module _ (gone : Data → Bool) (dropped : List ℕ → Bool) (d : Data) where
  abbrev told : Data
  told = without_items gone (codes "statistics") (without_items gone (codes "partition-statistics") (without_history gone (without_refs dropped d)))

  these : without_these gone dropped d ≡ without_items gone (codes "snapshots") told
  unfolding without_these
  these = refl

  told-other : (q : List ℕ) → bytes_eq q (codes "refs") ≡ false → bytes_eq q (codes "statistics") ≡ false → bytes_eq q (codes "partition-statistics") ≡ false → bytes_eq q (codes "snapshot-log") ≡ false → get q told ≡ get q d
  told-other q r s p l =
      get-items_other q (codes "statistics") gone _ s ∙ get-items_other q (codes "partition-statistics") gone _ p ∙ get-history_other q gone _ l ∙ get-refs_other q dropped d r

  pub get-these_other : (q : List ℕ) → bytes_eq q (codes "snapshots") ≡ false → bytes_eq q (codes "refs") ≡ false → bytes_eq q (codes "statistics") ≡ false → bytes_eq q (codes "partition-statistics") ≡ false → bytes_eq q (codes "snapshot-log") ≡ false
      → get q (without_these gone dropped d) ≡ get q d
  get-these_other q n r s p l = ap (get q) these ∙ get-items_other q (codes "snapshots") gone told n ∙ told-other q r s p l

  get-these_refs : get (codes "refs") (without_these gone dropped d) ≡ get (codes "refs") (without_refs dropped d)
  get-these_refs =
      ap (get (codes "refs")) these ∙ get-items_other (codes "refs") (codes "snapshots") gone told refl ∙ get-items_other (codes "refs") (codes "statistics") gone _ refl
      ∙ get-items_other (codes "refs") (codes "partition-statistics") gone _ refl ∙ get-history_other (codes "refs") gone _ refl

no-others : (gone : Data → Bool) → others gone [] ≡ []
unfolding others
no-others gone = refl

items-left_at : (k : List ℕ) (gone : Data → Bool) (d : Data) (o : Option Data) → get k d ≡ o → items_in (get k (set_array k (option_map (others gone) (option_map list_of (option_and_then as_array o))) d)) ≡ others gone (items_in o)
items-left_at k gone d None e = ap items_in e ∙ sym (no-others gone)
items-left_at k gone d (Some null) e = ap items_in e ∙ sym (no-others gone)
items-left_at k gone d (Some (boolean b)) e = ap items_in e ∙ sym (no-others gone)
items-left_at k gone d (Some (number n)) e = ap items_in e ∙ sym (no-others gone)
items-left_at k gone d (Some (string s)) e = ap items_in e ∙ sym (no-others gone)
items-left_at k gone d (Some (object ms)) e = ap items_in e ∙ sym (no-others gone)
items-left_at k gone d (Some (array ds)) e = ap items_in (get-set k (array (items_of (others gone (list_of ds)))) d) ∙ list_of-items_of (others gone (list_of ds))

items-left : (k : List ℕ) (gone : Data → Bool) (d : Data) → items_at k (without_items gone k d) ≡ others gone (items_at k d)
unfolding without_items
items-left k gone d = items-left_at k gone d (get k d) refl

items-these : (gone : Data → Bool) (dropped : List ℕ → Bool) (d : Data) → items_at (codes "snapshots") (without_these gone dropped d) ≡ others gone (items_at (codes "snapshots") d)
items-these gone dropped d =
    ap (items_at (codes "snapshots")) (these gone dropped d) ∙ items-left (codes "snapshots") gone (told gone dropped d) ∙ ap (λ o. others gone (items_in o)) (told-other gone dropped d (codes "snapshots") refl refl refl refl)

-- ---- the snapshots that stay

map-if : (b : Bool) (d : Data) (xs : List Data) (ss : List Snapshot) → map snapshot_of xs ≡ ss → map snapshot_of (cond b (d ∷ xs) xs) ≡ cond b (snapshot_of d ∷ ss) ss
map-if true d xs ss e = ap (λ ys. snapshot_of d ∷ ys) e
map-if false d xs ss e = e

map-left : (ids : List ℤ) (ds : List Data) → map snapshot_of (others (is_of ids) ds) ≡ left (λ q. has_id q ids) (map snapshot_of ds)
unfolding others snapshot_of
map-left ids [] = refl
map-left ids (d ∷ ds) = map-if (not (is_of ids d)) d (others (is_of ids) ds) _ (map-left ids ds)

pub snapshots-without : (ids : List ℤ) (names : List (List ℕ)) (d : Data) → snapshots_of (without_snapshots ids names d) ≡ left (λ q. has_id q ids) (snapshots_of d)
unfolding without_snapshots
snapshots-without ids names d = ap (map snapshot_of) (items-these (is_of ids) (has_name names) d) ∙ map-left ids (items_at (codes "snapshots") d)

-- ---- the refs that stay

members-left_at : (gone : List ℕ → Bool) (d : Data) (o : Option Data) → get (codes "refs") d ≡ o → members_in (get (codes "refs") (set_object (codes "refs") (option_map (other_members gone) (option_and_then as_object o)) d)) ≡ other_members gone (members_in o)
unfolding other_members
members-left_at gone d None e = ap members_in e
members-left_at gone d (Some null) e = ap members_in e
members-left_at gone d (Some (boolean b)) e = ap members_in e
members-left_at gone d (Some (number n)) e = ap members_in e
members-left_at gone d (Some (string s)) e = ap members_in e
members-left_at gone d (Some (array ds)) e = ap members_in e
members-left_at gone d (Some (object ms)) e = ap members_in (get-set (codes "refs") (object (other_members gone ms)) d)

members-left : (gone : List ℕ → Bool) (d : Data) → members_at (codes "refs") (without_refs gone d) ≡ other_members gone (members_at (codes "refs") d)
unfolding without_refs
members-left gone d = members-left_at gone d (get (codes "refs") d) refl

get-here : (o : Ordering) (g : Bool) (e : Data) (rest all : Option Data) → (o ≡ Equal → g ≡ false) → rest ≡ all → (more : Members) (k l : List ℕ) → slice_cmp nat_cmp k l ≡ o → get_member k more ≡ rest
    → get_member k (cond g more (member l e more)) ≡ match_ordering o all (Some e) all
get-here Less true e rest all h same more k l is found = found ∙ same
get-here Less false e rest all h same more k l is found = ap (λ o. match_ordering o (get_member k more) (Some e) (get_member k more)) is ∙ found ∙ same
get-here Equal true e rest all h same more k l is found = absurd (true≢false (h refl))
get-here Equal false e rest all h same more k l is found = ap (λ o. match_ordering o (get_member k more) (Some e) (get_member k more)) is
get-here Greater true e rest all h same more k l is found = found ∙ same
get-here Greater false e rest all h same more k l is found = ap (λ o. match_ordering o (get_member k more) (Some e) (get_member k more)) is ∙ found ∙ same

-- a member that isn't dropped stays
get-left : (gone : List ℕ → Bool) (k : List ℕ) (ms : Members) → gone k ≡ false → get_member k (other_members gone ms) ≡ get_member k ms
unfolding other_members
get-left gone k no_members h = refl
get-left gone k (member l e ms) h =
    get-here (slice_cmp nat_cmp k l) (gone l) e (get_member k (other_members gone ms)) (get_member k ms)
    (λ same. ap gone (sym ((bytes_eq-Decides k l).0 (sym (is_eq-slice_cmp k l) ∙ ap is_eq same))) ∙ h) (get-left gone k ms h) (other_members gone ms) k l refl refl

main-in : (o : Option Data) → option_and_then (get (codes "main")) o ≡ get_member (codes "main") (members_in o)
main-in None = refl
main-in (Some d) = get-members (codes "main") d

and-parts : (a b : Bool) → (a && b) ≡ true → (a ≡ true) × (b ≡ true)
and-parts true b e = (refl, e)
and-parts false b e = absurd (true≢false (sym e))

and-both : (a b : Bool) → a ≡ true → b ≡ true → (a && b) ≡ true
and-both a b p q = ap (λ x. x && b) p ∙ q

or-kept : (a b : Bool) → (a || not b) ≡ true → a ≡ false → b ≡ false
or-kept true b h e = absurd (true≢false e)
or-kept false true h e = absurd (true≢false (sym h))
or-kept false false h e = refl

module _ (ids : List ℤ) (names : List (List ℕ)) where
  abbrev gone_id : ℤ → Bool
  gone_id q = has_id q ids

  broken-at : (g : Bool) (ss : List Snapshot) (agrees : Bool) (k : List ℕ) (e : Data) (ms : Members) → (g ≡ false → is_whole_ref ss agrees k e ≡ true) → first_broken ss agrees ms ≡ None → first_broken ss agrees (cond g ms (member k e ms)) ≡ None
  unfolding first_broken
  broken-at true ss agrees k e ms h later = later
  broken-at false ss agrees k e ms h later = whole-on (is_whole_ref ss agrees k e) _ (in_member k []) (h refl) later

  broken-left : (ss : List Snapshot) (agrees : Bool) (ms : Members) → first_broken ss agrees ms ≡ None → leaves_whole ids names (refs_in ms) ≡ true → first_broken (left gone_id ss) agrees (other_members (has_name names) ms) ≡ None
  unfolding first_broken other_members ref_of
  broken-left ss agrees no_members h k = refl
  broken-left ss agrees (member name e ms) h k =
      let both = whole-parts (is_whole_ref ss agrees name e) (first_broken ss agrees ms) (in_member name []) h in
      let id = signed_at (codes "snapshot-id") e in
      let stays = and-parts (has_name names name || not (has_id id ids)) (leaves_whole ids names (refs_in ms)) k in
      let whole = and-parts (is_some (snapshot_with ss id)) (agrees || not (is_main name)) both.0 in
      broken-at (has_name names name) (left gone_id ss) agrees name e (other_members (has_name names) ms)
      (λ kept. and-both (is_some (snapshot_with (left gone_id ss) id)) (agrees || not (is_main name)) (left_known gone_id ss id (or-kept (has_name names name) (has_id id ids) stays.0 kept) whole.0) whole.1)
      (broken-left ss agrees ms both.1 stays.1)

  leaves-at : (o : Ordering) (k l : List ℕ) (e f : Data) (ms more : Members) → match_ordering o (get_member k ms) (Some f) (get_member k ms) ≡ None
      → (get_member k ms ≡ None → leaves_whole ids names (refs_in more) ≡ true → leaves_whole ids names (refs_in ms) ≡ true)
      → leaves_whole ids names (refs_in (match_ordering o (member k e (member l f ms)) (member l e ms) (member l f more))) ≡ true → leaves_whole ids names (refs_in (member l f ms)) ≡ true
  unfolding ref_of
  leaves-at Less k l e f ms more none later h = (and-parts (has_name names k || not (has_id (signed_at (codes "snapshot-id") e) ids)) _ h).1
  leaves-at Equal k l e f ms more none later h = absurd (cc)
  leaves-at Greater k l e f ms more none later h =
      let both = and-parts (has_name names l || not (has_id (signed_at (codes "snapshot-id") f) ids)) (leaves_whole ids names (refs_in more)) h in
      and-both _ _ both.0 (later none both.1)

  -- refs that are fine with one more are fine without it
  leaves-put : (k : List ℕ) (e : Data) (ms : Members) → get_member k ms ≡ None → leaves_whole ids names (refs_in (put k e ms)) ≡ true → leaves_whole ids names (refs_in ms) ≡ true
  leaves-put k e no_members none h = refl
  leaves-put k e (member l f ms) none h = leaves-at (slice_cmp nat_cmp k l) k l e f ms (put k e ms) none (leaves-put k e ms) h

  leaves-written : (d : Data) (current : Option ℤ) (main : Option Data) → main_ref d ≡ main → leaves_whole ids names (refs_in (members_in (Some (with_main current main (object_at (codes "refs") d))))) ≡ true
      → leaves_whole ids names (refs_in (members_at (codes "refs") d)) ≡ true
  leaves-written d None main is h = ap (λ ms. leaves_whole ids names (refs_in ms)) (sym (members-object_at (codes "refs") d)) ∙ h
  leaves-written d (Some id) (Some main) is h = ap (λ ms. leaves_whole ids names (refs_in ms)) (sym (members-object_at (codes "refs") d)) ∙ h
  leaves-written d (Some id) None is h =
      let branch = new_branch id in
      let members = members-set (codes "main") branch (object_at (codes "refs") d) ∙ ap (put (codes "main") branch) (members-object_at (codes "refs") d) in
      leaves-put (codes "main") branch (members_at (codes "refs") d) (sym (main-in (get (codes "refs") d)) ∙ is) (ap (λ ms. leaves_whole ids names (refs_in ms)) (sym members) ∙ h)

  current-left : (ss : List Snapshot) (main : Option Data) (current : Option ℤ) → IsKept ids current → current_fault ss main current ≡ None → current_fault (left gone_id ss) main current ≡ None
  current-left ss None None kept h = refl
  current-left ss None (Some id) kept h =
      let known = whole-parts (is_some (snapshot_with ss id)) None (in_member (codes "current-snapshot-id") []) h in
      whole-on (is_some (snapshot_with (left gone_id ss) id)) None (in_member (codes "current-snapshot-id") []) (left_known gone_id ss id kept known.0) refl
  current-left ss (Some main) current kept h = refl

  module _ (d : Data) (main_stays : has_name names (codes "main") ≡ false) where
    abbrev after : Data
    after = without_snapshots ids names d

    members-after : members_at (codes "refs") after ≡ other_members (has_name names) (members_at (codes "refs") d)
    unfolding without_snapshots
    members-after = ap members_in (get-these_refs (is_of ids) (has_name names) d) ∙ members-left (has_name names) d

    main-after : main_ref after ≡ main_ref d
    main-after = main-in (get (codes "refs") after) ∙ ap (get_member (codes "main")) members-after ∙ get-left (has_name names) (codes "main") (members_at (codes "refs") d) main_stays ∙ sym (main-in (get (codes "refs") d))

    pub get-after_other : (q : List ℕ) → bytes_eq q (codes "snapshots") ≡ false → bytes_eq q (codes "refs") ≡ false → bytes_eq q (codes "statistics") ≡ false → bytes_eq q (codes "partition-statistics") ≡ false → bytes_eq q (codes "snapshot-log") ≡ false
        → get q after ≡ get q d
    unfolding without_snapshots
    get-after_other q n r s p l = get-these_other (is_of ids) (has_name names) d q n r s p l

    current-after : current_of after ≡ current_of d
    current-after = ap (λ (o : Option Data). option_and_then unless_minus_one (option_and_then signed o)) (get-after_other (codes "current-snapshot-id") refl refl refl refl refl)

    refs-after : (ss : List Snapshot) → IsKept ids (current_of d) → leaves_whole ids names (refs_of d) ≡ true → ref_fault ss d ≡ None → ref_fault (left gone_id ss) after ≡ None
    unfolding ref_fault
    refs-after ss kept whole h =
        let both = no-parts (current_fault ss (main_ref d) (current_of d)) (refs_fault ss d) h in
        let agrees = main_agrees (main_ref d) (current_of d) in
        let agree : main_agrees (main_ref after) (current_of after) ≡ agrees = ap (λ o. main_agrees o (current_of after)) main-after ∙ ap (main_agrees (main_ref d)) current-after in
        let written = leaves-written d (current_of d) (main_ref d) refl whole in
        let old = no-within (in_member (codes "refs")) (first_broken ss agrees (members_at (codes "refs") d)) both.1 in
        no-both _ _
        (ap (λ o. current_fault (left gone_id ss) o (current_of after)) main-after ∙ ap (current_fault (left gone_id ss) (main_ref d)) current-after ∙ current-left ss (main_ref d) (current_of d) kept both.0)
        (ap (option_map (in_member (codes "refs"))) (ap (λ b. first_broken (left gone_id ss) b (members_at (codes "refs") after)) agree ∙ ap (first_broken (left gone_id ss) agrees) members-after ∙ broken-left ss agrees (members_at (codes "refs") d) old written))

    -- the metadata without the snapshots is well-formed
    pub sound-without : IsKept ids (current_of d) → leaves_whole ids names (refs_of d) ≡ true → IsSound d → depth d ≤ 127 → IsSound after
    unfolding without_snapshots
    sound-without kept whole s shallow =
        let formed = formed-these (is_of ids) (has_name names) d (record { tame = (s.no_float, shallow); is_object = s.is_object; rules = s.rules }) in
        let fewer = snapshots-without ids names d in
        record {
          no_float = formed.tame.0;
          version = ap (λ (o : Option Data). option_and_then unless_2 (option_and_then as_integer (option_and_then as_number o))) (get-after_other (codes "format-version") refl refl refl refl refl) ∙ s.version;
          is_object = formed.is_object;
          rules = formed.rules;
          lists = ap (items_fault list_fault 0) (items-these (is_of ids) (has_name names) d) ∙ none-others list_fault (is_of ids) (items_at (codes "snapshots") d) s.lists;
          ids = ap first_double fewer ∙ left_distinct gone_id (snapshots_of d) s.ids;
          refs = ap (λ ss. ref_fault ss after) fewer ∙ refs-after (snapshots_of d) kept whole s.refs;
          walks = ap (λ ss. first_return ss 0 ss) fewer ∙ left_ends gone_id (snapshots_of d) s.walks;
        }

    pub shallow-without : IsSound d → depth d ≤ 127 → depth after ≤ 127
    unfolding without_snapshots
    shallow-without s shallow = (formed-these (is_of ids) (has_name names) d (record { tame = (s.no_float, shallow); is_object = s.is_object; rules = s.rules })).tame.1
