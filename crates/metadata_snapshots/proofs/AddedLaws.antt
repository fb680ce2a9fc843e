-- What the edit that adds a snapshot keeps: metadata stays well-formed, and its list has one more.
use Rattle.std.proofs.Common.{◌≡◌, ◌≢◌, ℕ, suc, ℤ, pos, negsuc, ◌<◌, ◌≤◌, ◌^◌, ◌++◌, map, List, [], ◌∷◌, Bool, true, false, cond, codes, bytes_eq, Option, Some, None, is_some, option_map, option_and_then, unwrap_or, refl, ap, ◌∙◌, subst}
use Rattle.std.proofs.lemmas.List.{map-append}
use Rattle.serde_json.specs.Data.{Data, number, string, array, object, unsigned, Members, no_members, member, put, depth}
use Rattle.serde_json.specs.Find.{get, of_integer, as_i64, as_str, as_number, as_integer, as_object}
use Rattle.serde_json.specs.View.{items_of}
use Rattle.serde_json.proofs.Views.{get_member-put}
use Rattle.metadata_json.specs.Edits.{set, add}
use Rattle.metadata_json.specs.Fields.{signed, items_in, items_at, signed_at, unsigned_at, text_at, unsigned as whole}
use Rattle.metadata_json.proofs.Laws.{IsTame, get-set, get-set_other, get-add, get-add_other, list_of-items_of, tame-member, tame-object, tame-none, tame-set, tame-integer, tame-text, tame-unsigned, tame-add}
use Rattle.metadata_form.specs.declared.form.Form.{Form}
use Rattle.metadata_form.specs.declared.form.Form.TheVariants.{SnapshotId, Long, Int, Moment, Summary, Text}
use Rattle.metadata_form.specs.declared.fields.Need.{Need}
use Rattle.metadata_form.specs.declared.fields.Need.TheVariants.{Required, Optional, NotNull}
use Rattle.metadata_form.specs.declared.key.Key.TheVariants as Key
use Rattle.metadata_form.specs.declared.rules.Rule.TheVariants as rule
use Rattle.metadata_form.specs.Path.{in_member, itself_unless}
use Rattle.metadata_form.specs.Form.{misfit, unless_minus_one, is_int_number, int_if, summary_fault, text_fault, members_fault, items_fault, array_fault}
use Rattle.metadata_form.specs.Fields.{field, field_fault, fields_fault, record_fault, found_fault, rule_fault, rules_fault, metadata_rules, snapshot_fields}
use Rattle.metadata_form.specs.Fault.{unless_2, list_fault}
use Rattle.metadata_form.proofs.FormLaws.{no-both, record-whole, items-push, array-items, members-put, found-value, rules-set}
use Rattle.metadata_view.specs.View.{current_of, snapshots_of, snapshot_of, main_ref, operation_of}
use Rattle.metadata_view.specs.Walk.{snapshot_with, first_return}
use Rattle.metadata_view.specs.Index.{first_double}
use Rattle.metadata_view.specs.Links.{ref_fault}
use Rattle.metadata_view.specs.declared.types.Snapshot.{Snapshot}
use Rattle.metadata_view.proofs.SoundLaws.{IsSound}
use Rattle.metadata_snapshots.specs.Conditions.{IsNewId, IsKnownParent, IsIntOrNone}
use Rattle.metadata_snapshots.specs.Edits.{put_texts, summary_tree, bare_snapshot, set_number, snapshot_tree, with_listed}
use Rattle.metadata_snapshots.proofs.FieldLaws.{fits-id, is-moment, is_text, object-set, snapshots-in, refs-same, refs-more}
use Rattle.metadata_snapshots.proofs.ListLaws.{differ, push_known, push_itself, push_distinct, push_ends}

-- ---- no float, and not too deep

tame-texts : (n : ℕ) (ts : List (List ℕ × List ℕ)) (ms : Members) → IsTame (suc n) (object ms) → IsTame (suc n) (object (put_texts ts ms))
unfolding put_texts set
tame-texts n [] ms p = p
tame-texts n (t ∷ ts) ms p = tame-texts n ts (put t.0 (string t.1) ms) (tame-set n t.0 (string t.1) (object ms) (tame-text n t.1) p)

tame-summary : (n : ℕ) (op : List ℕ) (ts : List (List ℕ × List ℕ)) → IsTame (suc n) (summary_tree op ts)
unfolding summary_tree set
tame-summary n op ts = tame-set n (codes "operation") (string op) (object (put_texts ts no_members)) (tame-text n op) (tame-texts n ts no_members (tame-object n no_members (tame-none n)))

tame-bare : (n : ℕ) (s : Snapshot) → IsTame (suc n) (bare_snapshot s)
unfolding bare_snapshot
tame-bare n s =
    let time = member (codes "timestamp-ms") (number (unsigned s.ms)) no_members in
    let named = member (codes "snapshot-id") (number (of_integer s.id)) time in
    let placed = member (codes "sequence-number") (number (of_integer s.sequence)) named in
    tame-object n (member (codes "manifest-list") (string s.list) placed)
    (tame-member n (codes "manifest-list") (string s.list) placed (tame-text n s.list)
    (tame-member n (codes "sequence-number") (number (of_integer s.sequence)) named (tame-integer n s.sequence)
    (tame-member n (codes "snapshot-id") (number (of_integer s.id)) time (tame-integer n s.id)
    (tame-member n (codes "timestamp-ms") (number (unsigned s.ms)) no_members (tame-unsigned n s.ms) (tame-none n)))))

tame-number : (n : ℕ) (k : List ℕ) (o : Option ℤ) (d : Data) → IsTame (suc n) d → IsTame (suc n) (set_number k o d)
tame-number n k None d p = p
tame-number n k (Some z) d p = tame-set n k (number (of_integer z)) d (tame-integer n z) p

tame-snapshot : (n : ℕ) (s : Snapshot) (ts : List (List ℕ × List ℕ)) → IsTame (suc (suc n)) (snapshot_tree s ts)
unfolding snapshot_tree
tame-snapshot n s ts =
    let whole = set (codes "summary") (summary_tree s.operation ts) (bare_snapshot s) in
    tame-number (suc n) (codes "schema-id") s.schema_id (set_number (codes "parent-snapshot-id") s.parent whole)
    (tame-number (suc n) (codes "parent-snapshot-id") s.parent whole
    (tame-set (suc n) (codes "summary") (summary_tree s.operation ts) (bare_snapshot s) (tame-summary n s.operation ts) (tame-bare (suc n) s)))

tame-listed : (n : ℕ) (s : Snapshot) (ts : List (List ℕ × List ℕ)) (d : Data) → IsTame (suc (suc (suc (suc n)))) d → IsTame (suc (suc (suc (suc n)))) (with_listed s ts d)
unfolding with_listed
tame-listed n s ts d p =
    tame-set (suc (suc (suc n))) (codes "last-sequence-number") (number (of_integer s.sequence)) (add (codes "snapshots") (snapshot_tree s ts) d)
    (tame-integer (suc (suc (suc n))) s.sequence) (tame-add (suc (suc n)) (codes "snapshots") (snapshot_tree s ts) d (tame-snapshot n s ts) p)

-- ---- what the new item says

get-number_other : (q k : List ℕ) (o : Option ℤ) (d : Data) → bytes_eq q k ≡ false → get q (set_number k o d) ≡ get q d
get-number_other q k None d e = refl
get-number_other q k (Some z) d e = get-set_other q k (number (of_integer z)) d e

get-bare : (q : List ℕ) (s : Snapshot) (ts : List (List ℕ × List ℕ)) → bytes_eq q (codes "schema-id") ≡ false → bytes_eq q (codes "parent-snapshot-id") ≡ false → bytes_eq q (codes "summary") ≡ false
    → get q (snapshot_tree s ts) ≡ get q (bare_snapshot s)
unfolding snapshot_tree
get-bare q s ts a b c = get-number_other q (codes "schema-id") s.schema_id _ a ∙ get-number_other q (codes "parent-snapshot-id") s.parent _ b ∙ get-set_other q (codes "summary") _ _ c

get-summary : (s : Snapshot) (ts : List (List ℕ × List ℕ)) → get (codes "summary") (snapshot_tree s ts) ≡ Some (summary_tree s.operation ts)
unfolding snapshot_tree
get-summary s ts = get-number_other (codes "summary") (codes "schema-id") s.schema_id _ refl ∙ get-number_other (codes "summary") (codes "parent-snapshot-id") s.parent _ refl ∙ get-set (codes "summary") _ _

get-parent : (s : Snapshot) (ts : List (List ℕ × List ℕ)) → get (codes "parent-snapshot-id") (snapshot_tree s ts) ≡ get (codes "parent-snapshot-id") (set_number (codes "parent-snapshot-id") s.parent (set (codes "summary") (summary_tree s.operation ts) (bare_snapshot s)))
unfolding snapshot_tree
get-parent s ts = get-number_other (codes "parent-snapshot-id") (codes "schema-id") s.schema_id _ refl

no-parent : (s : Snapshot) (ts : List (List ℕ × List ℕ)) → get (codes "parent-snapshot-id") (set (codes "summary") (summary_tree s.operation ts) (bare_snapshot s)) ≡ None
unfolding bare_snapshot
no-parent s ts = get-set_other (codes "parent-snapshot-id") (codes "summary") (summary_tree s.operation ts) _ refl

no-schema : (s : Snapshot) (ts : List (List ℕ × List ℕ)) → get (codes "schema-id") (set_number (codes "parent-snapshot-id") s.parent (set (codes "summary") (summary_tree s.operation ts) (bare_snapshot s))) ≡ None
unfolding bare_snapshot
no-schema s ts = get-number_other (codes "schema-id") (codes "parent-snapshot-id") s.parent _ refl ∙ get-set_other (codes "schema-id") (codes "summary") (summary_tree s.operation ts) _ refl

abbrev Fits : ℤ → Type 0
Fits z = as_i64 (of_integer z) ≡ Some z

abbrev FitsIn : Option ℤ → Type 0
FitsIn o = (z : ℤ) → o ≡ Some z → Fits z

-- the numbers of a snapshot fit the fields that hold them
pub record FitsFields (s : Snapshot) : Type 0 where
  pub id : as_i64 (of_integer s.id) ≡ Some s.id
  pub sequence : as_i64 (of_integer s.sequence) ≡ Some s.sequence
  pub parent : (z : ℤ) → s.parent ≡ Some z → as_i64 (of_integer z) ≡ Some z
  pub schema_fits : (z : ℤ) → s.schema_id ≡ Some z → as_i64 (of_integer z) ≡ Some z
  pub schema_id : IsIntOrNone s.schema_id
  pub ms : s.ms < 2 ^ 63

number-read : (k : List ℕ) (o : Option ℤ) (d : Data) → FitsIn o → get k d ≡ None → option_and_then signed (get k (set_number k o d)) ≡ o
number-read k None d fits lacks = ap (option_and_then signed) lacks
number-read k (Some z) d fits lacks = ap (option_and_then signed) (get-set k (number (of_integer z)) d) ∙ fits z refl

module _ (s : Snapshot) (ts : List (List ℕ × List ℕ)) (fits : FitsFields s) where
  says-id : signed_at (codes "snapshot-id") (snapshot_tree s ts) ≡ s.id
  unfolding bare_snapshot
  says-id = ap (λ o. unwrap_or (option_and_then signed o) (pos 0)) (get-bare (codes "snapshot-id") s ts refl refl refl) ∙ ap (λ o. unwrap_or o (pos 0)) fits.id

  says-sequence : signed_at (codes "sequence-number") (snapshot_tree s ts) ≡ s.sequence
  unfolding bare_snapshot
  says-sequence = ap (λ o. unwrap_or (option_and_then signed o) (pos 0)) (get-bare (codes "sequence-number") s ts refl refl refl) ∙ ap (λ o. unwrap_or o (pos 0)) fits.sequence

  says-ms : unsigned_at (codes "timestamp-ms") (snapshot_tree s ts) ≡ s.ms
  unfolding bare_snapshot
  says-ms = ap (λ o. unwrap_or (option_and_then whole o) 0) (get-bare (codes "timestamp-ms") s ts refl refl refl)

  says-list : text_at (codes "manifest-list") (snapshot_tree s ts) ≡ s.list
  unfolding bare_snapshot
  says-list = ap (λ o. unwrap_or (option_and_then as_str o) []) (get-bare (codes "manifest-list") s ts refl refl refl)

  says-operation : operation_of (get (codes "summary") (snapshot_tree s ts)) ≡ s.operation
  unfolding summary_tree
  says-operation = ap operation_of (get-summary s ts) ∙ ap (λ o. unwrap_or (option_and_then as_str o) []) (get_member-put (codes "operation") (string s.operation) (put_texts ts no_members))

  says-parent : option_and_then signed (get (codes "parent-snapshot-id") (snapshot_tree s ts)) ≡ s.parent
  says-parent = ap (option_and_then signed) (get-parent s ts) ∙ number-read (codes "parent-snapshot-id") s.parent _ fits.parent (no-parent s ts)

  says-schema : option_and_then signed (get (codes "schema-id") (snapshot_tree s ts)) ≡ s.schema_id
  unfolding snapshot_tree
  says-schema = number-read (codes "schema-id") s.schema_id _ fits.schema_fits (no-schema s ts)

  -- what the item says is the snapshot
  pub says-snapshot : snapshot_of (snapshot_tree s ts) ≡ s
  unfolding snapshot_of
  says-snapshot = rw (says-id, says-parent, says-sequence, says-ms, says-list, says-operation, says-schema) refl

-- ---- the new item is of its form

member-none : (name : List ℕ) (need : Need) (fault : Data → Option (List ℕ)) (o found : Option Data) → o ≡ found → found_fault need fault found ≡ None → option_map (in_member name) (found_fault need fault o) ≡ None
member-none name need fault o found e h = ap (λ x. option_map (in_member name) (found_fault need fault x)) e ∙ ap (option_map (in_member name)) h

number-fits : (form : Form) (k : List ℕ) (o : Option ℤ) (d : Data) → get k d ≡ None → ((z : ℤ) → o ≡ Some z → misfit form (number (of_integer z)) ≡ None) → found_fault Optional (misfit form) (get k (set_number k o d)) ≡ None
number-fits form k None d lacks h = ap (found_fault Optional (misfit form)) lacks
number-fits form k (Some z) d lacks h = ap (found_fault Optional (misfit form)) (get-set k (number (of_integer z)) d) ∙ found-value Optional (misfit form) (number (of_integer z)) (h z refl)

is-int : (z : ℤ) → as_i64 (of_integer z) ≡ Some z → is_int_number z ≡ true → misfit Int (number (of_integer z)) ≡ None
unfolding misfit
is-int z fits small = ap (λ o. itself_unless (is_some (int_if o))) fits ∙ ap (λ b. itself_unless (is_some (cond b (Some z) None))) small

int-in : (o : Option ℤ) → IsIntOrNone o → (z : ℤ) → o ≡ Some z → is_int_number z ≡ true
int-in None h z e = absurd (cc)
int-in (Some y) h z e = let same : y ≡ z = cc in subst (λ (x : ℤ). is_int_number x ≡ true) same h

is-id : (z : ℤ) → as_i64 (of_integer z) ≡ Some z → z ≢ negsuc 0 → misfit SnapshotId (number (of_integer z)) ≡ None
unfolding misfit
is-id z fits named = ap (λ o. itself_unless (is_some (option_and_then unless_minus_one o))) fits ∙ ap (λ b. itself_unless (is_some (cond b None (Some z)))) (differ z (negsuc 0) named)

texts-fault : (ts : List (List ℕ × List ℕ)) (ms : Members) → members_fault text_fault ms ≡ None → members_fault text_fault (put_texts ts ms) ≡ None
unfolding put_texts
texts-fault [] ms h = h
texts-fault (t ∷ ts) ms h = texts-fault ts (put t.0 (string t.1) ms) (members-put text_fault t.0 (string t.1) ms refl h)

at-true : (b : Bool) (x y : Option (List ℕ)) → b ≡ true → x ≡ None → cond b x y ≡ None
at-true b x y e h = ap (λ c. cond c x y) e ∙ h

is-summary : (op : List ℕ) (ts : List (List ℕ × List ℕ)) → misfit Summary (summary_tree op ts) ≡ None
unfolding misfit summary_fault summary_tree
is-summary op ts =
    let texts = put_texts ts no_members in
    at-true _ _ _ (ap (λ o. is_some o) (get_member-put (codes "operation") (string op) texts)) (members-put text_fault (codes "operation") (string op) texts refl (texts-fault ts no_members refl))

bare-list : (s : Snapshot) → get (codes "manifest-list") (bare_snapshot s) ≡ Some (string s.list)
unfolding bare_snapshot
bare-list s = refl

bare-sequence : (s : Snapshot) → get (codes "sequence-number") (bare_snapshot s) ≡ Some (number (of_integer s.sequence))
unfolding bare_snapshot
bare-sequence s = refl

bare-id : (s : Snapshot) → get (codes "snapshot-id") (bare_snapshot s) ≡ Some (number (of_integer s.id))
unfolding bare_snapshot
bare-id s = refl

bare-ms : (s : Snapshot) → get (codes "timestamp-ms") (bare_snapshot s) ≡ Some (number (unsigned s.ms))
unfolding bare_snapshot
bare-ms s = refl

get-schema : (s : Snapshot) (ts : List (List ℕ × List ℕ)) → get (codes "schema-id") (snapshot_tree s ts) ≡ get (codes "schema-id") (set_number (codes "schema-id") s.schema_id (set_number (codes "parent-snapshot-id") s.parent (set (codes "summary") (summary_tree s.operation ts) (bare_snapshot s))))
unfolding snapshot_tree
get-schema s ts = refl

number-object : (k : List ℕ) (o : Option ℤ) (d : Data) → is_some (as_object d) ≡ true → is_some (as_object (set_number k o d)) ≡ true
number-object k None d h = h
number-object k (Some z) d h = object-set k (number (of_integer z)) d

tree-object : (s : Snapshot) (ts : List (List ℕ × List ℕ)) → is_some (as_object (snapshot_tree s ts)) ≡ true
unfolding snapshot_tree
tree-object s ts = number-object (codes "schema-id") s.schema_id _ (number-object (codes "parent-snapshot-id") s.parent _ (object-set (codes "summary") _ _))

module _ (s : Snapshot) (ts : List (List ℕ × List ℕ)) (fits : FitsFields s) (named : s.id ≢ negsuc 0) where
  list-fits : field_fault (field Key.ManifestList NotNull Text) (snapshot_tree s ts) ≡ None
  unfolding field_fault
  list-fits = member-none (codes "manifest-list") NotNull (misfit Text) _ _ (get-bare (codes "manifest-list") s ts refl refl refl ∙ bare-list s) (is_text s.list)

  parent-fits : field_fault (field Key.ParentSnapshotId Optional Long) (snapshot_tree s ts) ≡ None
  unfolding field_fault
  parent-fits = member-none (codes "parent-snapshot-id") Optional (misfit Long) _ _ (get-parent s ts) (number-fits Long (codes "parent-snapshot-id") s.parent _ (no-parent s ts) (λ z e. fits-id z (fits.parent z e)))

  schema-fits : field_fault (field Key.SchemaId Optional Int) (snapshot_tree s ts) ≡ None
  unfolding field_fault
  schema-fits = member-none (codes "schema-id") Optional (misfit Int) _ _ (get-schema s ts) (number-fits Int (codes "schema-id") s.schema_id _ (no-schema s ts) (λ z e. is-int z (fits.schema_fits z e) (int-in s.schema_id fits.schema_id z e)))

  sequence-fits : field_fault (field Key.SequenceNumber Required Long) (snapshot_tree s ts) ≡ None
  unfolding field_fault
  sequence-fits = member-none (codes "sequence-number") Required (misfit Long) _ _ (get-bare (codes "sequence-number") s ts refl refl refl ∙ bare-sequence s) (fits-id s.sequence fits.sequence)

  id-fits : field_fault (field Key.SnapshotId Required SnapshotId) (snapshot_tree s ts) ≡ None
  unfolding field_fault
  id-fits = member-none (codes "snapshot-id") Required (misfit SnapshotId) _ _ (get-bare (codes "snapshot-id") s ts refl refl refl ∙ bare-id s) (is-id s.id fits.id named)

  summary-fits : field_fault (field Key.Summary Required Summary) (snapshot_tree s ts) ≡ None
  unfolding field_fault
  summary-fits = member-none (codes "summary") Required (misfit Summary) _ _ (get-summary s ts) (is-summary s.operation ts)

  ms-fits : field_fault (field Key.TimestampMs Required Moment) (snapshot_tree s ts) ≡ None
  unfolding field_fault
  ms-fits = member-none (codes "timestamp-ms") Required (misfit Moment) _ _ (get-bare (codes "timestamp-ms") s ts refl refl refl ∙ bare-ms s) (is-moment s.ms fits.ms)

  tree-fields : fields_fault snapshot_fields (snapshot_tree s ts) ≡ None
  unfolding fields_fault
  tree-fields = no-both _ _ list-fits (no-both _ _ parent-fits (no-both _ _ schema-fits (no-both _ _ sequence-fits (no-both _ _ id-fits (no-both _ _ summary-fits (no-both _ _ ms-fits refl))))))

  tree-form : record_fault snapshot_fields (snapshot_tree s ts) ≡ None
  tree-form = record-whole snapshot_fields (snapshot_tree s ts) (tree-object s ts) tree-fields

  tree-list : list_fault (snapshot_tree s ts) ≡ None
  tree-list = member-none (codes "manifest-list") Required (λ list. None) _ _ (get-bare (codes "manifest-list") s ts refl refl refl ∙ bare-list s) refl

-- ---- the rules of metadata

listed-rule : (x d : Data) → record_fault snapshot_fields x ≡ None → items_fault (record_fault snapshot_fields) 0 (items_at (codes "snapshots") d) ≡ None
    → rule_fault rule.Snapshots (set (codes "snapshots") (array (items_of (items_at (codes "snapshots") d ++ x ∷ []))) d) ≡ None
unfolding rule_fault
listed-rule x d new old =
    let longer = items_at (codes "snapshots") d ++ x ∷ [] in
    member-none (codes "snapshots") Optional (array_fault (record_fault snapshot_fields)) _ _ (get-set (codes "snapshots") (array (items_of longer)) d)
    (array-items (record_fault snapshot_fields) longer (items-push (record_fault snapshot_fields) 0 (items_at (codes "snapshots") d) x old new))

rules-listed : (x d : Data) → record_fault snapshot_fields x ≡ None → rules_fault metadata_rules d ≡ None → rules_fault metadata_rules (add (codes "snapshots") x d) ≡ None
unfolding add
rules-listed x d new old =
    rules-set metadata_rules (codes "snapshots") (array (items_of (items_at (codes "snapshots") d ++ x ∷ []))) d
    (tt, (tt, (tt, (tt, (tt, (tt, (tt, (tt, (tt, (tt, (tt, (tt, (tt, (tt, (tt, (tt, (tt, (listed-rule x d new (snapshots-in d old), (tt, (tt, (tt, tt))))))))))))))))))))) old

sequence-rule : (z : ℤ) (d : Data) → misfit Long (number (of_integer z)) ≡ None → rule_fault (rule.Holds (field Key.LastSequenceNumber Required Long)) (set (codes "last-sequence-number") (number (of_integer z)) d) ≡ None
unfolding rule_fault field_fault
sequence-rule z d fit = member-none (codes "last-sequence-number") Required (misfit Long) _ _ (get-set (codes "last-sequence-number") (number (of_integer z)) d) fit

rules-sequence : (z : ℤ) (d : Data) → misfit Long (number (of_integer z)) ≡ None → rules_fault metadata_rules d ≡ None → rules_fault metadata_rules (set (codes "last-sequence-number") (number (of_integer z)) d) ≡ None
rules-sequence z d fit old =
    rules-set metadata_rules (codes "last-sequence-number") (number (of_integer z)) d
    (tt, (tt, (tt, (tt, (tt, (tt, (tt, (sequence-rule z d fit, (tt, (tt, (tt, (tt, (tt, (tt, (tt, (tt, (tt, (tt, (tt, (tt, (tt, tt))))))))))))))))))))) old

-- ---- what the tree says afterwards

pub get-listed_other : (q : List ℕ) (s : Snapshot) (ts : List (List ℕ × List ℕ)) (d : Data) → bytes_eq q (codes "snapshots") ≡ false → bytes_eq q (codes "last-sequence-number") ≡ false → get q (with_listed s ts d) ≡ get q d
unfolding with_listed
get-listed_other q s ts d a b = get-set_other q (codes "last-sequence-number") _ _ b ∙ get-add_other q (codes "snapshots") (snapshot_tree s ts) d a

items-listed : (s : Snapshot) (ts : List (List ℕ × List ℕ)) (d : Data) → items_at (codes "snapshots") (with_listed s ts d) ≡ items_at (codes "snapshots") d ++ snapshot_tree s ts ∷ []
unfolding with_listed
items-listed s ts d =
    ap items_in (get-set_other (codes "snapshots") (codes "last-sequence-number") _ _ refl ∙ get-add (codes "snapshots") (snapshot_tree s ts) d) ∙ list_of-items_of (items_at (codes "snapshots") d ++ snapshot_tree s ts ∷ [])

-- the table has the snapshot as its last one
pub snapshots-listed : (s : Snapshot) (ts : List (List ℕ × List ℕ)) (d : Data) → FitsFields s → snapshots_of (with_listed s ts d) ≡ snapshots_of d ++ s ∷ []
snapshots-listed s ts d fits =
    ap (map snapshot_of) (items-listed s ts d) ∙ map-append snapshot_of (items_at (codes "snapshots") d) (snapshot_tree s ts ∷ []) ∙ ap (λ x. snapshots_of d ++ x ∷ []) (says-snapshot s ts fits)

pub known-listed : (s : Snapshot) (ts : List (List ℕ × List ℕ)) (d : Data) → FitsFields s → is_some (snapshot_with (snapshots_of (with_listed s ts d)) s.id) ≡ true
known-listed s ts d fits = ap (λ ss. is_some (snapshot_with ss s.id)) (snapshots-listed s ts d fits) ∙ push_itself s (snapshots_of d)

object-listed : (s : Snapshot) (ts : List (List ℕ × List ℕ)) (d : Data) → is_some (as_object (with_listed s ts d)) ≡ true
unfolding with_listed
object-listed s ts d = object-set (codes "last-sequence-number") _ _

pub rules-with_listed : (s : Snapshot) (ts : List (List ℕ × List ℕ)) (d : Data) → FitsFields s → s.id ≢ negsuc 0 → rules_fault metadata_rules d ≡ None → rules_fault metadata_rules (with_listed s ts d) ≡ None
unfolding with_listed
rules-with_listed s ts d fits named old = rules-sequence s.sequence _ (fits-id s.sequence fits.sequence) (rules-listed (snapshot_tree s ts) d (tree-form s ts fits named) old)

-- the metadata with one more snapshot is well-formed
pub sound-listed : (s : Snapshot) (ts : List (List ℕ × List ℕ)) (d : Data) → FitsFields s → IsNewId (snapshots_of d) s.id → IsKnownParent (snapshots_of d) s.parent → IsSound d → depth d ≤ 127 → IsSound (with_listed s ts d)
sound-listed s ts d fits new known sound shallow =
    let x = with_listed s ts d in
    let ss = snapshots_of d in
    let stays = λ (q : List ℕ) (a : bytes_eq q (codes "snapshots") ≡ false) (b : bytes_eq q (codes "last-sequence-number") ≡ false). get-listed_other q s ts d a b in
    let longer = snapshots-listed s ts d fits in
    let refs = stays (codes "refs") refl refl in
    let main : main_ref x ≡ main_ref d = ap (λ (o : Option Data). option_and_then (get (codes "main")) o) refs in
    let current : current_of x ≡ current_of d = ap (λ (o : Option Data). option_and_then unless_minus_one (option_and_then signed o)) (stays (codes "current-snapshot-id") refl refl) in
    record {
      no_float = (tame-listed 123 s ts d (sound.no_float, shallow)).0;
      version = ap (λ (o : Option Data). option_and_then unless_2 (option_and_then as_integer (option_and_then as_number o))) (stays (codes "format-version") refl refl) ∙ sound.version;
      is_object = object-listed s ts d;
      rules = rules-with_listed s ts d fits new.names_one sound.rules;
      lists = ap (items_fault list_fault 0) (items-listed s ts d) ∙ items-push list_fault 0 (items_at (codes "snapshots") d) (snapshot_tree s ts) sound.lists (tree-list s ts fits new.names_one);
      ids = ap first_double longer ∙ push_distinct s ss sound.ids new.unknown;
      refs = ap (λ more. ref_fault more x) longer ∙ refs-same (ss ++ s ∷ []) x d refs main current ∙ refs-more ss (ss ++ s ∷ []) (push_known s ss) d sound.refs;
      walks = ap (λ more. first_return more 0 more) longer ∙ push_ends s ss sound.walks new.unknown new.no_parent known;
    }

pub shallow-listed : (s : Snapshot) (ts : List (List ℕ × List ℕ)) (d : Data) → IsSound d → depth d ≤ 127 → depth (with_listed s ts d) ≤ 127
shallow-listed s ts d sound shallow = (tame-listed 123 s ts d (sound.no_float, shallow)).1
