-- Laws of the fields of objects: what has no fault keeps none when a field is set that fits.
use Rattle.std.proofs.Common.{◌≡◌, ℕ, zero, suc, ◌^◌, ◌<◌, ℤ, pos, negsuc, List, [], ◌∷◌, ◌++◌, drop, Bool, true, false, ◌||◌, cond, codes, Bor, Option, Some, None, is_some, option_map, refl, ap, ◌∙◌, subst, bytes_eq, Ordering, Less, Equal, Greater, FitsSigned, w64, lt-ltb}
use Rattle.std.specs.Option.{option_or}
use Rattle.std.specs.Ordering.{nat_cmp, match_ordering}
use Rattle.std.specs.Cmp.Lexicographic.{slice_cmp}
use Rattle.std.proofs.lemmas.Slice.Eq.{bytes_eq-Decides}
use Rattle.serde_json.specs.Data.{Data, null, boolean, number, string, array, object, unsigned, Members, no_members, member, put}
use Rattle.serde_json.specs.Find.{get, get_member, of_integer, as_i64, as_object}
use Rattle.serde_json.specs.View.{view, items_of}
use Rattle.serde_json.specs.declared.value.Value.{Value}
use Rattle.metadata_json.specs.Fields.{items_in, members_in}
use Rattle.metadata_json.specs.Edits.{set}
use Rattle.metadata_json.proofs.Laws.{get-set, get-set_other, list_of-items_of}
use Rattle.metadata_form.specs.declared.fields.Need.{Need}
use Rattle.metadata_form.specs.declared.fields.Need.TheVariants.{Required, Optional, NotNull}
use Rattle.metadata_form.specs.declared.fields.Field.{Field}
use Rattle.metadata_form.specs.declared.rules.Rule.{Rule}
use Rattle.metadata_form.specs.declared.rules.Rule.TheVariants as rule
use Rattle.metadata_form.specs.Key.{name_of}
use Rattle.metadata_form.specs.Path.{in_member, in_item}
use Rattle.metadata_form.specs.Form.{misfit, items_fault, array_fault, members_fault, object_fault}
use Rattle.metadata_form.specs.Fields.{is_null, found_fault, field_fault, fields_fault, record_fault, statistics_fault, name_fault, rule_fault, rules_fault, snapshot_fields, snapshot_log_fields, metadata_log_fields, partition_statistics_fields, ref_fields}

-- ---- no fault in either place

pub no-parts : {A : Type 0} (a b : Option A) → option_or a b ≡ None → (a ≡ None) × (b ≡ None)
no-parts None b e = (refl, e)
no-parts (Some x) b e = absurd (cc)

pub no-both : {A : Type 0} (a b : Option A) → a ≡ None → b ≡ None → option_or a b ≡ None
no-both a b p q = ap (λ o. option_or o b) p ∙ q

pub no-within : {A B : Type 0} (f : A → B) (o : Option A) → option_map f o ≡ None → o ≡ None
no-within f None e = refl
no-within f (Some x) e = absurd (cc)

pub no-unless : (b : Bool) (o : Option (List ℕ)) → cond b o (Some []) ≡ None → (b ≡ true) × (o ≡ None)
no-unless true o e = (refl, e)
no-unless false o e = absurd (cc)

pub whole-if : (b : Bool) (o : Option (List ℕ)) → b ≡ true → o ≡ None → cond b o (Some []) ≡ None
whole-if b o p q = ap (λ x. cond x o (Some [])) p ∙ q

pub or-false : (a b : Bool) → (a || b) ≡ false → (a ≡ false) × (b ≡ false)
or-false true b e = absurd (cc)
or-false false b e = (refl, e)

pub or-true : (a : Bool) → (a || true) ≡ true
or-true true = refl
or-true false = refl

-- ---- a field that is set

-- a fact about what reads a field, where it reads the field that is set
abbrev pub IfReads : Bool → Type 0 → Type 0
IfReads true P = P
IfReads false P = Unit {0}

-- the value fits each of the fields that is the field k
abbrev pub FitsAll : List ℕ → Data → List Field → Type 0
FitsAll k v [] = Unit {0}
FitsAll k v (f ∷ fs) = IfReads (bytes_eq (name_of f.key) k) (misfit f.form v ≡ None) × FitsAll k v fs

no-null : (b : Bool) (o : Option (List ℕ)) → o ≡ None → cond b None o ≡ None
no-null true o e = refl
no-null false o e = e

pub found-value : (need : Need) (fault : Data → Option (List ℕ)) (v : Data) → fault v ≡ None → found_fault need fault (Some v) ≡ None
found-value Required fault v e = e
found-value Optional fault v e = no-null (is_null v) (fault v) e
found-value NotNull fault v e = e

field-set : (f : Field) (k : List ℕ) (v d : Data) (b : Bool) → bytes_eq (name_of f.key) k ≡ b → IfReads b (misfit f.form v ≡ None) → field_fault f d ≡ None → field_fault f (set k v d) ≡ None
unfolding field_fault
field-set f k v d true same fit old =
    let is : name_of f.key ≡ k = (bytes_eq-Decides (name_of f.key) k).0 same in
    let found : found_fault f.need (misfit f.form) (get (name_of f.key) (set k v d)) ≡ None =
    ap (λ q. found_fault f.need (misfit f.form) (get q (set k v d))) is ∙ ap (found_fault f.need (misfit f.form)) (get-set k v d) ∙ found-value f.need (misfit f.form) v fit in
    ap (option_map (in_member (name_of f.key))) found
field-set f k v d false other fit old = ap (λ o. option_map (in_member (name_of f.key)) (found_fault f.need (misfit f.form) o)) (get-set_other (name_of f.key) k v d other) ∙ old

pub fields-set : (fs : List Field) (k : List ℕ) (v d : Data) → FitsAll k v fs → fields_fault fs d ≡ None → fields_fault fs (set k v d) ≡ None
unfolding fields_fault
fields-set [] k v d fit old = refl
fields-set (f ∷ fs) k v d fit old =
    let both = no-parts (field_fault f d) (fields_fault fs d) old in
    no-both _ _ (field-set f k v d (bytes_eq (name_of f.key) k) refl fit.0 both.0) (fields-set fs k v d fit.1 both.1)

is_object-set : (k : List ℕ) (v d : Data) → is_some (as_object (set k v d)) ≡ true
unfolding set
is_object-set k v d = refl

pub record-parts : (fs : List Field) (d : Data) → record_fault fs d ≡ None → (is_some (as_object d) ≡ true) × (fields_fault fs d ≡ None)
unfolding record_fault
record-parts fs d e = no-unless (is_some (as_object d)) (fields_fault fs d) e

pub record-whole : (fs : List Field) (d : Data) → is_some (as_object d) ≡ true → fields_fault fs d ≡ None → record_fault fs d ≡ None
unfolding record_fault
record-whole fs d p q = whole-if (is_some (as_object d)) (fields_fault fs d) p q

pub record-set : (fs : List Field) (k : List ℕ) (v d : Data) → FitsAll k v fs → record_fault fs d ≡ None → record_fault fs (set k v d) ≡ None
record-set fs k v d fit old = record-whole fs (set k v d) (is_object-set k v d) (fields-set fs k v d fit (record-parts fs d old).1)

-- ---- a field by its place in the list

pub fields-drop : (n : ℕ) (fs : List Field) (d : Data) → fields_fault fs d ≡ None → fields_fault (drop n fs) d ≡ None
unfolding fields_fault
fields-drop zero fs d h = h
fields-drop (suc n) [] d h = h
fields-drop (suc n) (f ∷ fs) d h = fields-drop n fs d (no-parts (field_fault f d) (fields_fault fs d) h).1

pub first-field : (f : Field) (fs : List Field) (d : Data) → fields_fault (f ∷ fs) d ≡ None → found_fault f.need (misfit f.form) (get (name_of f.key) d) ≡ None
unfolding fields_fault field_fault
first-field f fs d h = no-within (in_member (name_of f.key)) _ (no-parts (option_map (in_member (name_of f.key)) (found_fault f.need (misfit f.form) (get (name_of f.key) d))) (fields_fault fs d) h).0

-- ---- lists of objects

module _ (fault : Data → Option (List ℕ)) where
  items-from : (i j : ℕ) (ds : List Data) → items_fault fault i ds ≡ None → items_fault fault j ds ≡ None
  items-from i j [] h = refl
  items-from i j (d ∷ ds) h =
      let both = no-parts (option_map (in_item i) (fault d)) (items_fault fault (suc i) ds) h in
      no-both _ _ (ap (option_map (in_item j)) (no-within (in_item i) (fault d) both.0)) (items-from (suc i) (suc j) ds both.1)

  pub items-push : (i : ℕ) (ds : List Data) (d : Data) → items_fault fault i ds ≡ None → fault d ≡ None → items_fault fault i (ds ++ d ∷ []) ≡ None
  items-push i [] d old new = no-both _ _ (ap (option_map (in_item i)) new) refl
  items-push i (e ∷ ds) d old new =
      let both = no-parts (option_map (in_item i) (fault e)) (items_fault fault (suc i) ds) old in
      no-both _ _ both.0 (items-push (suc i) ds d both.1 new)

  pub items-drop : (i k : ℕ) (ds : List Data) → items_fault fault i ds ≡ None → items_fault fault i (drop k ds) ≡ None
  items-drop i zero ds old = old
  items-drop i (suc k) [] old = old
  items-drop i (suc k) (d ∷ ds) old =
      let both = no-parts (option_map (in_item i) (fault d)) (items_fault fault (suc i) ds) old in
      items-drop i k ds (items-from (suc i) i ds both.1)

  pub items-in : (o : Option Data) → found_fault Optional (array_fault fault) o ≡ None → items_fault fault 0 (items_in o) ≡ None
  items-in None h = refl
  items-in (Some null) h = refl
  items-in (Some (boolean b)) h = refl
  items-in (Some (number n)) h = refl
  items-in (Some (string s)) h = refl
  items-in (Some (array ds)) h = h
  items-in (Some (object ms)) h = refl

  pub array-items : (ds : List Data) → items_fault fault 0 ds ≡ None → found_fault Optional (array_fault fault) (Some (array (items_of ds))) ≡ None
  array-items ds h = ap (items_fault fault 0) (list_of-items_of ds) ∙ h

  -- ---- maps of objects

  pub members-in : (o : Option Data) → found_fault Optional (object_fault fault) o ≡ None → members_fault fault (members_in o) ≡ None
  members-in None h = refl
  members-in (Some null) h = refl
  members-in (Some (boolean b)) h = refl
  members-in (Some (number n)) h = refl
  members-in (Some (string s)) h = refl
  members-in (Some (array ds)) h = refl
  members-in (Some (object ms)) h = h

  put-at : (o : Ordering) (a b c : Members) → members_fault fault a ≡ None → members_fault fault b ≡ None → members_fault fault c ≡ None → members_fault fault (match_ordering o a b c) ≡ None
  put-at Less a b c p q r = p
  put-at Equal a b c p q r = q
  put-at Greater a b c p q r = r

  pub members-put : (k : List ℕ) (d : Data) (ms : Members) → fault d ≡ None → members_fault fault ms ≡ None → members_fault fault (put k d ms) ≡ None
  members-put k d no_members new old = no-both _ _ (ap (option_map (in_member k)) new) refl
  members-put k d (member l e ms) new old =
      let both = no-parts (option_map (in_member l) (fault e)) (members_fault fault ms) old in
      put-at (slice_cmp nat_cmp k l) _ _ _
      (no-both _ _ (ap (option_map (in_member k)) new) old)
      (no-both _ _ (ap (option_map (in_member l)) new) both.1)
      (no-both _ _ both.0 (members-put k d ms new both.1))

  found-at : (o : Ordering) (e d : Data) (more : Option Data) → fault e ≡ None → (more ≡ Some d → fault d ≡ None) → match_ordering o more (Some e) more ≡ Some d → fault d ≡ None
  found-at Less e d more p q h = q h
  found-at Equal e d more p q h = let same : e ≡ d = cc in subst (λ (x : Data). fault x ≡ None) same p
  found-at Greater e d more p q h = q h

  pub members-found : (k : List ℕ) (ms : Members) (d : Data) → members_fault fault ms ≡ None → get_member k ms ≡ Some d → fault d ≡ None
  members-found k no_members d p h = absurd (cc)
  members-found k (member l e ms) d p h =
      let both = no-parts (option_map (in_member l) (fault e)) (members_fault fault ms) p in
      found-at (slice_cmp nat_cmp k l) e d (get_member k ms) (no-within (in_member l) (fault e) both.0) (members-found k ms d both.1) h

-- ---- the rules of metadata

-- whether a rule reads the field k
abbrev pub reads : Rule → List ℕ → Bool
reads (rule.Holds f) k = bytes_eq (name_of f.key) k
reads rule.CurrentSchema k = bytes_eq (codes "current-schema-id") k || bytes_eq (codes "schemas") k
reads rule.DefaultSpec k = bytes_eq (codes "default-spec-id") k || bytes_eq (codes "partition-specs") k
reads rule.MetadataLog k = bytes_eq (codes "metadata-log") k
reads rule.PartitionStatistics k = bytes_eq (codes "partition-statistics") k
reads rule.Refs k = bytes_eq (codes "refs") k
reads rule.SnapshotLog k = bytes_eq (codes "snapshot-log") k
reads rule.Snapshots k = bytes_eq (codes "snapshots") k
reads rule.Statistics k = bytes_eq (codes "statistics") k

abbrev named_in : List ℕ → List ℕ → Option Data → Option Data → Option (List ℕ)
named_in key k list o = option_map (in_member key) (found_fault Required (name_fault k (items_in list)) o)

named-same : (key k : List ℕ) (list o newer new : Option Data) → newer ≡ list → new ≡ o → named_in key k newer new ≡ named_in key k list o
named-same key k list o newer new p q = ap (λ l. named_in key k l new) p ∙ ap (named_in key k list) q

rule-other : (r : Rule) (k : List ℕ) (v d : Data) → reads r k ≡ false → rule_fault r (set k v d) ≡ rule_fault r d
unfolding rule_fault field_fault
rule-other (rule.Holds f) k v d h = ap (λ o. option_map (in_member (name_of f.key)) (found_fault f.need (misfit f.form) o)) (get-set_other (name_of f.key) k v d h)
rule-other rule.CurrentSchema k v d h =
    let both = or-false (bytes_eq (codes "current-schema-id") k) (bytes_eq (codes "schemas") k) h in
    named-same (codes "current-schema-id") (codes "schema-id") (get (codes "schemas") d) (get (codes "current-schema-id") d) _ _
    (get-set_other (codes "schemas") k v d both.1) (get-set_other (codes "current-schema-id") k v d both.0)
rule-other rule.DefaultSpec k v d h =
    let both = or-false (bytes_eq (codes "default-spec-id") k) (bytes_eq (codes "partition-specs") k) h in
    named-same (codes "default-spec-id") (codes "spec-id") (get (codes "partition-specs") d) (get (codes "default-spec-id") d) _ _
    (get-set_other (codes "partition-specs") k v d both.1) (get-set_other (codes "default-spec-id") k v d both.0)
rule-other rule.MetadataLog k v d h = ap (λ o. option_map (in_member (codes "metadata-log")) (found_fault Optional (array_fault (record_fault metadata_log_fields)) o)) (get-set_other (codes "metadata-log") k v d h)
rule-other rule.PartitionStatistics k v d h = ap (λ o. option_map (in_member (codes "partition-statistics")) (found_fault Optional (array_fault (record_fault partition_statistics_fields)) o)) (get-set_other (codes "partition-statistics") k v d h)
rule-other rule.Refs k v d h = ap (λ o. option_map (in_member (codes "refs")) (found_fault Optional (object_fault (record_fault ref_fields)) o)) (get-set_other (codes "refs") k v d h)
rule-other rule.SnapshotLog k v d h = ap (λ o. option_map (in_member (codes "snapshot-log")) (found_fault Optional (array_fault (record_fault snapshot_log_fields)) o)) (get-set_other (codes "snapshot-log") k v d h)
rule-other rule.Snapshots k v d h = ap (λ o. option_map (in_member (codes "snapshots")) (found_fault Optional (array_fault (record_fault snapshot_fields)) o)) (get-set_other (codes "snapshots") k v d h)
rule-other rule.Statistics k v d h = ap (λ o. option_map (in_member (codes "statistics")) (found_fault Optional (array_fault statistics_fault) o)) (get-set_other (codes "statistics") k v d h)

-- each rule that reads the field k holds of the tree x
abbrev pub KeepAll : List ℕ → Data → List Rule → Type 0
KeepAll k x [] = Unit {0}
KeepAll k x (r ∷ rs) = IfReads (reads r k) (rule_fault r x ≡ None) × KeepAll k x rs

rule-set : (r : Rule) (k : List ℕ) (v d : Data) (b : Bool) → reads r k ≡ b → IfReads b (rule_fault r (set k v d) ≡ None) → rule_fault r d ≡ None → rule_fault r (set k v d) ≡ None
rule-set r k v d true e keeps old = keeps
rule-set r k v d false e keeps old = rule-other r k v d e ∙ old

pub rules-set : (rs : List Rule) (k : List ℕ) (v d : Data) → KeepAll k (set k v d) rs → rules_fault rs d ≡ None → rules_fault rs (set k v d) ≡ None
unfolding rules_fault
rules-set [] k v d keeps old = refl
rules-set (r ∷ rs) k v d keeps old =
    let both = no-parts (rule_fault r d) (rules_fault rs d) old in
    no-both _ _ (rule-set r k v d (reads r k) refl keeps.0 both.0) (rules-set rs k v d keeps.1 both.1)

pub rules-drop : (n : ℕ) (rs : List Rule) (d : Data) → rules_fault rs d ≡ None → rules_fault (drop n rs) d ≡ None
unfolding rules_fault
rules-drop zero rs d h = h
rules-drop (suc n) [] d h = h
rules-drop (suc n) (r ∷ rs) d h = rules-drop n rs d (no-parts (rule_fault r d) (rules_fault rs d) h).1

pub first-rule : (r : Rule) (rs : List Rule) (d : Data) → rules_fault (r ∷ rs) d ≡ None → rule_fault r d ≡ None
unfolding rules_fault
first-rule r rs d h = (no-parts (rule_fault r d) (rules_fault rs d) h).0

pub required-found : (fault : Data → Option (List ℕ)) (o : Option Data) → found_fault Required fault o ≡ None → is_some o ≡ true
required-found fault None h = absurd (cc)
required-found fault (Some d) h = refl

-- ---- numbers

pub fits_i64 : (id : ℤ) → FitsSigned w64 id → as_i64 (of_integer id) ≡ Some id
fits_i64 (pos n) h = rw (lt-ltb n 9223372036854775808 h.sfits) refl
fits_i64 (negsuc n) h = refl

pub moment_i64 : (t : ℕ) → t < 2 ^ 63 → as_i64 (unsigned t) ≡ Some (pos t)
moment_i64 t h = rw (lt-ltb t 9223372036854775808 h) refl

pub is_some-copied : (o : Option (Bor Value)) → is_some o ≡ is_some (option_map (λ x. view x.now) o)
is_some-copied None = refl
is_some-copied (Some a) = refl
