-- A tree that is well-formed metadata, test by test.
use Rattle.std.proofs.Common.{◌≡◌, ℕ, suc, ℤ, List, ◌∷◌, drop, Bool, true, false, not, ◌||◌, codes, Option, Some, None, is_some, option_map, refl, ap, ◌∙◌}
use Rattle.serde_json.specs.Data.{Data, null, boolean, number, string, array, object, Items, no_items, item, Members, no_members, member}
use Rattle.serde_json.specs.Find.{get, as_object, is_float}
use Rattle.serde_json.specs.Written.{has_float, items_have_float, members_have_float}
use Rattle.metadata_json.specs.Fields.{items_at}
use Rattle.std.specs.Option.{option_or}
use Rattle.metadata_form.specs.declared.fault.Fault.{Fault}
use Rattle.metadata_form.specs.declared.fault.MetaCause.TheVariants.{Fraction, Field, NoManifestList, DoubleId, BrokenRef, BrokenParent}
use Rattle.metadata_form.specs.declared.fields.Need.TheVariants.{Required}
use Rattle.metadata_form.specs.declared.form.Form.{Form}
use Rattle.metadata_form.specs.declared.form.Form.TheVariants.{Objects}
use Rattle.metadata_form.specs.declared.key.Key.{Key}
use Rattle.metadata_form.specs.declared.key.Key.TheVariants.{Schemas, PartitionSpecs}
use Rattle.metadata_form.specs.declared.rules.Rule.{Rule}
use Rattle.metadata_form.specs.declared.rules.Rule.TheVariants as rule
use Rattle.metadata_form.specs.Key.{name_of}
use Rattle.metadata_form.specs.Path.{in_member, in_item, itself_unless}
use Rattle.metadata_form.specs.Float.{first_float, first_float_of_items, first_float_of_members}
use Rattle.metadata_form.specs.Form.{items_fault, misfit}
use Rattle.metadata_form.specs.Fields.{field, field_fault, rule_fault, rules_fault, metadata_rules, metadata_fault}
use Rattle.metadata_form.specs.Fault.{fault_at, other_version, version_fault, list_fault, lists_fault, form_fault}
use Rattle.metadata_view.specs.declared.types.Snapshot.{Snapshot}
use Rattle.metadata_view.specs.View.{snapshots_of}
use Rattle.metadata_view.specs.Links.{double_path, ref_fault, return_path}
use Rattle.metadata_view.specs.Fault.{links_fault, snapshots_fault, fault_of}
use Rattle.metadata_form.proofs.FormLaws.{no-parts, no-both, no-within, no-unless, whole-if, or-false, required-found, first-rule, rules-drop}
use Rattle.metadata_view.specs.Index.{first_double}
use Rattle.metadata_view.specs.Walk.{first_return}

pub record IsSound (d : Data) : Type 0 where
  pub no_float : has_float d ≡ false
  pub version : other_version d ≡ None
  pub is_object : is_some (as_object d) ≡ true
  pub rules : rules_fault metadata_rules d ≡ None
  pub lists : items_fault list_fault 0 (items_at (codes "snapshots") d) ≡ None
  pub ids : first_double (snapshots_of d) ≡ None
  pub refs : ref_fault (snapshots_of d) d ≡ None
  pub walks : first_return (snapshots_of d) 0 (snapshots_of d) ≡ None

-- ---- floats

no-float_at : (b : Bool) → itself_unless (not b) ≡ None → b ≡ false
no-float_at true e = absurd (cc)
no-float_at false e = refl

no-float_back : (b : Bool) → b ≡ false → itself_unless (not b) ≡ None
no-float_back true e = absurd (cc)
no-float_back false e = refl

neither : (a b : Bool) → a ≡ false → b ≡ false → (a || b) ≡ false
neither a b p q = ap (λ x. x || b) p ∙ q

mutual
  pub float-none : (d : Data) → first_float d ≡ None → has_float d ≡ false
  float-none null e = refl
  float-none (boolean b) e = refl
  float-none (number n) e = no-float_at (is_float n) e
  float-none (string s) e = refl
  float-none (array ds) e = float-none_items 0 ds e
  float-none (object ms) e = float-none_members ms e

  float-none_items : (i : ℕ) (ds : Items) → first_float_of_items i ds ≡ None → items_have_float ds ≡ false
  float-none_items i no_items e = refl
  float-none_items i (item d ds) e =
      let both = no-parts (option_map (in_item i) (first_float d)) (first_float_of_items (suc i) ds) e in
      neither (has_float d) (items_have_float ds) (float-none d (no-within (in_item i) (first_float d) both.0)) (float-none_items (suc i) ds both.1)

  float-none_members : (ms : Members) → first_float_of_members ms ≡ None → members_have_float ms ≡ false
  float-none_members no_members e = refl
  float-none_members (member k d ms) e =
      let both = no-parts (option_map (in_member k) (first_float d)) (first_float_of_members ms) e in
      neither (has_float d) (members_have_float ms) (float-none d (no-within (in_member k) (first_float d) both.0)) (float-none_members ms both.1)

mutual
  pub none-float : (d : Data) → has_float d ≡ false → first_float d ≡ None
  none-float null e = refl
  none-float (boolean b) e = refl
  none-float (number n) e = no-float_back (is_float n) e
  none-float (string s) e = refl
  none-float (array ds) e = none-float_items 0 ds e
  none-float (object ms) e = none-float_members ms e

  none-float_items : (i : ℕ) (ds : Items) → items_have_float ds ≡ false → first_float_of_items i ds ≡ None
  none-float_items i no_items e = refl
  none-float_items i (item d ds) e =
      let both = or-false (has_float d) (items_have_float ds) e in
      no-both _ _ (ap (option_map (in_item i)) (none-float d both.0)) (none-float_items (suc i) ds both.1)

  none-float_members : (ms : Members) → members_have_float ms ≡ false → first_float_of_members ms ≡ None
  none-float_members no_members e = refl
  none-float_members (member k d ms) e =
      let both = or-false (has_float d) (members_have_float ms) e in
      no-both _ _ (ap (option_map (in_member k)) (none-float d both.0)) (none-float_members ms both.1)

-- ---- both ways

version-none : (o : Option ℤ) → option_map version_fault o ≡ None → o ≡ None
version-none None e = refl
version-none (Some n) e = absurd (cc)

metadata-parts : (d : Data) → metadata_fault d ≡ None → (is_some (as_object d) ≡ true) × (rules_fault metadata_rules d ≡ None)
unfolding metadata_fault
metadata-parts d e = no-unless (is_some (as_object d)) (rules_fault metadata_rules d) e

metadata-whole : (d : Data) → is_some (as_object d) ≡ true → rules_fault metadata_rules d ≡ None → metadata_fault d ≡ None
unfolding metadata_fault
metadata-whole d p q = whole-if (is_some (as_object d)) (rules_fault metadata_rules d) p q

lists-parts : (d : Data) → lists_fault d ≡ None → items_fault list_fault 0 (items_at (codes "snapshots") d) ≡ None
unfolding lists_fault
lists-parts d e = no-within (in_member (codes "snapshots")) _ e

lists-whole : (d : Data) → items_fault list_fault 0 (items_at (codes "snapshots") d) ≡ None → lists_fault d ≡ None
unfolding lists_fault
lists-whole d e = ap (option_map (in_member (codes "snapshots"))) e

record IsFormed (d : Data) : Type 0 where
  no_float : first_float d ≡ None
  version : other_version d ≡ None
  whole : metadata_fault d ≡ None
  lists : lists_fault d ≡ None

formed : (d : Data) → form_fault d ≡ None → IsFormed d
unfolding form_fault
formed d e =
    let a = no-parts (option_map (fault_at Fraction) (first_float d)) _ e in
    let b = no-parts (option_map version_fault (other_version d)) _ a.1 in
    let c = no-parts (option_map (fault_at Field) (metadata_fault d)) (option_map (fault_at NoManifestList) (lists_fault d)) b.1 in
    record {
      no_float = no-within (fault_at Fraction) (first_float d) a.0;
      version = version-none (other_version d) b.0;
      whole = no-within (fault_at Field) (metadata_fault d) c.0;
      lists = no-within (fault_at NoManifestList) (lists_fault d) c.1;
    }

form-whole : (d : Data) → first_float d ≡ None → other_version d ≡ None → metadata_fault d ≡ None → lists_fault d ≡ None → form_fault d ≡ None
unfolding form_fault
form-whole d p q r s = no-both _ _ (ap (option_map (fault_at Fraction)) p) (no-both _ _ (ap (option_map version_fault) q) (no-both _ _ (ap (option_map (fault_at Field)) r) (ap (option_map (fault_at NoManifestList)) s)))

record IsLinked (ss : List Snapshot) (d : Data) : Type 0 where
  ids : first_double ss ≡ None
  refs : ref_fault ss d ≡ None
  walks : first_return ss 0 ss ≡ None

linked : (ss : List Snapshot) (d : Data) → snapshots_fault ss d ≡ None → IsLinked ss d
unfolding snapshots_fault links_fault
linked ss d e =
    let a = no-parts (option_map (λ i. fault_at DoubleId (double_path i)) (first_double ss)) _ e in
    let b = no-parts (option_map (fault_at BrokenRef) (ref_fault ss d)) _ a.1 in
    record { ids = no-within _ (first_double ss) a.0; refs = no-within (fault_at BrokenRef) (ref_fault ss d) b.0; walks = no-within _ (first_return ss 0 ss) b.1 }

linked-whole : (ss : List Snapshot) (d : Data) → first_double ss ≡ None → ref_fault ss d ≡ None → first_return ss 0 ss ≡ None → snapshots_fault ss d ≡ None
unfolding snapshots_fault links_fault
linked-whole ss d p q r = no-both _ _ (ap (option_map (λ i. fault_at DoubleId (double_path i))) p) (no-both _ _ (ap (option_map (fault_at BrokenRef)) q) (ap (option_map (λ i. fault_at BrokenParent (return_path i))) r))

pub sound : (d : Data) → fault_of d ≡ None → IsSound d
unfolding fault_of
sound d e =
    let all = no-parts (form_fault d) (snapshots_fault (snapshots_of d) d) e in
    let form = formed d all.0 in
    let links = linked (snapshots_of d) d all.1 in
    let parts = metadata-parts d form.whole in
    record {
      no_float = float-none d form.no_float;
      version = form.version;
      is_object = parts.0;
      rules = parts.1;
      lists = lists-parts d form.lists;
      ids = links.ids;
      refs = links.refs;
      walks = links.walks;
    }

pub no_fault : (d : Data) → IsSound d → fault_of d ≡ None
unfolding fault_of
no_fault d s =
    no-both (form_fault d) (snapshots_fault (snapshots_of d) d)
    (form-whole d (none-float d s.no_float) s.version (metadata-whole d s.is_object s.rules) (lists-whole d s.lists))
    (linked-whole (snapshots_of d) d s.ids s.refs s.walks)

-- ---- fields that are there

field-there : (k : Key) (form : Form) (rs : List Rule) (d : Data) → rules_fault (rule.Holds (field k Required form) ∷ rs) d ≡ None → is_some (get (name_of k) d) ≡ true
unfolding rule_fault field_fault
field-there k form rs d h = required-found (misfit form) (get (name_of k) d) (no-within (in_member (name_of k)) _ (first-rule (rule.Holds (field k Required form)) rs d h))

pub has_schemas_tree : (d : Data) → IsSound d → is_some (get (codes "schemas") d) ≡ true
has_schemas_tree d s = field-there Schemas Objects (drop 16 metadata_rules) d (rules-drop 15 metadata_rules d s.rules)

pub has_specs_tree : (d : Data) → IsSound d → is_some (get (codes "partition-specs") d) ≡ true
has_specs_tree d s = field-there PartitionSpecs Objects (drop 12 metadata_rules) d (rules-drop 11 metadata_rules d s.rules)

-- what is wrong with the form comes first
pub form-first : (d : Data) (f : Fault) → form_fault d ≡ Some f → fault_of d ≡ Some f
unfolding fault_of
form-first d f e = ap (λ o. option_or o (snapshots_fault (snapshots_of d) d)) e
