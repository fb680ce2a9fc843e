-- Values that fit the fields of metadata, and refs that name snapshots.
use Rattle.std.proofs.Common.{◌≡◌, ℕ, ◌<◌, ◌^◌, ℤ, List, [], Bool, true, false, not, ◌&&◌, ◌||◌, cond, codes, drop, Option, Some, None, is_some, option_map, refl, ap, ◌∙◌}
use Rattle.std.specs.Option.{option_or}
use Rattle.serde_json.specs.Data.{Data, number, string, unsigned, Members, no_members, member}
use Rattle.serde_json.specs.Find.{get, of_integer, as_i64, as_object}
use Rattle.metadata_json.specs.Edits.{set}
use Rattle.metadata_json.specs.Fields.{items_at, members_in, members_at, signed_at}
use Rattle.metadata_form.specs.declared.form.Form.TheVariants.{Long, Moment, Text}
use Rattle.metadata_form.specs.declared.rules.Rule.TheVariants as rule
use Rattle.metadata_form.specs.Path.{in_member, itself_unless}
use Rattle.metadata_form.specs.Form.{misfit, is_natural_in, items_fault}
use Rattle.metadata_form.specs.Fields.{record_fault, rule_fault, rules_fault, metadata_rules, snapshot_fields}
use Rattle.metadata_form.proofs.FormLaws.{no-parts, no-both, no-within, items-in, rules-drop, first-rule, moment_i64}
use Rattle.metadata_view.specs.View.{current_of, main_ref}
use Rattle.metadata_view.specs.Walk.{snapshot_with}
use Rattle.metadata_view.specs.Links.{is_main, main_agrees, current_fault, is_whole_ref, first_broken, refs_fault, ref_fault}
use Rattle.metadata_view.specs.declared.types.Snapshot.{Snapshot}

pub fits-id : (id : ℤ) → as_i64 (of_integer id) ≡ Some id → misfit Long (number (of_integer id)) ≡ None
unfolding misfit
fits-id id e = ap (λ o. itself_unless (is_some o)) e

pub fits-moment : (t : ℕ) → t < 2 ^ 63 → misfit Long (number (unsigned t)) ≡ None
unfolding misfit
fits-moment t h = ap (λ o. itself_unless (is_some o)) (moment_i64 t h)

pub is-moment : (t : ℕ) → t < 2 ^ 63 → misfit Moment (number (unsigned t)) ≡ None
unfolding misfit
is-moment t h = ap (λ o. itself_unless (is_natural_in o)) (moment_i64 t h)

pub is_text : (f : List ℕ) → misfit Text (string f) ≡ None
unfolding misfit
is_text f = refl

pub object-set : (k : List ℕ) (v d : Data) → is_some (as_object (set k v d)) ≡ true
unfolding set
object-set k v d = refl

-- ---- snapshots

pub snapshots-in : (d : Data) → rules_fault metadata_rules d ≡ None → items_fault (record_fault snapshot_fields) 0 (items_at (codes "snapshots") d) ≡ None
unfolding rule_fault
snapshots-in d old = items-in (record_fault snapshot_fields) (get (codes "snapshots") d) (no-within (in_member (codes "snapshots")) _ (first-rule rule.Snapshots (drop 18 metadata_rules) d (rules-drop 17 metadata_rules d old)))

-- ---- refs

pub whole-parts : (b : Bool) (o : Option (List ℕ)) (path : List ℕ) → cond b o (Some path) ≡ None → (b ≡ true) × (o ≡ None)
whole-parts true o path e = (refl, e)
whole-parts false o path e = absurd (cc)

pub whole-on : (b : Bool) (o : Option (List ℕ)) (path : List ℕ) → b ≡ true → o ≡ None → cond b o (Some path) ≡ None
whole-on b o path p q = ap (λ x. cond x o (Some path)) p ∙ q

abbrev refs_at : List Snapshot → Option Data → Option Data → Option ℤ → Option (List ℕ)
refs_at ss refs main current = option_or (current_fault ss main current) (option_map (in_member (codes "refs")) (first_broken ss (main_agrees main current) (members_in refs)))

pub refs-same : (ss : List Snapshot) (x d : Data) → get (codes "refs") x ≡ get (codes "refs") d → main_ref x ≡ main_ref d → current_of x ≡ current_of d → ref_fault ss x ≡ ref_fault ss d
unfolding ref_fault
refs-same ss x d refs main current =
    ap (λ o. refs_at ss o (main_ref x) (current_of x)) refs ∙ ap (λ o. refs_at ss (get (codes "refs") d) o (current_of x)) main ∙ ap (refs_at ss (get (codes "refs") d) (main_ref d)) current

and-more : (a b c : Bool) → (a ≡ true → b ≡ true) → (a && c) ≡ true → (b && c) ≡ true
and-more true b c h e = ap (λ x. x && c) (h refl) ∙ e
and-more false b c h e = absurd (cc)

-- refs that name snapshots still do where more are known
module _ (ss more : List Snapshot) (within : (id : ℤ) → is_some (snapshot_with ss id) ≡ true → is_some (snapshot_with more id) ≡ true) where
  current-more : (main : Option Data) (current : Option ℤ) → current_fault ss main current ≡ None → current_fault more main current ≡ None
  current-more None None h = refl
  current-more None (Some id) h =
      let known = whole-parts (is_some (snapshot_with ss id)) None (in_member (codes "current-snapshot-id") []) h in
      whole-on (is_some (snapshot_with more id)) None (in_member (codes "current-snapshot-id") []) (within id known.0) refl
  current-more (Some main) current h = refl

  broken-more : (agrees : Bool) (ms : Members) → first_broken ss agrees ms ≡ None → first_broken more agrees ms ≡ None
  unfolding first_broken
  broken-more agrees no_members h = refl
  broken-more agrees (member k d ms) h =
      let both = whole-parts (is_whole_ref ss agrees k d) (first_broken ss agrees ms) (in_member k []) h in
      let id = signed_at (codes "snapshot-id") d in
      whole-on (is_whole_ref more agrees k d) _ _ (and-more (is_some (snapshot_with ss id)) (is_some (snapshot_with more id)) (agrees || not (is_main k)) (within id) both.0) (broken-more agrees ms both.1)

  pub refs-more : (d : Data) → ref_fault ss d ≡ None → ref_fault more d ≡ None
  unfolding ref_fault
  refs-more d h =
      let both = no-parts (current_fault ss (main_ref d) (current_of d)) (refs_fault ss d) h in
      let agrees = main_agrees (main_ref d) (current_of d) in
      no-both _ _ (current-more (main_ref d) (current_of d) both.0)
      (ap (option_map (in_member (codes "refs"))) (broken-more agrees (members_at (codes "refs") d) (no-within (in_member (codes "refs")) (first_broken ss agrees (members_at (codes "refs") d)) both.1)))
