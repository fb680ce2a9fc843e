-- What the edits keep: metadata stays well-formed.
use Rattle.std.proofs.Common.{◌≡◌, ◌≢◌, ℕ, suc, ℤ, pos, negsuc, ◌≤◌, ◌<◌, ◌-◌, ◌^◌, ◌++◌, length, drop, List, [], ◌∷◌, Bool, true, false, not, ◌&&◌, ◌||◌, cond, codes, Option, Some, None, is_some, option_map, option_and_then, map, unwrap_or, FitsSigned, w64, refl, sym, ap, ◌∙◌, subst, arith, true≢false, bytes_eq, Ordering, Less, Equal, Greater, is_eq}
use Rattle.std.specs.Prelude.{nat_lt}
use Rattle.std.specs.Ordering.{int_eq, nat_cmp, match_ordering}
use Rattle.std.specs.Cmp.Lexicographic.{slice_cmp}
use Rattle.std.proofs.lemmas.Slice.Eq.{bytes_eq-Decides}
use Rattle.std.proofs.lemmas.Map.Text.{is_eq-slice_cmp}
use Rattle.std.proofs.lemmas.Bool.{ltb-true}
use Rattle.std.proofs.lemmas.Bool.Decides.{Decides-int_eq}
use Rattle.serde_json.specs.Data.{Data, null, boolean, number, string, array, object, unsigned, negative, float, Members, no_members, member, put, depth}
use Rattle.serde_json.specs.Find.{get, get_member, of_integer, as_i64, as_number, as_integer, as_object}
use Rattle.serde_json.specs.Written.{has_float}
use Rattle.serde_json.specs.View.{items_of}
use Rattle.metadata_json.specs.Fields.{signed, items_in, items_at, members_in, members_at, signed_at, unsigned as whole}
use Rattle.metadata_json.specs.Edits.{set, object_at, add, add_within, last}
use Rattle.metadata_json.proofs.Laws.{IsTame, get-set, get-set_other, get-add_other, get-add_within, get-add_within_other, get-members, members-set, members-object_at, tame-member, tame-object, tame-none, tame-set, tame-integer, tame-text, tame-unsigned, tame-get, tame-object_at, tame-add, tame-add_within}
use Rattle.metadata_form.specs.declared.form.Form.TheVariants.{SnapshotId, Long, Moment, RefType}
use Rattle.metadata_form.specs.declared.fields.Need.TheVariants.{Required, Optional}
use Rattle.metadata_form.specs.declared.key.Key.TheVariants as Key
use Rattle.metadata_form.specs.declared.rules.Rule.TheVariants as rule
use Rattle.metadata_form.specs.Path.{in_member, in_item, itself_unless}
use Rattle.metadata_form.specs.Form.{misfit, unless_minus_one, is_natural_in, is_ref_type, is_branch_text, items_fault, array_fault, members_fault, object_fault}
use Rattle.metadata_form.specs.Fields.{field, field_fault, fields_fault, record_fault, found_fault, rule_fault, rules_fault, metadata_rules, snapshot_fields, snapshot_log_fields, metadata_log_fields, ref_fields}
use Rattle.metadata_form.specs.Fault.{unless_2, list_fault}
use Rattle.metadata_view.specs.View.{updated_of, current_of, snapshots_of, snapshots_in, snapshot_of, main_ref, new_branch}
use Rattle.metadata_view.specs.Walk.{snapshot_with, first_return}
use Rattle.metadata_view.specs.Links.{is_main, main_agrees, current_fault, is_whole_ref, first_broken, refs_fault, ref_fault}
use Rattle.metadata_snapshots.specs.Conditions.{IsNewId, IsKnownParent}
use Rattle.metadata_snapshots.specs.Edits.{with_listed, without_snapshots, is_of, has_name}
use Rattle.metadata_snapshots.proofs.TakenLaws.{get-these_other}
use Rattle.metadata_snapshots.proofs.AddedLaws.{FitsFields, get-listed_other, snapshots-listed, known-listed, sound-listed, shallow-listed}
use Rattle.table_metadata.specs.Conditions.{OthersStay, added_fields, taken_fields}
use Rattle.table_metadata.specs.Edits.{with_snapshot, moved_ref, with_moved_ref, snapshot_log_item, with_current, moment_of, with_ref, metadata_log_item, with_previous, next_keeping}
use Rattle.metadata_view.specs.declared.types.Snapshot.{Snapshot}
use Rattle.metadata_form.proofs.FormLaws.{no-parts, no-both, no-within, or-true, record-parts, record-whole, record-set, fields-drop, first-field, items-push, items-drop, items-in, array-items, members-in, members-put, members-found, found-value, rules-set, rules-drop, first-rule, fits_i64, or-false}
use Rattle.metadata_view.proofs.SoundLaws.{IsSound}
use Rattle.metadata_view.specs.Index.{first_double}
use Rattle.metadata_snapshots.proofs.FieldLaws.{fits-id, fits-moment, is-moment, is_text, object-set, snapshots-in, whole-parts, whole-on, refs-same}

-- ---- fields that stay

differ_at : (xs ys : List ℕ) (b : Bool) → bytes_eq xs ys ≡ b → (xs ≡ ys → ⊥) → b ≡ false
differ_at xs ys true e h = absurd (h ((bytes_eq-Decides xs ys).0 e))
differ_at xs ys false e h = refl

differ : (xs ys : List ℕ) → (xs ≡ ys → ⊥) → bytes_eq xs ys ≡ false
differ xs ys h = differ_at xs ys (bytes_eq xs ys) refl h

apart : (xs ys : List ℕ) → bytes_eq xs ys ≡ false → bytes_eq ys xs ≡ false
apart xs ys e = differ ys xs (λ same. true≢false (sym ((bytes_eq-Decides xs ys).1 (sym same)) ∙ e))

get-moved_other : (q name : List ℕ) (id : ℤ) (d : Data) → bytes_eq q (codes "refs") ≡ false → get q (with_moved_ref name id d) ≡ get q d
unfolding with_moved_ref
get-moved_other q name id d r = get-set_other q (codes "refs") _ d r

get-current_other : (q : List ℕ) (id : ℤ) (t : ℕ) (d : Data) → bytes_eq q (codes "current-snapshot-id") ≡ false → bytes_eq q (codes "snapshot-log") ≡ false → get q (with_current id t d) ≡ get q d
unfolding with_current
get-current_other q id t d c l = get-add_other q (codes "snapshot-log") _ _ l ∙ get-set_other q (codes "current-snapshot-id") _ d c

get-if : (b : Bool) (q : List ℕ) (x y : Data) (o : Option Data) → get q x ≡ o → get q y ≡ o → get q (cond b x y) ≡ o
get-if true q x y o e f = e
get-if false q x y o e f = f

get-with_ref_other : (q name : List ℕ) (id : ℤ) (ms : ℕ) (d : Data) → bytes_eq q (codes "refs") ≡ false → bytes_eq q (codes "current-snapshot-id") ≡ false → bytes_eq q (codes "snapshot-log") ≡ false
    → get q (with_ref name id ms d) ≡ get q d
unfolding with_ref
get-with_ref_other q name id ms d r c l =
    let moved = get-moved_other q name id d r in
    get-if (is_main name) q _ _ (get q d) (get-current_other q id _ _ c l ∙ moved) moved

pub stays-with_ref : (name : List ℕ) (id : ℤ) (ms : ℕ) (d : Data) (q : List ℕ) → q ≢ codes "refs" → q ≢ codes "current-snapshot-id" → q ≢ codes "snapshot-log" → get q (with_ref name id ms d) ≡ get q d
stays-with_ref name id ms d q r c l = get-with_ref_other q name id ms d (differ _ _ r) (differ _ _ c) (differ _ _ l)

get-next_other : (q f : List ℕ) (most ms : ℕ) (d : Data) → bytes_eq q (codes "last-updated-ms") ≡ false → bytes_eq q (codes "metadata-log") ≡ false → get q (next_keeping most f ms d) ≡ get q d
unfolding next_keeping with_previous
get-next_other q f most ms d u l = get-set_other q (codes "last-updated-ms") _ _ u ∙ get-add_within_other most q (codes "metadata-log") _ d l

pub stays-next : (f : List ℕ) (most ms : ℕ) (d : Data) (q : List ℕ) → q ≢ codes "last-updated-ms" → q ≢ codes "metadata-log" → get q (next_keeping most f ms d) ≡ get q d
stays-next f most ms d q u l = get-next_other q f most ms d (differ _ _ u) (differ _ _ l)

-- ---- no float, and not too deep

tame-branch : (n : ℕ) (id : ℤ) → IsTame (suc n) (new_branch id)
unfolding new_branch
tame-branch n id =
    let kind = tame-member n (codes "type") (string (codes "branch")) no_members (tame-text n (codes "branch")) (tame-none n) in
    tame-object n (member (codes "snapshot-id") (number (of_integer id)) (member (codes "type") (string (codes "branch")) no_members)) (tame-member n (codes "snapshot-id") (number (of_integer id)) (member (codes "type") (string (codes "branch")) no_members) (tame-integer n id) kind)

tame-moved_ref : (n : ℕ) (id : ℤ) (o : Option Data) → ((e : Data) → o ≡ Some e → IsTame (suc n) e) → IsTame (suc n) (moved_ref id o)
unfolding moved_ref
tame-moved_ref n id None p = tame-branch n id
tame-moved_ref n id (Some r) p = tame-set n (codes "snapshot-id") (number (of_integer id)) r (tame-integer n id) (p r refl)

tame-with_moved_ref : (n : ℕ) (name : List ℕ) (id : ℤ) (d : Data) → IsTame (suc (suc (suc n))) d → IsTame (suc (suc (suc n))) (with_moved_ref name id d)
unfolding with_moved_ref
tame-with_moved_ref n name id d p =
    let refs = tame-object_at (suc n) (codes "refs") d p in
    let old = object_at (codes "refs") d in
    let moved = moved_ref id (get name old) in
    tame-set (suc (suc n)) (codes "refs") (set name moved old) d (tame-set (suc n) name moved old (tame-moved_ref n id (get name old) (λ e h. tame-get (suc n) name old e refs h)) refs) p

tame-log_item : (n : ℕ) (id : ℤ) (t : ℕ) → IsTame (suc n) (snapshot_log_item id t)
unfolding snapshot_log_item
tame-log_item n id t =
    let time = tame-member n (codes "timestamp-ms") (number (unsigned t)) no_members (tame-unsigned n t) (tame-none n) in
    tame-object n (member (codes "snapshot-id") (number (of_integer id)) (member (codes "timestamp-ms") (number (unsigned t)) no_members)) (tame-member n (codes "snapshot-id") (number (of_integer id)) (member (codes "timestamp-ms") (number (unsigned t)) no_members) (tame-integer n id) time)

tame-with_current : (n : ℕ) (id : ℤ) (t : ℕ) (d : Data) → IsTame (suc (suc (suc n))) d → IsTame (suc (suc (suc n))) (with_current id t d)
unfolding with_current
tame-with_current n id t d p =
    tame-add (suc n) (codes "snapshot-log") (snapshot_log_item id t) (set (codes "current-snapshot-id") (number (of_integer id)) d) (tame-log_item n id t) (tame-set (suc (suc n)) (codes "current-snapshot-id") (number (of_integer id)) d (tame-integer (suc (suc n)) id) p)

tame-if : (n : ℕ) (b : Bool) (x y : Data) → IsTame n x → IsTame n y → IsTame n (cond b x y)
tame-if n true x y p q = p
tame-if n false x y p q = q

pub tame-with_ref : (n : ℕ) (name : List ℕ) (id : ℤ) (ms : ℕ) (d : Data) → IsTame (suc (suc (suc n))) d → IsTame (suc (suc (suc n))) (with_ref name id ms d)
unfolding with_ref
tame-with_ref n name id ms d p =
    let moved = tame-with_moved_ref n name id d p in
    let m = with_moved_ref name id d in
    tame-if (suc (suc (suc n))) (is_main name) (with_current id (moment_of ms d) m) m (tame-with_current n id (moment_of ms d) m moved) moved

tame-file_item : (n : ℕ) (f : List ℕ) (t : ℕ) → IsTame (suc n) (metadata_log_item f t)
unfolding metadata_log_item
tame-file_item n f t =
    let time = tame-member n (codes "timestamp-ms") (number (unsigned t)) no_members (tame-unsigned n t) (tame-none n) in
    tame-object n (member (codes "metadata-file") (string f) (member (codes "timestamp-ms") (number (unsigned t)) no_members)) (tame-member n (codes "metadata-file") (string f) (member (codes "timestamp-ms") (number (unsigned t)) no_members) (tame-text n f) time)

pub tame-next : (n most : ℕ) (f : List ℕ) (ms : ℕ) (d : Data) → IsTame (suc (suc (suc n))) d → IsTame (suc (suc (suc n))) (next_keeping most f ms d)
unfolding next_keeping with_previous
tame-next n most f ms d p =
    let log = tame-add_within (suc n) most (codes "metadata-log") (metadata_log_item f (updated_of d)) d (tame-file_item n f (updated_of d)) p in
    tame-set (suc (suc n)) (codes "last-updated-ms") (number (unsigned (moment_of ms d))) (add_within most (codes "metadata-log") (metadata_log_item f (updated_of d)) d) (tame-unsigned (suc (suc n)) (moment_of ms d)) log

-- ---- the id of a snapshot isn't -1

itself-none : (b : Bool) → itself_unless b ≡ None → b ≡ true
itself-none true e = refl
itself-none false e = absurd (cc)

id_found : (o : Option Data) → found_fault Required (misfit SnapshotId) o ≡ None → is_some (option_and_then unless_minus_one (option_and_then signed o)) ≡ true
unfolding misfit
id_found None h = absurd (cc)
id_found (Some v) h = itself-none _ h

id_of : (d : Data) → record_fault snapshot_fields d ≡ None → is_some (option_and_then unless_minus_one (option_and_then signed (get (codes "snapshot-id") d))) ≡ true
id_of d h = id_found (get (codes "snapshot-id") d) (first-field (field Key.SnapshotId Required SnapshotId) (drop 5 snapshot_fields) d (fields-drop 4 snapshot_fields d (record-parts snapshot_fields d h).1))

unless-some : (z : ℤ) (b : Bool) → is_some (cond b None (Some z)) ≡ true → cond b None (Some z) ≡ Some z
unless-some z true h = absurd (cc)
unless-some z false h = refl

is_id : (o : Option ℤ) (id : ℤ) → unwrap_or o (pos 0) ≡ id → is_some (option_and_then unless_minus_one o) ≡ true → unless_minus_one id ≡ Some id
is_id None id e h = absurd (cc)
is_id (Some z) id e h = subst (λ (y : ℤ). unless_minus_one y ≡ Some y) e (unless-some z (int_eq z (negsuc 0)) h)

named_at : (d : Data) (id : ℤ) (rest : Option Snapshot) (b : Bool) → int_eq (signed_at (codes "snapshot-id") d) id ≡ b
    → is_some (option_and_then unless_minus_one (option_and_then signed (get (codes "snapshot-id") d))) ≡ true
    → (is_some rest ≡ true → unless_minus_one id ≡ Some id) → is_some (cond b (Some (snapshot_of d)) rest) ≡ true → unless_minus_one id ≡ Some id
named_at d id rest true e h later k = is_id (option_and_then signed (get (codes "snapshot-id") d)) id ((Decides-int_eq (signed_at (codes "snapshot-id") d) id).0 e) h
named_at d id rest false e h later k = later k

id_named : (i : ℕ) (ds : List Data) (id : ℤ) → items_fault (record_fault snapshot_fields) i ds ≡ None → is_some (snapshot_with (map snapshot_of ds) id) ≡ true → unless_minus_one id ≡ Some id
unfolding snapshot_of
id_named i [] id h k = absurd (true≢false (sym k))
id_named i (d ∷ ds) id h k =
    let both = no-parts (option_map (in_item i) (record_fault snapshot_fields d)) (items_fault (record_fault snapshot_fields) (suc i) ds) h in
    named_at d id (snapshot_with (map snapshot_of ds) id) (int_eq (signed_at (codes "snapshot-id") d) id) refl (id_of d (no-within (in_item i) (record_fault snapshot_fields d) both.0)) (id_named (suc i) ds id both.1) k

-- ---- a moved ref

id-moved : (id : ℤ) (o : Option Data) → as_i64 (of_integer id) ≡ Some id → signed_at (codes "snapshot-id") (moved_ref id o) ≡ id
unfolding moved_ref new_branch
id-moved id None e = ap (λ i. unwrap_or i (pos 0)) e
id-moved id (Some r) e = ap (λ x. unwrap_or (option_and_then signed x) (pos 0)) (get-set (codes "snapshot-id") (number (of_integer id)) r) ∙ ap (λ i. unwrap_or i (pos 0)) e

branch_type : misfit RefType (string (codes "branch")) ≡ None
unfolding misfit is_ref_type is_branch_text
branch_type = refl

branch-fields : (id : ℤ) → misfit Long (number (of_integer id)) ≡ None → fields_fault ref_fields (new_branch id) ≡ None
unfolding fields_fault field_fault new_branch
branch-fields id e =
    no-both None _ refl (no-both None _ refl (no-both None _ refl
    (no-both _ _ (ap (option_map (in_member (codes "snapshot-id"))) e) (no-both _ _ (ap (option_map (in_member (codes "type"))) branch_type) refl))))

branch-object : (id : ℤ) → is_some (as_object (new_branch id)) ≡ true
unfolding new_branch
branch-object id = refl

moved-whole : (id : ℤ) (o : Option Data) → misfit Long (number (of_integer id)) ≡ None → ((r : Data) → o ≡ Some r → record_fault ref_fields r ≡ None) → record_fault ref_fields (moved_ref id o) ≡ None
unfolding moved_ref
moved-whole id None e h = record-whole ref_fields (new_branch id) (branch-object id) (branch-fields id e)
moved-whole id (Some r) e h = record-set ref_fields (codes "snapshot-id") (number (of_integer id)) r (tt, (tt, (tt, (e, (tt, tt))))) (h r refl)

get-object_at : (q k : List ℕ) (d : Data) → get q (object_at k d) ≡ get_member q (members_at k d)
unfolding object_at
get-object_at q k d = refl

main-member : (o : Option Data) → get_member (codes "main") (members_in o) ≡ option_and_then (get (codes "main")) o
main-member None = refl
main-member (Some d) = sym (get-members (codes "main") d)

get-moved_refs : (name : List ℕ) (id : ℤ) (d : Data) → get (codes "refs") (with_moved_ref name id d) ≡ Some (set name (moved_ref id (get name (object_at (codes "refs") d))) (object_at (codes "refs") d))
unfolding with_moved_ref
get-moved_refs name id d = get-set (codes "refs") _ d

get-refs : (name : List ℕ) (id : ℤ) (ms : ℕ) (d : Data) → get (codes "refs") (with_ref name id ms d) ≡ Some (set name (moved_ref id (get name (object_at (codes "refs") d))) (object_at (codes "refs") d))
unfolding with_ref
get-refs name id ms d =
    let moved = get-moved_refs name id d in
    get-if (is_main name) (codes "refs") _ _ _ (get-current_other (codes "refs") id _ _ refl refl ∙ moved) moved

-- ---- each ref names a snapshot, and `main` the current one

broken-put_at : (ss : List Snapshot) (b : Bool) (o : Ordering) (x y z : Members) → first_broken ss b x ≡ None → (o ≡ Equal → first_broken ss b y ≡ None) → first_broken ss b z ≡ None → first_broken ss b (match_ordering o x y z) ≡ None
broken-put_at ss b Less x y z p q r = p
broken-put_at ss b Equal x y z p q r = q refl
broken-put_at ss b Greater x y z p q r = r

equal-key : (k l : List ℕ) → slice_cmp nat_cmp k l ≡ Equal → k ≡ l
equal-key k l e = (bytes_eq-Decides k l).0 (sym (is_eq-slice_cmp k l) ∙ ap is_eq e)

broken-put : (ss : List Snapshot) (b : Bool) (k : List ℕ) (d : Data) (ms : Members) → is_whole_ref ss b k d ≡ true → first_broken ss b ms ≡ None → first_broken ss b (put k d ms) ≡ None
unfolding first_broken
broken-put ss b k d no_members new old = whole-on (is_whole_ref ss b k d) None _ new refl
broken-put ss b k d (member l e ms) new old =
    let both = whole-parts (is_whole_ref ss b l e) (first_broken ss b ms) (in_member l []) old in
    broken-put_at ss b (slice_cmp nat_cmp k l) _ _ _
    (whole-on (is_whole_ref ss b k d) _ _ new old)
    (λ same. whole-on (is_whole_ref ss b l d) _ _ (ap (λ q. is_whole_ref ss b q d) (sym (equal-key k l same)) ∙ new) both.1)
    (whole-on (is_whole_ref ss b l e) _ _ both.0 (broken-put ss b k d ms new both.1))

agreeing : (a b c : Bool) → (a && (b || c)) ≡ true → (a && (true || c)) ≡ true
agreeing true b c e = refl
agreeing false b c e = e

-- refs that are whole where `main` may differ are whole where it agrees
broken-agreeing : (ss : List Snapshot) (b : Bool) (ms : Members) → first_broken ss b ms ≡ None → first_broken ss true ms ≡ None
unfolding first_broken
broken-agreeing ss b no_members h = refl
broken-agreeing ss b (member k d ms) h =
    let both = whole-parts (is_whole_ref ss b k d) (first_broken ss b ms) (in_member k []) h in
    whole-on (is_whole_ref ss true k d) _ _ (agreeing (is_some (snapshot_with ss (signed_at (codes "snapshot-id") d))) b (not (is_main k)) both.0) (broken-agreeing ss b ms both.1)

-- ---- the tree with a moved ref, case by case

-- `main` moves
main-moves : (name : List ℕ) (id : ℤ) (ms : ℕ) (d : Data) → is_main name ≡ true → with_ref name id ms d ≡ with_current id (moment_of ms d) (with_moved_ref name id d)
unfolding with_ref
main-moves name id ms d e = ap (λ b. cond b (with_current id (moment_of ms d) (with_moved_ref name id d)) (with_moved_ref name id d)) e

main-stays : (name : List ℕ) (id : ℤ) (ms : ℕ) (d : Data) → is_main name ≡ false → with_ref name id ms d ≡ with_moved_ref name id d
unfolding with_ref
main-stays name id ms d e = ap (λ b. cond b (with_current id (moment_of ms d) (with_moved_ref name id d)) (with_moved_ref name id d)) e

current-moved : (id : ℤ) (t : ℕ) (d : Data) → as_i64 (of_integer id) ≡ Some id → unless_minus_one id ≡ Some id → current_of (with_current id t d) ≡ Some id
unfolding with_current
current-moved id t d fits_it named =
    ap (λ o. option_and_then unless_minus_one (option_and_then signed o)) (get-add_other (codes "current-snapshot-id") (codes "snapshot-log") _ _ refl ∙ get-set (codes "current-snapshot-id") (number (of_integer id)) d)
    ∙ ap (λ o. option_and_then unless_minus_one o) fits_it ∙ named

module _ (ss : List Snapshot) (name : List ℕ) (id : ℤ) (ms : ℕ) (d : Data) (fits_it : as_i64 (of_integer id) ≡ Some id) (named : unless_minus_one id ≡ Some id) (known : is_some (snapshot_with ss id) ≡ true) where
  abbrev moved : Data
  moved = moved_ref id (get name (object_at (codes "refs") d))

  members-moved : members_at (codes "refs") (with_ref name id ms d) ≡ put name moved (members_at (codes "refs") d)
  members-moved = ap members_in (get-refs name id ms d) ∙ members-set name moved (object_at (codes "refs") d) ∙ ap (put name moved) (members-object_at (codes "refs") d)

  moved-known : is_some (snapshot_with ss (signed_at (codes "snapshot-id") moved)) ≡ true
  moved-known = ap (λ (i : ℤ). is_some (snapshot_with ss i)) (id-moved id _ fits_it) ∙ known

  refs-main : is_main name ≡ true → ref_fault ss d ≡ None → ref_fault ss (with_ref name id ms d) ≡ None
  unfolding ref_fault
  refs-main e old =
      let x = with_ref name id ms d in
      let is : name ≡ codes "main" = (bytes_eq-Decides name (codes "main")).0 e in
      let found : main_ref x ≡ Some moved = ap (λ o. option_and_then (get (codes "main")) o) (get-refs name id ms d) ∙ ap (λ k. get k (set name moved (object_at (codes "refs") d))) (sym is) ∙ get-set name moved (object_at (codes "refs") d) in
      let current : current_of x ≡ Some id = ap current_of (main-moves name id ms d e) ∙ current-moved id (moment_of ms d) (with_moved_ref name id d) fits_it named in
      let agree : main_agrees (main_ref x) (current_of x) ≡ true = ap (λ o. main_agrees o (current_of x)) found ∙ ap (main_agrees (Some moved)) current ∙ (Decides-int_eq (signed_at (codes "snapshot-id") moved) id).1 (id-moved id _ fits_it) in
      let both = no-parts (current_fault ss (main_ref d) (current_of d)) (refs_fault ss d) old in
      let whole = no-within (in_member (codes "refs")) (first_broken ss (main_agrees (main_ref d) (current_of d)) (members_at (codes "refs") d)) both.1 in
      let new = broken-put ss true name moved (members_at (codes "refs") d) (ap (λ b. b && (true || not (is_main name))) moved-known) (broken-agreeing ss _ (members_at (codes "refs") d) whole) in
      no-both (current_fault ss (main_ref x) (current_of x)) (refs_fault ss x)
      (ap (λ o. current_fault ss o (current_of x)) found)
      (ap (option_map (in_member (codes "refs"))) (ap (λ b. first_broken ss b (members_at (codes "refs") x)) agree ∙ ap (first_broken ss true) members-moved ∙ new))

  refs-other : is_main name ≡ false → ref_fault ss d ≡ None → ref_fault ss (with_ref name id ms d) ≡ None
  unfolding ref_fault
  refs-other e old =
      let x = with_ref name id ms d in
      let found : main_ref x ≡ main_ref d =
      ap (λ o. option_and_then (get (codes "main")) o) (get-refs name id ms d) ∙ get-set_other (codes "main") name moved (object_at (codes "refs") d) (apart name (codes "main") e) ∙ get-object_at (codes "main") (codes "refs") d ∙ main-member (get (codes "refs") d) in
      let current : current_of x ≡ current_of d = ap current_of (main-stays name id ms d e) ∙ ap (λ o. option_and_then unless_minus_one (option_and_then signed o)) (get-moved_other (codes "current-snapshot-id") name id d refl) in
      let agree : main_agrees (main_ref x) (current_of x) ≡ main_agrees (main_ref d) (current_of d) = ap (λ o. main_agrees o (current_of x)) found ∙ ap (main_agrees (main_ref d)) current in
      let b = main_agrees (main_ref d) (current_of d) in
      let both = no-parts (current_fault ss (main_ref d) (current_of d)) (refs_fault ss d) old in
      let whole = no-within (in_member (codes "refs")) (first_broken ss b (members_at (codes "refs") d)) both.1 in
      let other : (b || not (is_main name)) ≡ true = ap (λ a. b || not a) e ∙ or-true b in
      let new = broken-put ss b name moved (members_at (codes "refs") d) (ap (λ a. a && (b || not (is_main name))) moved-known ∙ other) whole in
      no-both (current_fault ss (main_ref x) (current_of x)) (refs_fault ss x)
      (ap (λ o. current_fault ss o (current_of x)) found ∙ ap (current_fault ss (main_ref d)) current ∙ both.0)
      (ap (option_map (in_member (codes "refs"))) (ap (λ a. first_broken ss a (members_at (codes "refs") x)) agree ∙ ap (first_broken ss b) members-moved ∙ new))

  refs-moved : (b : Bool) → is_main name ≡ b → ref_fault ss d ≡ None → ref_fault ss (with_ref name id ms d) ≡ None
  refs-moved true e old = refs-main e old
  refs-moved false e old = refs-other e old

log-item : (id : ℤ) (t : ℕ) → misfit Long (number (of_integer id)) ≡ None → t < 2 ^ 63 → fields_fault snapshot_log_fields (snapshot_log_item id t) ≡ None
unfolding fields_fault field_fault snapshot_log_item
log-item id t fit h = no-both _ _ (ap (option_map (in_member (codes "snapshot-id"))) fit) (no-both _ _ (ap (option_map (in_member (codes "timestamp-ms"))) (fits-moment t h)) refl)

log-item_object : (id : ℤ) (t : ℕ) → is_some (as_object (snapshot_log_item id t)) ≡ true
unfolding snapshot_log_item
log-item_object id t = refl

-- ---- what the rules say of the fields that are set

refs-in : (d : Data) → rules_fault metadata_rules d ≡ None → members_fault (record_fault ref_fields) (members_at (codes "refs") d) ≡ None
unfolding rule_fault
refs-in d old = members-in (record_fault ref_fields) (get (codes "refs") d) (no-within (in_member (codes "refs")) _ (first-rule rule.Refs (drop 15 metadata_rules) d (rules-drop 14 metadata_rules d old)))

log-in : (d : Data) → rules_fault metadata_rules d ≡ None → items_fault (record_fault snapshot_log_fields) 0 (items_at (codes "snapshot-log") d) ≡ None
unfolding rule_fault
log-in d old = items-in (record_fault snapshot_log_fields) (get (codes "snapshot-log") d) (no-within (in_member (codes "snapshot-log")) _ (first-rule rule.SnapshotLog (drop 17 metadata_rules) d (rules-drop 16 metadata_rules d old)))

files-in : (d : Data) → rules_fault metadata_rules d ≡ None → items_fault (record_fault metadata_log_fields) 0 (items_at (codes "metadata-log") d) ≡ None
unfolding rule_fault
files-in d old = items-in (record_fault metadata_log_fields) (get (codes "metadata-log") d) (no-within (in_member (codes "metadata-log")) _ (first-rule rule.MetadataLog (drop 11 metadata_rules) d (rules-drop 10 metadata_rules d old)))

refs-object : (name : List ℕ) (id : ℤ) (d : Data) → misfit Long (number (of_integer id)) ≡ None → members_fault (record_fault ref_fields) (members_at (codes "refs") d) ≡ None
    → object_fault (record_fault ref_fields) (set name (moved_ref id (get name (object_at (codes "refs") d))) (object_at (codes "refs") d)) ≡ None
unfolding set object_at
refs-object name id d fit all =
    let ms = members_at (codes "refs") d in
    members-put (record_fault ref_fields) name (moved_ref id (get_member name ms)) ms (moved-whole id (get_member name ms) fit (λ r h. members-found (record_fault ref_fields) name ms r all h)) all

refs-rule : (name : List ℕ) (id : ℤ) (d : Data) → misfit Long (number (of_integer id)) ≡ None → members_fault (record_fault ref_fields) (members_at (codes "refs") d) ≡ None
    → rule_fault rule.Refs (set (codes "refs") (set name (moved_ref id (get name (object_at (codes "refs") d))) (object_at (codes "refs") d)) d) ≡ None
unfolding rule_fault
refs-rule name id d fit all =
    let refs = set name (moved_ref id (get name (object_at (codes "refs") d))) (object_at (codes "refs") d) in
    ap (option_map (in_member (codes "refs"))) (ap (found_fault Optional (object_fault (record_fault ref_fields))) (get-set (codes "refs") refs d) ∙ found-value Optional (object_fault (record_fault ref_fields)) refs (refs-object name id d fit all))

current-rule : (id : ℤ) (d : Data) → misfit Long (number (of_integer id)) ≡ None → rule_fault (rule.Holds (field Key.CurrentSnapshotId Optional Long)) (set (codes "current-snapshot-id") (number (of_integer id)) d) ≡ None
unfolding rule_fault field_fault
current-rule id d fit = ap (option_map (in_member (codes "current-snapshot-id"))) (ap (found_fault Optional (misfit Long)) (get-set (codes "current-snapshot-id") (number (of_integer id)) d) ∙ fit)

log-rule : (id : ℤ) (t : ℕ) (d : Data) → misfit Long (number (of_integer id)) ≡ None → t < 2 ^ 63 → items_fault (record_fault snapshot_log_fields) 0 (items_at (codes "snapshot-log") d) ≡ None
    → rule_fault rule.SnapshotLog (set (codes "snapshot-log") (array (items_of (items_at (codes "snapshot-log") d ++ snapshot_log_item id t ∷ []))) d) ≡ None
unfolding rule_fault
log-rule id t d fit early all =
    let longer = items_at (codes "snapshot-log") d ++ snapshot_log_item id t ∷ [] in
    let whole = record-whole snapshot_log_fields (snapshot_log_item id t) (log-item_object id t) (log-item id t fit early) in
    ap (option_map (in_member (codes "snapshot-log"))) (ap (found_fault Optional (array_fault (record_fault snapshot_log_fields))) (get-set (codes "snapshot-log") (array (items_of longer)) d)
    ∙ array-items (record_fault snapshot_log_fields) longer (items-push (record_fault snapshot_log_fields) 0 (items_at (codes "snapshot-log") d) (snapshot_log_item id t) all whole))

-- ---- the rules of metadata

rules-refs : (name : List ℕ) (id : ℤ) (d : Data) → misfit Long (number (of_integer id)) ≡ None → rules_fault metadata_rules d ≡ None → rules_fault metadata_rules (with_moved_ref name id d) ≡ None
unfolding with_moved_ref
rules-refs name id d fit old =
    rules-set metadata_rules (codes "refs") (set name (moved_ref id (get name (object_at (codes "refs") d))) (object_at (codes "refs") d)) d
    (tt, (tt, (tt, (tt, (tt, (tt, (tt, (tt, (tt, (tt, (tt, (tt, (tt, (tt, (refs-rule name id d fit (refs-in d old), (tt, (tt, (tt, (tt, (tt, (tt, tt))))))))))))))))))))) old

rules-current : (id : ℤ) (d : Data) → misfit Long (number (of_integer id)) ≡ None → rules_fault metadata_rules d ≡ None → rules_fault metadata_rules (set (codes "current-snapshot-id") (number (of_integer id)) d) ≡ None
rules-current id d fit old =
    rules-set metadata_rules (codes "current-snapshot-id") (number (of_integer id)) d
    (tt, (current-rule id d fit, (tt, (tt, (tt, (tt, (tt, (tt, (tt, (tt, (tt, (tt, (tt, (tt, (tt, (tt, (tt, (tt, (tt, (tt, (tt, tt))))))))))))))))))))) old

rules-log : (id : ℤ) (t : ℕ) (d : Data) → misfit Long (number (of_integer id)) ≡ None → t < 2 ^ 63 → rules_fault metadata_rules d ≡ None → rules_fault metadata_rules (add (codes "snapshot-log") (snapshot_log_item id t) d) ≡ None
unfolding add
rules-log id t d fit early old =
    rules-set metadata_rules (codes "snapshot-log") (array (items_of (items_at (codes "snapshot-log") d ++ snapshot_log_item id t ∷ []))) d
    (tt, (tt, (tt, (tt, (tt, (tt, (tt, (tt, (tt, (tt, (tt, (tt, (tt, (tt, (tt, (tt, (log-rule id t d fit early (log-in d old), (tt, (tt, (tt, (tt, tt))))))))))))))))))))) old

rules-moved : (name : List ℕ) (id : ℤ) (ms : ℕ) (d : Data) → misfit Long (number (of_integer id)) ≡ None → moment_of ms d < 2 ^ 63 → rules_fault metadata_rules d ≡ None → (b : Bool) → is_main name ≡ b → rules_fault metadata_rules (with_ref name id ms d) ≡ None
unfolding with_current
rules-moved name id ms d fit early old true e =
    subst (λ (x : Data). rules_fault metadata_rules x ≡ None) (sym (main-moves name id ms d e))
    (rules-log id (moment_of ms d) _ fit early (rules-current id _ fit (rules-refs name id d fit old)))
rules-moved name id ms d fit early old false e =
    subst (λ (x : Data). rules_fault metadata_rules x ≡ None) (sym (main-stays name id ms d e)) (rules-refs name id d fit old)

moment_at : (n : ℕ) (b : Bool) → nat_lt n (2 ^ 63) ≡ b → is_natural_in (cond b (Some (pos n)) None) ≡ true → n < 2 ^ 63
moment_at n true e h = ltb-true n (2 ^ 63) e
moment_at n false e h = absurd (cc)

moment-bound : (o : Option Data) → found_fault Required (misfit Moment) o ≡ None → unwrap_or (option_and_then whole o) 0 < 2 ^ 63
unfolding misfit
moment-bound None h = omega arith
moment-bound (Some null) h = omega arith
moment-bound (Some (boolean b)) h = omega arith
moment-bound (Some (number (unsigned n))) h = moment_at n (nat_lt n (2 ^ 63)) refl (itself-none _ h)
moment-bound (Some (number (negative z))) h = omega arith
moment-bound (Some (number (float x))) h = omega arith
moment-bound (Some (string s)) h = omega arith
moment-bound (Some (array ds)) h = omega arith
moment-bound (Some (object ms)) h = omega arith

updated-bound : (d : Data) → rules_fault metadata_rules d ≡ None → updated_of d < 2 ^ 63
unfolding rule_fault field_fault
updated-bound d h = moment-bound (get (codes "last-updated-ms") d) (no-within (in_member (codes "last-updated-ms")) _ (first-rule (rule.Holds (field Key.LastUpdatedMs Required Moment)) (drop 9 metadata_rules) d (rules-drop 8 metadata_rules d h)))

object-with_ref : (name : List ℕ) (id : ℤ) (ms : ℕ) (d : Data) → (b : Bool) → is_main name ≡ b → is_some (as_object (with_ref name id ms d)) ≡ true
unfolding with_moved_ref with_current add
object-with_ref name id ms d true e = ap (λ (x : Data). is_some (as_object x)) (main-moves name id ms d e) ∙ object-set (codes "snapshot-log") _ _
object-with_ref name id ms d false e = ap (λ (x : Data). is_some (as_object x)) (main-stays name id ms d e) ∙ object-set (codes "refs") _ d

pub sound-with_ref : (name : List ℕ) (id : ℤ) (ms : ℕ) (d : Data) → as_i64 (of_integer id) ≡ Some id → is_some (snapshot_with (snapshots_of d) id) ≡ true → ms < 2 ^ 63 → IsSound d → depth d ≤ 127 → IsSound (with_ref name id ms d)
sound-with_ref name id ms d fits_it known early s shallow =
    let fit = fits-id id fits_it in
    let x = with_ref name id ms d in
    let main = is_main name in
    let stays = λ (q : List ℕ) (a : bytes_eq q (codes "refs") ≡ false) (b : bytes_eq q (codes "current-snapshot-id") ≡ false) (c : bytes_eq q (codes "snapshot-log") ≡ false). get-with_ref_other q name id ms d a b c in
    let snapshots = stays (codes "snapshots") refl refl refl in
    let same : snapshots_of x ≡ snapshots_of d = ap snapshots_in snapshots in
    let t : moment_of ms d < 2 ^ 63 = omega (arith, updated-bound d s.rules) in
    let named = id_named 0 (items_at (codes "snapshots") d) id (snapshots-in d s.rules) known in
    record {
      no_float = (tame-with_ref 124 name id ms d (s.no_float, shallow)).0;
      version = ap (λ (o : Option Data). option_and_then unless_2 (option_and_then as_integer (option_and_then as_number o))) (stays (codes "format-version") refl refl refl) ∙ s.version;
      is_object = object-with_ref name id ms d main refl;
      rules = rules-moved name id ms d fit t s.rules main refl;
      lists = ap (λ (o : Option Data). items_fault list_fault 0 (items_in o)) snapshots ∙ s.lists;
      ids = ap first_double same ∙ s.ids;
      refs = ap (λ ss. ref_fault ss x) same ∙ refs-moved (snapshots_of d) name id ms d fits_it named known main refl s.refs;
      walks = ap (λ ss. first_return ss 0 ss) same ∙ s.walks;
    }

pub shallow-with_ref : (name : List ℕ) (id : ℤ) (ms : ℕ) (d : Data) → has_float d ≡ false → depth d ≤ 127 → depth (with_ref name id ms d) ≤ 127
shallow-with_ref name id ms d f shallow = (tame-with_ref 124 name id ms d (f, shallow)).1

-- ---- the next version

get-next_updated : (f : List ℕ) (most ms : ℕ) (d : Data) → get (codes "last-updated-ms") (next_keeping most f ms d) ≡ Some (number (unsigned (moment_of ms d)))
unfolding next_keeping
get-next_updated f most ms d = get-set (codes "last-updated-ms") _ _

get-next_log : (f : List ℕ) (most ms : ℕ) (d : Data) → get (codes "metadata-log") (next_keeping most f ms d) ≡ Some (array (items_of (last most (items_at (codes "metadata-log") d ++ metadata_log_item f (updated_of d) ∷ []))))
unfolding next_keeping with_previous
get-next_log f most ms d = get-set_other (codes "metadata-log") (codes "last-updated-ms") _ _ refl ∙ get-add_within most (codes "metadata-log") _ d

file-item : (f : List ℕ) (t : ℕ) → t < 2 ^ 63 → fields_fault metadata_log_fields (metadata_log_item f t) ≡ None
unfolding fields_fault field_fault metadata_log_item
file-item f t h = no-both _ _ (ap (option_map (in_member (codes "metadata-file"))) (is_text f)) (no-both _ _ (ap (option_map (in_member (codes "timestamp-ms"))) (fits-moment t h)) refl)

file-item_object : (f : List ℕ) (t : ℕ) → is_some (as_object (metadata_log_item f t)) ≡ true
unfolding metadata_log_item
file-item_object f t = refl

files-rule : (f : List ℕ) (most : ℕ) (d : Data) → updated_of d < 2 ^ 63 → items_fault (record_fault metadata_log_fields) 0 (items_at (codes "metadata-log") d) ≡ None
    → rule_fault rule.MetadataLog (set (codes "metadata-log") (array (items_of (last most (items_at (codes "metadata-log") d ++ metadata_log_item f (updated_of d) ∷ [])))) d) ≡ None
unfolding rule_fault
files-rule f most d early all =
    let item = metadata_log_item f (updated_of d) in
    let longer = items_at (codes "metadata-log") d ++ item ∷ [] in
    let whole = record-whole metadata_log_fields item (file-item_object f (updated_of d)) (file-item f (updated_of d) early) in
    let kept = items-drop (record_fault metadata_log_fields) 0 (length longer - most) longer (items-push (record_fault metadata_log_fields) 0 (items_at (codes "metadata-log") d) item all whole) in
    ap (option_map (in_member (codes "metadata-log"))) (ap (found_fault Optional (array_fault (record_fault metadata_log_fields))) (get-set (codes "metadata-log") (array (items_of (last most longer))) d)
    ∙ array-items (record_fault metadata_log_fields) (last most longer) kept)

updated-rule : (t : ℕ) (d : Data) → t < 2 ^ 63 → rule_fault (rule.Holds (field Key.LastUpdatedMs Required Moment)) (set (codes "last-updated-ms") (number (unsigned t)) d) ≡ None
unfolding rule_fault field_fault
updated-rule t d h = ap (option_map (in_member (codes "last-updated-ms"))) (ap (found_fault Required (misfit Moment)) (get-set (codes "last-updated-ms") (number (unsigned t)) d) ∙ is-moment t h)

rules-files : (f : List ℕ) (most : ℕ) (d : Data) → updated_of d < 2 ^ 63 → rules_fault metadata_rules d ≡ None → rules_fault metadata_rules (add_within most (codes "metadata-log") (metadata_log_item f (updated_of d)) d) ≡ None
unfolding add_within
rules-files f most d early old =
    rules-set metadata_rules (codes "metadata-log") (array (items_of (last most (items_at (codes "metadata-log") d ++ metadata_log_item f (updated_of d) ∷ [])))) d
    (tt, (tt, (tt, (tt, (tt, (tt, (tt, (tt, (tt, (tt, (files-rule f most d early (files-in d old), (tt, (tt, (tt, (tt, (tt, (tt, (tt, (tt, (tt, (tt, tt))))))))))))))))))))) old

rules-updated : (t : ℕ) (d : Data) → t < 2 ^ 63 → rules_fault metadata_rules d ≡ None → rules_fault metadata_rules (set (codes "last-updated-ms") (number (unsigned t)) d) ≡ None
rules-updated t d h old =
    rules-set metadata_rules (codes "last-updated-ms") (number (unsigned t)) d
    (tt, (tt, (tt, (tt, (tt, (tt, (tt, (tt, (updated-rule t d h, (tt, (tt, (tt, (tt, (tt, (tt, (tt, (tt, (tt, (tt, (tt, (tt, tt))))))))))))))))))))) old

rules-next : (f : List ℕ) (most ms : ℕ) (d : Data) → updated_of d < 2 ^ 63 → moment_of ms d < 2 ^ 63 → rules_fault metadata_rules d ≡ None → rules_fault metadata_rules (next_keeping most f ms d) ≡ None
unfolding next_keeping with_previous
rules-next f most ms d before early old = rules-updated (moment_of ms d) _ early (rules-files f most d before old)

object-next : (f : List ℕ) (most ms : ℕ) (d : Data) → is_some (as_object (next_keeping most f ms d)) ≡ true
unfolding next_keeping
object-next f most ms d = object-set (codes "last-updated-ms") _ _

pub sound-next : (f : List ℕ) (most ms : ℕ) (d : Data) → ms < 2 ^ 63 → IsSound d → depth d ≤ 127 → IsSound (next_keeping most f ms d)
sound-next f most ms d early s shallow =
    let x = next_keeping most f ms d in
    let stays = λ (q : List ℕ) (a : bytes_eq q (codes "last-updated-ms") ≡ false) (b : bytes_eq q (codes "metadata-log") ≡ false). get-next_other q f most ms d a b in
    let snapshots = stays (codes "snapshots") refl refl in
    let same : snapshots_of x ≡ snapshots_of d = ap snapshots_in snapshots in
    let old : updated_of d < 2 ^ 63 = updated-bound d s.rules in
    let t : moment_of ms d < 2 ^ 63 = omega (arith, old) in
    let refs = stays (codes "refs") refl refl in
    let main : main_ref x ≡ main_ref d = ap (λ (o : Option Data). option_and_then (get (codes "main")) o) refs in
    let current : current_of x ≡ current_of d = ap (λ (o : Option Data). option_and_then unless_minus_one (option_and_then signed o)) (stays (codes "current-snapshot-id") refl refl) in
    record {
      no_float = (tame-next 124 most f ms d (s.no_float, shallow)).0;
      version = ap (λ (o : Option Data). option_and_then unless_2 (option_and_then as_integer (option_and_then as_number o))) (stays (codes "format-version") refl refl) ∙ s.version;
      is_object = object-next f most ms d;
      rules = rules-next f most ms d old t s.rules;
      lists = ap (λ (o : Option Data). items_fault list_fault 0 (items_in o)) snapshots ∙ s.lists;
      ids = ap first_double same ∙ s.ids;
      refs = ap (λ ss. ref_fault ss x) same ∙ refs-same (snapshots_of d) x d refs main current ∙ s.refs;
      walks = ap (λ ss. first_return ss 0 ss) same ∙ s.walks;
    }

pub shallow-next : (f : List ℕ) (most ms : ℕ) (d : Data) → has_float d ≡ false → depth d ≤ 127 → depth (next_keeping most f ms d) ≤ 127
shallow-next f most ms d e shallow = (tame-next 124 most f ms d (e, shallow)).1

-- ---- a new snapshot

module _ (s : Snapshot) (ts : List (List ℕ × List ℕ)) (ms : ℕ) (d : Data) where
  pub stays-with_snapshot : OthersStay added_fields d (with_snapshot s ts ms d)
  unfolding with_snapshot
  stays-with_snapshot q e =
      let n = or-false (bytes_eq q (codes "snapshots")) _ e in
      let l = or-false (bytes_eq q (codes "last-sequence-number")) _ n.1 in
      let r = or-false (bytes_eq q (codes "refs")) _ l.1 in
      let c = or-false (bytes_eq q (codes "current-snapshot-id")) _ r.1 in
      let h = or-false (bytes_eq q (codes "snapshot-log")) _ c.1 in
      get-with_ref_other q (codes "main") s.id ms (with_listed s ts d) r.0 c.0 h.0 ∙ get-listed_other q s ts d n.0 l.0

  module _ (fits : FitsFields s) where
    pub snapshots-with_snapshot : snapshots_of (with_snapshot s ts ms d) ≡ snapshots_of d ++ s ∷ []
    unfolding with_snapshot
    snapshots-with_snapshot = ap snapshots_in (get-with_ref_other (codes "snapshots") (codes "main") s.id ms (with_listed s ts d) refl refl refl) ∙ snapshots-listed s ts d fits

    module _ (new : IsNewId (snapshots_of d) s.id) (known : IsKnownParent (snapshots_of d) s.parent) (sound : IsSound d) (shallow : depth d ≤ 127) where
      pub sound-with_snapshot : ms < 2 ^ 63 → IsSound (with_snapshot s ts ms d)
      unfolding with_snapshot
      sound-with_snapshot early = sound-with_ref (codes "main") s.id ms (with_listed s ts d) fits.id (known-listed s ts d fits) early (sound-listed s ts d fits new known sound shallow) (shallow-listed s ts d sound shallow)

      pub shallow-with_snapshot : depth (with_snapshot s ts ms d) ≤ 127
      unfolding with_snapshot
      shallow-with_snapshot = shallow-with_ref (codes "main") s.id ms (with_listed s ts d) (sound-listed s ts d fits new known sound shallow).no_float (shallow-listed s ts d sound shallow)

-- a number that is there fits, where it fits with 0 in place of none
pub fits-in : (o : Option ℤ) → FitsSigned w64 (unwrap_or o (pos 0)) → (z : ℤ) → o ≡ Some z → as_i64 (of_integer z) ≡ Some z
fits-in None h z e = absurd (cc)
fits-in (Some y) h z e = let same : y ≡ z = cc in subst (λ (x : ℤ). as_i64 (of_integer x) ≡ Some x) same (fits_i64 y h)

-- ---- snapshots that go

pub stays-without : (ids : List ℤ) (names : List (List ℕ)) (d : Data) → OthersStay taken_fields d (without_snapshots ids names d)
unfolding without_snapshots
stays-without ids names d q e =
    let n = or-false (bytes_eq q (codes "snapshots")) _ e in
    let r = or-false (bytes_eq q (codes "refs")) _ n.1 in
    let s = or-false (bytes_eq q (codes "statistics")) _ r.1 in
    let p = or-false (bytes_eq q (codes "partition-statistics")) _ s.1 in
    let l = or-false (bytes_eq q (codes "snapshot-log")) _ p.1 in
    get-these_other (is_of ids) (has_name names) d q n.0 r.0 s.0 p.0 l.0
