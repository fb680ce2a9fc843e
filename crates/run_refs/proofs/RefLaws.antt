-- Where the refs of a tree are.
use Rattle.std.proofs.Common.{◌≡◌, ℕ, ℤ, pos, List, [], Bool, true, false, ◌&&◌, ◌||◌, not, cond, codes, Option, Some, None, option_map, option_and_then, unwrap_or, is_some, Ordering, Less, Equal, Greater, is_eq, bytes_eq, refl, sym, ap, ◌∙◌, subst}
use Rattle.std.specs.Prelude.{IsSome}
use Rattle.std.specs.Ordering.{nat_cmp, int_eq, match_ordering}
use Rattle.std.specs.Cmp.Lexicographic.{slice_cmp}
use Rattle.std.proofs.lemmas.Bool.Decides.{Decides-int_eq, same_from_decides}
use Rattle.std.proofs.lemmas.Map.Text.{is_eq-slice_cmp}
use Rattle.std.proofs.lemmas.Slice.Eq.{bytes_eq-Decides}
use Rattle.serde_json.specs.Data.{Data, Members, no_members, member, put}
use Rattle.serde_json.specs.Find.{get, get_member, as_i64, of_integer}
use Rattle.serde_json.proofs.Views.{get_member-put, get_member-put_other}
use Rattle.metadata_json.specs.Fields.{members_in, members_at, signed_at}
use Rattle.metadata_json.specs.Edits.{set, object_at}
use Rattle.metadata_json.proofs.Laws.{members, get-members, members-set, members-object_at}
use Rattle.metadata_form.specs.Path.{in_member}
use Rattle.metadata_view.specs.Fault.{fault_of}
use Rattle.metadata_view.specs.Links.{is_main, main_agrees, current_fault, is_whole_ref, first_broken, refs_fault, ref_fault}
use Rattle.metadata_view.specs.View.{ref_of, ref_with, refs_in, refs_of, refs_tree, with_main, main_ref, new_branch, snapshots_of, current_of}
use Rattle.metadata_view.specs.Walk.{snapshot_with}
use Rattle.metadata_view.specs.declared.types.Snapshot.{Snapshot}
use Rattle.metadata_form.proofs.FormLaws.{no-parts, no-within}
use Rattle.metadata_view.proofs.SoundLaws.{sound}
use Rattle.run_refs.specs.Refs.{ref_at, id_of}
use Rattle.run_refs.specs.Laws.{HasLongCurrent}

bytes_eq-sym : (xs ys : List ℕ) → bytes_eq xs ys ≡ bytes_eq ys xs
bytes_eq-sym xs ys = same_from_decides (bytes_eq xs ys) (bytes_eq ys xs) (bytes_eq-Decides xs ys) (λ h. sym ((bytes_eq-Decides ys xs).0 h), λ e. (bytes_eq-Decides ys xs).1 (sym e))

found_at : (name k : List ℕ) (o : Ordering) (b : Bool) (d : Data) (rest : Option Data) → is_eq o ≡ b → (b ≡ true → k ≡ name)
    → cond b (Some (ref_of k d)) (option_map (ref_of name) rest) ≡ option_map (ref_of name) (match_ordering o rest (Some d) rest)
found_at name k Less true d rest h same = absurd (cc)
found_at name k Less false d rest h same = refl
found_at name k Equal true d rest h same = ap (λ (n : List ℕ). Some (ref_of n d)) (same refl)
found_at name k Equal false d rest h same = absurd (cc)
found_at name k Greater true d rest h same = absurd (cc)
found_at name k Greater false d rest h same = refl

-- a ref is found in the list as in the object
pub ref_with-members : (name : List ℕ) (ms : Members) → ref_with (refs_in ms) name ≡ option_map (ref_of name) (get_member name ms)
unfolding ref_of
ref_with-members name no_members = refl
ref_with-members name (member k d ms) =
    ap (λ o. cond (bytes_eq k name) (Some (ref_of k d)) o) (ref_with-members name ms)
    ∙ found_at name k (slice_cmp nat_cmp name k) (bytes_eq k name) d (get_member name ms) (is_eq-slice_cmp name k ∙ bytes_eq-sym name k) (λ h. (bytes_eq-Decides k name).0 h)

-- ---- the members of `refs`, with `main`

main-member : (name : List ℕ) (o : Option Data) → get_member name (members_in o) ≡ option_and_then (get name) o
main-member name None = refl
main-member name (Some d) = sym (get-members name d)

-- without a new `main` the members are those that are written
written : (name : List ℕ) (d : Data) → get_member name (members (object_at (codes "refs") d)) ≡ get_member name (members_at (codes "refs") d)
written name d = ap (get_member name) (members-object_at (codes "refs") d)

added : (name : List ℕ) (id : ℤ) (d : Data) → get_member name (members (set (codes "main") (new_branch id) (object_at (codes "refs") d))) ≡ get_member name (put (codes "main") (new_branch id) (members (object_at (codes "refs") d)))
added name id d = ap (get_member name) (members-set (codes "main") (new_branch id) (object_at (codes "refs") d))

-- the snapshot that a member says
abbrev id_in : Data → ℤ
id_in = signed_at (codes "snapshot-id")

id_of-found : (name : List ℕ) (o : Option Data) → id_of (option_map (ref_of name) o) ≡ option_map id_in o
unfolding ref_of
id_of-found name None = refl
id_of-found name (Some d) = refl

new_id : (id : ℤ) → as_i64 (of_integer id) ≡ Some id → id_in (new_branch id) ≡ id
unfolding new_branch
new_id id fits = ap (λ (o : Option ℤ). unwrap_or o (pos 0)) fits

ref_at-member : (name : List ℕ) (d : Data) → ref_at name d ≡ option_map id_in (get_member name (members (refs_tree d)))
ref_at-member name d = ap id_of (ref_with-members name (members (refs_tree d))) ∙ id_of-found name (get_member name (members (refs_tree d)))

-- ---- a tree without a broken ref

both-true : (a b : Bool) → (a && b) ≡ true → (a ≡ true) × (b ≡ true)
both-true true b e = (refl, e)
both-true false b e = absurd (cc)

left-true : (a : Bool) → (a || false) ≡ true → a ≡ true
left-true true e = refl
left-true false e = absurd (cc)

whole-parts : (b : Bool) (o : Option (List ℕ)) (path : List ℕ) → cond b o (Some path) ≡ None → (b ≡ true) × (o ≡ None)
whole-parts true o path e = (refl, e)
whole-parts false o path e = absurd (cc)

whole_at : (ss : List Snapshot) (b : Bool) (name l : List ℕ) (o : Ordering) (e x : Data) (more : Option Data) → is_eq o ≡ bytes_eq name l → is_whole_ref ss b l e ≡ true → (more ≡ Some x → is_whole_ref ss b name x ≡ true)
    → match_ordering o more (Some e) more ≡ Some x → is_whole_ref ss b name x ≡ true
whole_at ss b name l Less e x more k p q h = q h
whole_at ss b name l Equal e x more k p q h =
    let same : e ≡ x = cc in
    let key : name ≡ l = (bytes_eq-Decides name l).0 (sym k) in
    subst (λ (y : Data). is_whole_ref ss b name y ≡ true) same (subst (λ (n : List ℕ). is_whole_ref ss b n e ≡ true) (sym key) p)
whole_at ss b name l Greater e x more k p q h = q h

whole_named : (ss : List Snapshot) (b : Bool) (name : List ℕ) (ms : Members) (x : Data) → first_broken ss b ms ≡ None → get_member name ms ≡ Some x → is_whole_ref ss b name x ≡ true
unfolding first_broken
whole_named ss b name no_members x p h = absurd (cc)
whole_named ss b name (member l e ms) x p h =
    let both = whole-parts (is_whole_ref ss b l e) (first_broken ss b ms) (in_member l []) p in
    whole_at ss b name l (slice_cmp nat_cmp name l) e x (get_member name ms) (is_eq-slice_cmp name l) both.0 (whole_named ss b name ms x both.1) h

-- A ref `main` that is written is at the current snapshot. Without one, the current snapshot is in the table.
abbrev pub Agrees : List Snapshot → Option Data → Option ℤ → Type 0
Agrees ss None None = Unit {0}
Agrees ss None (Some id) = is_some (snapshot_with ss id) ≡ true
Agrees ss (Some ref) None = ⊥
Agrees ss (Some ref) (Some id) = int_eq (id_in ref) id ≡ true

main_whole : (ss : List Snapshot) (d ref : Data) (b : Bool) → main_ref d ≡ Some ref → first_broken ss b (members_at (codes "refs") d) ≡ None → b ≡ true
main_whole ss d ref b e whole =
    let is = whole_named ss b (codes "main") (members_at (codes "refs") d) ref whole (main-member (codes "main") (get (codes "refs") d) ∙ e) in
    left-true b (both-true (is_some (snapshot_with ss (id_in ref))) (b || false) is).1

agreeing : (ss : List Snapshot) (d : Data) (m : Option Data) (c : Option ℤ) → main_ref d ≡ m → current_fault ss m c ≡ None → first_broken ss (main_agrees m c) (members_at (codes "refs") d) ≡ None → Agrees ss m c
agreeing ss d None None e known whole = tt
agreeing ss d None (Some id) e known whole = (whole-parts (is_some (snapshot_with ss id)) None (in_member (codes "current-snapshot-id") []) known).0
agreeing ss d (Some ref) None e known whole = absurd (cc (main_whole ss d ref false e whole))
agreeing ss d (Some ref) (Some id) e known whole = main_whole ss d ref (int_eq (id_in ref) id) e whole

refs_whole : (d : Data) → fault_of d ≡ None → (first_broken (snapshots_of d) (main_agrees (main_ref d) (current_of d)) (members_at (codes "refs") d) ≡ None) × Agrees (snapshots_of d) (main_ref d) (current_of d)
unfolding ref_fault
refs_whole d e =
    let ss = snapshots_of d in
    let both = no-parts (current_fault ss (main_ref d) (current_of d)) (refs_fault ss d) (sound d e).refs in
    let whole = no-within (in_member (codes "refs")) (first_broken ss (main_agrees (main_ref d) (current_of d)) (members_at (codes "refs") d)) both.1 in
    (whole, agreeing ss d (main_ref d) (current_of d) refl both.0 whole)

main_by : (d : Data) (c : Option ℤ) (m : Option Data) → main_ref d ≡ m → Agrees (snapshots_of d) m c → ((id : ℤ) → c ≡ Some id → as_i64 (of_integer id) ≡ Some id)
    → option_map id_in (get_member (codes "main") (members (with_main c m (object_at (codes "refs") d)))) ≡ c
main_by d None None e h fits = ap (option_map id_in) (written (codes "main") d ∙ main-member (codes "main") (get (codes "refs") d) ∙ e)
main_by d None (Some ref) e h fits = absurd h
main_by d (Some id) None e h fits =
    ap (option_map id_in) (added (codes "main") id d ∙ get_member-put (codes "main") (new_branch id) (members (object_at (codes "refs") d)))
    ∙ ap (λ (i : ℤ). Some i) (new_id id (fits id refl))
main_by d (Some id) (Some ref) e h fits =
    ap (option_map id_in) (written (codes "main") d ∙ main-member (codes "main") (get (codes "refs") d) ∙ e)
    ∙ ap (λ (i : ℤ). Some i) ((Decides-int_eq (id_in ref) id).0 h)

-- in well-formed metadata `main` is at the current snapshot
pub main_is_current : (tree : Data) → fault_of tree ≡ None → HasLongCurrent tree → ref_at (codes "main") tree ≡ current_of tree
main_is_current tree e long =
    let parts = refs_whole tree e in
    ref_at-member (codes "main") tree ∙ main_by tree (current_of tree) (main_ref tree) refl parts.1 long

-- ---- a name that isn't written

unnamed_by : (d : Data) (name : List ℕ) (c : Option ℤ) (m : Option Data) → (name ≡ codes "main" → ⊥) → get_member name (members (with_main c m (object_at (codes "refs") d))) ≡ get_member name (members_at (codes "refs") d)
unnamed_by d name None m other = written name d
unnamed_by d name (Some id) None other = added name id d ∙ get_member-put_other name (codes "main") (new_branch id) (members (object_at (codes "refs") d)) other ∙ written name d
unnamed_by d name (Some id) (Some ref) other = written name d

none_if : (o : Option Data) → is_some o ≡ false → o ≡ None
none_if None e = refl
none_if (Some x) e = absurd (cc)

not_main : (name : List ℕ) → bytes_eq name (codes "main") ≡ false → name ≡ codes "main" → ⊥
not_main name e is = let yes_it_is : bytes_eq name (codes "main") ≡ true = (bytes_eq-Decides name (codes "main")).1 is in absurd (cc)

-- a name other than `main` that isn't written is no ref's
pub no_ref : (d : Data) (name : List ℕ) → bytes_eq name (codes "main") ≡ false → is_some (get_member name (members_at (codes "refs") d)) ≡ false → ref_with (refs_of d) name ≡ None
no_ref d name other e =
    ref_with-members name (members (refs_tree d)) ∙ ap (option_map (ref_of name)) (unnamed_by d name (current_of d) (main_ref d) (not_main name other) ∙ none_if (get_member name (members_at (codes "refs") d)) e)

-- ---- each ref is at a snapshot

named : (ss : List Snapshot) (b : Bool) (name : List ℕ) (ms : Members) (x : Data) → first_broken ss b ms ≡ None → get_member name ms ≡ Some x → is_some (snapshot_with ss (id_in x)) ≡ true
named ss b name ms x p h = (both-true (is_some (snapshot_with ss (id_in x))) (b || not (is_main name)) (whole_named ss b name ms x p h)).0

added_named : (d : Data) (agreeing : Bool) (name : List ℕ) (id : ℤ) (x : Data) → as_i64 (of_integer id) ≡ Some id → is_some (snapshot_with (snapshots_of d) id) ≡ true → first_broken (snapshots_of d) agreeing (members_at (codes "refs") d) ≡ None
    → (b : Bool) → bytes_eq name (codes "main") ≡ b → get_member name (put (codes "main") (new_branch id) (members (object_at (codes "refs") d))) ≡ Some x → is_some (snapshot_with (snapshots_of d) (id_in x)) ≡ true
added_named d agreeing name id x fits known all true e h =
    let is : name ≡ codes "main" = (bytes_eq-Decides name (codes "main")).0 e in
    let found = get_member-put (codes "main") (new_branch id) (members (object_at (codes "refs") d)) in
    let here = ap (λ (k : List ℕ). get_member k (put (codes "main") (new_branch id) (members (object_at (codes "refs") d)))) is in
    let same : new_branch id ≡ x = cc (sym found ∙ sym here ∙ h) in
    ap (λ (y : Data). is_some (snapshot_with (snapshots_of d) (id_in y))) (sym same) ∙ ap (λ (i : ℤ). is_some (snapshot_with (snapshots_of d) i)) (new_id id fits) ∙ known
added_named d agreeing name id x fits known all false e h =
    let other = not_main name e in
    named (snapshots_of d) agreeing name (members_at (codes "refs") d) x all (sym (written name d) ∙ sym (get_member-put_other name (codes "main") (new_branch id) (members (object_at (codes "refs") d)) other) ∙ h)

named_by : (d : Data) (agreeing : Bool) (name : List ℕ) (c : Option ℤ) (m : Option Data) (x : Data) → Agrees (snapshots_of d) m c → ((id : ℤ) → c ≡ Some id → as_i64 (of_integer id) ≡ Some id) → first_broken (snapshots_of d) agreeing (members_at (codes "refs") d) ≡ None
    → get_member name (members (with_main c m (object_at (codes "refs") d))) ≡ Some x → is_some (snapshot_with (snapshots_of d) (id_in x)) ≡ true
named_by d agreeing name None m x h fits all found = named (snapshots_of d) agreeing name (members_at (codes "refs") d) x all (sym (written name d) ∙ found)
named_by d agreeing name (Some id) None x h fits all found = added_named d agreeing name id x (fits id refl) h all (bytes_eq name (codes "main")) refl (sym (added name id d) ∙ found)
named_by d agreeing name (Some id) (Some ref) x h fits all found = named (snapshots_of d) agreeing name (members_at (codes "refs") d) x all (sym (written name d) ∙ found)

some_id : (o : Option Data) (id : ℤ) → option_map id_in o ≡ Some id → (x : Data) × (o ≡ Some x) × (id_in x ≡ id)
some_id None id e = absurd (cc)
some_id (Some x) id e = (x, refl, cc)

-- in well-formed metadata each ref is at a snapshot of the table
pub refs_are_known : (tree : Data) (name : List ℕ) (id : ℤ) → fault_of tree ≡ None → HasLongCurrent tree → ref_at name tree ≡ Some id → IsSome (snapshot_with (snapshots_of tree) id)
refs_are_known tree name id e long at =
    let parts = refs_whole tree e in
    let found = some_id (get_member name (members (refs_tree tree))) id (sym (ref_at-member name tree) ∙ at) in
    ap (λ (i : ℤ). is_some (snapshot_with (snapshots_of tree) i)) (sym found.2) ∙ named_by tree (main_agrees (main_ref tree) (current_of tree)) name (current_of tree) (main_ref tree) found.0 parts.1 long parts.0 found.1
