-- Sets of ids and of names, and lists that are filtered by them.
use Rattle.std.proofs.Common.{◌≡◌, ℕ, zero, suc, ℤ, List, [], ◌∷◌, ◌++◌, drop, map, Bool, true, false, not, ◌||◌, cond, Vec, String, Global, string_bytes, Ordering, Less, Equal, Greater, is_eq, bytes_eq, refl, sym, ap, ◌∙◌}
use Rattle.std.specs.Ordering.{int_eq, nat_cmp, match_ordering}
use Rattle.std.specs.Cmp.Lexicographic.{slice_cmp}
use Rattle.std.specs.List.{filter, list_any}
use Rattle.std.specs.BTreeSet.{insert_key}
use Rattle.std.proofs.lemmas.Slice.Eq.{bytes_eq-Decides}
use Rattle.std.proofs.lemmas.Map.Text.{is_eq-slice_cmp}
use Rattle.serde_json.specs.Data.{Data, Members, member}
use Rattle.serde_json.specs.View.{view, members_view}
use Rattle.serde_json.specs.declared.value.Value.{Value}
use Rattle.metadata_view.specs.Walk.{has_id}
use Rattle.metadata_snapshots.specs.Edits.{after_last, other_members, has_name}

or-swap : (a b c : Bool) → (a || (b || c)) ≡ (b || (a || c))
or-swap true true c = refl
or-swap true false c = refl
or-swap false b c = refl

or-same : (a b : Bool) → (a || b) ≡ (a || (a || b))
or-same true b = refl
or-same false b = refl

or-true : (a : Bool) → (a || true) ≡ true
or-true true = refl
or-true false = refl

neither : (a b : Bool) → (a || b) ≡ false → (a ≡ false) × (b ≡ false)
neither true b e = absurd (cc)
neither false b e = (refl, e)

pub has_id-push : (q : ℤ) (xs : List ℤ) (x : ℤ) → has_id q (xs ++ x ∷ []) ≡ (int_eq x q || has_id q xs)
has_id-push q [] x = refl
has_id-push q (y ∷ ys) x = ap (λ b. int_eq y q || b) (has_id-push q ys x) ∙ or-swap (int_eq y q) (int_eq x q) (has_id q ys)

pub has_name-push : (q : List ℕ) (xs : List (List ℕ)) (x : List ℕ) → has_name (xs ++ x ∷ []) q ≡ (bytes_eq q x || has_name xs q)
has_name-push q [] x = refl
has_name-push q (y ∷ ys) x = ap (λ b. bytes_eq q y || b) (has_name-push q ys x) ∙ or-swap (bytes_eq q y) (bytes_eq q x) (has_name ys q)

module _ (q : List ℕ) where
  abbrev at_name : Vec ℕ Global → Bool
  at_name v = is_eq (slice_cmp nat_cmp q v.items)

  abbrev order : Vec ℕ Global → Vec ℕ Global → Ordering
  order v w = slice_cmp nat_cmp v.items w.items

  insert_at : (o : Ordering) (k x : Vec ℕ Global) (xs more : List (Vec ℕ Global)) → order k x ≡ o → list_any at_name more ≡ (at_name k || list_any at_name xs)
      → list_any at_name (match_ordering o (k ∷ x ∷ xs) (x ∷ xs) (x ∷ more)) ≡ (at_name k || (at_name x || list_any at_name xs))
  insert_at Less k x xs more is e = refl
  insert_at Equal k x xs more is e =
      let same : k.items ≡ x.items = (bytes_eq-Decides k.items x.items).0 (sym (is_eq-slice_cmp k.items x.items) ∙ ap is_eq is) in
      or-same (at_name x) (list_any at_name xs) ∙ ap (λ (ks : List ℕ). is_eq (slice_cmp nat_cmp q ks) || (at_name x || list_any at_name xs)) (sym same)
  insert_at Greater k x xs more is e = ap (λ b. at_name x || b) e ∙ or-swap (at_name x) (at_name k) (list_any at_name xs)

  -- what a set has after a name was inserted
  any-insert : (xs : List (Vec ℕ Global)) (k : Vec ℕ Global) → list_any at_name (insert_key order xs k) ≡ (at_name k || list_any at_name xs)
  any-insert [] k = refl
  any-insert (x ∷ xs) k = insert_at (order k x) k x xs _ refl (any-insert xs k)

  pub name-insert : (xs : List (Vec ℕ Global)) (k : Vec ℕ Global) → list_any at_name (insert_key order xs k) ≡ (bytes_eq q k.items || list_any at_name xs)
  name-insert xs k = any-insert xs k ∙ ap (λ b. b || list_any at_name xs) (is_eq-slice_cmp q k.items)

-- ---- filters

filter_at : (p : Data → Bool) (b : Bool) (v : Value) (vs : List Value) (ds : List Data) → map view vs ≡ ds → map view (cond b (v ∷ vs) vs) ≡ cond b (view v ∷ ds) ds
filter_at p true v vs ds e = ap (λ xs. view v ∷ xs) e
filter_at p false v vs ds e = e

pub view-filter : (p : Data → Bool) (vs : List Value) → map view (filter (λ v. p (view v)) vs) ≡ filter p (map view vs)
view-filter p [] = refl
view-filter p (v ∷ vs) = filter_at p (p (view v)) v _ _ (view-filter p vs)

abbrev pub Entry : Type 0
Entry = String Global × Value

member_at : (b : Bool) (e : Entry) (es : List Entry) (ms : Members) → members_view es ≡ ms → members_view (cond (not b) (e ∷ es) es) ≡ cond b ms (member (string_bytes e.0) (view e.1) ms)
member_at true e es ms h = h
member_at false e es ms h = ap (member (string_bytes e.0) (view e.1)) h

pub members-filter : (gone : List ℕ → Bool) (es : List Entry) → members_view (filter (λ e. not (gone (string_bytes e.0))) es) ≡ other_members gone (members_view es)
unfolding other_members
members-filter gone [] = refl
members-filter gone (e ∷ es) = member_at (gone (string_bytes e.0)) e _ _ (members-filter gone es)

-- ---- what follows the last

module _ (p : Data → Bool) where
  after_at : (b : Bool) (d : Data) (ds : List Data) → b ≡ false → cond b (after_last p ds) (d ∷ ds) ≡ d ∷ ds
  after_at b d ds e = ap (λ x. cond x (after_last p ds) (d ∷ ds)) e

  -- where it holds for none, all stay
  pub after-none : (ds : List Data) → list_any p ds ≡ false → after_last p ds ≡ ds
  unfolding after_last
  after-none [] h = refl
  after-none (d ∷ ds) h = after_at (p d || list_any p ds) d ds h

  any-drop : (i : ℕ) (ds : List Data) → list_any p (drop i ds) ≡ true → list_any p ds ≡ true
  any-drop zero ds h = h
  any-drop (suc i) [] h = h
  any-drop (suc i) (d ∷ ds) h = ap (λ b. p d || b) (any-drop i ds h) ∙ or-true (p d)

  goes-on : (d : Data) (ds : List Data) → (p d || list_any p ds) ≡ true → after_last p (d ∷ ds) ≡ after_last p ds
  unfolding after_last
  goes-on d ds h = ap (λ b. cond b (after_last p ds) (d ∷ ds)) h

  -- the items after the last one for which it holds
  pub after-end : (i : ℕ) (ds rest : List Data) (d : Data) → drop i ds ≡ d ∷ rest → p d ≡ true → list_any p rest ≡ false → after_last p ds ≡ rest
  after-end zero ds rest d e h none = ap (after_last p) e ∙ goes-on d rest (ap (λ b. b || list_any p rest) h) ∙ after-none rest none
  after-end (suc i) [] rest d e h none = absurd (cc)
  after-end (suc i) (x ∷ ds) rest d e h none =
      let later : list_any p ds ≡ true = any-drop i ds (ap (list_any p) e ∙ ap (λ b. b || list_any p rest) h) in
      goes-on x ds (ap (λ b. p x || b) later ∙ or-true (p x)) ∙ after-end i ds rest d e h none
