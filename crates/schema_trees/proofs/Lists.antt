-- Trees of a list, read one after the other, as loops do.
use Rattle.std.proofs.Common.{◌≡◌, ℕ, ℤ, suc, ◌+◌, ◌<◌, ◌≤◌, List, [], ◌∷◌, ◌++◌, length, drop, get_or, Ok, Err, refl, sym, ap, ◌∙◌, append_assoc, add-one}
use Rattle.std.proofs.lemmas.List.{append-nil, drop_all}
use Rattle.std.proofs.Math.Seq.{drop-cons}
use Rattle.serde_json.specs.View.{view, items_view}
use Rattle.serde_json.specs.declared.value.Value.{Value}
use Rattle.avro_schema.specs.Path.{index_path}
use Rattle.schema_trees.specs.declared.fault.JsonErr.{JsonErr}
use Rattle.schema_trees.specs.declared.fault.JsonErr.TheVariants as errors
use Rattle.schema_trees.specs.Reading.{Read, Reader, Fails, ◌>>=◌, with_first, each}

abbrev pub with_front : {A : Type 0} → List A → Read (List A) → Read (List A)
with_front front (Ok x) = Ok (front ++ x.0, x.1)
with_front front (Err e) = Err e

module _ {A : Type 0} where
  regrouped : (front : List A) (x : A) (r : Read (List A)) → with_front front (with_first x r) ≡ with_front (front ++ x ∷ []) r
  regrouped front x (Ok xs) = ap (λ (ys : List A). Ok (ys, xs.1)) (sym (append_assoc front (x ∷ []) xs.0))
  regrouped front x (Err e) = refl

-- the tree that comes next
next : (vs : List Value) (i : ℕ) (v : Value) → i < length vs → v ≡ get_or vs i v → drop i vs ≡ v ∷ drop (i + 1) vs
next vs i v h is = rw (add-one, drop-cons vs i v h) (ap (λ w. w ∷ drop (suc i) vs) (sym is))

module _ {A : Type 0} (one : Reader A) (path : List ℕ) (vs : List Value) (i : ℕ) (v : Value) (p : List ℕ) where
  -- the trees from the next one on
  each-next : (seen : List ℤ) → i < length vs → v ≡ get_or vs i v → p ≡ index_path path i
      → each one path i (items_view (drop i vs)) seen ≡ (one p (view v) seen >>= λ x. with_first x.0 (each one path (suc i) (items_view (drop (i + 1) vs)) x.1))
  unfolding each
  each-next seen h is at = ap (λ ds. each one path i (items_view ds) seen) (next vs i v h is) ∙ ap (λ q. one q (view v) seen >>= λ x. with_first x.0 (each one path (suc i) (items_view (drop (i + 1) vs)) x.1)) (sym at)

  -- one more was read
  pub each-goes_on : (front : List A) (seen after : List ℤ) (x : A) (total : Read (List A)) → i < length vs → v ≡ get_or vs i v → p ≡ index_path path i
      → with_front front (each one path i (items_view (drop i vs)) seen) ≡ total → one p (view v) seen ≡ Ok (x, after)
      → with_front (front ++ x ∷ []) (each one path (i + 1) (items_view (drop (i + 1) vs)) after) ≡ total
  each-goes_on front seen after x total h is at so e =
      let more : Read (List A) = each one path (suc i) (items_view (drop (i + 1) vs)) after in
      let counted : each one path (i + 1) (items_view (drop (i + 1) vs)) after ≡ more = ap (λ k. each one path k (items_view (drop (i + 1) vs)) after) (add-one i) in
      ap (with_front (front ++ x ∷ [])) counted ∙ sym (regrouped front x more)
      ∙ ap (λ r. with_front front (r >>= λ y. with_first y.0 (each one path (suc i) (items_view (drop (i + 1) vs)) y.1))) (sym e) ∙ ap (with_front front) (sym (each-next seen h is at)) ∙ so

  -- the next one is faulty
  pub each-fails : (front : List A) (seen : List ℤ) (e : JsonErr) (total : Read (List A)) → i < length vs → v ≡ get_or vs i v → p ≡ index_path path i
      → with_front front (each one path i (items_view (drop i vs)) seen) ≡ total → Fails e (one p (view v) seen) → Fails e total
  each-fails front seen errors.Memory total h is at so f = tt
  each-fails front seen (errors.Bad place) total h is at so f =
      sym so ∙ ap (with_front front) (each-next seen h is at) ∙ ap (λ r. with_front front (r >>= λ y. with_first y.0 (each one path (suc i) (items_view (drop (i + 1) vs)) y.1))) f

-- all were read
pub each-done : {A : Type 0} (one : Reader A) (path : List ℕ) (vs : List Value) (i : ℕ) (front : List A) (seen : List ℤ) (total : Read (List A)) → length vs ≤ i
    → with_front front (each one path i (items_view (drop i vs)) seen) ≡ total → total ≡ Ok (front, seen)
unfolding each
each-done {A} one path vs i front seen total h so =
    sym so ∙ ap (λ ds. with_front front (each one path i (items_view ds) seen)) (drop_all i vs h) ∙ ap (λ (xs : List A). Ok (xs, seen)) (append-nil front)
