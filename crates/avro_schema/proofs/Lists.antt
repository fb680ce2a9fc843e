-- Trees of a list, read one after the other, as loops do.
use Rattle.std.proofs.Common.{◌≡◌, ℕ, zero, suc, ◌+◌, ◌<◌, ◌≤◌, List, [], ◌∷◌, ◌++◌, length, drop, get_or, Result, Ok, Err, refl, sym, ap, ◌∙◌, append_assoc, arith, add-one, ◌-◌}
use Rattle.std.proofs.lemmas.List.{append-nil, drop_all}
use Rattle.std.proofs.Math.Seq.{drop-cons}
use Rattle.serde_json.specs.Data.{Data}
use Rattle.serde_json.specs.View.{view, items_view}
use Rattle.serde_json.specs.declared.value.Value.{Value}
use Rattle.avro_schema.specs.declared.fault.SchemaCause.{SchemaCause}
use Rattle.avro_schema.specs.declared.fault.SchemaCause.TheVariants.{TooDeep}
use Rattle.avro_schema.specs.declared.fault.SchemaErr.{SchemaErr}
use Rattle.avro_schema.specs.declared.fault.SchemaErr.TheVariants as errors
use Rattle.avro_schema.specs.declared.scope.Scope.{Scope}
use Rattle.avro_schema.specs.Path.{index_path}
use Rattle.avro_schema.specs.Reading.{Fault, Read, Reader, Fails, ◌>>=◌, IsFault, with_first, each, symbol_at, symbols_at, level, read}

abbrev pub with_front : {A : Type 0} → List A → Read (List A) → Read (List A)
with_front front (Ok x) = Ok (front ++ x.0, x.1)
with_front front (Err e) = Err e

abbrev pub with_texts : List (List ℕ) → Result (List (List ℕ)) Fault → Result (List (List ℕ)) Fault
with_texts front (Ok ts) = Ok (front ++ ts)
with_texts front (Err e) = Err e

module _ {A : Type 0} where
  regrouped : (front : List A) (x : A) (r : Read (List A)) → with_front front (with_first x r) ≡ with_front (front ++ x ∷ []) r
  regrouped front x (Ok xs) = ap (λ (ys : List A). Ok (ys, xs.1)) (sym (append_assoc front (x ∷ []) xs.0))
  regrouped front x (Err e) = refl

-- the tree that comes next
pub next : (vs : List Value) (i : ℕ) (v : Value) → i < length vs → v ≡ get_or vs i v → drop i vs ≡ v ∷ drop (i + 1) vs
next vs i v h is = rw (add-one, drop-cons vs i v h) (ap (λ w. w ∷ drop (suc i) vs) (sym is))

module _ {A : Type 0} (one : Reader A) (path : List ℕ) (vs : List Value) (i : ℕ) (v : Value) (p : List ℕ) where
  -- the trees from the next one on
  each-next : (scope : Scope) → i < length vs → v ≡ get_or vs i v → p ≡ index_path path i
      → each one path i (items_view (drop i vs)) scope ≡ (one p (view v) scope >>= λ x. with_first x.0 (each one path (suc i) (items_view (drop (i + 1) vs)) x.1))
  unfolding each
  each-next scope h is at = ap (λ ds. each one path i (items_view ds) scope) (next vs i v h is) ∙ ap (λ q. one q (view v) scope >>= λ x. with_first x.0 (each one path (suc i) (items_view (drop (i + 1) vs)) x.1)) (sym at)

  -- one more was read
  pub each-goes_on : (front : List A) (scope after : Scope) (x : A) (total : Read (List A)) → i < length vs → v ≡ get_or vs i v → p ≡ index_path path i
      → with_front front (each one path i (items_view (drop i vs)) scope) ≡ total → one p (view v) scope ≡ Ok (x, after)
      → with_front (front ++ x ∷ []) (each one path (i + 1) (items_view (drop (i + 1) vs)) after) ≡ total
  each-goes_on front scope after x total h is at so e =
      let more : Read (List A) = each one path (suc i) (items_view (drop (i + 1) vs)) after in
      let counted : each one path (i + 1) (items_view (drop (i + 1) vs)) after ≡ more = ap (λ k. each one path k (items_view (drop (i + 1) vs)) after) (add-one i) in
      ap (with_front (front ++ x ∷ [])) counted ∙ sym (regrouped front x more)
      ∙ ap (λ r. with_front front (r >>= λ y. with_first y.0 (each one path (suc i) (items_view (drop (i + 1) vs)) y.1))) (sym e) ∙ ap (with_front front) (sym (each-next scope h is at)) ∙ so

  -- the next one is faulty
  pub each-fails : (front : List A) (scope : Scope) (e : SchemaErr) (total : Read (List A)) → i < length vs → v ≡ get_or vs i v → p ≡ index_path path i
      → with_front front (each one path i (items_view (drop i vs)) scope) ≡ total → Fails e (one p (view v) scope) → Fails e total
  each-fails front scope errors.Memory total h is at so f = tt
  each-fails front scope (errors.Bad place cause) total h is at so f =
      sym so ∙ ap (with_front front) (each-next scope h is at) ∙ ap (λ r. with_front front (r >>= λ y. with_first y.0 (each one path (suc i) (items_view (drop (i + 1) vs)) y.1))) f

-- all were read
pub each-done : {A : Type 0} (one : Reader A) (path : List ℕ) (vs : List Value) (i : ℕ) (front : List A) (scope : Scope) (total : Read (List A)) → length vs ≤ i
    → with_front front (each one path i (items_view (drop i vs)) scope) ≡ total → total ≡ Ok (front, scope)
unfolding each
each-done {A} one path vs i front scope total h so =
    sym so ∙ ap (λ ds. with_front front (each one path i (items_view ds) scope)) (drop_all i vs h) ∙ ap (λ (xs : List A). Ok (xs, scope)) (append-nil front)

-- the same for the symbols of an enum

texts_regrouped : (front : List (List ℕ)) (x : List ℕ) (r : Result (List (List ℕ)) Fault) → with_texts front (r >>= λ ts. Ok (x ∷ ts)) ≡ with_texts (front ++ x ∷ []) r
texts_regrouped front x (Ok ts) = ap (λ (ys : List (List ℕ)). Ok ys) (sym (append_assoc front (x ∷ []) ts))
texts_regrouped front x (Err e) = refl

module _ (path : List ℕ) (vs : List Value) (i : ℕ) (v : Value) (p : List ℕ) where
  symbols-next : i < length vs → v ≡ get_or vs i v → p ≡ index_path path i
      → symbols_at path i (items_view (drop i vs)) ≡ (symbol_at p (view v) >>= λ t. symbols_at path (suc i) (items_view (drop (i + 1) vs)) >>= λ ts. Ok (t ∷ ts))
  unfolding symbols_at
  symbols-next h is at = ap (λ ds. symbols_at path i (items_view ds)) (next vs i v h is) ∙ ap (λ q. symbol_at q (view v) >>= λ t. symbols_at path (suc i) (items_view (drop (i + 1) vs)) >>= λ ts. Ok (t ∷ ts)) (sym at)

  pub symbols-goes_on : (front : List (List ℕ)) (x : List ℕ) (total : Result (List (List ℕ)) Fault) → i < length vs → v ≡ get_or vs i v → p ≡ index_path path i
      → with_texts front (symbols_at path i (items_view (drop i vs))) ≡ total → symbol_at p (view v) ≡ Ok x
      → with_texts (front ++ x ∷ []) (symbols_at path (i + 1) (items_view (drop (i + 1) vs))) ≡ total
  symbols-goes_on front x total h is at so e =
      let more : Result (List (List ℕ)) Fault = symbols_at path (suc i) (items_view (drop (i + 1) vs)) in
      let counted : symbols_at path (i + 1) (items_view (drop (i + 1) vs)) ≡ more = ap (λ k. symbols_at path k (items_view (drop (i + 1) vs))) (add-one i) in
      ap (with_texts (front ++ x ∷ [])) counted ∙ sym (texts_regrouped front x more)
      ∙ ap (λ r. with_texts front (r >>= λ t. symbols_at path (suc i) (items_view (drop (i + 1) vs)) >>= λ ts. Ok (t ∷ ts))) (sym e) ∙ ap (with_texts front) (sym (symbols-next h is at)) ∙ so

  pub symbols-fails : (front : List (List ℕ)) (e : SchemaErr) (total : Result (List (List ℕ)) Fault) → i < length vs → v ≡ get_or vs i v → p ≡ index_path path i
      → with_texts front (symbols_at path i (items_view (drop i vs))) ≡ total → Fails e (symbol_at p (view v)) → Fails e total
  symbols-fails front errors.Memory total h is at so f = tt
  symbols-fails front (errors.Bad place cause) total h is at so f =
      sym so ∙ ap (with_texts front) (symbols-next h is at) ∙ ap (λ r. with_texts front (r >>= λ t. symbols_at path (suc i) (items_view (drop (i + 1) vs)) >>= λ ts. Ok (t ∷ ts))) f

pub symbols-done : (path : List ℕ) (vs : List Value) (i : ℕ) (front : List (List ℕ)) (total : Result (List (List ℕ)) Fault) → length vs ≤ i
    → with_texts front (symbols_at path i (items_view (drop i vs))) ≡ total → total ≡ Ok front
unfolding symbols_at
symbols-done path vs i front total h so =
    sym so ∙ ap (λ ds. with_texts front (symbols_at path i (items_view ds))) (drop_all i vs h) ∙ ap (λ (xs : List (List ℕ)). Ok xs) (append-nil front)

-- Levels.

pub fault-fails : {A : Type 0} (path : List ℕ) (cause : SchemaCause) (e : SchemaErr) (r : Result A Fault) → r ≡ Err (path, cause) → IsFault path cause e → Fails e r
fault-fails path cause errors.Memory r is f = tt
fault-fails path cause (errors.Bad p c) r is f = is ∙ (let q = f.0 in let d = f.1 in cc)

pub read-zero : (most : ℕ) (path : List ℕ) (d : Data) (scope : Scope) → most ≡ 0 → read most path d scope ≡ Err (path, TooDeep)
unfolding read
read-zero most path d scope e = ap (λ n. read n path d scope) e

pub read-level : (most : ℕ) (path : List ℕ) (d : Data) (scope : Scope) → 0 < most → read most path d scope ≡ level (read (most - 1)) most path d scope
unfolding read
read-level zero path d scope h = absurd (omega arith)
read-level (suc left) path d scope h = let same : left ≡ suc left - 1 = omega arith in ap (λ k. level (read k) (suc left) path d scope) same
