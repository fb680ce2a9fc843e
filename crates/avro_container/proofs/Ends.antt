-- Where reading ends, item by item, as a loop does that passes over values.
use Rattle.std.proofs.Common.{◌≡◌, ℕ, ◌-◌, ◌+◌, ◌≤◌, ◌<◌, List, [], ◌∷◌, Result, Ok, Err, refl, sym, ap, ◌∙◌, arith}
use Rattle.avro_container.specs.Reading.{Fault, Read, end_of, with_front, ahead, items_at}
use Rattle.avro_container.proofs.Binding.{same_ok}
use Rattle.avro_container.proofs.Loops.{items_next}

module _ {C A : Type 0} where
  pub end-front : (front : List A) (r : Read C (List A)) → end_of (with_front front r) ≡ end_of r
  end-front front (Ok x) = refl
  end-front front (Err e) = refl

  -- what is read ahead ends there
  pub end-ahead : (r : Read C A) (more : List ℕ → Read C (List A)) (rest : List ℕ) → end_of r ≡ Ok rest → end_of (ahead r more) ≡ end_of (more rest)
  end-ahead (Ok x) more rest e = end-front (x.0 ∷ []) (more x.1) ∙ ap (λ r. end_of (more r)) (same_ok e)
  end-ahead (Err d) more rest e = absurd cc

  pub end-ahead_fails : (r : Read C A) (more : List ℕ → Read C (List A)) (e : Fault C) → end_of r ≡ Err e → end_of (ahead r more) ≡ Err e
  end-ahead_fails (Ok x) more e h = absurd cc
  end-ahead_fails (Err d) more e h = h

module _ {C A : Type 0} where
  pub items_on : (item : List ℕ → Read C A) (count i : ℕ) (bytes rest : List ℕ) (total : Result (List ℕ) (Fault C)) → i < count → end_of (item bytes) ≡ Ok rest
      → end_of (items_at item (count - i) bytes) ≡ total → end_of (items_at item (count - (i + 1)) rest) ≡ total
  items_on item count i bytes rest total h e so = sym (end-ahead (item bytes) (items_at item (count - (i + 1))) rest e) ∙ ap end_of (sym (items_next item count i bytes h)) ∙ so

  pub items_over : (item : List ℕ → Read C A) (count i : ℕ) (bytes : List ℕ) → count ≤ i → end_of (items_at item (count - i) bytes) ≡ Ok bytes
  unfolding items_at
  items_over item count i bytes h = let k : count - i ≡ 0 = omega arith in ap (λ n. end_of (items_at item n bytes)) k

  pub items_end_in : (item : List ℕ → Read C A) (count i : ℕ) (bytes : List ℕ) (e : Fault C) (total : Result (List ℕ) (Fault C)) → i < count → end_of (item bytes) ≡ Err e
      → end_of (items_at item (count - i) bytes) ≡ total → total ≡ Err e
  items_end_in item count i bytes e total h f so = sym so ∙ ap end_of (items_next item count i bytes h) ∙ end-ahead_fails (item bytes) (items_at item (count - (i + 1))) e f

  -- a list that was passed over was read
  pub list_of_end : (r : Read C (List A)) (rest : List ℕ) → end_of r ≡ Ok rest → (ds : List A) × (r ≡ Ok (ds, rest))
  list_of_end (Ok x) rest e = (x.0, ap (λ (r : List ℕ). Ok (x.0, r)) (same_ok e))
  list_of_end (Err d) rest e = absurd cc

  pub fault_of_end : (r : Read C (List A)) (e : Fault C) → end_of r ≡ Err e → r ≡ Err e
  fault_of_end (Ok x) e h = absurd cc
  fault_of_end (Err d) e h = let same : d ≡ e = same_err h in ap Err same
    where
      same_err : {x y : Fault C} → ◌≡◌ {A = Result (List ℕ) (Fault C)} (Err x) (Err y) → x ≡ y
      same_err e = cc
