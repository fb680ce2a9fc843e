-- Blocks of items of which only a part is looked at.
use Rattle.std.proofs.Common.{◌≡◌, ℕ, zero, suc, ◌-◌, List, [], ◌∷◌, length, map, Ok, Err, refl, ap, ◌∙◌, cond, Bool, true, false, ◌==◌, ℤ, Option}
use Rattle.std.proofs.lemmas.List.{map-append}
use Rattle.avro_container.specs.Reading.{Causes, Read, ◌>>=◌, with_front, ahead, items_at, is_size, sized, head_at, block_at, blocks_at}
use Rattle.avro_container.proofs.Binding.{same_value, same_rest}

-- what was read, seen by f
abbrev pub mapped : {C A B : Type 0} → (A → B) → Read C A → Read C B
mapped f (Ok x) = Ok (f x.0, x.1)
mapped f (Err e) = Err e

module _ {C A B : Type 0} (f : A → B) where
  mapped-front : (front : List A) (r : Read C (List A)) → mapped (map f) (with_front front r) ≡ with_front (map f front) (mapped (map f) r)
  mapped-front front (Ok x) = ap (λ (es : List B). Ok (es, x.1)) (map-append f front x.0)
  mapped-front front (Err e) = refl

  mapped-ahead : (r : Read C A) (s : Read C B) (more : List ℕ → Read C (List A)) (others : List ℕ → Read C (List B)) → mapped f r ≡ s → ((b : List ℕ) → mapped (map f) (more b) ≡ others b)
      → mapped (map f) (ahead r more) ≡ ahead s others
  mapped-ahead (Ok x) s more others e h = mapped-front (x.0 ∷ []) (more x.1) ∙ ap (with_front (f x.0 ∷ [])) (h x.1) ∙ ap (λ s. ahead s others) e
  mapped-ahead (Err d) s more others e h = ap (λ s. ahead s others) e

-- a body that was read, and the blocks behind it
abbrev body : {C A : Type 0} → Causes C → Option ℤ → List ℕ → (List ℕ → Read C (List A)) → Read C (List A) → Read C (List A)
body c size rest more r = r >>= sized c size rest >>= λ ds. with_front ds.0 (more ds.1)

abbrev sized_if : {C A : Type 0} → Causes C → List ℕ → (List ℕ → Read C (List A)) → List A × List ℕ → Bool → Read C (List A)
sized_if c rest more x t = cond t (Ok x) (Err (c.bad_size, length rest)) >>= λ ds. with_front ds.0 (more ds.1)

module _ {C A B : Type 0} (c : Causes C) (f : A → B) (item : List ℕ → Read C A) (image : List ℕ → Read C B) (same : (b : List ℕ) → mapped f (item b) ≡ image b) where
  mapped-items : (n : ℕ) (bytes : List ℕ) → mapped (map f) (items_at item n bytes) ≡ items_at image n bytes
  unfolding items_at
  mapped-items zero bytes = refl
  mapped-items (suc n) bytes = mapped-ahead f (item bytes) (image bytes) (items_at item n) (items_at image n) (same bytes) (mapped-items n)

  mapped-body : (size : Option ℤ) (rest : List ℕ) (r : Read C (List A)) (s : Read C (List B)) (more : List ℕ → Read C (List A)) (others : List ℕ → Read C (List B)) → mapped (map f) r ≡ s
      → ((b : List ℕ) → mapped (map f) (more b) ≡ others b) → mapped (map f) (body c size rest more r) ≡ body c size rest others s
  mapped-body size rest (Err d) s more others e h = ap (body c size rest others) e
  mapped-body size rest (Ok x) s more others e h =
      tested (is_size size (length rest - length x.1)) ∙ ap (body c size rest others) e
    where
      tested : (t : Bool) → mapped (map f) (sized_if c rest more x t) ≡ sized_if c rest others (map f x.0, x.1) t
      tested true = mapped-front f x.0 (more x.1) ∙ ap (with_front (map f x.0)) (h x.1)
      tested false = refl

  pub mapped-blocks : (k room : ℕ) (bytes : List ℕ) → mapped (map f) (blocks_at c item k room bytes) ≡ blocks_at c image k room bytes
  unfolding blocks_at
  mapped-blocks zero room bytes = refl
  mapped-blocks (suc k) room bytes =
      elim (head_at c room bytes) as (λ r. mapped (map f) (r >>= block_at c item (blocks_at c item k) room) ≡ (r >>= block_at c image (blocks_at c image k) room)) [
        | Ok head ↦ elim (head.0.0 == 0) as (λ t.
            mapped (map f) (cond t (Ok ([], head.1)) (items_at item head.0.0 head.1 >>= sized c head.0.1 head.1 >>= λ ds. with_front ds.0 (blocks_at c item k (room - head.0.0) ds.1)))
            ≡ cond t (Ok ([], head.1)) (items_at image head.0.0 head.1 >>= sized c head.0.1 head.1 >>= λ ds. with_front ds.0 (blocks_at c image k (room - head.0.0) ds.1))) [
              | true ↦ refl
              | false ↦ mapped-body head.0.1 head.1 (items_at item head.0.0 head.1) (items_at image head.0.0 head.1) (blocks_at c item k (room - head.0.0)) (blocks_at c image k (room - head.0.0))
                  (mapped-items head.0.0 head.1) (λ b. mapped-blocks k (room - head.0.0) b)
            ]
        | Err e ↦ refl
      ]

module _ {C A B : Type 0} where
  -- what was seen by f was read
  pub unmapped : (f : A → B) (r : Read C A) (y : B) (rest : List ℕ) → mapped f r ≡ Ok (y, rest) → (x : A) × (r ≡ Ok (x, rest)) × (f x ≡ y)
  unmapped f (Ok x) y rest e = (x.0, ap (λ (r : List ℕ). Ok (x.0, r)) (same_rest e), same_value e)
  unmapped f (Err d) y rest e = absurd cc
