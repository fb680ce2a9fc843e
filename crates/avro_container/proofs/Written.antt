-- What is written is spelled so.
use Rattle.std.proofs.Common.{ℕ, suc, pos, ◌-◌, ◌*◌, ◌≤◌, ◌<◌, ◌^◌, List, [], ◌∷◌, ◌++◌, length, refl, sym, arith, subst, inl, append_assoc, length-append}
use Rattle.std.proofs.lemmas.List.{append-nil}
use Rattle.std.proofs.Math.Dec.{eqb-suc-zero}
use Rattle.std.specs.List.{AllByRecursion}
use Rattle.avro_container.specs.Long.{SpellsLong, written_long}
use Rattle.avro_container.specs.Spelling.{SpellsText, SpellsEach, SpellsBlocks, last, block}
use Rattle.avro_container.specs.Writing.{written_text, written_each, written_blocks}
use Rattle.avro_container.proofs.LongWritten.{written_spells}

pub count_written : (n : ℕ) → n < 2 ^ 63 → SpellsLong (written_long (pos n)) (pos n)
count_written n h = written_spells (pos n) (let fits : 2 * n < 2 ^ 64 = omega arith in fits)

pub text_written : (t : List ℕ) → length t < 2 ^ 63 → SpellsText t (written_text t)
text_written t h = record { front = written_long (pos (length t)); rest = t; first = count_written (length t) h; second = refl; is = refl }

module _ {A : Type 0} (P : A → List ℕ → Type 0) (w : A → List ℕ) where
  pub each_written : (ds : List A) → AllByRecursion (λ d. P d (w d)) ds → SpellsEach P ds (written_each w ds)
  each_written [] q = refl
  each_written (d ∷ ds) q = record { front = w d; rest = written_each w ds; first = q.0; second = each_written ds q.1; is = refl }

  pub blocks_written : (room : ℕ) (ds : List A) → AllByRecursion (λ d. P d (w d)) ds → length ds ≤ room → room < 2 ^ 63 → SpellsBlocks P room ds (written_blocks w ds)
  blocks_written room [] q few small = last room (written_long (pos 0)) (count_written 0 (omega arith))
  blocks_written room (d ∷ ds) q few small =
      let head = written_long (pos (suc (length ds))) in
      let body = written_each w (d ∷ ds) in
      let none = written_long (pos 0) in
      let all : SpellsBlocks P room ((d ∷ ds) ++ []) (head ++ (body ++ none)) =
      block room (length ds) (d ∷ ds) [] head body none refl few (inl (count_written (suc (length ds)) (omega arith))) (each_written (d ∷ ds) q)
      (last (room - suc (length ds)) none (count_written 0 (omega arith))) in
      let whole : SpellsBlocks P room (d ∷ ds) (head ++ (body ++ none)) = subst (λ es. SpellsBlocks P room es (head ++ (body ++ none))) (append-nil (d ∷ ds)) all in
      rw (eqb-suc-zero (length ds)) (subst (λ b. SpellsBlocks P room (d ∷ ds) b) (sym (append_assoc head body none)) whole)

-- What is written is spelled so where it has fewer than 2 ^ 63 bytes, as all has that memory holds.

pub text_within : (t : List ℕ) → length (written_text t) < 2 ^ 63 → SpellsText t (written_text t)
text_within t h = text_written t (omega (arith, length-append (written_long (pos (length t))) t))

module _ {A : Type 0} (w : A → List ℕ) where
  pub each_is_shorter : (ds : List A) → length (written_each w ds) ≤ length (written_blocks w ds)
  each_is_shorter [] = omega arith
  each_is_shorter (d ∷ ds) =
      rw (eqb-suc-zero (length ds)) (omega (arith, length-append (written_long (pos (length (d ∷ ds))) ++ written_each w (d ∷ ds)) (written_long (pos 0)), length-append (written_long (pos (length (d ∷ ds)))) (written_each w (d ∷ ds))))

module _ {A : Type 0} (P : A → List ℕ → Type 0) (Q : A → Type 0) (w : A → List ℕ) (h : (d : A) → Q d → length (w d) < 2 ^ 63 → P d (w d)) where
  pub each_within : (ds : List A) → AllByRecursion Q ds → length (written_each w ds) < 2 ^ 63 → AllByRecursion (λ d. P d (w d)) ds
  each_within [] q small = tt
  each_within (d ∷ ds) q small =
      let both = length-append (w d) (written_each w ds) in
      (h d q.0 (omega (arith, both, small)), each_within ds q.1 (omega (arith, both, small)))

  pub blocks_within : (room : ℕ) (ds : List A) → AllByRecursion Q ds → length ds ≤ room → room < 2 ^ 63 → length (written_blocks w ds) < 2 ^ 63 → SpellsBlocks P room ds (written_blocks w ds)
  blocks_within room ds q few fits small = blocks_written P w room ds (each_within ds q (omega (arith, each_is_shorter w ds, small))) few fits
