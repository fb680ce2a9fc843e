-- Items read one after the other, as loops do it: what is read already, before what is still to be read, is the whole.
use Rattle.std.proofs.Common.{◌≡◌, ℕ, suc, ◌-◌, ◌+◌, ◌≤◌, ◌<◌, List, [], ◌∷◌, ◌++◌, length, drop, Ok, Err, refl, sym, ap, ◌∙◌, append_assoc, arith, Option, cond, Bool, true, false, ◌==◌, ℤ}
use Rattle.std.proofs.lemmas.List.{append-nil, length-drop}
use Rattle.std.proofs.lemmas.Bool.{ne_eqb}
use Rattle.avro_container.specs.Reading.{Causes, Fault, Read, ◌>>=◌, with_front, ahead, items_at, is_size, sized, head_at, block_at, blocks_at}
use Rattle.avro_container.proofs.Found.{front_found}

module _ {C A : Type 0} where
  regroup : (front ds : List A) (r : Read C (List A)) → with_front front (with_front ds r) ≡ with_front (front ++ ds) r
  regroup front ds (Ok x) = ap (λ (es : List A). Ok (es, x.1)) (sym (append_assoc front ds x.0))
  regroup front ds (Err e) = refl

  pub front-nil : (r : Read C (List A)) → with_front [] r ≡ r
  front-nil (Ok x) = refl
  front-nil (Err e) = refl

  -- one more was read
  pub one_more : (front : List A) (r : Read C A) (more : List ℕ → Read C (List A)) (d : A) (rest : List ℕ) → r ≡ Ok (d, rest)
      → with_front front (ahead r more) ≡ with_front (front ++ d ∷ []) (more rest)
  one_more front r more d rest e = ap (λ r. with_front front (ahead r more)) e ∙ regroup front (d ∷ []) (more rest)

  -- the one that is read next is faulty
  pub next_fails : (front : List A) (r : Read C A) (more : List ℕ → Read C (List A)) (total : Read C (List A)) (w : Fault C)
      → with_front front (ahead r more) ≡ total → r ≡ Err w → total ≡ Err w
  next_fails front r more total w so f = sym so ∙ ap (λ r. with_front front (ahead r more)) f

  pub items_next : (item : List ℕ → Read C A) (count i : ℕ) (bytes : List ℕ) → i < count → items_at item (count - i) bytes ≡ ahead (item bytes) (items_at item (count - (i + 1)))
  unfolding items_at
  items_next item count i bytes h = let k : count - i ≡ suc (count - (i + 1)) = omega arith in rw k refl

  pub items_done : (item : List ℕ → Read C A) (front : List A) (count i : ℕ) (bytes : List ℕ) → count ≤ i → with_front front (items_at item (count - i) bytes) ≡ Ok (front, bytes)
  unfolding items_at
  items_done item front count i bytes h = let k : count - i ≡ 0 = omega arith in rw k (ap (λ (es : List A). Ok (es, bytes)) (append-nil front))

module _ {C A : Type 0} where
  pub items_go_on : (item : List ℕ → Read C A) (front : List A) (count i : ℕ) (bytes : List ℕ) (d : A) (rest : List ℕ) (total : Read C (List A)) → i < count → item bytes ≡ Ok (d, rest)
      → with_front front (items_at item (count - i) bytes) ≡ total → with_front (front ++ d ∷ []) (items_at item (count - (i + 1)) rest) ≡ total
  items_go_on item front count i bytes d rest total h e so =
      sym (one_more front (item bytes) (items_at item (count - (i + 1))) d rest e) ∙ ap (with_front front) (sym (items_next item count i bytes h)) ∙ so

  pub items_stop : (item : List ℕ → Read C A) (front : List A) (count i : ℕ) (bytes : List ℕ) (total : Read C (List A)) (w : Fault C) → i < count
      → with_front front (items_at item (count - i) bytes) ≡ total → item bytes ≡ Err w → total ≡ Err w
  items_stop item front count i bytes total w h so f =
      next_fails front (item bytes) (items_at item (count - (i + 1))) total w (ap (with_front front) (sym (items_next item count i bytes h)) ∙ so) f

-- Blocks.

module _ {C A : Type 0} (c : Causes C) where
  -- the blocks behind are read with one turn less
  abbrev pub behind : (List ℕ → Read C A) → ℕ → ℕ → ℕ → (ℕ × Option ℤ) × List ℕ → Read C (List A)
  behind item turns i room = block_at c item (blocks_at c item (turns - (i + 1))) room

  -- what follows the head of a block that has items
  abbrev rest_of : (List ℕ → Read C A) → ℕ → ℕ → ℕ → ℕ → Option ℤ → List ℕ → Read C (List A) → Read C (List A)
  rest_of item turns i room count size rest r = r >>= sized c size rest >>= λ ds. with_front ds.0 (blocks_at c item (turns - (i + 1)) (room - count) ds.1)

  blocks_open : (item : List ℕ → Read C A) (front : List A) (turns i room : ℕ) (xs : List ℕ) (total : Read C (List A)) → i < turns → with_front front (blocks_at c item (turns - i) room xs) ≡ total
      → with_front front (head_at c room xs >>= behind item turns i room) ≡ total
  unfolding blocks_at
  blocks_open item front turns i room xs total h so =
      let k : turns - i ≡ suc (turns - (i + 1)) = omega arith in
      sym (ap (λ n. with_front front (blocks_at c item n room xs)) k) ∙ so

  pub head_stops : (item : List ℕ → Read C A) (front : List A) (turns i room : ℕ) (xs : List ℕ) (total : Read C (List A)) (w : Fault C) → i < turns
      → with_front front (blocks_at c item (turns - i) room xs) ≡ total → head_at c room xs ≡ Err w → total ≡ Err w
  head_stops item front turns i room xs total w h so f =
      sym (blocks_open item front turns i room xs total h so) ∙ ap (λ r. with_front front (r >>= behind item turns i room)) f

  -- after the head
  headed : (item : List ℕ → Read C A) (front : List A) (turns i room : ℕ) (xs : List ℕ) (total : Read C (List A)) (head : (ℕ × Option ℤ) × List ℕ) → i < turns
      → with_front front (blocks_at c item (turns - i) room xs) ≡ total → head_at c room xs ≡ Ok head → with_front front (behind item turns i room head) ≡ total
  headed item front turns i room xs total head h so e =
      ap (λ r. with_front front (r >>= behind item turns i room)) (sym e) ∙ blocks_open item front turns i room xs total h so

  pub last_block : (item : List ℕ → Read C A) (front : List A) (turns i room : ℕ) (xs : List ℕ) (total : Read C (List A)) (count : ℕ) (size : Option ℤ) (rest : List ℕ) → i < turns
      → with_front front (blocks_at c item (turns - i) room xs) ≡ total → head_at c room xs ≡ Ok ((count, size), rest) → count ≡ 0 → total ≡ Ok (front, rest)
  last_block item front turns i room xs total count size rest h so e none =
      sym (headed item front turns i room xs total ((count, size), rest) h so e)
      ∙ ap (λ n. with_front front (behind item turns i room ((n, size), rest))) none ∙ ap (λ (es : List A). Ok (es, rest)) (append-nil front)

  -- a block that has items
  full : (item : List ℕ → Read C A) (front : List A) (turns i room : ℕ) (xs : List ℕ) (total : Read C (List A)) (count : ℕ) (size : Option ℤ) (rest : List ℕ) → i < turns
      → with_front front (blocks_at c item (turns - i) room xs) ≡ total → head_at c room xs ≡ Ok ((count, size), rest) → (count ≡ 0 → ⊥)
      → with_front front (rest_of item turns i room count size rest (items_at item count rest)) ≡ total
  full item front turns i room xs total count size rest h so e some =
      let test : (count == 0) ≡ false = ne_eqb count 0 some in
      sym (ap (λ t. with_front front (cond t (Ok ([], rest)) (rest_of item turns i room count size rest (items_at item count rest)))) test)
      ∙ headed item front turns i room xs total ((count, size), rest) h so e

  pub body_stops : (item : List ℕ → Read C A) (front : List A) (turns i room : ℕ) (xs : List ℕ) (total : Read C (List A)) (count : ℕ) (size : Option ℤ) (rest : List ℕ) (w : Fault C) → i < turns
      → with_front front (blocks_at c item (turns - i) room xs) ≡ total → head_at c room xs ≡ Ok ((count, size), rest) → (count ≡ 0 → ⊥) → items_at item count rest ≡ Err w → total ≡ Err w
  body_stops item front turns i room xs total count size rest w h so e some f =
      sym (full item front turns i room xs total count size rest h so e some)
      ∙ ap (λ r. with_front front (rest_of item turns i room count size rest r)) f

  abbrev sized_if : List ℕ → List A × List ℕ → Bool → Read C (List A)
  sized_if bytes x t = cond t (Ok x) (Err (c.bad_size, length bytes))

  pub wrong_size : (item : List ℕ → Read C A) (front : List A) (turns i room : ℕ) (xs : List ℕ) (total : Read C (List A)) (count : ℕ) (size : Option ℤ) (rest after : List ℕ) (new : List A) → i < turns
      → with_front front (blocks_at c item (turns - i) room xs) ≡ total → head_at c room xs ≡ Ok ((count, size), rest) → (count ≡ 0 → ⊥)
      → with_front front (items_at item count rest) ≡ Ok (new, after) → is_size size (length rest - length after) ≡ false → total ≡ Err (c.bad_size, length rest)
  wrong_size item front turns i room xs total count size rest after new h so e some items bad =
      let found = front_found front (items_at item count rest) new after items in
      sym (full item front turns i room xs total count size rest h so e some)
      ∙ ap (λ r. with_front front (rest_of item turns i room count size rest r)) found.1
      ∙ ap (λ t. with_front front (sized_if rest (found.0, after) t >>= λ ds. with_front ds.0 (blocks_at c item (turns - (i + 1)) (room - count) ds.1))) bad

  pub next_block : (item : List ℕ → Read C A) (front : List A) (turns i room : ℕ) (xs : List ℕ) (total : Read C (List A)) (count : ℕ) (size : Option ℤ) (rest after : List ℕ) (new : List A) → i < turns
      → with_front front (blocks_at c item (turns - i) room xs) ≡ total → head_at c room xs ≡ Ok ((count, size), rest) → (count ≡ 0 → ⊥)
      → with_front front (items_at item count rest) ≡ Ok (new, after) → is_size size (length rest - length after) ≡ true
      → with_front new (blocks_at c item (turns - (i + 1)) (room - count) after) ≡ total
  next_block item front turns i room xs total count size rest after new h so e some items good =
      let found = front_found front (items_at item count rest) new after items in
      ap (λ (ds : List A). with_front ds (blocks_at c item (turns - (i + 1)) (room - count) after)) (sym found.2)
      ∙ sym (regroup front found.0 (blocks_at c item (turns - (i + 1)) (room - count) after))
      ∙ sym (ap (λ t. with_front front (sized_if rest (found.0, after) t >>= λ ds. with_front ds.0 (blocks_at c item (turns - (i + 1)) (room - count) ds.1))) good)
      ∙ sym (ap (λ r. with_front front (rest_of item turns i room count size rest r)) found.1)
      ∙ full item front turns i room xs total count size rest h so e some

  pub no_turns : (item : List ℕ → Read C A) (front : List A) (turns i room : ℕ) (xs : List ℕ) (total : Read C (List A)) → turns ≤ i → with_front front (blocks_at c item (turns - i) room xs) ≡ total → total ≡ Err (c.short, 0)
  unfolding blocks_at
  no_turns item front turns i room xs total h so =
      let k : turns - i ≡ 0 = omega arith in sym so ∙ ap (λ n. with_front front (blocks_at c item n room xs)) k

  -- a loop begins with as many turns as there are bytes, and one
  pub turns_are : (item : List ℕ → Read C A) (room : ℕ) (bytes : List ℕ) (at : ℕ) → with_front [] (blocks_at c item (length bytes - at + 1 - 0) room (drop at bytes)) ≡ blocks_at c item (suc (length (drop at bytes))) room (drop at bytes)
  turns_are item room bytes at =
      let n : length bytes - at + 1 - 0 ≡ suc (length (drop at bytes)) = omega (arith, length-drop at bytes) in
      ap (λ n. with_front [] (blocks_at c item n room (drop at bytes))) n ∙ front-nil (blocks_at c item (suc (length (drop at bytes))) room (drop at bytes))

-- how many bytes lie between two places
pub between : (bytes : List ℕ) (from after : ℕ) → from ≤ length bytes → after ≤ length bytes → length (drop from bytes) - length (drop after bytes) ≡ after - from
between bytes from after h k = simp length-drop (omega arith)
