-- What is read is spelled so.
use Rattle.std.proofs.Common.{◌≡◌, ℕ, zero, suc, ℤ, pos, negsuc, ◌-◌, ◌+◌, ◌≤◌, List, [], ◌∷◌, ◌++◌, length, take, drop, Ok, Err, refl, sym, ap, ◌∙◌, append_assoc, arith, subst, Option, Some, None, cond, true, false, ◌==◌, nat_lt, ltb-false, inl, inr, pred, eqb-true, length-append}
use Rattle.std.proofs.lemmas.Bool.{eqb-false}
use Rattle.std.proofs.Math.Nat.{suc_inj}
use Rattle.std.proofs.lemmas.List.{length-take, take-append-drop}
use Rattle.std.specs.Str.{is_utf8, IsUtf8}
use Rattle.std.proofs.lemmas.Str.{IsUtf8-from_is_utf8}
use Rattle.avro_container.specs.declared.fault.NumErr.TheVariants as number
use Rattle.avro_container.specs.Long.{SpellsLong}
use Rattle.avro_container.specs.LongReading.{long_at}
use Rattle.avro_container.proofs.LongLaws.{long_found}
use Rattle.avro_container.specs.Spelling.{Joins, SpellsText, SpellsEach, SpellsHead, SpellsBlocks, last, block, Fronts}
use Rattle.avro_container.specs.Reading.{Causes, Read, ◌>>=◌, as_read, number_at, natural, length_at, bytes_at, blob_at, string_at, with_front, ahead, items_at, allowed, is_size, sized, head_at, block_at, blocks_at}
use Rattle.avro_container.proofs.Binding.{same_ok, same_value, same_rest, bind_ok, guard_ok, pass_ok, joined, as_spelled, ends_at, IsFound}

module _ {C : Type 0} (c : Causes C) where
  pub number_found : (bytes : List ℕ) (z : ℤ) (rest : List ℕ) → number_at c bytes ≡ Ok (z, rest) → Fronts (λ b. SpellsLong b z) bytes rest
  unfolding number_at
  number_found bytes z rest e =
      elim (long_at bytes) as (λ r. long_at bytes ≡ r → as_read c (length bytes) r ≡ Ok (z, rest) → Fronts (λ b. SpellsLong b z) bytes rest) [
        | Ok x ↦ λ r e. (let found = long_found bytes x.1 x.0 r in
            ends_at (same_rest e) (record { front = found.0; spells = subst (λ n. SpellsLong found.0 n) (same_value e) found.1; is = found.2 }))
        | Err number.Short ↦ λ r e. absurd cc
        | Err number.TooLong ↦ λ r e. absurd cc
      ] refl e

  length_from : (left : ℕ) (n : ℤ × List ℕ) (k : ℕ) (rest : List ℕ) → natural c left n ≡ Ok (k, rest) → (n.0 ≡ pos k) × (n.1 ≡ rest)
  length_from left (pos n, r) k rest e = (ap pos (same_value e), same_rest e)
  length_from left (negsuc n, r) k rest e = absurd cc

  pub length_found : (bytes : List ℕ) (n : ℕ) (rest : List ℕ) → length_at c bytes ≡ Ok (n, rest) → Fronts (λ b. SpellsLong b (pos n)) bytes rest
  unfolding length_at
  length_found bytes n rest e =
      let read = bind_ok (number_at c bytes) (natural c (length bytes)) (n, rest) e in
      let parts = length_from (length bytes) read.0 n rest read.2 in
      ends_at parts.1 (as_spelled (λ b s. subst (λ z. SpellsLong b z) parts.0 s) (number_found bytes read.0.0 read.0.1 read.1))

  pub bytes_found : (n : ℕ) (bytes part rest : List ℕ) → bytes_at c n bytes ≡ Ok (part, rest) → (bytes ≡ part ++ rest) × (length part ≡ n)
  unfolding bytes_at
  bytes_found n bytes part rest e =
      let test = guard_ok (nat_lt (length bytes) n) (c.short, 0) (take n bytes, drop n bytes) (part, rest) e in
      let enough : n ≤ length bytes = ltb-false (length bytes) n test.0 in
      let text : take n bytes ≡ part = ap (λ p. p.0) test.1 in
      let end : drop n bytes ≡ rest = ap (λ p. p.1) test.1 in
      (sym (take-append-drop n bytes) ∙ ap (λ x. x ++ drop n bytes) text ∙ ap (λ r. part ++ r) end, ap length (sym text) ∙ simp length-take (omega arith))

  pub blob_found : (bytes t rest : List ℕ) → blob_at c bytes ≡ Ok (t, rest) → Fronts (SpellsText t) bytes rest
  unfolding blob_at
  blob_found bytes t rest e =
      let read = bind_ok (length_at c bytes) (λ n. bytes_at c n.0 n.1) (t, rest) e in
      let body = bytes_found read.0.0 read.0.1 t rest read.2 in
      joined (as_spelled (λ b s. subst (λ k. SpellsLong b (pos k)) (sym body.1) s) (length_found bytes read.0.0 read.0.1 read.1))
      (record { front = t; spells = refl; is = body.0 })

  pub string_found : (bytes t rest : List ℕ) → string_at c bytes ≡ Ok (t, rest) → Fronts (λ b. IsUtf8 t × SpellsText t b) bytes rest
  unfolding string_at
  string_found bytes t rest e =
      let read = bind_ok (blob_at c bytes) (λ s. cond (is_utf8 s.0) (Ok s) (Err (c.bad_utf8, length bytes))) (t, rest) e in
      let test = pass_ok (is_utf8 read.0.0) (c.bad_utf8, length bytes) read.0 (t, rest) read.2 in
      let text : read.0.0 ≡ t = ap (λ p. p.0) test.1 in
      let end : read.0.1 ≡ rest = ap (λ p. p.1) test.1 in
      let utf8 : IsUtf8 t = subst IsUtf8 text (IsUtf8-from_is_utf8 read.0.0 test.0) in
      as_spelled (λ b s. (utf8, s)) (ends_at end (as_spelled (λ b s. subst (λ x. SpellsText x b) text s) (blob_found bytes read.0.0 read.0.1 read.1)))

module _ {C A : Type 0} where
  pub front_found : (front : List A) (r : Read C (List A)) (ds : List A) (rest : List ℕ) → with_front front r ≡ Ok (ds, rest) → (es : List A) × (r ≡ Ok (es, rest)) × (front ++ es ≡ ds)
  front_found front (Ok x) ds rest e = (x.0, ap (λ (r : List ℕ). Ok (x.0, r)) (same_rest e), same_value e)
  front_found front (Err d) ds rest e = absurd cc

  -- what is read ahead, and what behind it
  pub ahead_found : (r : Read C A) (more : List ℕ → Read C (List A)) (ds : List A) (rest : List ℕ) → ahead r more ≡ Ok (ds, rest)
      → (d : A) × (mid : List ℕ) × (es : List A) × (r ≡ Ok (d, mid)) × (more mid ≡ Ok (es, rest)) × (d ∷ es ≡ ds)
  ahead_found r more ds rest e =
      let read = bind_ok r (λ d. with_front (d.0 ∷ []) (more d.1)) (ds, rest) e in
      let behind = front_found (read.0.0 ∷ []) (more read.0.1) ds rest read.2 in
      (read.0.0, read.0.1, behind.0, read.1, behind.1, behind.2)

  pub items_found : (P : A → List ℕ → Type 0) (item : List ℕ → Read C A) → IsFound P item → (n : ℕ) (bytes : List ℕ) (ds : List A) (rest : List ℕ) → items_at item n bytes ≡ Ok (ds, rest)
      → (length ds ≡ n) × Fronts (SpellsEach P ds) bytes rest
  unfolding items_at
  items_found P item h zero bytes ds rest e =
      let none : [] ≡ ds = same_value e in
      (ap length (sym none), subst (λ es. Fronts (SpellsEach P es) bytes rest) none (record { front = []; spells = refl; is = same_rest e }))
  items_found P item h (suc n) bytes ds rest e =
      let a = ahead_found (item bytes) (items_at item n) ds rest e in
      let d = a.0 in
      let behind = items_found P item h n a.1 a.2 rest a.4 in
      (ap length (sym a.5) ∙ ap suc behind.0, subst (λ es. Fronts (SpellsEach P es) bytes rest) a.5 (joined (h bytes a.0 a.1 a.3) behind.1))

-- what the head of a block says, and its bytes
abbrev HeadIs : ℕ × Option ℤ → List ℕ → Type 0
HeadIs (n, None) b = SpellsLong b (pos n)
HeadIs (n, Some size) b = (m : ℕ) × (n ≡ suc m) × Joins (λ x. SpellsLong x (negsuc m)) (λ y. SpellsLong y size) b

module _ {C : Type 0} (c : Causes C) where
  sized_head : (n : ℕ) (size : ℤ × List ℕ) → Read C (ℕ × Option ℤ)
  sized_head n size = Ok ((suc n, Some size.0), size.1)

  allowed_found : (room left : ℕ) (n : ℤ × List ℕ) (h : ℕ × Option ℤ) (bytes rest : List ℕ) → allowed c room left n ≡ Ok (h, rest) → Fronts (λ b. SpellsLong b n.0) bytes n.1 → (h.0 ≤ room) × Fronts (HeadIs h) bytes rest
  unfolding sized_head
  allowed_found room left (pos n, r) h bytes rest e f =
      let test = guard_ok (nat_lt room n) (c.too_many, left) ((n, None), r) (h, rest) e in
      let head : (n, None) ≡ h = ap (λ p. p.0) test.1 in
      let end : r ≡ rest = ap (λ p. p.1) test.1 in
      (subst (λ g. g.0 ≤ room) head (ltb-false room n test.0), subst (λ g. Fronts (HeadIs g) bytes rest) head (ends_at end f))
  allowed_found room left (negsuc n, r) h bytes rest e f =
      elim (nat_lt room (suc n)) as (λ t. nat_lt room (suc n) ≡ t → cond t (Err (c.too_many, left)) (number_at c r >>= sized_head n) ≡ Ok (h, rest) → (h.0 ≤ room) × Fronts (HeadIs h) bytes rest) [
        | true ↦ λ t e. absurd cc
        | false ↦ λ t e. (
            let read = bind_ok (number_at c r) (sized_head n) (h, rest) e in
            let head : (suc n, Some read.0.0) ≡ h = ap (λ p. p.0) (same_ok read.2) in
            let end : read.0.1 ≡ rest = ap (λ p. p.1) (same_ok read.2) in
            let both = joined f (number_found c r read.0.0 read.0.1 read.1) in (
              subst (λ g. g.0 ≤ room) head (ltb-false room (suc n) t),
              subst (λ g. Fronts (HeadIs g) bytes rest) head (ends_at end (as_spelled (λ b s. (n, refl, s)) both)),
            ))
      ] refl e

  head_found : (room : ℕ) (bytes : List ℕ) (h : ℕ × Option ℤ) (rest : List ℕ) → head_at c room bytes ≡ Ok (h, rest) → (h.0 ≤ room) × Fronts (HeadIs h) bytes rest
  unfolding head_at
  head_found room bytes h rest e =
      let read = bind_ok (number_at c bytes) (allowed c room (length bytes)) (h, rest) e in
      allowed_found room (length bytes) read.0 h bytes rest read.2 (number_found c bytes read.0.0 read.0.1 read.1)

-- the head of a block that has items, in the grammar's words
head_of : (n m size : ℕ) (stated : Option ℤ) (b : List ℕ) → n ≡ suc m → HeadIs (n, stated) b → is_size stated size ≡ true → SpellsHead m size b
head_of n m size None b e h fits = inl (subst (λ k. SpellsLong b (pos k)) e h)
head_of n m size (Some (pos k)) b e h fits =
    let same : h.0 ≡ m = suc_inj (sym h.1 ∙ e) in
    let len : k ≡ size = eqb-true k size fits in
    inr (subst (λ k. Joins (λ x. SpellsLong x (negsuc m)) (λ y. SpellsLong y (pos k)) b) len (subst (λ i. Joins (λ x. SpellsLong x (negsuc i)) (λ y. SpellsLong y (pos k)) b) same h.2))
head_of n m size (Some (negsuc k)) b e h fits = absurd cc

no_items : (n : ℕ) (stated : Option ℤ) (b : List ℕ) → n ≡ 0 → HeadIs (n, stated) b → SpellsLong b (pos 0)
no_items n None b e h = subst (λ k. SpellsLong b (pos k)) e h
no_items n (Some size) b e h = let same : 0 ≡ suc h.0 = sym e ∙ h.1 in absurd (omega arith)

positive : (n : ℕ) → (n ≡ 0 → ⊥) → n ≡ suc (pred n)
positive zero h = absurd (h refl)
positive (suc n) h = refl

length_of : (xs front rest : List ℕ) → xs ≡ front ++ rest → length xs - length rest ≡ length front
length_of xs front rest e = let both : length xs ≡ length front + length rest = ap length e ∙ length-append front rest in omega (arith, both)

module _ {C A : Type 0} (c : Causes C) where
  sized_ok : (stated : Option ℤ) (bytes : List ℕ) (x : List A × List ℕ) (ds : List A) (rest : List ℕ) → sized c stated bytes x ≡ Ok (ds, rest) → (is_size stated (length bytes - length x.1) ≡ true) × (x ≡ (ds, rest))
  sized_ok stated bytes x ds rest e = pass_ok (is_size stated (length bytes - length x.1)) _ x (ds, rest) e

  pub blocks_found : (P : A → List ℕ → Type 0) (item : List ℕ → Read C A) → IsFound P item → (k room : ℕ) (bytes : List ℕ) (ds : List A) (rest : List ℕ) → blocks_at c item k room bytes ≡ Ok (ds, rest)
      → Fronts (SpellsBlocks P room ds) bytes rest
  unfolding blocks_at
  blocks_found P item h zero room bytes ds rest e = absurd cc
  blocks_found P item h (suc k) room bytes ds rest e =
      let read = bind_ok (head_at c room bytes) (block_at c item (blocks_at c item k) room) (ds, rest) e in
      let n = read.0.0.0 in
      let stated = read.0.0.1 in
      let from = read.0.1 in
      let head = head_found c room bytes (n, stated) from read.1 in
      elim (n == 0) as (λ t. (n == 0) ≡ t → cond t (Ok ([], from)) (items_at item n from >>= sized c stated from >>= λ es. with_front es.0 (blocks_at c item k (room - n) es.1)) ≡ Ok (ds, rest) → Fronts (SpellsBlocks P room ds) bytes rest) [
        | true ↦ λ t e. (
            let none : [] ≡ ds = same_value e in
            subst (λ es. Fronts (SpellsBlocks P room es) bytes rest) none
            (ends_at (same_rest e) (as_spelled (λ b s. last room b (no_items n stated b (eqb-true n 0 t) s)) head.1)))
        | false ↦ λ t e. (
            let checked = bind_ok (items_at item n from >>= sized c stated from) (λ es. with_front es.0 (blocks_at c item k (room - n) es.1)) (ds, rest) e in
            let some = bind_ok (items_at item n from) (sized c stated from) checked.0 checked.1 in
            let es = some.0.0 in
            let after = some.0.1 in
            let fits = sized_ok stated from some.0 checked.0.0 checked.0.1 some.2 in
            let body = items_found P item h n from es after some.1 in
            let behind = front_found checked.0.0 (blocks_at c item k (room - n) checked.0.1) ds rest checked.2 in
            let one : n ≡ suc (pred n) = positive n (eqb-false n 0 t) in
            let same : es ≡ checked.0.0 = ap (λ p. p.0) fits.1 in
            let end : after ≡ checked.0.1 = ap (λ p. p.1) fits.1 in
            let more = blocks_found P item h k (room - n) checked.0.1 behind.0 rest behind.1 in
            let size : length from - length after ≡ length body.1.front = length_of from body.1.front after body.1.is in
            let blocks : SpellsBlocks P room (es ++ behind.0) (head.1.front ++ (body.1.front ++ more.front)) =
            block room (pred n) es behind.0 head.1.front body.1.front more.front (body.0 ∙ one) (subst (λ i. i ≤ room) one head.0)
            (head_of n (pred n) (length body.1.front) stated head.1.front one head.1.spells (ap (is_size stated) (sym size) ∙ fits.0)) body.1.spells
            (subst (λ i. SpellsBlocks P (room - i) behind.0 more.front) one more.spells) in
            record {
              front = head.1.front ++ (body.1.front ++ more.front);
              spells = subst (λ gs. SpellsBlocks P room gs (head.1.front ++ (body.1.front ++ more.front))) (ap (λ gs. gs ++ behind.0) same ∙ behind.2) blocks;
              is = head.1.is ∙ ap (λ r. head.1.front ++ r) (body.1.is ∙ ap (λ r. body.1.front ++ r) (end ∙ more.is) ∙ sym (append_assoc body.1.front more.front rest)) ∙ sym (append_assoc head.1.front (body.1.front ++ more.front) rest);
            })
      ] refl read.2
