-- What is spelled so is read, whatever follows.
use Rattle.std.proofs.Common.{◌≡◌, ℕ, zero, suc, ℤ, pos, negsuc, ◌-◌, ◌≤◌, ◌<◌, List, [], ◌∷◌, ◌++◌, length, Ok, Err, refl, sym, ap, ◌∙◌, append_assoc, arith, Option, Some, None, cond, Bool, true, false, ◌==◌, nat_lt, le-ltb, inl, inr, length-append}
use Rattle.std.proofs.Math.Dec.{eqb-suc-zero}
use Rattle.std.proofs.Math.Seq.{take-append_seam, drop-append_seam}
use Rattle.std.specs.Str.{is_utf8, IsUtf8}
use Rattle.std.proofs.lemmas.Str.{is_utf8-from_IsUtf8}
use Rattle.avro_container.specs.Long.{SpellsLong}
use Rattle.avro_container.proofs.LongLaws.{long_read}
use Rattle.avro_container.specs.Spelling.{SpellsText, SpellsEach, SpellsHead, SpellsBlocks, last, block}
use Rattle.avro_container.specs.Reading.{Causes, Read, ◌>>=◌, as_read, number_at, natural, length_at, bytes_at, blob_at, string_at, with_front, ahead, items_at, allowed, is_size, sized, head_at, block_at, blocks_at}
use Rattle.avro_container.proofs.Binding.{regrouped, IsRead}

module _ {C : Type 0} (c : Causes C) where
  pub number_again : (b rest : List ℕ) (z : ℤ) → SpellsLong b z → number_at c (b ++ rest) ≡ Ok (z, rest)
  unfolding number_at
  number_again b rest z s = ap (as_read c (length (b ++ rest))) (long_read b rest z s)

  pub length_again : (b rest : List ℕ) (n : ℕ) → SpellsLong b (pos n) → length_at c (b ++ rest) ≡ Ok (n, rest)
  unfolding length_at
  length_again b rest n s = ap (λ r. r >>= natural c (length (b ++ rest))) (number_again b rest (pos n) s)

  pub bytes_again : (part rest : List ℕ) → bytes_at c (length part) (part ++ rest) ≡ Ok (part, rest)
  unfolding bytes_at
  bytes_again part rest =
      let enough : nat_lt (length (part ++ rest)) (length part) ≡ false = le-ltb _ _ (omega (arith, length-append part rest)) in
      rw (enough, take-append_seam part rest, drop-append_seam part rest) refl

  pub blob_again : (b rest t : List ℕ) → SpellsText t b → blob_at c (b ++ rest) ≡ Ok (t, rest)
  unfolding blob_at
  blob_again b rest t s =
      ap (λ x. length_at c x >>= λ n. bytes_at c n.0 n.1) (regrouped b rest s)
      ∙ ap (λ r. r >>= λ n. bytes_at c n.0 n.1) (length_again s.front (s.rest ++ rest) (length t) s.first)
      ∙ ap (λ y. bytes_at c (length t) (y ++ rest)) s.second
      ∙ bytes_again t rest

  pub string_again : (b rest t : List ℕ) → IsUtf8 t → SpellsText t b → string_at c (b ++ rest) ≡ Ok (t, rest)
  unfolding string_at
  string_again b rest t u s =
      ap (λ r. r >>= λ s. cond (is_utf8 s.0) (Ok s) (Err (c.bad_utf8, length (b ++ rest)))) (blob_again b rest t s)
      ∙ rw (is_utf8-from_IsUtf8 t u) refl

module _ {C A : Type 0} where
  pub ahead_again : (r : Read C A) (more : List ℕ → Read C (List A)) (d : A) (mid : List ℕ) (ds : List A) (rest : List ℕ) → r ≡ Ok (d, mid) → more mid ≡ Ok (ds, rest) → ahead r more ≡ Ok (d ∷ ds, rest)
  ahead_again r more d mid ds rest e f = ap (λ r. ahead r more) e ∙ ap (with_front (d ∷ [])) f

  pub items_again : (P : A → List ℕ → Type 0) (item : List ℕ → Read C A) → IsRead P item → (ds : List A) (b rest : List ℕ) → SpellsEach P ds b → items_at item (length ds) (b ++ rest) ≡ Ok (ds, rest)
  unfolding items_at
  items_again P item h [] b rest s = ap (λ x. Ok ([], x ++ rest)) s
  items_again P item h (d ∷ ds) b rest s =
      ap (λ x. ahead (item x) (items_at item (length ds))) (regrouped b rest s)
      ∙ ahead_again (item (s.front ++ (s.rest ++ rest))) (items_at item (length ds)) d (s.rest ++ rest) ds rest (h d s.front (s.rest ++ rest) s.first) (items_again P item h ds s.rest rest s.second)

eqb_same : (n : ℕ) → (n == n) ≡ true
eqb_same n = grind arith

-- a spelling of a number has a byte at least
pub some_byte : (b : List ℕ) (z : ℤ) → SpellsLong b z → 0 < length b
some_byte [] z s = absurd s.groups
some_byte (x ∷ b) z s = omega arith

head_bytes : (n size : ℕ) (b : List ℕ) → SpellsHead n size b → 0 < length b
head_bytes n size b (inl s) = some_byte b (pos (suc n)) s
head_bytes n size b (inr s) = omega (arith, some_byte s.front (negsuc n) s.first, ap length s.is, length-append s.front s.rest)

module _ {C : Type 0} (c : Causes C) where
  -- what the head of a block says: its number of bytes, where it states one
  abbrev HeadSays : ℕ → List ℕ → ℕ → ℕ → List ℕ → Type 0
  HeadSays room xs n size rest = (stated : Option ℤ) × (head_at c room xs ≡ Ok ((n, stated), rest)) × (is_size stated size ≡ true)

  head_again : (room n size : ℕ) (b rest : List ℕ) → suc n ≤ room → SpellsHead n size b → HeadSays room (b ++ rest) (suc n) size rest
  unfolding head_at
  head_again room n size b rest h (inl s) = (
    None,
    ap (λ r. r >>= allowed c room (length (b ++ rest))) (number_again c b rest (pos (suc n)) s) ∙ rw (le-ltb room (suc n) h) refl,
    refl,
  )
  head_again room n size b rest h (inr s) = (
    Some (pos size),
    ap (λ x. number_at c x >>= allowed c room (length (b ++ rest))) (regrouped b rest s)
        ∙ ap (λ r. r >>= allowed c room (length (b ++ rest))) (number_again c s.front (s.rest ++ rest) (negsuc n) s.first)
        ∙ rw (le-ltb room (suc n) h) (ap (λ r. r >>= λ size. Ok ((suc n, Some size.0), size.1)) (number_again c s.rest rest (pos size) s.second)),
    eqb_same size,
  )

module _ {C A : Type 0} (c : Causes C) where
  last_again : (item : List ℕ → Read C A) (k room : ℕ) (b rest : List ℕ) → SpellsLong b (pos 0) → length b < k → blocks_at c item k room (b ++ rest) ≡ Ok ([], rest)
  unfolding blocks_at head_at
  last_again item zero room b rest s few = absurd (omega arith)
  last_again item (suc k) room b rest s few =
      ap (λ r. r >>= allowed c room (length (b ++ rest)) >>= block_at c item (blocks_at c item k) room) (number_again c b rest (pos 0) s)
      ∙ rw (le-ltb room 0 (omega arith)) refl

  opened : (item : List ℕ → Read C A) (more : ℕ → List ℕ → Read C (List A)) (room n : ℕ) (stated : Option ℤ) (from : List ℕ)
      → block_at c item more room ((suc n, stated), from) ≡ (items_at item (suc n) from >>= sized c stated from >>= λ ds. with_front ds.0 (more (room - suc n) ds.1))
  opened item more room n stated from = rw (eqb-suc-zero n) refl

  block_again : (P : A → List ℕ → Type 0) (item : List ℕ → Read C A) → IsRead P item → (k room n : ℕ) (es fs : List A) (head body tail : List ℕ) → length es ≡ suc n → suc n ≤ room
      → SpellsHead n (length body) head → SpellsEach P es body → (rest : List ℕ) → length (head ++ (body ++ tail)) < k
      → ((j : ℕ) → length tail < j → blocks_at c item j (room - suc n) (tail ++ rest) ≡ Ok (fs, rest))
      → blocks_at c item k room ((head ++ (body ++ tail)) ++ rest) ≡ Ok (es ++ fs, rest)
  unfolding blocks_at
  block_again P item h zero room n es fs head body tail len fits said each rest few more = absurd (omega arith)
  block_again P item h (suc k) room n es fs head body tail len fits said each rest few more =
      let says = head_again c room n (length body) head (body ++ (tail ++ rest)) fits said in
      let regroup : (head ++ (body ++ tail)) ++ rest ≡ head ++ (body ++ (tail ++ rest)) = simp append_assoc in
      let items : items_at item (suc n) (body ++ (tail ++ rest)) ≡ Ok (es, tail ++ rest) =
      ap (λ m. items_at item m (body ++ (tail ++ rest))) (sym len) ∙ items_again P item h es body (tail ++ rest) each in
      let size : length (body ++ (tail ++ rest)) - length (tail ++ rest) ≡ length body = omega (arith, length-append body (tail ++ rest)) in
      let whole : is_size says.0 (length (body ++ (tail ++ rest)) - length (tail ++ rest)) ≡ true = ap (is_size says.0) size ∙ says.2 in
      let room_left : length tail < k = omega (arith, length-append head (body ++ tail), length-append body tail, head_bytes n (length body) head said) in
      ap (λ xs. head_at c room xs >>= block_at c item (blocks_at c item k) room) regroup
      ∙ ap (λ r. r >>= block_at c item (blocks_at c item k) room) says.1
      ∙ opened item (blocks_at c item k) room n says.0 (body ++ (tail ++ rest))
      ∙ ap (λ r. r >>= sized c says.0 (body ++ (tail ++ rest)) >>= λ ds. with_front ds.0 (blocks_at c item k (room - suc n) ds.1)) items
      ∙ ap (λ t. test t (es, tail ++ rest) (body ++ (tail ++ rest)) >>= λ ds. with_front ds.0 (blocks_at c item k (room - suc n) ds.1)) whole
      ∙ ap (with_front es) (more k room_left)
    where
      test : Bool → List A × List ℕ → List ℕ → Read C (List A)
      test t x bytes = cond t (Ok x) (Err (c.bad_size, length bytes))

  -- So many turns are enough, since each block has a byte at least.
  pub blocks_again : (P : A → List ℕ → Type 0) (item : List ℕ → Read C A) → IsRead P item → {room : ℕ} {ds : List A} {b : List ℕ} → SpellsBlocks P room ds b
      → (k : ℕ) (rest : List ℕ) → length b < k → blocks_at c item k room (b ++ rest) ≡ Ok (ds, rest)
  blocks_again P item h (last room b none) k rest few = last_again item k room b rest none few
  blocks_again P item h (block room n es fs head body tail len fits said each more) k rest few =
      block_again P item h k room n es fs head body tail len fits said each rest few
      (λ j enough. blocks_again P item h more j rest enough)
