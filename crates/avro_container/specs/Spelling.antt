-- What strings, arrays and maps are spelled of, for any kind of item (Apache Avro 1.11, "Binary Encoding", "Complex Types").
use Rattle.std.specs.Prelude.{◌≡◌, ℕ, suc, pos, negsuc, ◌-◌, ◌≤◌, List, [], ◌∷◌, ◌++◌, length, ◌⊎◌}
use Rattle.avro_container.specs.Long.{SpellsLong}

-- Two spellings, one behind the other.
pub record Joins (P Q : List ℕ → Type 0) (b : List ℕ) : Type 0 where
  pub front : List ℕ
  pub rest : List ℕ
  pub first : P front
  pub second : Q rest
  pub is : b ≡ front ++ rest

-- A length, and so many bytes.
abbrev pub SpellsText : List ℕ → List ℕ → Type 0
SpellsText t b = Joins (λ x. SpellsLong x (pos (length t))) (λ y. y ≡ t) b

-- The items one behind the other.
abbrev pub SpellsEach : {A : Type 0} → (A → List ℕ → Type 0) → List A → List ℕ → Type 0
SpellsEach P [] b = b ≡ []
SpellsEach P (d ∷ ds) b = Joins (P d) (SpellsEach P ds) b

-- The head of a block of n + 1 items in so many bytes: the count, or the count below 0 and the number of bytes.
abbrev pub SpellsHead : ℕ → ℕ → List ℕ → Type 0
SpellsHead n size b = SpellsLong b (pos (suc n)) ⊎ Joins (λ x. SpellsLong x (negsuc n)) (λ y. SpellsLong y (pos size)) b

-- Blocks up to a count of 0, in all of no more than `room` items.
pub data SpellsBlocks {A : Type 0} (P : A → List ℕ → Type 0) : ℕ → List A → List ℕ → Type 0 where
  last : (room : ℕ) (b : List ℕ) → SpellsLong b (pos 0) → SpellsBlocks P room [] b
  block : (room n : ℕ) (ds es : List A) (head body rest : List ℕ) → length ds ≡ suc n → suc n ≤ room → SpellsHead n (length body) head → SpellsEach P ds body
      → SpellsBlocks P (room - suc n) es rest → SpellsBlocks P room (ds ++ es) (head ++ (body ++ rest))

-- Some front of the bytes is spelled so, and the rest follows.
pub record Fronts (P : List ℕ → Type 0) (bytes rest : List ℕ) : Type 0 where
  pub front : List ℕ
  pub spells : P front
  pub is : bytes ≡ front ++ rest
