-- Which bytes spell which number: int and long (Apache Avro 1.11, "Binary Encoding", "Primitive Types").
use Rattle.std.specs.Prelude.{◌≡◌, ℕ, ℤ, pos, negsuc, ◌+◌, ◌*◌, ◌^◌, ◌<◌, ◌≤◌, List, [], ◌∷◌, ◌++◌, length, drop, zero, suc, ◌%◌, ◌/◌, nat_lt, if◌then◌else◌}

-- Groups of seven bits, the lowest first. Each byte but the last has its top bit set.
abbrev pub IsGroups : List ℕ → ℕ → Type 0
IsGroups [] n = ⊥
IsGroups (b ∷ []) n = (b < 128) × (n ≡ b)
IsGroups (b ∷ c ∷ bs) n = (128 ≤ b) × ((high : ℕ) × (n + 128 ≡ b + 128 * high) × IsGroups (c ∷ bs) high)

-- The place of a number in the order 0, -1, 1, -2, 2 and so on.
abbrev pub zigzag : ℤ → ℕ
zigzag (pos n) = 2 * n
zigzag (negsuc n) = 2 * n + 1

-- Any groups of a number of 64 bits, in at most ten bytes.
pub record SpellsLong (bytes : List ℕ) (z : ℤ) : Type 0 where
  pub groups : IsGroups bytes (zigzag z)
  pub few : length bytes ≤ 10
  pub fits : zigzag z < 2 ^ 64

-- Some front of the bytes from `at` spells the number, and it ends at `end`.
abbrev pub IsLongAt : List ℕ → ℕ → ℕ → ℤ → Type 0
IsLongAt bytes at end z = (front : List ℕ) × SpellsLong front z × (drop at bytes ≡ front ++ drop end bytes) × (end ≤ length bytes)

-- No front of the bytes from `at` spells a number.
abbrev pub NoLongAt : List ℕ → ℕ → Type 0
NoLongAt bytes at = (z : ℤ) (front rest : List ℕ) → SpellsLong front z → drop at bytes ≡ front ++ rest → ⊥

-- No spelling of a number begins another, and each stands for one number.
abbrev pub LongsAreApart : Type 0
LongsAreApart = (a b x y : List ℕ) (m n : ℤ) → SpellsLong a m → SpellsLong b n → a ++ x ≡ b ++ y → (a ≡ b) × (m ≡ n)

-- The groups of a number, at most so many and no more than it needs.
unfoldable pub groups_of : ℕ → ℕ → List ℕ
groups_of zero n = []
groups_of (suc k) n = if nat_lt n 128 then n ∷ [] else (n % 128 + 128) ∷ groups_of k (n / 128)

-- The written spelling of a number.
unfoldable pub written_long : ℤ → List ℕ
written_long z = groups_of 10 (zigzag z)

-- Each of the list is a byte.
abbrev pub AreBytes : List ℕ → Type 0
AreBytes [] = Unit {0}
AreBytes (b ∷ bs) = (b < 256) × AreBytes bs

-- No spelling of a number is shorter than the written one.
abbrev pub WrittenLongIsShortest : Type 0
WrittenLongIsShortest = (b : List ℕ) (z : ℤ) → AreBytes b → SpellsLong b z → length (written_long z) ≤ length b

-- What is written for a number of 64 bits spells it.
abbrev pub WrittenLongSpells : Type 0
WrittenLongSpells = (z : ℤ) → zigzag z < 2 ^ 64 → SpellsLong (written_long z) z
