-- The digits of a numeral, turned round.
use Rattle.std.specs.Prelude.{ℕ, List, [], ◌∷◌}

-- bytes before a front, the last one first
abbrev pub last_first : List ℕ → List ℕ → List ℕ
last_first front [] = front
last_first front (byte ∷ bytes) = last_first (byte ∷ front) bytes
