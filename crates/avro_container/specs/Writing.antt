-- The written spelling of strings and of blocks of any item.
use Rattle.std.specs.Prelude.{ℕ, pos, List, [], ◌∷◌, ◌++◌, length, if◌then◌else◌, ◌==◌}
use Rattle.avro_container.specs.Long.{written_long}

-- A length, and so many bytes.
abbrev pub written_text : List ℕ → List ℕ
written_text t = written_long (pos (length t)) ++ t

-- The items one behind the other.
abbrev pub written_each : {A : Type 0} → (A → List ℕ) → List A → List ℕ
written_each w [] = []
written_each w (d ∷ ds) = w d ++ written_each w ds

-- At most one block, with a positive count, and a count of 0.
abbrev pub written_blocks : {A : Type 0} → (A → List ℕ) → List A → List ℕ
written_blocks w ds = (if length ds == 0 then [] else (written_long (pos (length ds)) ++ written_each w ds)) ++ written_long (pos 0)
