-- What a sink in memory takes.
use Rattle.std.specs.Prelude.{ℕ, Bool, false, List, [], length, take, if◌then◌else◌, nat_eq, nat_le}
use Rattle.std.specs.List.{list_any}

-- a put whose number is listed takes nothing, and another what there is room for
abbrev pub taken_of : List ℕ → ℕ → ℕ → List ℕ → List ℕ
taken_of fails put room bytes = if list_any (λ n. nat_eq n put) fails then [] else take room bytes

-- a put succeeds where its number isn't listed and there is room for all
abbrev pub is_taken : List ℕ → ℕ → ℕ → List ℕ → Bool
is_taken fails put room bytes = if list_any (λ n. nat_eq n put) fails then false else nat_le (length bytes) room
