-- What a move of a ref means to a commit.
use Rattle.std.specs.Prelude.{ℕ}
use Rattle.serde_json.specs.Data.{Data}
use Rattle.commit_protocol.specs.Attempts.{MakesOf}
use Rattle.commit_protocol.specs.Meanings.{Meanings, SaysSame, looking, looking_same}
use Rattle.commit_protocol.specs.declared.change.Built.{Built}
use Rattle.run_refs.specs.declared.goal.Goal.{Goal}
use Rattle.run_refs.specs.Moves.{Moves, IsThere, RefusesMove}

-- a move of a ref, which has kept this of the base on which it was asked; it only looks at the table
abbrev pub moves_of : Goal → ℕ → (Data → Type 0) → Meanings
moves_of goal now Seen = looking (Moves goal now) (IsThere goal) (RefusesMove goal) Seen

-- whatever it has kept, it says the same of tables
pub moves_same : (goal : Goal) (now : ℕ) {Seen Other : Data → Type 0} → SaysSame (moves_of goal now Seen) (moves_of goal now Other)
moves_same goal now = looking_same (Moves goal now) (IsThere goal) (RefusesMove goal)

-- what a move builds on a base, whatever it keeps of it
abbrev pub IsMoved : Goal → ℕ → Data → Built → Type 0
IsMoved goal now = MakesOf (moves_of goal now (λ tree. Unit {0}))
