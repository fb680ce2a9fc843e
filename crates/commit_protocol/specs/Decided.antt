-- One verdict of a commit, whose change draws identifiers of its own.
use Rattle.std.specs.Prelude.{ℕ, List, Option, Some}
use Rattle.ice_store.specs.Places.{Parts}
use Rattle.commit_protocol.specs.Meanings.{Meanings}
use Rattle.commit_protocol.specs.Prepares.{GivesLast}
use Rattle.commit_protocol.specs.Verdicts.{IsDecided, IsOneCommit}

-- two told verdicts of one commit are one, where the meanings exclude one another, and one identifier was drawn behind the change's own, of a source that told these before and tells these values now
abbrev pub IsOneCommitOf : Parts → ℕ → Meanings → Option (List ℕ) → List ℕ → Type 0
IsOneCommitOf table now meanings before values = IsDecided meanings → IsOneCommit table now meanings (GivesLast meanings.draws before (Some values))
