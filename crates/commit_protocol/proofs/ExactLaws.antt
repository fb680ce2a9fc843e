-- Where nobody else acts, the answer whose cause stands at the entry of a commit is the one given.
use Rattle.std.proofs.Common.{ℕ, List, Option, Result}
use Rattle.ice_store.specs.Places.{Parts}
use Rattle.ice_store.specs.History.{replay}
use Rattle.ice_store.specs.declared.history.Failure.{Failure}
use Rattle.ice_store.specs.declared.history.Past.{Past}
use Rattle.ice_store.specs.declared.history.Step.{Step}
use Rattle.table_metadata.specs.Edits.{HasVersionLimit}
use Rattle.commit_protocol.specs.Meanings.{Meanings}
use Rattle.commit_protocol.specs.Prepares.{GivesLast}
use Rattle.commit_protocol.specs.Rounds.{CommitTells}
use Rattle.commit_protocol.specs.Verdicts.{IsExactlyOf}
use Rattle.commit_protocol.specs.declared.errors.CommitErr.{CommitErr}
use Rattle.commit_protocol.specs.declared.errors.Committed.{Committed}
use Rattle.commit_protocol.proofs.UniqueLaws.{one_commit_of}
use Rattle.commit_protocol.proofs.VerdictLaws.{commit_ends}

pub exactly : (table : Parts) (allows : Past → Step → Type 0) (meanings : Meanings) (given given' : Option (List ℕ)) (now : ℕ) (result : Result Committed CommitErr) (mark : Option Failure) (had has : List Parts) (old new : Past)
    → CommitTells table allows meanings given given' now result mark had has old new → IsExactlyOf allows meanings given given' table now result old new
exactly table allows meanings given given' now result mark had has old new h nobody decided one_drawn r told w answered =
    one_commit_of HasVersionLimit table now meanings (GivesLast meanings.draws given given') decided one_drawn (replay old).files result r answered told (commit_ends table allows nobody meanings given given' now result mark had has old new h) w
