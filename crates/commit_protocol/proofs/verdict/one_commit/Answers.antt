use Rattle.std.proofs.Common.{Some}
use Rattle.table_metadata.specs.Edits.{HasVersionLimit}
use Rattle.commit_protocol.specs.Prepares.{GivesLast}
use Rattle.commit_protocol.proofs.RoundLaws.{one_last}
use Rattle.commit_protocol.proofs.UniqueLaws.{one_commit_of}
use Rattle.commit_protocol.proofs.verdict.one_commit.Goals as goal

pub returns : goal.returns
returns g c =
    let x = c.args.change.now in
    λ now before values decided. one_commit_of HasVersionLimit c.args.table.now now (g.X.Change.meanings x x) (GivesLast (g.X.Change.meanings x x).draws before (Some values)) decided (one_last (g.X.Change.meanings x x).draws before values)
