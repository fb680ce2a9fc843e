use Rattle.run_refs.proofs.RefLaws.{main_is_current, refs_are_known}
use Rattle.run_refs.proofs.laws.refs_are_at_snapshots.Goals as goal

pub returns-clause-main : goal.returns-clause-main
returns-clause-main c = main_is_current

pub returns-clause-known : goal.returns-clause-known
returns-clause-known c = refs_are_known
