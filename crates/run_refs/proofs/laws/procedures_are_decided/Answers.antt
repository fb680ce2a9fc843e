use Rattle.run_refs.proofs.ProcedureLaws.{move_decided, listing_decided, move_names_none, listing_names_none}
use Rattle.run_refs.proofs.laws.procedures_are_decided.Goals as goal

pub returns-clause-decided : goal.returns-clause-decided
returns-clause-decided c = (move_decided, listing_decided)

pub returns-clause-no_argument : goal.returns-clause-no_argument
returns-clause-no_argument c = (move_names_none, listing_names_none)
