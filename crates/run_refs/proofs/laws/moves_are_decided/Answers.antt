use Rattle.run_refs.proofs.AimLaws.{one_aim, one_successor, one_refusal, moves_or_is_there, not_both}
use Rattle.run_refs.proofs.laws.moves_are_decided.Goals as goal

pub returns-clause-aim : goal.returns-clause-aim
returns-clause-aim c = one_aim

pub returns-clause-successor : goal.returns-clause-successor
returns-clause-successor c = one_successor

pub returns-clause-refusal : goal.returns-clause-refusal
returns-clause-refusal c = one_refusal

pub returns-clause-moves_or_there : goal.returns-clause-moves_or_there
returns-clause-moves_or_there c = moves_or_is_there

pub returns-clause-moves_or_refuses : goal.returns-clause-moves_or_refuses
returns-clause-moves_or_refuses c wish now tree built refusal moves refuses = not_both wish tree moves.id refusal moves.aims refuses

pub returns-clause-there_or_refuses : goal.returns-clause-there_or_refuses
returns-clause-there_or_refuses c wish tree refusal there refuses = not_both wish tree there.id refusal there.aims refuses
