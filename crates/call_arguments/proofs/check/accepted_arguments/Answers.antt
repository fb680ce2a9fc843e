use Rattle.call_arguments.proofs.CheckLaws.{given_are_right, none_lack}
use Rattle.call_arguments.proofs.check.accepted_arguments.Goals as goal

pub returns-clause-given : goal.returns-clause-given
returns-clause-given c = given_are_right

pub returns-clause-required : goal.returns-clause-required
returns-clause-required c = none_lack
