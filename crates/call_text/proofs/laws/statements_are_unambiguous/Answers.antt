use Rattle.call_text.proofs.Unambiguous.{one_call, one_place, never_both, one_of_both}
use Rattle.call_text.proofs.laws.statements_are_unambiguous.Goals as goal

pub returns-clause-one_call : goal.returns-clause-one_call
returns-clause-one_call c = one_call

pub returns-clause-one_place : goal.returns-clause-one_place
returns-clause-one_place c = one_place

pub returns-clause-never_both : goal.returns-clause-never_both
returns-clause-never_both c = never_both

pub returns-clause-one_of_both : goal.returns-clause-one_of_both
returns-clause-one_of_both c = one_of_both
