use Rattle.std.proofs.Common.{refl}
use Rattle.upkeep_top.proofs.RunLaws as laws
use Rattle.upkeep_top.proofs.top_call.run.Goals as goal

pub returns-clause-refused : goal.returns-clause-refused
returns-clause-refused g c = λ status refuses. laws.refused _ _ _ _ c.run_words-outcome.ensures.told status refuses

pub returns-clause-bad_statement : goal.returns-clause-bad_statement
returns-clause-bad_statement g c = λ word at is. laws.bad_statement _ _ _ _ c.run_words-outcome.ensures.told word at is

pub returns-clause-bad_argument : goal.returns-clause-bad_argument
returns-clause-bad_argument g c = laws.bad_argument _ _ _ _ c.run_words-outcome.ensures.told

pub returns-clause-exactly : goal.returns-clause-exactly
returns-clause-exactly g c = laws.comes _ _ _ _ c.run_words-outcome.ensures.told

pub returns-clause-complete : goal.returns-clause-complete
returns-clause-complete g c = laws.complete _ _ _ _ c.run_words-outcome.ensures.told

pub returns-clause-faults : goal.returns-clause-faults
returns-clause-faults g c = laws.counts _ _ _ _ c.run_words-outcome.ensures.told

pub returns-clause-fault_place : goal.returns-clause-fault_place
returns-clause-fault_place g c = λ place is. laws.fault_at _ _ _ _ c.run_words-outcome.ensures.told place is

pub returns-clause-unknown : goal.returns-clause-unknown
returns-clause-unknown g c = λ version is. laws.unknown _ _ _ _ c.run_words-outcome.ensures.told version is

pub returns-clause-out_faults : goal.returns-clause-out_faults
returns-clause-out_faults g c = laws.output _ _ _ _ c.run_words-outcome.ensures.told

pub returns-clause-safe : goal.returns-clause-safe
returns-clause-safe g c = laws.safe _ _ _ _ c.run_words-outcome.ensures.told

pub returns-clause-prefix : goal.returns-clause-prefix
returns-clause-prefix g c = laws.keeps_prefix _ _ _ _ c.run_words-outcome.ensures.told

pub returns-clause-files : goal.returns-clause-files
returns-clause-files g c = laws.keeps_files _ _ _ _ c.run_words-outcome.ensures.told

pub returns-clause-successors : goal.returns-clause-successors
returns-clause-successors g c = laws.successors _ _ _ _ c.run_words-outcome.ensures.told refl

pub returns-clause-committed : goal.returns-clause-committed
returns-clause-committed g c = laws.versions _ _ _ _ c.run_words-outcome.ensures.told refl

pub returns-clause-left : goal.returns-clause-left
returns-clause-left g c = laws.left _ _ _ _ c.run_words-outcome.ensures.told refl refl

pub returns-clause-nothing_left : goal.returns-clause-nothing_left
returns-clause-nothing_left g c = λ none. laws.leaves_nothing _ _ _ _ c.run_words-outcome.ensures.told none

pub returns-clause-rests : goal.returns-clause-rests
returns-clause-rests g c = λ is. laws.rests _ _ _ _ c.run_words-outcome.ensures.told is

pub returns-clause-halted : goal.returns-clause-halted
returns-clause-halted g c = laws.marks _ _ _ _ c.run_words-outcome.ensures.told
