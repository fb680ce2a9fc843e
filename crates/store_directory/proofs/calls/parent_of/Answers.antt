use Rattle.std.proofs.Common.{rules}
use Rattle.store_directory.proofs.PathLaws.{parent_none, parent_split}
use Rattle.store_directory.proofs.calls.parent_of.Goals as goal

pub returns-in-None : goal.returns-in-None
returns-in-None c = parent_none _ _ c.in-None.ensures.cases (search rules)

pub returns-in-Some : goal.returns-in-Some
returns-in-Some c = parent_split _ _ _ _ c.in-Some.ensures.cases c.or_root.ensures
