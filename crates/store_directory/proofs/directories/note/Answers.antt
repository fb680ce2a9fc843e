use Rattle.store_directory.proofs.NotedLaws.{added}
use Rattle.store_directory.proofs.directories.note.Goals as goal

pub returns-clause-ok : goal.returns-clause-ok
returns-clause-ok c = added _ _ c.in_ok-owned.owned _ c.in_ok-add.ensures.ok c.in_ok-owned.ensures.ok

pub returns-clause-kept : goal.returns-clause-kept
returns-clause-kept c = (added _ _ c.in_ok-owned.owned _ c.in_ok-add.ensures.ok c.in_ok-owned.ensures.ok).kept
