use Rattle.store_directory.proofs.NotedLaws.{parent_stays, parent_now, on_ok}
use Rattle.store_directory.proofs.changes.rename_file.Goals as goal

pub returns-clause-from : goal.returns-clause-from
returns-clause-from c = on_ok c.rename_where_free.result _ (parent_stays _ _ _ _ c.in_ok-note_parent.ensures.ok c.note_parent-2.ensures.kept)

pub returns-clause-to : goal.returns-clause-to
returns-clause-to c = on_ok c.rename_where_free.result _ (parent_now _ _ _ c.in_ok-note_parent-2.ensures.ok)
