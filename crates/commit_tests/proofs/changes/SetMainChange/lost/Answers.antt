use Rattle.std.proofs.Common.{sym, append-nil}
use Rattle.commit_protocol.proofs.RoundLaws.{told_withdrawn}
use Rattle.commit_tests.proofs.changes.SetMainChange.lost.Goals as goal

pub returns-clause-told : goal.returns-clause-told
returns-clause-told g c = told_withdrawn c.args._table.now (g.M.Manners.allows (g.S.Store.manners c.args._store.now)) (g.S.Store.halted c.args._store.now) c.args._log.now.left.items (g.S.Store.past c.args._store.now) c.requires.rest

pub returns-clause-left : goal.returns-clause-left
returns-clause-left g c = sym (append-nil c.args._log.now.left.items)
