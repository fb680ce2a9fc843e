use Rattle.std.proofs.Common.{refl, sym, append-nil, rules}
use Rattle.serde_json.specs.View.{view}
use Rattle.commit_protocol.proofs.RoundLaws.{looks_by, met_nothing, none_stand, none_stand_on, told_nothing}
use Rattle.run_refs.specs.Meanings.{moves_same}
use Rattle.run_refs.specs.Moves.{HasSeen, IsThere, Moves, RefusesMove}
use Rattle.run_refs.proofs.moves.RefMoveChange.attempt.Goals as goal

pub returns-in_err-moved-clause-told : goal.returns-in_err-moved-clause-told
returns-in_err-moved-clause-told g c =
    let r = c.args.self.now in
    told_nothing c.args._table.now (g.M.Manners.allows (g.S.Store.manners c.args._store.now)) (Moves r.goal r.now) (IsThere r.goal) (RefusesMove r.goal) _ _ _ c.args._base.now (g.S.Store.halted c.args._store.now) (g.S.Store.past c.args._store.now) (looks_by (RefusesMove r.goal (view c.args.meta)) (λ place no. no) c.from_residual.result (search rules)) c.requires.start

pub returns-clause-told : goal.returns-clause-told
returns-clause-told g c =
    let r = c.args.self.now in
    told_nothing c.args._table.now (g.M.Manners.allows (g.S.Store.manners c.args._store.now)) (Moves r.goal r.now) (IsThere r.goal) (RefusesMove r.goal) _ _ _ c.args._base.now (g.S.Store.halted c.args._store.now) (g.S.Store.past c.args._store.now) (λ Fails. tt) c.requires.start

pub returns-in_err-moved-clause-met : goal.returns-in_err-moved-clause-met
returns-in_err-moved-clause-met g c = met_nothing (g.S.Store.past c.args._store.now)

pub returns-clause-met : goal.returns-clause-met
returns-clause-met g c = met_nothing (g.S.Store.past c.args._store.now)

pub returns-in_err-moved-clause-left : goal.returns-in_err-moved-clause-left
returns-in_err-moved-clause-left g c = sym (append-nil c.args._log.now.left.items)

pub returns-clause-left : goal.returns-clause-left
returns-clause-left g c = sym (append-nil c.args._log.now.left.items)

pub returns-in_err-moved-clause-spare : goal.returns-in_err-moved-clause-spare
returns-in_err-moved-clause-spare g c spare = record { made = refl; draws = refl }

pub returns-clause-spare : goal.returns-clause-spare
returns-clause-spare g c spare = record { made = refl; draws = refl }

pub returns-in_err-moved-clause-stand : goal.returns-in_err-moved-clause-stand
returns-in_err-moved-clause-stand g c = none_stand_on c.from_residual.result c.args._table.now (g.S.Store.past c.args._store.now)

pub returns-clause-stand : goal.returns-clause-stand
returns-clause-stand g c = none_stand c.args._table.now (g.S.Store.past c.args._store.now)

pub returns-in_err-moved-clause-keeps : goal.returns-in_err-moved-clause-keeps
returns-in_err-moved-clause-keeps g c = moves_same c.args.self.now.goal c.args.self.now.now

pub returns-clause-keeps : goal.returns-clause-keeps
returns-clause-keeps g c = moves_same c.args.self.now.goal c.args.self.now.now
