use Rattle.std.proofs.Common.{refl, ◌≡◌, ◌∙◌, ℤ, codes, sym, ap, subst, append-nil, FitsSigned, w64, rules}
use Rattle.std.proofs.lemmas.Int.{to_z-of_z}
use Rattle.serde_json.specs.Data.{Data}
use Rattle.serde_json.specs.View.{view}
use Rattle.table_metadata.specs.Edits.{with_ref}
use Rattle.commit_protocol.specs.Attempts.{StaysTable}
use Rattle.commit_protocol.proofs.RoundLaws.{looks_by, met_nothing, none_stand, none_stand_on, told_nothing}
use Rattle.commit_tests.specs.Mains.{HasMain, RefusesMain, sets_main_same}
use Rattle.commit_tests.proofs.MainLaws.{stays_table}
use Rattle.commit_tests.proofs.changes.SetMainChange.attempt.Goals as goal

pub returns-in_err-built-clause-told : goal.returns-in_err-built-clause-told
returns-in_err-built-clause-told g c =
    let id = c.args.self.now.id in
    told_nothing c.args._table.now (g.M.Manners.allows (g.S.Store.manners c.args._store.now)) (HasMain id c.args.self.now.now) (λ tree. ⊥) (RefusesMain id) _ _ _ c.args._base.now (g.S.Store.halted c.args._store.now) (g.S.Store.past c.args._store.now) (looks_by (RefusesMain id (view c.args.meta)) (λ place no. no) c.from_residual.result (search rules)) c.requires.start

pub returns-clause-told : goal.returns-clause-told
returns-clause-told g c =
    let id = c.args.self.now.id in
    told_nothing c.args._table.now (g.M.Manners.allows (g.S.Store.manners c.args._store.now)) (HasMain id c.args.self.now.now) (λ tree. ⊥) (RefusesMain id) _ _ _ c.args._base.now (g.S.Store.halted c.args._store.now) (g.S.Store.past c.args._store.now) (λ Fails. tt) c.requires.start

pub returns-in_err-built-clause-met : goal.returns-in_err-built-clause-met
returns-in_err-built-clause-met g c = met_nothing (g.S.Store.past c.args._store.now)

pub returns-clause-met : goal.returns-clause-met
returns-clause-met g c = met_nothing (g.S.Store.past c.args._store.now)

pub returns-in_err-built-clause-left : goal.returns-in_err-built-clause-left
returns-in_err-built-clause-left g c = sym (append-nil c.args._log.now.left.items)

pub returns-clause-left : goal.returns-clause-left
returns-clause-left g c = sym (append-nil c.args._log.now.left.items)

pub returns-clause-built : goal.returns-clause-built
returns-clause-built g c =
    let tree = view c.args.meta in
    let id = c.args.self.now.id in
    let fits : FitsSigned w64 id = search rules in
    let is : view c.in_ok-built.built ≡ with_ref (codes "main") id c.args.self.now.now tree =
    c.in_ok-built.ensures.built ∙ ap (λ (z : ℤ). with_ref (codes "main") z c.args.self.now.now tree) (to_z-of_z w64 id fits) in
    (is, subst (λ (d : Data). StaysTable tree d) (sym is) (stays_table id c.args.self.now.now tree))

pub returns-in_err-built-clause-spare : goal.returns-in_err-built-clause-spare
returns-in_err-built-clause-spare g c spare = record { made = refl; draws = refl }

pub returns-clause-spare : goal.returns-clause-spare
returns-clause-spare g c spare = record { made = refl; draws = refl }

pub returns-in_err-built-clause-stand : goal.returns-in_err-built-clause-stand
returns-in_err-built-clause-stand g c = none_stand_on c.from_residual.result c.args._table.now (g.S.Store.past c.args._store.now)

pub returns-clause-stand : goal.returns-clause-stand
returns-clause-stand g c = none_stand c.args._table.now (g.S.Store.past c.args._store.now)

pub returns-in_err-built-clause-keeps : goal.returns-in_err-built-clause-keeps
returns-in_err-built-clause-keeps g c = sets_main_same c.args.self.now.id c.args.self.now.now

pub returns-clause-keeps : goal.returns-clause-keeps
returns-clause-keeps g c = sets_main_same c.args.self.now.id c.args.self.now.now
