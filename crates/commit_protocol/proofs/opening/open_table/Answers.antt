use Rattle.std.proofs.Common.{◌≡◌, Ok, Err}
use Rattle.ice_store.specs.History.{replay}
use Rattle.ice_store.proofs.SinceLaws.{since_turned}
use Rattle.commit_versions.specs.Opening.{OpenLeaves}
use Rattle.commit_protocol.specs.Metadata.{table_rules, TableLeaves, OpenErrLeaves}
use Rattle.commit_protocol.specs.Verdicts.{OpenVerdict, IsExactOpening}
use Rattle.commit_protocol.proofs.OpeningLaws as opening
use Rattle.commit_protocol.proofs.QuietLaws.{same_past}
use Rattle.commit_protocol.proofs.VerdictLaws.{opening_answered}
use Rattle.commit_protocol.proofs.UniqueLaws.{one_opening_of}
use Rattle.commit_protocol.proofs.opening.open_table.Goals as goal

pub returns-in-Ok-clause-told : goal.returns-in-Ok-clause-told
returns-in-Ok-clause-told g c =
    let t = c.args.table.now in
    let allows = g.M.Manners.allows (g.S.Store.manners c.args.store.now) in
    let p0 = g.S.Store.past c.args.store.now in
    let p1 = g.S.Store.past c.open_version.new.store in
    let o = c.in-Ok.opened in
    since_turned p0 p1 (OpenLeaves (table_rules t allows) t (Ok o)) (TableLeaves t allows c.read_table.result) c.in-Ok.ensures.told
    (λ old new h. opening.table_by t allows o old new h c.in-Ok.ensures.numbers c.read_table.result c.read_table.ensures)

pub returns-in-Ok-clause-alone : goal.returns-in-Ok-clause-alone
returns-in-Ok-clause-alone g c nobody =
    let t = c.args.table.now in
    let allows = g.M.Manners.allows (g.S.Store.manners c.args.store.now) in
    let r = c.read_table.result in
    since_turned (g.S.Store.past c.args.store.now) (g.S.Store.past c.open_version.new.store) (TableLeaves t allows r) (λ old new. OpenVerdict t (replay old).files r) (returns-in-Ok-clause-told g c)
    (λ old new h. (opening_answered t allows nobody r old new h).1)

pub returns-in-Ok-clause-idle : goal.returns-in-Ok-clause-idle
returns-in-Ok-clause-idle g c nobody =
    let t = c.args.table.now in
    let allows = g.M.Manners.allows (g.S.Store.manners c.args.store.now) in
    let p0 = g.S.Store.past c.args.store.now in
    let p1 = g.S.Store.past c.open_version.new.store in
    let r = c.read_table.result in
    same_past p0 p1 (since_turned p0 p1 (TableLeaves t allows r) (λ old new. new ≡ old) (returns-in-Ok-clause-told g c)
    (λ old new h. (opening_answered t allows nobody r old new h).0))

pub returns-in-Err-clause-told : goal.returns-in-Err-clause-told
returns-in-Err-clause-told g c =
    let t = c.args.table.now in
    let allows = g.M.Manners.allows (g.S.Store.manners c.args.store.now) in
    let e = c.in-Err.e in
    since_turned (g.S.Store.past c.args.store.now) (g.S.Store.past c.open_version.new.store) (OpenLeaves (table_rules t allows) t (Err e)) (OpenErrLeaves t allows e) c.in-Err.ensures.told
    (λ old new h. opening.unopened_by t allows e old new h)

pub returns-in-Err-clause-alone : goal.returns-in-Err-clause-alone
returns-in-Err-clause-alone g c nobody =
    let t = c.args.table.now in
    let allows = g.M.Manners.allows (g.S.Store.manners c.args.store.now) in
    let r = Err c.in-Err.e in
    since_turned (g.S.Store.past c.args.store.now) (g.S.Store.past c.open_version.new.store) (OpenLeaves (table_rules t allows) t (Err c.in-Err.e)) (λ old new. OpenVerdict t (replay old).files r) c.in-Err.ensures.told
    (λ old new h. (opening_answered t allows nobody r old new (opening.unopened_by t allows c.in-Err.e old new h)).1)

pub returns-in-Err-clause-idle : goal.returns-in-Err-clause-idle
returns-in-Err-clause-idle g c nobody =
    let t = c.args.table.now in
    let allows = g.M.Manners.allows (g.S.Store.manners c.args.store.now) in
    let p0 = g.S.Store.past c.args.store.now in
    let p1 = g.S.Store.past c.open_version.new.store in
    let r = Err c.in-Err.e in
    same_past p0 p1 (since_turned p0 p1 (OpenLeaves (table_rules t allows) t (Err c.in-Err.e)) (λ old new. new ≡ old) c.in-Err.ensures.told
    (λ old new h. (opening_answered t allows nobody r old new (opening.unopened_by t allows c.in-Err.e old new h)).0))

pub returns-in-Ok-clause-exactly : goal.returns-in-Ok-clause-exactly
returns-in-Ok-clause-exactly g c nobody =
    let t = c.args.table.now in
    let result = c.read_table.result in
    since_turned (g.S.Store.past c.args.store.now) (g.S.Store.past c.open_version.new.store) (λ old new. OpenVerdict t (replay old).files result) (λ old new. IsExactOpening t result (replay old).files) (returns-in-Ok-clause-alone g c nobody)
    (λ old new v. λ r told w answered. one_opening_of t (replay old).files result r answered told v w)

pub returns-in-Err-clause-exactly : goal.returns-in-Err-clause-exactly
returns-in-Err-clause-exactly g c nobody =
    let t = c.args.table.now in
    let result = Err c.in-Err.e in
    since_turned (g.S.Store.past c.args.store.now) (g.S.Store.past c.open_version.new.store) (λ old new. OpenVerdict t (replay old).files result) (λ old new. IsExactOpening t result (replay old).files) (returns-in-Err-clause-alone g c nobody)
    (λ old new v. λ r told w answered. one_opening_of t (replay old).files result r answered told v w)

pub returns-in-Ok-clause-cause : goal.returns-in-Ok-clause-cause
returns-in-Ok-clause-cause g c =
    opening.reads_counts c.args.table.now c.in-Ok.opened c.read_table.result (g.S.Store.faults c.args.store.now) (g.S.Store.faults c.open_version.new.store) c.read_table.ensures c.in-Ok.ensures.cause

pub returns-in-Ok-clause-halted : goal.returns-in-Ok-clause-halted
returns-in-Ok-clause-halted g c =
    opening.reads_marks c.args.table.now c.in-Ok.opened c.read_table.result (g.S.Store.halted c.args.store.now) (g.S.Store.halted c.open_version.new.store) (g.S.Store.past c.open_version.new.store) c.read_table.ensures c.in-Ok.ensures.halted
