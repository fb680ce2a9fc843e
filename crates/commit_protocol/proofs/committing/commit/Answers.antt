use Rattle.std.proofs.Common.{◌≡◌, inl, inr, Some, Err, refl, sym, subst, append-nil}
use Rattle.ice_store.specs.Given.{Gives}
use Rattle.ice_store.specs.Since.{Since}
use Rattle.ice_store.proofs.SinceLaws.{since_then, since_turned, since_where}
use Rattle.commit_publish.specs.Kinds.{Failing}
use Rattle.commit_publish.specs.Stages.{InState}
use Rattle.commit_publish.specs.Steps.{Anything}
use Rattle.commit_versions.specs.Opening.{FileIs, OpenFaultAt}
use Rattle.commit_protocol.specs.Ends.{WasOpened}
use Rattle.commit_protocol.specs.Kinds.{commit_end, kind_of, commit_kind}
use Rattle.commit_protocol.specs.Meanings.{LooksBy}
use Rattle.commit_protocol.specs.Metadata.{IsAt, OpenErrLeaves, table_rules}
use Rattle.commit_protocol.specs.Rounds.{RoundTells, CommitTells}
use Rattle.commit_protocol.specs.Verdicts.{IsCausedOf, IsExactlyOf}
use Rattle.commit_protocol.specs.declared.errors.CommitErr.{CommitErr}
use Rattle.commit_protocol.specs.declared.errors.CommitErr.TheVariants.{Open}
use Rattle.commit_protocol.proofs.StepLaws.{open_err_idle}
use Rattle.commit_protocol.proofs.PromiseLaws.{stops_have_prefix, stops_have_files, each_succeeds}
use Rattle.commit_protocol.proofs.RoundLaws as rounds
use Rattle.commit_protocol.proofs.EndLaws as ends
use Rattle.commit_protocol.proofs.WorkLaws as works
use Rattle.commit_protocol.proofs.VerdictLaws.{commit_ends}
use Rattle.commit_protocol.proofs.ExactLaws.{exactly}
use Rattle.commit_protocol.proofs.committing.commit.Goals as goal

pub returns-in-Ok-clause-told : goal.returns-in-Ok-clause-told
returns-in-Ok-clause-told g c =
    let t = c.args.table.now in
    let allows = g.M.Manners.allows (g.S.Store.manners c.args.store.now) in
    let p0 = g.S.Store.past c.args.store.now in
    let p2 = g.S.Store.past c.attempt_on_base.new.store in
    let meanings = g.X.Change.meanings c.args.change.now c.attempt_on_base.new.change in
    let given = g.I.Ids.given c.args.ids.now in
    let last = g.I.Ids.given c.attempt_on_base.new.ids in
    let r = c.attempt_on_base.result in
    let mark = g.S.Store.halted c.attempt_on_base.new.store in
    let had = c.args.log.now.left.items in
    let has = c.attempt_on_base.new.log.left.items in
    let at = c.in-Ok.at in
    let p1 = g.S.Store.past c.open_table.new.store in
    let then = subst (λ m. Since p1 p2 (RoundTells t (g.M.Manners.allows m) meanings given last c.args.now at r mark had has)) c.in-Ok.ensures.manners c.attempt_on_base.ensures.told in
    since_then p0 p1 p2 (IsAt t allows at) (RoundTells t allows meanings given last c.args.now at r mark had has) (CommitTells t allows meanings given last c.args.now r mark had has)
    c.in-Ok.ensures.told then
    (λ old mid new opened a. rounds.tells_by t allows meanings given last c.args.now at r mark had has old mid new c.attempt_on_base.ensures.unopened opened a)

pub returns-in-Err-clause-told : goal.returns-in-Err-clause-told
returns-in-Err-clause-told g c =
    let t = c.args.table.now in
    let allows = g.M.Manners.allows (g.S.Store.manners c.args.store.now) in
    let p0 = g.S.Store.past c.args.store.now in
    let p2 = g.S.Store.past c.open_table.new.store in
    let meanings = g.X.Change.meanings c.args.change.now c.args.change.now in
    let given = g.I.Ids.given c.args.ids.now in
    let mark = g.S.Store.halted c.open_table.new.store in
    let had = c.args.log.now.left.items in
    let r = Err (Open c.in-Err.e) in
    let e = c.in-Err.e in
    let before = g.S.Store.halted c.args.store.now in
    since_turned p0 p2 (λ old new. OpenErrLeaves t allows e old new × LooksBy (Failing mark new) (commit_kind (Open e))) (CommitTells t allows meanings given given c.args.now r mark had had)
    (works.looked (commit_kind (Open e)) before mark p0 p2 (OpenErrLeaves t allows e) c.in-Err.ensures.halted c.in-Err.ensures.told)
    (λ old new h. (h.0, refl, works.works_none meanings.successor (Gives given given) t c.args.now (WasOpened t allows old) (table_rules t allows) Anything (Some (Open e)) mark had had old new refl h.1 (open_err_idle t allows e old new h.0)))

pub returns-in-Ok-clause-alone : goal.returns-in-Ok-clause-alone
returns-in-Ok-clause-alone g c nobody =
    let t = c.args.table.now in
    let allows = g.M.Manners.allows (g.S.Store.manners c.args.store.now) in
    let p0 = g.S.Store.past c.args.store.now in
    let p2 = g.S.Store.past c.attempt_on_base.new.store in
    let meanings = g.X.Change.meanings c.args.change.now c.attempt_on_base.new.change in
    let given = g.I.Ids.given c.args.ids.now in
    let last = g.I.Ids.given c.attempt_on_base.new.ids in
    let r = c.attempt_on_base.result in
    let mark = g.S.Store.halted c.attempt_on_base.new.store in
    let had = c.args.log.now.left.items in
    let has = c.attempt_on_base.new.log.left.items in
    since_turned p0 p2 (CommitTells t allows meanings given last c.args.now r mark had has) (IsCausedOf meanings given last t c.args.now r) (returns-in-Ok-clause-told g c)
    (λ old new h. commit_ends t allows nobody meanings given last c.args.now r mark had has old new h)

pub returns-in-Ok-clause-exactly : goal.returns-in-Ok-clause-exactly
returns-in-Ok-clause-exactly g c =
    let t = c.args.table.now in
    let allows = g.M.Manners.allows (g.S.Store.manners c.args.store.now) in
    let p0 = g.S.Store.past c.args.store.now in
    let p2 = g.S.Store.past c.attempt_on_base.new.store in
    let meanings = g.X.Change.meanings c.args.change.now c.attempt_on_base.new.change in
    let given = g.I.Ids.given c.args.ids.now in
    let last = g.I.Ids.given c.attempt_on_base.new.ids in
    let r = c.attempt_on_base.result in
    let mark = g.S.Store.halted c.attempt_on_base.new.store in
    let had = c.args.log.now.left.items in
    let has = c.attempt_on_base.new.log.left.items in
    since_turned p0 p2 (CommitTells t allows meanings given last c.args.now r mark had has) (IsExactlyOf allows meanings given last t c.args.now r) (returns-in-Ok-clause-told g c)
    (λ old new h. exactly t allows meanings given last c.args.now r mark had has old new h)

pub returns-in-Err-clause-exactly : goal.returns-in-Err-clause-exactly
returns-in-Err-clause-exactly g c =
    let t = c.args.table.now in
    let allows = g.M.Manners.allows (g.S.Store.manners c.args.store.now) in
    let p0 = g.S.Store.past c.args.store.now in
    let p2 = g.S.Store.past c.open_table.new.store in
    let meanings = g.X.Change.meanings c.args.change.now c.args.change.now in
    let given = g.I.Ids.given c.args.ids.now in
    let mark = g.S.Store.halted c.open_table.new.store in
    let had = c.args.log.now.left.items in
    let r = Err (Open c.in-Err.e) in
    since_turned p0 p2 (CommitTells t allows meanings given given c.args.now r mark had had) (IsExactlyOf allows meanings given given t c.args.now r) (returns-in-Err-clause-told g c)
    (λ old new h. exactly t allows meanings given given c.args.now r mark had had old new h)

pub returns-in-Ok-clause-prefix : goal.returns-in-Ok-clause-prefix
returns-in-Ok-clause-prefix g c =
    let t = c.args.table.now in
    let allows = g.M.Manners.allows (g.S.Store.manners c.args.store.now) in
    let p0 = g.S.Store.past c.args.store.now in
    let p2 = g.S.Store.past c.attempt_on_base.new.store in
    let meanings = g.X.Change.meanings c.args.change.now c.attempt_on_base.new.change in
    let given = g.I.Ids.given c.args.ids.now in
    let last = g.I.Ids.given c.attempt_on_base.new.ids in
    let r = c.attempt_on_base.result in
    let mark = g.S.Store.halted c.attempt_on_base.new.store in
    let had = c.args.log.now.left.items in
    let has = c.attempt_on_base.new.log.left.items in
    stops_have_prefix t allows meanings given last c.args.now r mark had has p0 p2 (returns-in-Ok-clause-told g c)

pub returns-in-Err-clause-prefix : goal.returns-in-Err-clause-prefix
returns-in-Err-clause-prefix g c =
    let t = c.args.table.now in
    let allows = g.M.Manners.allows (g.S.Store.manners c.args.store.now) in
    let p0 = g.S.Store.past c.args.store.now in
    let p2 = g.S.Store.past c.open_table.new.store in
    let meanings = g.X.Change.meanings c.args.change.now c.args.change.now in
    let given = g.I.Ids.given c.args.ids.now in
    let mark = g.S.Store.halted c.open_table.new.store in
    let had = c.args.log.now.left.items in
    let r = Err (Open c.in-Err.e) in
    stops_have_prefix t allows meanings given given c.args.now r mark had had p0 p2 (returns-in-Err-clause-told g c)

pub returns-in-Ok-clause-files : goal.returns-in-Ok-clause-files
returns-in-Ok-clause-files g c =
    let t = c.args.table.now in
    let allows = g.M.Manners.allows (g.S.Store.manners c.args.store.now) in
    let p0 = g.S.Store.past c.args.store.now in
    let p2 = g.S.Store.past c.attempt_on_base.new.store in
    let meanings = g.X.Change.meanings c.args.change.now c.attempt_on_base.new.change in
    let given = g.I.Ids.given c.args.ids.now in
    let last = g.I.Ids.given c.attempt_on_base.new.ids in
    let r = c.attempt_on_base.result in
    let mark = g.S.Store.halted c.attempt_on_base.new.store in
    let had = c.args.log.now.left.items in
    let has = c.attempt_on_base.new.log.left.items in
    stops_have_files t allows meanings given last c.args.now r mark had has p0 p2 (returns-in-Ok-clause-told g c)

pub returns-in-Err-clause-files : goal.returns-in-Err-clause-files
returns-in-Err-clause-files g c =
    let t = c.args.table.now in
    let allows = g.M.Manners.allows (g.S.Store.manners c.args.store.now) in
    let p0 = g.S.Store.past c.args.store.now in
    let p2 = g.S.Store.past c.open_table.new.store in
    let meanings = g.X.Change.meanings c.args.change.now c.args.change.now in
    let given = g.I.Ids.given c.args.ids.now in
    let mark = g.S.Store.halted c.open_table.new.store in
    let had = c.args.log.now.left.items in
    let r = Err (Open c.in-Err.e) in
    stops_have_files t allows meanings given given c.args.now r mark had had p0 p2 (returns-in-Err-clause-told g c)

pub returns-in-Ok-clause-successors : goal.returns-in-Ok-clause-successors
returns-in-Ok-clause-successors g c nobody =
    let t = c.args.table.now in
    let allows = g.M.Manners.allows (g.S.Store.manners c.args.store.now) in
    let p0 = g.S.Store.past c.args.store.now in
    let p2 = g.S.Store.past c.attempt_on_base.new.store in
    let meanings = g.X.Change.meanings c.args.change.now c.attempt_on_base.new.change in
    let given = g.I.Ids.given c.args.ids.now in
    let last = g.I.Ids.given c.attempt_on_base.new.ids in
    let r = c.attempt_on_base.result in
    let mark = g.S.Store.halted c.attempt_on_base.new.store in
    let had = c.args.log.now.left.items in
    let has = c.attempt_on_base.new.log.left.items in
    each_succeeds t allows meanings given last c.args.now r mark had has p0 p2 nobody (returns-in-Ok-clause-told g c)

pub returns-in-Err-clause-successors : goal.returns-in-Err-clause-successors
returns-in-Err-clause-successors g c nobody =
    let t = c.args.table.now in
    let allows = g.M.Manners.allows (g.S.Store.manners c.args.store.now) in
    let p0 = g.S.Store.past c.args.store.now in
    let p2 = g.S.Store.past c.open_table.new.store in
    let meanings = g.X.Change.meanings c.args.change.now c.args.change.now in
    let given = g.I.Ids.given c.args.ids.now in
    let mark = g.S.Store.halted c.open_table.new.store in
    let had = c.args.log.now.left.items in
    let r = Err (Open c.in-Err.e) in
    each_succeeds t allows meanings given given c.args.now r mark had had p0 p2 nobody (returns-in-Err-clause-told g c)

pub returns-in-Err-clause-opening : goal.returns-in-Err-clause-opening
returns-in-Err-clause-opening g c e is =
    let error : ◌≡◌ {A = CommitErr} (Open c.in-Err.e) (Open e) = cc (is) in
    let same : c.in-Err.e ≡ e = cc (error) in
    subst (OpenFaultAt c.args.table.now) same c.in-Err.ensures.place

pub returns-in-Ok-clause-opening : goal.returns-in-Ok-clause-opening
returns-in-Ok-clause-opening g c e is = absurd (c.attempt_on_base.ensures.unopened e is)

pub attempt_on_base-requires-clause-read : goal.attempt_on_base-requires-clause-read
attempt_on_base-requires-clause-read g c =
    let t = c.args.table.now in
    let allows = g.M.Manners.allows (g.S.Store.manners c.args.store.now) in
    let at = c.in-Ok.at in
    since_where (g.S.Store.past c.args.store.now) (g.S.Store.past c.open_table.new.store) (IsAt t allows at) (InState (λ d. FileIs at.place at.text d.files)) c.in-Ok.ensures.told (λ old now a. a.opened.file)

pub returns-in-Ok-clause-cause : goal.returns-in-Ok-clause-cause
returns-in-Ok-clause-cause g c =
    ends.counts_from (kind_of (commit_end c.attempt_on_base.result)) (g.S.Store.faults c.args.store.now) (g.S.Store.faults c.open_table.new.store) (g.S.Store.faults c.attempt_on_base.new.store) c.in-Ok.ensures.cause c.attempt_on_base.ensures.cause

pub returns-in-Ok-clause-halted : goal.returns-in-Ok-clause-halted
returns-in-Ok-clause-halted g c =
    ends.marks_from c.args.table.now (kind_of (commit_end c.attempt_on_base.result)) (g.S.Store.halted c.args.store.now) (g.S.Store.halted c.open_table.new.store) (g.S.Store.halted c.attempt_on_base.new.store) (g.S.Store.past c.attempt_on_base.new.store)
    c.in-Ok.ensures.halted c.attempt_on_base.ensures.halted

pub returns-in-Err-clause-halted : goal.returns-in-Err-clause-halted
returns-in-Err-clause-halted g c =
    ends.marks_of_open c.args.table.now (commit_kind (Open c.in-Err.e)) (g.S.Store.halted c.args.store.now) (g.S.Store.halted c.open_table.new.store) (g.S.Store.past c.open_table.new.store) c.in-Err.ensures.halted

pub returns-in-Err-clause-committed : goal.returns-in-Err-clause-committed
returns-in-Err-clause-committed g c = sym (append-nil c.args.log.now.committed.items)

pub returns-in-Err-clause-left : goal.returns-in-Err-clause-left
returns-in-Err-clause-left g c = inl (refl, refl)

pub returns-in-Err-clause-drawn : goal.returns-in-Err-clause-drawn
returns-in-Err-clause-drawn g c = inl (refl, refl)

pub returns-in-Err-clause-refused : goal.returns-in-Err-clause-refused
returns-in-Err-clause-refused g c refusal is = absurd (cc (is))

pub returns-in-Err-clause-fault_place : goal.returns-in-Err-clause-fault_place
returns-in-Err-clause-fault_place g c place is = absurd (cc (is))

pub returns-in-Ok-clause-spare : goal.returns-in-Ok-clause-spare
returns-in-Ok-clause-spare g c spare = c.attempt_on_base.ensures.spare spare

pub returns-in-Err-clause-spare : goal.returns-in-Err-clause-spare
returns-in-Err-clause-spare g c spare = absurd spare
