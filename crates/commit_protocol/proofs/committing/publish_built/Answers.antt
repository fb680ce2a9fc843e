use Rattle.std.proofs.Common.{◌≡◌, inl, inr, ◌+◌, ℕ, List, [], Some, Ok, Err, refl, sym, ap, ◌∙◌, subst, append-nil}
use Rattle.ice_store.specs.Places.{Parts}
use Rattle.ice_store.specs.Given.{Gives}
use Rattle.ice_store.specs.Since.{Since}
use Rattle.ice_store.proofs.SinceLaws.{since_start, since_turned}
use Rattle.serde_json.specs.View.{view}
use Rattle.commit_history.specs.Runs.{Ran}
use Rattle.commit_history.specs.Versions.{number_in}
use Rattle.commit_publish.specs.Kinds.{Counts, Failing, Marks}
use Rattle.commit_publish.specs.Leaves.{PublishLeaves}
use Rattle.commit_publish.specs.Logs.{PublishMarks}
use Rattle.commit_publish.specs.Stages.{Aim, InState}
use Rattle.commit_publish.specs.Steps.{Exactly}
use Rattle.commit_versions.specs.Opening.{OpenStage}
use Rattle.commit_protocol.specs.Ends.{DrawsBy, IsThat, LeavesBy, PublishedWorks}
use Rattle.commit_protocol.specs.Kinds.{commit_kind}
use Rattle.commit_protocol.specs.Meanings.{LooksBy}
use Rattle.commit_protocol.specs.Metadata.{table_rules}
use Rattle.commit_protocol.specs.Prepares.{IsSpareEnd}
use Rattle.commit_protocol.specs.Written.{commit_error_by}
use Rattle.ice_store.specs.declared.faults.ReadErr.TheVariants.{StoreFault}
use Rattle.commit_protocol.specs.declared.errors.AttemptErr.TheVariants as attempts
use Rattle.commit_protocol.specs.declared.errors.CommitErr.{CommitErr}
use Rattle.commit_protocol.specs.declared.errors.CommitErr.TheVariants.{Open, Attempt}
use Rattle.commit_protocol.specs.declared.errors.Committed.TheVariants.{Published}
use Rattle.commit_protocol.proofs.CommitLaws as laws
use Rattle.commit_protocol.proofs.EndLaws as ends
use Rattle.commit_protocol.proofs.WorkLaws as works
use Rattle.commit_protocol.proofs.committing.publish_built.Goals as goal

pub returns-in-Err-clause-told : goal.returns-in-Err-clause-told
returns-in-Err-clause-told g c =
    let t = c.args.table.now in
    let allows = g.M.Manners.allows (g.S.Store.manners c.args.store.now) in
    let Drawn = Gives (g.I.Ids.given c.args.ids.now) (g.I.Ids.given c.next-id.new.self) in
    let p0 = g.S.Store.past c.args.store.now in
    let built = view c.args.meta in
    let e = c.in-Err.e in
    since_start p0 (InState (OpenStage (number_in t) c.args.base.place)) (laws.BuiltLeaves t allows c.requires.mannered c.args.now Drawn c.args.base built c.next-id.result c.next-id.ensures (Err (Attempt e))) c.requires.start
    (λ old here. laws.unwritten_err t allows c.requires.mannered c.args.now Drawn c.args.base built c.next-id.result c.next-id.ensures e old old c.in-Err.ensures.err (laws.starts t allows c.requires.mannered c.args.now Drawn (InState (OpenStage (number_in t) c.args.base.place)) old here))

pub publish-requires-clause-aim : goal.publish-requires-clause-aim
publish-requires-clause-aim g c =
    let w = c.in-Ok.written in
    let is = c.in-Ok.ensures.ok in
    subst (λ (t : Parts). Aim (number_in t) w.route) (sym is.table_is) is.aim

pub returns-in-Ok-publish_version-clause-told : goal.returns-in-Ok-publish_version-clause-told
returns-in-Ok-publish_version-clause-told g c =
    let t = c.args.table.now in
    let allows = g.M.Manners.allows (g.S.Store.manners c.args.store.now) in
    let Drawn = Gives (g.I.Ids.given c.args.ids.now) (g.I.Ids.given c.next-id.new.self) in
    let p0 = g.S.Store.past c.args.store.now in
    let built = view c.args.meta in
    let w = c.in-Ok.written in
    let is = c.in-Ok.ensures.ok in
    let p1 = g.S.Store.past c.publish.new.store in
    let r = Ok c.in-Ok-publish_version.field-0 in
    let bytes : c.deref.result.now ≡ w.bytes = c.deref.ensures.value ∙ c.inner.ensures in
    let told = subst (λ (x : List ℕ). Since p0 p1 (PublishLeaves (table_rules w.route.table allows) w.route x r)) bytes c.in-Ok-publish_version.ensures.told in
    since_turned p0 p1 (PublishLeaves (table_rules t allows) w.route w.bytes r) (laws.BuiltLeaves t allows c.requires.mannered c.args.now Drawn c.args.base built c.next-id.result c.next-id.ensures (Ok (Published (c.args.base.version + 1))))
    (laws.moved_in t allows c.requires.mannered c.args.now Drawn c.args.base built c.next-id.result c.next-id.ensures w is p0 p1 r told)
    (λ old new left. laws.published_ok t allows c.requires.mannered c.args.now Drawn c.args.base built c.next-id.result c.next-id.ensures w is old new left)

pub returns-in-Err-publish_version-clause-told : goal.returns-in-Err-publish_version-clause-told
returns-in-Err-publish_version-clause-told g c =
    let t = c.args.table.now in
    let allows = g.M.Manners.allows (g.S.Store.manners c.args.store.now) in
    let Drawn = Gives (g.I.Ids.given c.args.ids.now) (g.I.Ids.given c.next-id.new.self) in
    let p0 = g.S.Store.past c.args.store.now in
    let built = view c.args.meta in
    let w = c.in-Ok.written in
    let is = c.in-Ok.ensures.ok in
    let p1 = g.S.Store.past c.publish.new.store in
    let e = c.in-Err-publish_version.e in
    let r = Err e in
    let v = c.args.base.version + 1 in
    let bytes : c.deref.result.now ≡ w.bytes = c.deref.ensures.value ∙ c.inner.ensures in
    let told = subst (λ (x : List ℕ). Since p0 p1 (PublishLeaves (table_rules w.route.table allows) w.route x r)) bytes c.in-Err-publish_version.ensures.told in
    let Leaves = laws.BuiltLeaves t allows c.requires.mannered c.args.now Drawn c.args.base built c.next-id.result c.next-id.ensures in
    let error : c.commit_error.result ≡ commit_error_by e w.route.draft t v = c.commit_error.ensures ∙ ap (λ (x : Parts). commit_error_by e w.route.draft x v) is.table_is in
    let base = since_turned p0 p1 (PublishLeaves (table_rules t allows) w.route w.bytes r) (Leaves (Err (commit_error_by e w.route.draft t v)))
    (laws.moved_in t allows c.requires.mannered c.args.now Drawn c.args.base built c.next-id.result c.next-id.ensures w is p0 p1 r told)
    (λ old new left. laws.published_err t allows c.requires.mannered c.args.now Drawn c.args.base built c.next-id.result c.next-id.ensures w is old new e left) in
    subst (λ (x : CommitErr). Since p0 p1 (Leaves (Err x))) (sym error) base

pub returns-in-Err-clause-cause : goal.returns-in-Err-clause-cause
returns-in-Err-clause-cause g c =
    ends.unwritten_counts c.args.table.now c.args.base (view c.args.meta) c.args.now c.next-id.result c.in-Err.e (g.S.Store.faults c.args.store.now) c.in-Err.ensures.err

pub returns-in-Err-clause-halted : goal.returns-in-Err-clause-halted
returns-in-Err-clause-halted g c =
    let t = c.args.table.now in
    let e = c.in-Err.e in
    let mark = g.S.Store.halted c.args.store.now in
    let told = g.S.Store.past c.args.store.now in
    ends.marks_of_open t (commit_kind (Attempt e)) mark mark told (ends.unwritten_marks t c.args.base (view c.args.meta) c.args.now c.next-id.result e mark told c.in-Err.ensures.err)

pub returns-in-Err-clause-committed : goal.returns-in-Err-clause-committed
returns-in-Err-clause-committed g c = sym (append-nil c.args.log.now.committed.items)

pub returns-in-Err-clause-left : goal.returns-in-Err-clause-left
returns-in-Err-clause-left g c =
    let t = c.args.table.now in
    let e = c.in-Err.e in
    let mark = g.S.Store.halted c.args.store.now in
    let told = g.S.Store.past c.args.store.now in
    let had = c.args.log.now.left.items in
    let Drawn = Gives (g.I.Ids.given c.args.ids.now) (g.I.Ids.given c.next-id.new.self) in
    ends.leaves_of_open Drawn t (commit_kind (Attempt e)) mark mark told had had (ends.unwritten_marks t c.args.base (view c.args.meta) c.args.now c.next-id.result e mark told c.in-Err.ensures.err) refl

pub returns-in-Err-clause-works : goal.returns-in-Err-clause-works
returns-in-Err-clause-works g c =
    let t = c.args.table.now in
    let allows = g.M.Manners.allows (g.S.Store.manners c.args.store.now) in
    let rules = table_rules t allows in
    let Drawn = Gives (g.I.Ids.given c.args.ids.now) (g.I.Ids.given c.next-id.new.self) in
    let p0 = g.S.Store.past c.args.store.now in
    let base = c.args.base in
    let built = view c.args.meta in
    let e = c.in-Err.e in
    let mark = g.S.Store.halted c.args.store.now in
    let had = c.args.log.now.left.items in
    let K = InState (OpenStage (number_in t) base.place) in
    let Run = Ran rules (Exactly []) K in
    let runs = since_start p0 K Run c.requires.start (λ old here. laws.stays t allows c.requires.mannered c.args.now Drawn K old here) in
    let marks = ends.unwritten_marks t base built c.args.now c.next-id.result e mark p0 c.in-Err.ensures.err in
    since_turned p0 p0 (λ old new. Run old new × LooksBy (Failing mark new) (commit_kind (Attempt e))) (PublishedWorks t Drawn c.args.now base built (Err (Attempt e)) mark had had)
    (works.looked (commit_kind (Attempt e)) mark mark p0 p0 Run marks runs)
    (λ old new h. λ at on limit. works.works_none (λ tree next. next ≡ built) Drawn t c.args.now (IsThat at) rules K (Some (Attempt e)) mark had had old new refl h.1 h.0)

pub returns-in-Err-clause-drawn : goal.returns-in-Err-clause-drawn
returns-in-Err-clause-drawn g c =
    ends.unwritten_draws c.args.table.now c.args.base (view c.args.meta) c.args.now c.next-id.result c.in-Err.e (g.I.Ids.given c.args.ids.now) (g.I.Ids.given c.next-id.new.self) c.in-Err.ensures.err c.next-id.ensures

pub returns-in-Ok-publish_version-clause-left : goal.returns-in-Ok-publish_version-clause-left
returns-in-Ok-publish_version-clause-left g c = c.in-Ok-publish_version.ensures.left ∙ append-nil c.args.log.now.left.items

pub returns-in-Ok-publish_version-clause-works : goal.returns-in-Ok-publish_version-clause-works
returns-in-Ok-publish_version-clause-works g c =
    let t = c.args.table.now in
    let allows = g.M.Manners.allows (g.S.Store.manners c.args.store.now) in
    let Drawn = Gives (g.I.Ids.given c.args.ids.now) (g.I.Ids.given c.next-id.new.self) in
    let base = c.args.base in
    let built = view c.args.meta in
    let id = c.next-id.result in
    let w = c.in-Ok.written in
    let is = c.in-Ok.ensures.ok in
    let p0 = g.S.Store.past c.args.store.now in
    let p1 = g.S.Store.past c.publish.new.store in
    let before = g.S.Store.halted c.args.store.now in
    let mark = g.S.Store.halted c.publish.new.store in
    let had = c.args.log.now.left.items in
    let has = c.publish.new.log.left.items in
    let r = Ok c.in-Ok-publish_version.field-0 in
    let bytes : c.deref.result.now ≡ w.bytes = c.deref.ensures.value ∙ c.inner.ensures in
    let same : has ≡ had = c.in-Ok-publish_version.ensures.left ∙ append-nil had in
    let told = subst (λ (x : List ℕ). Since p0 p1 (PublishLeaves (table_rules w.route.table allows) w.route x r)) bytes c.in-Ok-publish_version.ensures.told in
    let there = laws.moved_in t allows c.requires.mannered c.args.now Drawn base built id c.next-id.ensures w is p0 p1 r told in
    since_turned p0 p1 (works.Went w.route.draft w.route.target w.bytes r mark) (PublishedWorks t Drawn c.args.now base built (Ok (Published (base.version + 1))) mark had has)
    (works.went (table_rules t allows) w.route w.bytes before mark p0 p1 r c.in-Ok-publish_version.ensures.halted there)
    (λ old new ended. works.built_published Drawn t c.args.now base built id c.next-id.ensures w is mark had has old new same ended)

pub returns-in-Ok-publish_version-clause-drawn : goal.returns-in-Ok-publish_version-clause-drawn
returns-in-Ok-publish_version-clause-drawn g c = (c.next-id.result, c.next-id.ensures)

pub returns-in-Err-publish_version-clause-cause : goal.returns-in-Err-publish_version-clause-cause
returns-in-Err-publish_version-clause-cause g c =
    let t = c.args.table.now in
    let w = c.in-Ok.written in
    let is = c.in-Ok.ensures.ok in
    let e = c.in-Err-publish_version.e in
    let v = c.args.base.version + 1 in
    let error : c.commit_error.result ≡ commit_error_by e w.route.draft t v = c.commit_error.ensures ∙ ap (λ (x : Parts). commit_error_by e w.route.draft x v) is.table_is in
    let before = g.S.Store.faults c.args.store.now in
    let now = g.S.Store.faults c.publish.new.store in
    subst (λ (x : CommitErr). Counts (commit_kind x) before now) (sym error) (ends.publish_counts w.route.draft t v e before now c.in-Err-publish_version.ensures.cause)

pub returns-in-Err-publish_version-clause-halted : goal.returns-in-Err-publish_version-clause-halted
returns-in-Err-publish_version-clause-halted g c =
    let t = c.args.table.now in
    let w = c.in-Ok.written in
    let is = c.in-Ok.ensures.ok in
    let e = c.in-Err-publish_version.e in
    let v = c.args.base.version + 1 in
    let error : c.commit_error.result ≡ commit_error_by e w.route.draft t v = c.commit_error.ensures ∙ ap (λ (x : Parts). commit_error_by e w.route.draft x v) is.table_is in
    let before = g.S.Store.halted c.args.store.now in
    let now = g.S.Store.halted c.publish.new.store in
    let told = g.S.Store.past c.publish.new.store in
    subst (λ (x : CommitErr). Marks t (commit_kind x) before now told) (sym error)
    (ends.publish_marks w.route.draft t v w.route.target c.deref.result.now before now told e c.in-Err-publish_version.ensures.halted)

pub returns-in-Err-publish_version-clause-left : goal.returns-in-Err-publish_version-clause-left
returns-in-Err-publish_version-clause-left g c =
    let t = c.args.table.now in
    let w = c.in-Ok.written in
    let is = c.in-Ok.ensures.ok in
    let e = c.in-Err-publish_version.e in
    let v = c.args.base.version + 1 in
    let error : c.commit_error.result ≡ commit_error_by e w.route.draft t v = c.commit_error.ensures ∙ ap (λ (x : Parts). commit_error_by e w.route.draft x v) is.table_is in
    let Drawn = Gives (g.I.Ids.given c.args.ids.now) (g.I.Ids.given c.next-id.new.self) in
    let had = c.args.log.now.left.items in
    let has = c.publish.new.log.left.items in
    subst (λ (x : CommitErr). LeavesBy Drawn t (commit_kind x) had has) (sym error)
    (ends.publish_leaves w.route.draft t v w.route.target Drawn c.next-id.result c.next-id.ensures is.draft_is is.target_is had has e c.in-Err-publish_version.ensures.left)

pub returns-in-Err-publish_version-clause-works : goal.returns-in-Err-publish_version-clause-works
returns-in-Err-publish_version-clause-works g c =
    let t = c.args.table.now in
    let allows = g.M.Manners.allows (g.S.Store.manners c.args.store.now) in
    let Drawn = Gives (g.I.Ids.given c.args.ids.now) (g.I.Ids.given c.next-id.new.self) in
    let base = c.args.base in
    let built = view c.args.meta in
    let id = c.next-id.result in
    let w = c.in-Ok.written in
    let is = c.in-Ok.ensures.ok in
    let e = c.in-Err-publish_version.e in
    let v = c.args.base.version + 1 in
    let error : c.commit_error.result ≡ commit_error_by e w.route.draft t v = c.commit_error.ensures ∙ ap (λ (x : Parts). commit_error_by e w.route.draft x v) is.table_is in
    let p0 = g.S.Store.past c.args.store.now in
    let p1 = g.S.Store.past c.publish.new.store in
    let before = g.S.Store.halted c.args.store.now in
    let mark = g.S.Store.halted c.publish.new.store in
    let had = c.args.log.now.left.items in
    let has = c.publish.new.log.left.items in
    let r = Err e in
    let bytes : c.deref.result.now ≡ w.bytes = c.deref.ensures.value ∙ c.inner.ensures in
    let told = subst (λ (x : List ℕ). Since p0 p1 (PublishLeaves (table_rules w.route.table allows) w.route x r)) bytes c.in-Err-publish_version.ensures.told in
    let marks = subst (λ (x : List ℕ). PublishMarks w.route.draft w.route.target x r before mark p1) bytes c.in-Err-publish_version.ensures.halted in
    let there = laws.moved_in t allows c.requires.mannered c.args.now Drawn base built id c.next-id.ensures w is p0 p1 r told in
    let known = since_turned p0 p1 (works.Went w.route.draft w.route.target w.bytes r mark) (PublishedWorks t Drawn c.args.now base built (Err (commit_error_by e w.route.draft t v)) mark had has)
    (works.went (table_rules t allows) w.route w.bytes before mark p0 p1 r marks there)
    (λ old new ended. works.built_failed Drawn t c.args.now base built id c.next-id.ensures w is mark had has old new e c.in-Err-publish_version.ensures.left ended) in
    subst (λ (x : CommitErr). Since p0 p1 (PublishedWorks t Drawn c.args.now base built (Err x) mark had has)) (sym error) known

pub returns-in-Err-publish_version-clause-drawn : goal.returns-in-Err-publish_version-clause-drawn
returns-in-Err-publish_version-clause-drawn g c =
    let t = c.args.table.now in
    let w = c.in-Ok.written in
    let is = c.in-Ok.ensures.ok in
    let e = c.in-Err-publish_version.e in
    let v = c.args.base.version + 1 in
    let error : c.commit_error.result ≡ commit_error_by e w.route.draft t v = c.commit_error.ensures ∙ ap (λ (x : Parts). commit_error_by e w.route.draft x v) is.table_is in
    let before = g.I.Ids.given c.args.ids.now in
    let after = g.I.Ids.given c.next-id.new.self in
    subst (λ (x : CommitErr). DrawsBy [] (Some x) before after) (sym error) (ends.publish_draws w.route.draft t v before after (c.next-id.result, c.next-id.ensures) e)

pub returns-in-Err-publish_version-clause-committed : goal.returns-in-Err-publish_version-clause-committed
returns-in-Err-publish_version-clause-committed g c = c.in-Err-publish_version.ensures.committed

pub returns-in-Err-publish_version-clause-unopened : goal.returns-in-Err-publish_version-clause-unopened
returns-in-Err-publish_version-clause-unopened g c opening is =
    let error : ◌≡◌ {A = CommitErr} c.commit_error.result (Open opening) = cc (is) in
    let w = c.in-Ok.written in
    ends.publish_opens_nothing w.route.draft w.route.table (c.args.base.version + 1) c.in-Err-publish_version.e opening (sym c.commit_error.ensures ∙ error)

pub returns-in-Err-clause-refused : goal.returns-in-Err-clause-refused
returns-in-Err-clause-refused g c refusal is =
    let same : c.in-Err.e ≡ attempts.Refused refusal = cc (is) in
    absurd (ends.unwritten_refuses_nothing c.args.table.now c.args.base (view c.args.meta) c.args.now c.next-id.result c.in-Err.e refusal c.in-Err.ensures.err same)

pub returns-in-Err-clause-fault_place : goal.returns-in-Err-clause-fault_place
returns-in-Err-clause-fault_place g c place is =
    let same : c.in-Err.e ≡ attempts.Read (StoreFault place) = cc (is) in
    absurd (ends.unwritten_plainly c.args.table.now c.args.base (view c.args.meta) c.args.now c.next-id.result c.in-Err.e place c.in-Err.ensures.err same)

pub returns-in-Ok-publish_version-clause-refused : goal.returns-in-Ok-publish_version-clause-refused
returns-in-Ok-publish_version-clause-refused g c refusal is = absurd (cc (is))

pub returns-in-Ok-publish_version-clause-fault_place : goal.returns-in-Ok-publish_version-clause-fault_place
returns-in-Ok-publish_version-clause-fault_place g c place is = absurd (cc (is))

pub returns-in-Err-publish_version-clause-refused : goal.returns-in-Err-publish_version-clause-refused
returns-in-Err-publish_version-clause-refused g c refusal is =
    let error : ◌≡◌ {A = CommitErr} c.commit_error.result (Attempt (attempts.Refused refusal)) = cc (is) in
    let w = c.in-Ok.written in
    absurd (ends.publish_refuses_nothing w.route.draft w.route.table (c.args.base.version + 1) c.in-Err-publish_version.e refusal (sym c.commit_error.ensures ∙ error))

pub returns-in-Err-publish_version-clause-fault_place : goal.returns-in-Err-publish_version-clause-fault_place
returns-in-Err-publish_version-clause-fault_place g c place is =
    let t = c.args.table.now in
    let w = c.in-Ok.written in
    let written = c.in-Ok.ensures.ok in
    let e = c.in-Err-publish_version.e in
    let v = c.args.base.version + 1 in
    let told : ◌≡◌ {A = CommitErr} c.commit_error.result (Attempt (attempts.Read (StoreFault place))) = cc (is) in
    let error : c.commit_error.result ≡ commit_error_by e w.route.draft t v = c.commit_error.ensures ∙ ap (λ (x : Parts). commit_error_by e w.route.draft x v) written.table_is in
    inr (inl (ends.publish_place w.route.draft t v (Gives (g.I.Ids.given c.args.ids.now) (g.I.Ids.given c.next-id.new.self)) c.next-id.result c.next-id.ensures written.draft_is place e (sym error ∙ told)))

pub returns-in-Err-clause-unspared : goal.returns-in-Err-clause-unspared
returns-in-Err-clause-unspared g c spare =
    ends.unwritten_unspared c.args.table.now c.args.base (view c.args.meta) c.args.now c.next-id.result c.in-Err.e c.in-Err.ensures.err spare

pub returns-in-Ok-publish_version-clause-unspared : goal.returns-in-Ok-publish_version-clause-unspared
returns-in-Ok-publish_version-clause-unspared g c spare = spare

pub returns-in-Err-publish_version-clause-unspared : goal.returns-in-Err-publish_version-clause-unspared
returns-in-Err-publish_version-clause-unspared g c spare =
    let w = c.in-Ok.written in
    ends.publish_unspared w.route.draft w.route.table (c.args.base.version + 1) c.in-Err-publish_version.e (subst (λ (x : CommitErr). IsSpareEnd (Err x)) c.commit_error.ensures spare)
