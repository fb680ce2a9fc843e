use Rattle.std.proofs.Common.{[], ◌∷◌, Ok, Err, sym, subst}
use Rattle.ice_store.specs.Since.{Since}
use Rattle.ice_store.specs.Others.{Answers}
use Rattle.ice_store.specs.Calls.{PlainAnswer, RemoveAnswer, IsSettled}
use Rattle.ice_store.specs.declared.history.Past.{Past}
use Rattle.ice_store.specs.declared.history.Step.TheVariants.{Remove, SyncNames}
use Rattle.ice_store.proofs.SinceLaws.{since_call, since_stands, since_start}
use Rattle.commit_publish.specs.Steps.{Exactly, draft_plan}
use Rattle.commit_publish.specs.Leaves.{DropLeaves}
use Rattle.commit_publish.specs.declared.steps.PublishCall.TheVariants as asked
use Rattle.commit_publish.specs.declared.steps.StepErr.{StepErr}
use Rattle.commit_publish.proofs.CallLaws as calls
use Rattle.commit_publish.proofs.CallLaws.{RR, K0, KD, KT}
use Rattle.commit_publish.proofs.TakenLaws.{dropped_taken}
use Rattle.commit_publish.proofs.Working.{work, never}
use Rattle.commit_publish.proofs.steps.drop_draft.Goals as goal

pub remove-requires : goal.remove-requires
remove-requires g c =
    let x = work g.R.TableReading.content g.R.TableReading.localized (g.M.Manners.allows (g.S.Store.manners c.args.store.now)) c.args.route.now c.args.bytes.now c.requires.mannered c.requires.aim in
    let may = g.M.Manners.allows in
    let p0 = g.S.Store.past c.args.store.now in
    let Told0 : Past → Past → Type 0 = RR x (Exactly []) (KT x) in
    let r0 = since_start p0 (KT x) Told0 c.requires.start (λ old here. calls.starts x (KT x) old here) in
    since_stands (may (g.S.Store.manners c.args.store.now)) p0 p0 Told0 (λ d. IsSettled d.pending x.route.draft) r0 (λ old now reached h acted. calls.remove_may x old now reached acted h)

pub returns-in-Err-clause-told : goal.returns-in-Err-clause-told
returns-in-Err-clause-told g c =
    let x = work g.R.TableReading.content g.R.TableReading.localized (g.M.Manners.allows (g.S.Store.manners c.args.store.now)) c.args.route.now c.args.bytes.now c.requires.mannered c.requires.aim in
    let may = g.M.Manners.allows in
    let p0 = g.S.Store.past c.args.store.now in
    let Told0 : Past → Past → Type 0 = RR x (Exactly []) (KT x) in
    let r0 = since_start p0 (KT x) Told0 c.requires.start (λ old here. calls.starts x (KT x) old here) in
    let p1 = g.S.Store.past c.remove.new.self in
    let told = since_call (may (g.S.Store.manners c.args.store.now)) p0 p0 p1 Told0 (calls.Stopping x x.bytes (draft_plan x.route.draft x.bytes) asked.Remove c.in-Err.cause) (RemoveAnswer x.route.draft (Err c.in-Err.cause)) r0 (c.in-Err.ensures.told) (λ old now new h told. calls.remove_err x old now new (never g.R.TableReading.content x.route.table x.bytes c.requires.narrow) h c.in-Err.cause told) in
    subst (λ (e : StepErr). Since p0 p1 (DropLeaves x.rules x.route x.bytes (Err e))) (sym c.stopped.ensures) told

pub returns-in-Ok-sync_names-clause-told : goal.returns-in-Ok-sync_names-clause-told
returns-in-Ok-sync_names-clause-told g c =
    let x = work g.R.TableReading.content g.R.TableReading.localized (g.M.Manners.allows (g.S.Store.manners c.args.store.now)) c.args.route.now c.args.bytes.now c.requires.mannered c.requires.aim in
    let may = g.M.Manners.allows in
    let p0 = g.S.Store.past c.args.store.now in
    let Told0 : Past → Past → Type 0 = RR x (Exactly []) (KT x) in
    let r0 = since_start p0 (KT x) Told0 c.requires.start (λ old here. calls.starts x (KT x) old here) in
    let p1 = g.S.Store.past c.remove.new.self in
    let q1 = c.remove.ensures.manners in
    let Told1 : Past → Past → Type 0 = RR x (Exactly (Remove x.route.draft ∷ [])) (calls.KN x) in
    let r1 = since_call (may (g.S.Store.manners c.args.store.now)) p0 p0 p1 Told0 Told1 (RemoveAnswer x.route.draft (Ok c.in-Ok.field-0)) r0 (c.in-Ok.ensures.told) (λ old now new h told. calls.remove_ok x old now new (never g.R.TableReading.content x.route.table x.bytes c.requires.narrow) h c.in-Ok.field-0 told) in
    let p2 = g.S.Store.past c.sync_names.new.self in
    since_call (may (g.S.Store.manners c.args.store.now)) p0 p1 p2 Told1 (RR x (Exactly (Remove x.route.draft ∷ SyncNames ∷ [])) (calls.KL x)) (PlainAnswer SyncNames (Ok tt)) r1 (subst (λ m. Answers (may m) p1 p2 (PlainAnswer SyncNames (Ok tt))) q1 (c.in-Ok-sync_names.ensures.told)) (λ old now new h told. calls.dropped_ok x old now new h told)

pub returns-in-Err-sync_names-clause-told : goal.returns-in-Err-sync_names-clause-told
returns-in-Err-sync_names-clause-told g c =
    let x = work g.R.TableReading.content g.R.TableReading.localized (g.M.Manners.allows (g.S.Store.manners c.args.store.now)) c.args.route.now c.args.bytes.now c.requires.mannered c.requires.aim in
    let may = g.M.Manners.allows in
    let p0 = g.S.Store.past c.args.store.now in
    let Told0 : Past → Past → Type 0 = RR x (Exactly []) (KT x) in
    let r0 = since_start p0 (KT x) Told0 c.requires.start (λ old here. calls.starts x (KT x) old here) in
    let p1 = g.S.Store.past c.remove.new.self in
    let q1 = c.remove.ensures.manners in
    let Told1 : Past → Past → Type 0 = RR x (Exactly (Remove x.route.draft ∷ [])) (calls.KN x) in
    let r1 = since_call (may (g.S.Store.manners c.args.store.now)) p0 p0 p1 Told0 Told1 (RemoveAnswer x.route.draft (Ok c.in-Ok.field-0)) r0 (c.in-Ok.ensures.told) (λ old now new h told. calls.remove_ok x old now new (never g.R.TableReading.content x.route.table x.bytes c.requires.narrow) h c.in-Ok.field-0 told) in
    let p2 = g.S.Store.past c.sync_names.new.self in
    let told = since_call (may (g.S.Store.manners c.args.store.now)) p0 p1 p2 Told1 (calls.Stopping x x.bytes (draft_plan x.route.draft x.bytes) asked.SyncRemoval c.in-Err-sync_names.cause) (PlainAnswer SyncNames (Err c.in-Err-sync_names.cause)) r1 (subst (λ m. Answers (may m) p1 p2 (PlainAnswer SyncNames (Err c.in-Err-sync_names.cause))) q1 (c.in-Err-sync_names.ensures.told)) (λ old now new h told. calls.dropped_err x old now new h c.in-Err-sync_names.cause told) in
    subst (λ (e : StepErr). Since p0 p2 (DropLeaves x.rules x.route x.bytes (Err e))) (sym c.stopped-in-Err-sync_names.ensures) told

pub returns-in-Err-clause-taken : goal.returns-in-Err-clause-taken
returns-in-Err-clause-taken g c =
    let x = work g.R.TableReading.content g.R.TableReading.localized (g.M.Manners.allows (g.S.Store.manners c.args.store.now)) c.args.route.now c.args.bytes.now c.requires.mannered c.requires.aim in
    dropped_taken x (Err c.stopped.result) (g.S.Store.past c.args.store.now) (g.S.Store.past c.remove.new.self) c.requires.start (returns-in-Err-clause-told g c)

pub returns-in-Ok-sync_names-clause-taken : goal.returns-in-Ok-sync_names-clause-taken
returns-in-Ok-sync_names-clause-taken g c =
    let x = work g.R.TableReading.content g.R.TableReading.localized (g.M.Manners.allows (g.S.Store.manners c.args.store.now)) c.args.route.now c.args.bytes.now c.requires.mannered c.requires.aim in
    dropped_taken x (Ok tt) (g.S.Store.past c.args.store.now) (g.S.Store.past c.sync_names.new.self) c.requires.start (returns-in-Ok-sync_names-clause-told g c)

pub returns-in-Err-sync_names-clause-taken : goal.returns-in-Err-sync_names-clause-taken
returns-in-Err-sync_names-clause-taken g c =
    let x = work g.R.TableReading.content g.R.TableReading.localized (g.M.Manners.allows (g.S.Store.manners c.args.store.now)) c.args.route.now c.args.bytes.now c.requires.mannered c.requires.aim in
    dropped_taken x (Err c.stopped-in-Err-sync_names.result) (g.S.Store.past c.args.store.now) (g.S.Store.past c.sync_names.new.self) c.requires.start (returns-in-Err-sync_names-clause-told g c)
