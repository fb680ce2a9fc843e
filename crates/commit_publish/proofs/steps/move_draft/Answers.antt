use Rattle.std.proofs.Common.{[], ◌∷◌, true, Ok, Err, sym, subst}
use Rattle.ice_store.specs.Since.{Since}
use Rattle.ice_store.specs.Others.{Answers}
use Rattle.ice_store.specs.Calls.{PlainAnswer, RenameAnswer, CanRename}
use Rattle.ice_store.specs.declared.history.Past.{Past}
use Rattle.ice_store.specs.declared.history.Step.TheVariants.{Rename, SyncNames}
use Rattle.ice_store.specs.declared.store.Moved.TheVariants.{Done, Exists as There}
use Rattle.ice_store.proofs.SinceLaws.{since_call, since_stands, since_start}
use Rattle.commit_publish.specs.Stages.{AtRest, IsRenamed, IsPublished}
use Rattle.commit_publish.specs.Steps.{Exactly, draft_plan}
use Rattle.commit_publish.specs.Leaves.{MoveLeaves}
use Rattle.commit_publish.specs.declared.steps.PublishCall.TheVariants as asked
use Rattle.commit_publish.specs.declared.steps.StepErr.{StepErr}
use Rattle.commit_publish.proofs.CallLaws as calls
use Rattle.commit_publish.proofs.CallLaws.{RR, K0, KD, KT}
use Rattle.commit_publish.proofs.Working.{work}
use Rattle.commit_publish.proofs.steps.move_draft.Goals as goal

pub rename_new-requires : goal.rename_new-requires
rename_new-requires g c =
    let x = work g.R.TableReading.content g.R.TableReading.localized (g.M.Manners.allows (g.S.Store.manners c.args.store.now)) c.args.route.now c.args.bytes.now c.requires.mannered c.requires.aim in
    let may = g.M.Manners.allows in
    let p0 = g.S.Store.past c.args.store.now in
    let Told0 : Past → Past → Type 0 = RR x (Exactly []) (KD x AtRest true x.bytes) in
    let r0 = since_start p0 (KD x AtRest true x.bytes) Told0 c.requires.start (λ old here. calls.starts x (KD x AtRest true x.bytes) old here) in
    since_stands (may (g.S.Store.manners c.args.store.now)) p0 p0 Told0 (CanRename x.route.draft x.route.target) r0 (λ old now reached h acted. calls.rename_may x old now reached acted h)

pub returns-in-Err-clause-told : goal.returns-in-Err-clause-told
returns-in-Err-clause-told g c =
    let x = work g.R.TableReading.content g.R.TableReading.localized (g.M.Manners.allows (g.S.Store.manners c.args.store.now)) c.args.route.now c.args.bytes.now c.requires.mannered c.requires.aim in
    let may = g.M.Manners.allows in
    let p0 = g.S.Store.past c.args.store.now in
    let Told0 : Past → Past → Type 0 = RR x (Exactly []) (KD x AtRest true x.bytes) in
    let r0 = since_start p0 (KD x AtRest true x.bytes) Told0 c.requires.start (λ old here. calls.starts x (KD x AtRest true x.bytes) old here) in
    let p1 = g.S.Store.past c.rename_new.new.self in
    let told = since_call (may (g.S.Store.manners c.args.store.now)) p0 p0 p1 Told0 (calls.Stopping x x.bytes (draft_plan x.route.draft x.bytes) asked.Rename c.in-Err.cause) (RenameAnswer x.route.draft x.route.target (Err c.in-Err.cause)) r0 (c.in-Err.ensures.told) (λ old now new h told. calls.rename_err x old now new c.requires.narrow.good h c.in-Err.cause told) in
    subst (λ (e : StepErr). Since p0 p1 (MoveLeaves x.rules x.route x.bytes (Err e))) (sym c.stopped.ensures) told

pub returns-in-Ok-Exists-clause-told : goal.returns-in-Ok-Exists-clause-told
returns-in-Ok-Exists-clause-told g c =
    let x = work g.R.TableReading.content g.R.TableReading.localized (g.M.Manners.allows (g.S.Store.manners c.args.store.now)) c.args.route.now c.args.bytes.now c.requires.mannered c.requires.aim in
    let may = g.M.Manners.allows in
    let p0 = g.S.Store.past c.args.store.now in
    let Told0 : Past → Past → Type 0 = RR x (Exactly []) (KD x AtRest true x.bytes) in
    let r0 = since_start p0 (KD x AtRest true x.bytes) Told0 c.requires.start (λ old here. calls.starts x (KD x AtRest true x.bytes) old here) in
    let p1 = g.S.Store.past c.rename_new.new.self in
    since_call (may (g.S.Store.manners c.args.store.now)) p0 p0 p1 Told0 (RR x (Exactly []) (KT x)) (RenameAnswer x.route.draft x.route.target (Ok There)) r0 (subst (λ r. Answers (may (g.S.Store.manners c.args.store.now)) p0 p1 (RenameAnswer x.route.draft x.route.target (Ok r))) c.in-Ok-Exists.field-0-is c.in-Ok-Exists.ensures.told) (λ old now new h told. calls.rename_exists x old now new c.requires.narrow.good h told)

pub returns-in-Ok-clause-told : goal.returns-in-Ok-clause-told
returns-in-Ok-clause-told g c =
    let x = work g.R.TableReading.content g.R.TableReading.localized (g.M.Manners.allows (g.S.Store.manners c.args.store.now)) c.args.route.now c.args.bytes.now c.requires.mannered c.requires.aim in
    let may = g.M.Manners.allows in
    let p0 = g.S.Store.past c.args.store.now in
    let Told0 : Past → Past → Type 0 = RR x (Exactly []) (KD x AtRest true x.bytes) in
    let r0 = since_start p0 (KD x AtRest true x.bytes) Told0 c.requires.start (λ old here. calls.starts x (KD x AtRest true x.bytes) old here) in
    let p1 = g.S.Store.past c.rename_new.new.self in
    let q1 = c.rename_new.ensures.manners in
    let Told1 : Past → Past → Type 0 = λ old. RR x (Exactly (Rename x.route.draft x.route.target ∷ [])) (IsRenamed x.rules.reading.number x.route.text x.bytes (calls.Bs x old)) old in
    let r1 = since_call (may (g.S.Store.manners c.args.store.now)) p0 p0 p1 Told0 Told1 (RenameAnswer x.route.draft x.route.target (Ok Done)) r0 (subst (λ r. Answers (may (g.S.Store.manners c.args.store.now)) p0 p1 (RenameAnswer x.route.draft x.route.target (Ok r))) c.in-Ok-Done.field-0-is c.in-Ok-Done.ensures.told) (λ old now new h told. calls.rename_done x old now new c.requires.narrow.good h told) in
    let p2 = g.S.Store.past c.sync_names.new.self in
    since_call (may (g.S.Store.manners c.args.store.now)) p0 p1 p2 Told1 (λ old. RR x (Exactly (Rename x.route.draft x.route.target ∷ SyncNames ∷ [])) (IsPublished x.rules.reading.number x.route.text x.bytes (calls.Bs x old)) old) (PlainAnswer SyncNames (Ok tt)) r1 (subst (λ m. Answers (may m) p1 p2 (PlainAnswer SyncNames (Ok tt))) q1 (c.in-Ok.ensures.told)) (λ old now new h told. calls.publish_ok x old now new h told)

pub returns-in-Err-sync_names-clause-told : goal.returns-in-Err-sync_names-clause-told
returns-in-Err-sync_names-clause-told g c =
    let x = work g.R.TableReading.content g.R.TableReading.localized (g.M.Manners.allows (g.S.Store.manners c.args.store.now)) c.args.route.now c.args.bytes.now c.requires.mannered c.requires.aim in
    let may = g.M.Manners.allows in
    let p0 = g.S.Store.past c.args.store.now in
    let Told0 : Past → Past → Type 0 = RR x (Exactly []) (KD x AtRest true x.bytes) in
    let r0 = since_start p0 (KD x AtRest true x.bytes) Told0 c.requires.start (λ old here. calls.starts x (KD x AtRest true x.bytes) old here) in
    let p1 = g.S.Store.past c.rename_new.new.self in
    let q1 = c.rename_new.ensures.manners in
    let Told1 : Past → Past → Type 0 = λ old. RR x (Exactly (Rename x.route.draft x.route.target ∷ [])) (IsRenamed x.rules.reading.number x.route.text x.bytes (calls.Bs x old)) old in
    let r1 = since_call (may (g.S.Store.manners c.args.store.now)) p0 p0 p1 Told0 Told1 (RenameAnswer x.route.draft x.route.target (Ok Done)) r0 (subst (λ r. Answers (may (g.S.Store.manners c.args.store.now)) p0 p1 (RenameAnswer x.route.draft x.route.target (Ok r))) c.in-Ok-Done.field-0-is c.in-Ok-Done.ensures.told) (λ old now new h told. calls.rename_done x old now new c.requires.narrow.good h told) in
    let p2 = g.S.Store.past c.sync_names.new.self in
    let told = since_call (may (g.S.Store.manners c.args.store.now)) p0 p1 p2 Told1 (calls.Stopping x x.bytes (draft_plan x.route.draft x.bytes) asked.SyncRename c.in-Err-sync_names.cause) (PlainAnswer SyncNames (Err c.in-Err-sync_names.cause)) r1 (subst (λ m. Answers (may m) p1 p2 (PlainAnswer SyncNames (Err c.in-Err-sync_names.cause))) q1 (c.in-Err-sync_names.ensures.told)) (λ old now new h told. calls.publish_err x old now new h c.in-Err-sync_names.cause told) in
    subst (λ (e : StepErr). Since p0 p2 (MoveLeaves x.rules x.route x.bytes (Err e))) (sym c.stopped-in-Err-sync_names.ensures) told
