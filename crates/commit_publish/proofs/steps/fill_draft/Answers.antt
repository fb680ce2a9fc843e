use Rattle.std.proofs.Common.{◌≡◌, [], ◌∷◌, true, false, Ok, Err, sym, ◌∙◌, subst}
use Rattle.ice_store.specs.Since.{Since}
use Rattle.ice_store.specs.Others.{Stands, Answers}
use Rattle.ice_store.specs.Calls.{AppendAnswer, PlainAnswer, IsOpen}
use Rattle.ice_store.specs.declared.history.Past.{Past}
use Rattle.ice_store.specs.declared.history.Step.TheVariants.{Create, Append, Seal, SyncNames}
use Rattle.ice_store.proofs.SinceLaws.{since_call, since_stands, since_start}
use Rattle.commit_publish.specs.Stages.{Creating, AtRest}
use Rattle.commit_publish.specs.Steps.{Exactly, draft_plan}
use Rattle.commit_publish.specs.Leaves.{FillLeaves}
use Rattle.commit_publish.specs.declared.steps.StepErr.{StepErr}
use Rattle.commit_publish.specs.declared.steps.PublishCall.TheVariants as asked
use Rattle.commit_publish.proofs.CallLaws as calls
use Rattle.commit_publish.proofs.CallLaws.{RR, K0, KD, KT}
use Rattle.commit_publish.proofs.Working.{work}
use Rattle.commit_publish.proofs.steps.fill_draft.Goals as goal

pub append-requires : goal.append-requires
append-requires g c =
    let x = work g.R.TableReading.content g.R.TableReading.localized (g.M.Manners.allows (g.S.Store.manners c.args.store.now)) c.args.route.now c.args.bytes.now c.requires.mannered c.requires.aim in
    let may = g.M.Manners.allows in
    let p0 = g.S.Store.past c.args.store.now in
    let Told0 : Past → Past → Type 0 = RR x (Exactly []) (KD x Creating false []) in
    let r0 = since_start p0 (KD x Creating false []) Told0 c.requires.start (λ old here. calls.starts x (KD x Creating false []) old here) in
    since_stands (may (g.S.Store.manners c.args.store.now)) p0 p0 Told0 (λ d. IsOpen d x.route.draft) r0 (λ old now reached h acted. calls.open_may x old now reached acted [] [] h)

pub seal-requires : goal.seal-requires
seal-requires g c =
    let x = work g.R.TableReading.content g.R.TableReading.localized (g.M.Manners.allows (g.S.Store.manners c.args.store.now)) c.args.route.now c.args.bytes.now c.requires.mannered c.requires.aim in
    let may = g.M.Manners.allows in
    let p0 = g.S.Store.past c.args.store.now in
    let Told0 : Past → Past → Type 0 = RR x (Exactly []) (KD x Creating false []) in
    let r0 = since_start p0 (KD x Creating false []) Told0 c.requires.start (λ old here. calls.starts x (KD x Creating false []) old here) in
    let p1 = g.S.Store.past c.append.new.self in
    let q1 = c.append.ensures.manners in
    let Told1 : Past → Past → Type 0 = RR x (Exactly (Append x.route.draft x.bytes ∷ [])) (KD x Creating false x.bytes) in
    let r1 = since_call (may (g.S.Store.manners c.args.store.now)) p0 p0 p1 Told0 Told1 (AppendAnswer x.route.draft x.bytes (Ok tt)) r0 (c.in-Ok.ensures.told) (λ old now new h told. calls.append_ok x old now new h told) in
    subst (λ m. Stands (may m) p1 (λ d. IsOpen d x.route.draft)) (sym q1) (since_stands (may (g.S.Store.manners c.args.store.now)) p0 p1 Told1 (λ d. IsOpen d x.route.draft) r1 (λ old now reached h acted. calls.open_may x old now reached acted (Append x.route.draft x.bytes ∷ []) x.bytes h))

pub returns-in-Err-clause-told : goal.returns-in-Err-clause-told
returns-in-Err-clause-told g c =
    let x = work g.R.TableReading.content g.R.TableReading.localized (g.M.Manners.allows (g.S.Store.manners c.args.store.now)) c.args.route.now c.args.bytes.now c.requires.mannered c.requires.aim in
    let may = g.M.Manners.allows in
    let p0 = g.S.Store.past c.args.store.now in
    let Told0 : Past → Past → Type 0 = RR x (Exactly []) (KD x Creating false []) in
    let r0 = since_start p0 (KD x Creating false []) Told0 c.requires.start (λ old here. calls.starts x (KD x Creating false []) old here) in
    let p1 = g.S.Store.past c.append.new.self in
    let told = since_call (may (g.S.Store.manners c.args.store.now)) p0 p0 p1 Told0 (calls.Stopping x x.bytes (Create x.route.draft ∷ []) asked.Append c.in-Err.cause) (AppendAnswer x.route.draft x.bytes (Err c.in-Err.cause)) r0 (c.in-Err.ensures.told) (λ old now new h told. calls.append_err x old now new h c.in-Err.cause told) in
    subst (λ (e : StepErr). Since p0 p1 (FillLeaves x.rules x.route x.bytes (Err e))) (sym c.stopped.ensures) told

pub returns-in-Err-seal-clause-told : goal.returns-in-Err-seal-clause-told
returns-in-Err-seal-clause-told g c =
    let x = work g.R.TableReading.content g.R.TableReading.localized (g.M.Manners.allows (g.S.Store.manners c.args.store.now)) c.args.route.now c.args.bytes.now c.requires.mannered c.requires.aim in
    let may = g.M.Manners.allows in
    let p0 = g.S.Store.past c.args.store.now in
    let Told0 : Past → Past → Type 0 = RR x (Exactly []) (KD x Creating false []) in
    let r0 = since_start p0 (KD x Creating false []) Told0 c.requires.start (λ old here. calls.starts x (KD x Creating false []) old here) in
    let p1 = g.S.Store.past c.append.new.self in
    let q1 = c.append.ensures.manners in
    let Told1 : Past → Past → Type 0 = RR x (Exactly (Append x.route.draft x.bytes ∷ [])) (KD x Creating false x.bytes) in
    let r1 = since_call (may (g.S.Store.manners c.args.store.now)) p0 p0 p1 Told0 Told1 (AppendAnswer x.route.draft x.bytes (Ok tt)) r0 (c.in-Ok.ensures.told) (λ old now new h told. calls.append_ok x old now new h told) in
    let p2 = g.S.Store.past c.seal.new.self in
    let told = since_call (may (g.S.Store.manners c.args.store.now)) p0 p1 p2 Told1 (calls.Stopping x x.bytes (Create x.route.draft ∷ []) asked.Seal c.in-Err-seal.cause) (PlainAnswer (Seal x.route.draft) (Err c.in-Err-seal.cause)) r1 (subst (λ m. Answers (may m) p1 p2 (PlainAnswer (Seal x.route.draft) (Err c.in-Err-seal.cause))) q1 (c.in-Err-seal.ensures.told)) (λ old now new h told. calls.seal_err x old now new h c.in-Err-seal.cause told) in
    subst (λ (e : StepErr). Since p0 p2 (FillLeaves x.rules x.route x.bytes (Err e))) (sym c.stopped-in-Err-seal.ensures) told

pub returns-in-Ok-sync_names-clause-told : goal.returns-in-Ok-sync_names-clause-told
returns-in-Ok-sync_names-clause-told g c =
    let x = work g.R.TableReading.content g.R.TableReading.localized (g.M.Manners.allows (g.S.Store.manners c.args.store.now)) c.args.route.now c.args.bytes.now c.requires.mannered c.requires.aim in
    let may = g.M.Manners.allows in
    let p0 = g.S.Store.past c.args.store.now in
    let Told0 : Past → Past → Type 0 = RR x (Exactly []) (KD x Creating false []) in
    let r0 = since_start p0 (KD x Creating false []) Told0 c.requires.start (λ old here. calls.starts x (KD x Creating false []) old here) in
    let p1 = g.S.Store.past c.append.new.self in
    let q1 = c.append.ensures.manners in
    let Told1 : Past → Past → Type 0 = RR x (Exactly (Append x.route.draft x.bytes ∷ [])) (KD x Creating false x.bytes) in
    let r1 = since_call (may (g.S.Store.manners c.args.store.now)) p0 p0 p1 Told0 Told1 (AppendAnswer x.route.draft x.bytes (Ok tt)) r0 (c.in-Ok.ensures.told) (λ old now new h told. calls.append_ok x old now new h told) in
    let p2 = g.S.Store.past c.seal.new.self in
    let q2 = c.seal.ensures.manners ∙ q1 in
    let Told2 : Past → Past → Type 0 = RR x (Exactly (Append x.route.draft x.bytes ∷ Seal x.route.draft ∷ [])) (KD x Creating true x.bytes) in
    let r2 = since_call (may (g.S.Store.manners c.args.store.now)) p0 p1 p2 Told1 Told2 (PlainAnswer (Seal x.route.draft) (Ok tt)) r1 ((subst (λ m. Answers (may m) p1 p2 (PlainAnswer (Seal x.route.draft) (Ok tt))) q1 (c.in-Ok-seal.ensures.told))) (λ old now new h told. calls.seal_ok x old now new h told) in
    let p3 = g.S.Store.past c.sync_names.new.self in
    since_call (may (g.S.Store.manners c.args.store.now)) p0 p2 p3 Told2 (RR x (λ steps. Create x.route.draft ∷ steps ≡ draft_plan x.route.draft x.bytes) (KD x AtRest true x.bytes)) (PlainAnswer SyncNames (Ok tt)) r2 (subst (λ m. Answers (may m) p2 p3 (PlainAnswer SyncNames (Ok tt))) q2 (c.in-Ok-sync_names.ensures.told)) (λ old now new h told. calls.filled x old now new h told)

pub returns-in-Err-sync_names-clause-told : goal.returns-in-Err-sync_names-clause-told
returns-in-Err-sync_names-clause-told g c =
    let x = work g.R.TableReading.content g.R.TableReading.localized (g.M.Manners.allows (g.S.Store.manners c.args.store.now)) c.args.route.now c.args.bytes.now c.requires.mannered c.requires.aim in
    let may = g.M.Manners.allows in
    let p0 = g.S.Store.past c.args.store.now in
    let Told0 : Past → Past → Type 0 = RR x (Exactly []) (KD x Creating false []) in
    let r0 = since_start p0 (KD x Creating false []) Told0 c.requires.start (λ old here. calls.starts x (KD x Creating false []) old here) in
    let p1 = g.S.Store.past c.append.new.self in
    let q1 = c.append.ensures.manners in
    let Told1 : Past → Past → Type 0 = RR x (Exactly (Append x.route.draft x.bytes ∷ [])) (KD x Creating false x.bytes) in
    let r1 = since_call (may (g.S.Store.manners c.args.store.now)) p0 p0 p1 Told0 Told1 (AppendAnswer x.route.draft x.bytes (Ok tt)) r0 (c.in-Ok.ensures.told) (λ old now new h told. calls.append_ok x old now new h told) in
    let p2 = g.S.Store.past c.seal.new.self in
    let q2 = c.seal.ensures.manners ∙ q1 in
    let Told2 : Past → Past → Type 0 = RR x (Exactly (Append x.route.draft x.bytes ∷ Seal x.route.draft ∷ [])) (KD x Creating true x.bytes) in
    let r2 = since_call (may (g.S.Store.manners c.args.store.now)) p0 p1 p2 Told1 Told2 (PlainAnswer (Seal x.route.draft) (Ok tt)) r1 ((subst (λ m. Answers (may m) p1 p2 (PlainAnswer (Seal x.route.draft) (Ok tt))) q1 (c.in-Ok-seal.ensures.told))) (λ old now new h told. calls.seal_ok x old now new h told) in
    let p3 = g.S.Store.past c.sync_names.new.self in
    let told = since_call (may (g.S.Store.manners c.args.store.now)) p0 p2 p3 Told2 (calls.Stopping x x.bytes (Create x.route.draft ∷ []) asked.SyncDraft c.in-Err-sync_names.cause) (PlainAnswer SyncNames (Err c.in-Err-sync_names.cause)) r2 (subst (λ m. Answers (may m) p2 p3 (PlainAnswer SyncNames (Err c.in-Err-sync_names.cause))) q2 (c.in-Err-sync_names.ensures.told)) (λ old now new h told. calls.sync_err x old now new h c.in-Err-sync_names.cause told) in
    subst (λ (e : StepErr). Since p0 p3 (FillLeaves x.rules x.route x.bytes (Err e))) (sym c.stopped-in-Err-sync_names.ensures) told
