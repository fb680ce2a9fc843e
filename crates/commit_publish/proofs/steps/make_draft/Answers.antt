use Rattle.std.proofs.Common.{ℕ, List, [], Ok, Err, sym, subst}
use Rattle.ice_store.specs.Since.{Since}
use Rattle.ice_store.specs.Calls.{CreateAnswer, IsUnmoved}
use Rattle.ice_store.specs.declared.history.Past.{Past}
use Rattle.ice_store.proofs.SinceLaws.{since_call, since_stands, since_start}
use Rattle.commit_publish.specs.Steps.{Exactly}
use Rattle.commit_publish.specs.Leaves.{MakeLeaves}
use Rattle.commit_publish.specs.declared.steps.PublishCall.TheVariants as asked
use Rattle.commit_publish.specs.declared.steps.StepErr.{StepErr}
use Rattle.commit_publish.proofs.CallLaws as calls
use Rattle.commit_publish.proofs.CallLaws.{RR, K0, KD, KT}
use Rattle.commit_publish.proofs.Working.{work}
use Rattle.commit_publish.proofs.steps.make_draft.Goals as goal

pub create-requires : goal.create-requires
create-requires g c =
    let x = work g.R.TableReading.content g.R.TableReading.localized (g.M.Manners.allows (g.S.Store.manners c.args.store.now)) c.args.route.now [] c.requires.mannered c.requires.aim in
    let may = g.M.Manners.allows in
    let p0 = g.S.Store.past c.args.store.now in
    let Told0 : Past → Past → Type 0 = RR x (Exactly []) (K0 x) in
    let r0 = since_start p0 (K0 x) Told0 c.requires.start (λ old here. calls.starts x (K0 x) old here) in
    since_stands (may (g.S.Store.manners c.args.store.now)) p0 p0 Told0 (λ d. IsUnmoved d.pending x.route.draft) r0 (λ old now reached h acted. calls.create_may x old now reached acted h)

pub returns-in-Err-clause-told : goal.returns-in-Err-clause-told
returns-in-Err-clause-told g c =
    let x = work g.R.TableReading.content g.R.TableReading.localized (g.M.Manners.allows (g.S.Store.manners c.args.store.now)) c.args.route.now [] c.requires.mannered c.requires.aim in
    let may = g.M.Manners.allows in
    let p0 = g.S.Store.past c.args.store.now in
    let Told0 : Past → Past → Type 0 = RR x (Exactly []) (K0 x) in
    let r0 = since_start p0 (K0 x) Told0 c.requires.start (λ old here. calls.starts x (K0 x) old here) in
    let p1 = g.S.Store.past c.create.new.self in
    let told = since_call (may (g.S.Store.manners c.args.store.now)) p0 p0 p1 Told0 (λ old new. (bytes : List ℕ) → calls.Stopping x bytes [] asked.Create c.in-Err.cause old new) (CreateAnswer x.route.draft (Err c.in-Err.cause)) r0 (c.in-Err.ensures.told) (λ old now new h told. λ bytes. calls.create_err x old now new bytes c.in-Err.cause h told) in
    subst (λ (e : StepErr). Since p0 p1 (MakeLeaves x.rules x.route (Err e))) (sym c.stopped.ensures) told

pub returns-in-Ok-clause-told : goal.returns-in-Ok-clause-told
returns-in-Ok-clause-told g c =
    let x = work g.R.TableReading.content g.R.TableReading.localized (g.M.Manners.allows (g.S.Store.manners c.args.store.now)) c.args.route.now [] c.requires.mannered c.requires.aim in
    let may = g.M.Manners.allows in
    let p0 = g.S.Store.past c.args.store.now in
    let Told0 : Past → Past → Type 0 = RR x (Exactly []) (K0 x) in
    let r0 = since_start p0 (K0 x) Told0 c.requires.start (λ old here. calls.starts x (K0 x) old here) in
    let p1 = g.S.Store.past c.create.new.self in
    since_call (may (g.S.Store.manners c.args.store.now)) p0 p0 p1 Told0 (MakeLeaves x.rules x.route (Ok c.in-Ok.made)) (CreateAnswer x.route.draft (Ok c.in-Ok.made)) r0 c.in-Ok.ensures.told
    (λ old now new h told. calls.create_ok x old now new c.in-Ok.made h told)
