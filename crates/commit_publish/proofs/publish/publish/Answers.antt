use Rattle.std.proofs.Common.{Err}
use Rattle.ice_store.specs.declared.store.StoreErr.TheVariants.{Memory}
use Rattle.ice_store.proofs.SinceLaws.{since_start}
use Rattle.commit_publish.specs.Leaves.{PublishLeaves}
use Rattle.commit_publish.specs.declared.steps.PublishCall.TheVariants as asked
use Rattle.commit_publish.specs.declared.publish.PublishErr.TheVariants.{Stopped}
use Rattle.commit_publish.proofs.CallLaws.{K0}
use Rattle.commit_publish.proofs.LeftLaws.{publish_left}
use Rattle.commit_publish.proofs.PublishLaws as laws
use Rattle.commit_publish.proofs.Working.{work}
use Rattle.commit_publish.proofs.publish.publish.Goals as goal

pub returns-in_default-clause-told : goal.returns-in_default-clause-told
returns-in_default-clause-told g c =
    let x = work g.R.TableReading.content g.R.TableReading.localized (g.M.Manners.allows (g.S.Store.manners c.args.store.now)) c.args.route.now c.args.bytes.now c.requires.mannered c.requires.aim in
    let p0 = g.S.Store.past c.args.store.now in
    since_start p0 (K0 x) (PublishLeaves x.rules x.route x.bytes (Err (Stopped (record { call = asked.Create; cause = Memory })))) c.requires.start (laws.unbegun x)

pub returns-then-is_err-clause-told : goal.returns-then-is_err-clause-told
returns-then-is_err-clause-told g c =
    let x = work g.R.TableReading.content g.R.TableReading.localized (g.M.Manners.allows (g.S.Store.manners c.args.store.now)) c.args.route.now c.args.bytes.now c.requires.mannered c.requires.aim in
    let p0 = g.S.Store.past c.args.store.now in
    since_start p0 (K0 x) (PublishLeaves x.rules x.route x.bytes (Err (Stopped (record { call = asked.Create; cause = Memory })))) c.requires.start (laws.unbegun x)

pub returns-clause-noted : goal.returns-clause-noted
returns-clause-noted g c =
    let x = work g.R.TableReading.content g.R.TableReading.localized (g.M.Manners.allows (g.S.Store.manners c.args.store.now)) c.args.route.now c.args.bytes.now c.requires.mannered c.requires.aim in
    let s0 = c.args.store.now in
    let s1 = c.publish_steps-outcome.new.store in
    publish_left x (g.S.Store.faults s0) (g.S.Store.faults s1) (g.S.Store.halted s0) (g.S.Store.halted s1) (g.S.Store.past s0) (g.S.Store.past s1) c.args.version c.publish_steps-outcome.result
    c.publish_steps-outcome.ensures.cause c.publish_steps-outcome.ensures.halted c.publish_steps-outcome.ensures.told
