use Rattle.std.proofs.Common.{Ok, Err, ◌∙◌, subst}
use Rattle.ice_store.specs.Since.{Since}
use Rattle.ice_store.specs.declared.history.StoreCall.TheVariants.{Take}
use Rattle.ice_store.specs.declared.store.Made.{Made}
use Rattle.ice_store.specs.declared.store.Moved.{Moved}
use Rattle.ice_store.specs.declared.store.Moved.TheVariants.{Done, Exists as There}
use Rattle.ice_store.proofs.SinceLaws.{since_then, since_turned}
use Rattle.commit_publish.specs.Leaves.{MakeLeaves, FillLeaves, MoveLeaves, DropLeaves, PublishLeaves}
use Rattle.commit_publish.specs.Steps.{step_of}
use Rattle.commit_publish.specs.declared.publish.PublishErr.TheVariants.{Contended, Stopped}
use Rattle.commit_publish.proofs.PublishLaws as laws
use Rattle.commit_publish.proofs.PublishLaws.{marks_from}
use Rattle.commit_publish.proofs.Working.{work}
use Rattle.commit_publish.proofs.publish.publish_steps.Goals as goal

pub returns-in-Ok-Exists-clause-halted : goal.returns-in-Ok-Exists-clause-halted
returns-in-Ok-Exists-clause-halted g c =
    c.in-Ok-Exists.ensures.halted c.args.bytes.now

pub returns-in-Err-clause-told : goal.returns-in-Err-clause-told
returns-in-Err-clause-told g c =
    let x = work g.R.TableReading.content g.R.TableReading.localized (g.M.Manners.allows (g.S.Store.manners c.args.store.now)) c.args.route.now c.args.bytes.now c.requires.mannered c.requires.aim in
    let p0 = g.S.Store.past c.args.store.now in
    let p1 = g.S.Store.past c.make_draft.new.store in
    since_turned p0 p1 (MakeLeaves x.rules x.route (Err c.in-Err.e)) (PublishLeaves x.rules x.route x.bytes (Err (Stopped c.in-Err.e))) c.in-Err.ensures.told (λ old new run. run x.bytes)

pub returns-in-Err-fill_draft-clause-told : goal.returns-in-Err-fill_draft-clause-told
returns-in-Err-fill_draft-clause-told g c =
    let x = work g.R.TableReading.content g.R.TableReading.localized (g.M.Manners.allows (g.S.Store.manners c.args.store.now)) c.args.route.now c.args.bytes.now c.requires.mannered c.requires.aim in
    let p0 = g.S.Store.past c.args.store.now in
    let p1 = g.S.Store.past c.make_draft.new.store in
    let t1 : Since p0 p1 (laws.Made x) = subst (λ (r : Made). Since p0 p1 (MakeLeaves x.rules x.route (Ok r))) c.in-Ok-New.field-0-is c.in-Ok-New.ensures.told in
    let m1 = c.make_draft.ensures.manners in
    let p2 = g.S.Store.past c.fill_draft.new.store in
    since_then p0 p1 p2 (laws.Made x) (FillLeaves x.rules x.route x.bytes (Err c.in-Err-fill_draft.e)) (PublishLeaves x.rules x.route x.bytes (Err (Stopped c.in-Err-fill_draft.e))) t1
    (subst (λ m. Since p1 p2 (FillLeaves (record x.rules { allows = g.M.Manners.allows m }) x.route x.bytes (Err c.in-Err-fill_draft.e))) m1 c.in-Err-fill_draft.ensures.told) (λ old mid new. laws.unfilled x old mid new c.in-Err-fill_draft.e)

pub returns-in-Err-fill_draft-clause-halted : goal.returns-in-Err-fill_draft-clause-halted
returns-in-Err-fill_draft-clause-halted g c =
    marks_from c.in-Err-fill_draft.e.cause (Take (step_of c.args.route.now.draft c.args.route.now.target c.args.bytes.now c.in-Err-fill_draft.e.call)) (g.S.Store.halted c.args.store.now) (g.S.Store.halted c.make_draft.new.store) (g.S.Store.halted c.fill_draft.new.store)
    (g.S.Store.past c.fill_draft.new.store) (c.in-Ok-New.ensures.halted c.args.bytes.now) c.in-Err-fill_draft.ensures.halted

pub returns-in-Ok-Done-clause-told : goal.returns-in-Ok-Done-clause-told
returns-in-Ok-Done-clause-told g c =
    let x = work g.R.TableReading.content g.R.TableReading.localized (g.M.Manners.allows (g.S.Store.manners c.args.store.now)) c.args.route.now c.args.bytes.now c.requires.mannered c.requires.aim in
    let p0 = g.S.Store.past c.args.store.now in
    let p1 = g.S.Store.past c.make_draft.new.store in
    let t1 : Since p0 p1 (laws.Made x) = subst (λ (r : Made). Since p0 p1 (MakeLeaves x.rules x.route (Ok r))) c.in-Ok-New.field-0-is c.in-Ok-New.ensures.told in
    let m1 = c.make_draft.ensures.manners in
    let p2 = g.S.Store.past c.fill_draft.new.store in
    let t2 : Since p0 p2 (laws.Written x) = since_then p0 p1 p2 (laws.Made x) (FillLeaves x.rules x.route x.bytes (Ok tt)) (laws.Written x) t1
    (subst (λ m. Since p1 p2 (FillLeaves (record x.rules { allows = g.M.Manners.allows m }) x.route x.bytes (Ok tt))) m1 c.in_default.ensures.told) (laws.written x) in
    let m2 = c.fill_draft.ensures.manners ∙ m1 in
    let p3 = g.S.Store.past c.move_draft.new.store in
    let moved : Since p2 p3 (MoveLeaves x.rules x.route x.bytes (Ok Done)) = subst (λ m. Since p2 p3 (MoveLeaves (record x.rules { allows = g.M.Manners.allows m }) x.route x.bytes (Ok Done))) m2
    (subst (λ (r : Moved). Since p2 p3 (MoveLeaves (record x.rules { allows = g.M.Manners.allows (g.S.Store.manners c.fill_draft.new.store) }) x.route x.bytes (Ok r))) c.in-Ok-Done.field-0-is c.in-Ok-Done.ensures.told) in
    since_then p0 p2 p3 (laws.Written x) (MoveLeaves x.rules x.route x.bytes (Ok Done)) (PublishLeaves x.rules x.route x.bytes (Ok tt)) t2 moved (laws.published x)

pub returns-in-Ok-Done-clause-halted : goal.returns-in-Ok-Done-clause-halted
returns-in-Ok-Done-clause-halted g c =
    c.in-Ok-Done.ensures.halted ∙ c.in_default.ensures.halted ∙ c.in-Ok-New.ensures.halted c.args.bytes.now

pub returns-in-Err-move_draft-clause-told : goal.returns-in-Err-move_draft-clause-told
returns-in-Err-move_draft-clause-told g c =
    let x = work g.R.TableReading.content g.R.TableReading.localized (g.M.Manners.allows (g.S.Store.manners c.args.store.now)) c.args.route.now c.args.bytes.now c.requires.mannered c.requires.aim in
    let p0 = g.S.Store.past c.args.store.now in
    let p1 = g.S.Store.past c.make_draft.new.store in
    let t1 : Since p0 p1 (laws.Made x) = subst (λ (r : Made). Since p0 p1 (MakeLeaves x.rules x.route (Ok r))) c.in-Ok-New.field-0-is c.in-Ok-New.ensures.told in
    let m1 = c.make_draft.ensures.manners in
    let p2 = g.S.Store.past c.fill_draft.new.store in
    let t2 : Since p0 p2 (laws.Written x) = since_then p0 p1 p2 (laws.Made x) (FillLeaves x.rules x.route x.bytes (Ok tt)) (laws.Written x) t1
    (subst (λ m. Since p1 p2 (FillLeaves (record x.rules { allows = g.M.Manners.allows m }) x.route x.bytes (Ok tt))) m1 c.in_default.ensures.told) (laws.written x) in
    let m2 = c.fill_draft.ensures.manners ∙ m1 in
    let p3 = g.S.Store.past c.move_draft.new.store in
    since_then p0 p2 p3 (laws.Written x) (MoveLeaves x.rules x.route x.bytes (Err c.in-Err-move_draft.e)) (PublishLeaves x.rules x.route x.bytes (Err (Stopped c.in-Err-move_draft.e))) t2
    (subst (λ m. Since p2 p3 (MoveLeaves (record x.rules { allows = g.M.Manners.allows m }) x.route x.bytes (Err c.in-Err-move_draft.e))) m2 c.in-Err-move_draft.ensures.told) (λ old mid new. laws.unmoved x old mid new c.in-Err-move_draft.e)

pub returns-in-Err-move_draft-clause-halted : goal.returns-in-Err-move_draft-clause-halted
returns-in-Err-move_draft-clause-halted g c =
    marks_from c.in-Err-move_draft.e.cause (Take (step_of c.args.route.now.draft c.args.route.now.target c.args.bytes.now c.in-Err-move_draft.e.call)) (g.S.Store.halted c.args.store.now) (g.S.Store.halted c.fill_draft.new.store) (g.S.Store.halted c.move_draft.new.store)
    (g.S.Store.past c.move_draft.new.store) (c.in_default.ensures.halted ∙ c.in-Ok-New.ensures.halted c.args.bytes.now) c.in-Err-move_draft.ensures.halted

pub returns-in-Ok-clause-told : goal.returns-in-Ok-clause-told
returns-in-Ok-clause-told g c =
    let x = work g.R.TableReading.content g.R.TableReading.localized (g.M.Manners.allows (g.S.Store.manners c.args.store.now)) c.args.route.now c.args.bytes.now c.requires.mannered c.requires.aim in
    let p0 = g.S.Store.past c.args.store.now in
    let p1 = g.S.Store.past c.make_draft.new.store in
    let t1 : Since p0 p1 (laws.Made x) = subst (λ (r : Made). Since p0 p1 (MakeLeaves x.rules x.route (Ok r))) c.in-Ok-New.field-0-is c.in-Ok-New.ensures.told in
    let m1 = c.make_draft.ensures.manners in
    let p2 = g.S.Store.past c.fill_draft.new.store in
    let t2 : Since p0 p2 (laws.Written x) = since_then p0 p1 p2 (laws.Made x) (FillLeaves x.rules x.route x.bytes (Ok tt)) (laws.Written x) t1
    (subst (λ m. Since p1 p2 (FillLeaves (record x.rules { allows = g.M.Manners.allows m }) x.route x.bytes (Ok tt))) m1 c.in_default.ensures.told) (laws.written x) in
    let m2 = c.fill_draft.ensures.manners ∙ m1 in
    let p3 = g.S.Store.past c.move_draft.new.store in
    let moved : Since p2 p3 (MoveLeaves x.rules x.route x.bytes (Ok There)) = subst (λ m. Since p2 p3 (MoveLeaves (record x.rules { allows = g.M.Manners.allows m }) x.route x.bytes (Ok There))) m2
    (subst (λ (r : Moved). Since p2 p3 (MoveLeaves (record x.rules { allows = g.M.Manners.allows (g.S.Store.manners c.fill_draft.new.store) }) x.route x.bytes (Ok r))) c.in-Ok-Exists-move_draft.field-0-is c.in-Ok-Exists-move_draft.ensures.told) in
    let t3 : Since p0 p3 (laws.Beaten x) = since_then p0 p2 p3 (laws.Written x) (MoveLeaves x.rules x.route x.bytes (Ok There)) (laws.Beaten x) t2 moved (laws.beaten x) in
    let m3 = c.move_draft.ensures.manners ∙ m2 in
    let p4 = g.S.Store.past c.drop_draft.new.store in
    since_then p0 p3 p4 (laws.Beaten x) (DropLeaves x.rules x.route x.bytes (Ok tt)) (PublishLeaves x.rules x.route x.bytes (Err Contended)) t3
    (subst (λ m. Since p3 p4 (DropLeaves (record x.rules { allows = g.M.Manners.allows m }) x.route x.bytes (Ok tt))) m3 c.in-Ok.ensures.told) (laws.lost x)

pub returns-in-Ok-clause-halted : goal.returns-in-Ok-clause-halted
returns-in-Ok-clause-halted g c =
    c.in-Ok.ensures.halted ∙ c.in-Ok-Exists-move_draft.ensures.halted ∙ c.in_default.ensures.halted ∙ c.in-Ok-New.ensures.halted c.args.bytes.now

pub returns-in-Err-drop_draft-clause-told : goal.returns-in-Err-drop_draft-clause-told
returns-in-Err-drop_draft-clause-told g c =
    let x = work g.R.TableReading.content g.R.TableReading.localized (g.M.Manners.allows (g.S.Store.manners c.args.store.now)) c.args.route.now c.args.bytes.now c.requires.mannered c.requires.aim in
    let p0 = g.S.Store.past c.args.store.now in
    let p1 = g.S.Store.past c.make_draft.new.store in
    let t1 : Since p0 p1 (laws.Made x) = subst (λ (r : Made). Since p0 p1 (MakeLeaves x.rules x.route (Ok r))) c.in-Ok-New.field-0-is c.in-Ok-New.ensures.told in
    let m1 = c.make_draft.ensures.manners in
    let p2 = g.S.Store.past c.fill_draft.new.store in
    let t2 : Since p0 p2 (laws.Written x) = since_then p0 p1 p2 (laws.Made x) (FillLeaves x.rules x.route x.bytes (Ok tt)) (laws.Written x) t1
    (subst (λ m. Since p1 p2 (FillLeaves (record x.rules { allows = g.M.Manners.allows m }) x.route x.bytes (Ok tt))) m1 c.in_default.ensures.told) (laws.written x) in
    let m2 = c.fill_draft.ensures.manners ∙ m1 in
    let p3 = g.S.Store.past c.move_draft.new.store in
    let moved : Since p2 p3 (MoveLeaves x.rules x.route x.bytes (Ok There)) = subst (λ m. Since p2 p3 (MoveLeaves (record x.rules { allows = g.M.Manners.allows m }) x.route x.bytes (Ok There))) m2
    (subst (λ (r : Moved). Since p2 p3 (MoveLeaves (record x.rules { allows = g.M.Manners.allows (g.S.Store.manners c.fill_draft.new.store) }) x.route x.bytes (Ok r))) c.in-Ok-Exists-move_draft.field-0-is c.in-Ok-Exists-move_draft.ensures.told) in
    let t3 : Since p0 p3 (laws.Beaten x) = since_then p0 p2 p3 (laws.Written x) (MoveLeaves x.rules x.route x.bytes (Ok There)) (laws.Beaten x) t2 moved (laws.beaten x) in
    let m3 = c.move_draft.ensures.manners ∙ m2 in
    let p4 = g.S.Store.past c.drop_draft.new.store in
    since_then p0 p3 p4 (laws.Beaten x) (DropLeaves x.rules x.route x.bytes (Err c.in-Err-drop_draft.e)) (PublishLeaves x.rules x.route x.bytes (Err (Stopped c.in-Err-drop_draft.e))) t3
    (subst (λ m. Since p3 p4 (DropLeaves (record x.rules { allows = g.M.Manners.allows m }) x.route x.bytes (Err c.in-Err-drop_draft.e))) m3 c.in-Err-drop_draft.ensures.told) (λ old mid new. laws.undropped x old mid new c.in-Err-drop_draft.e)

pub returns-in-Err-drop_draft-clause-halted : goal.returns-in-Err-drop_draft-clause-halted
returns-in-Err-drop_draft-clause-halted g c =
    marks_from c.in-Err-drop_draft.e.cause (Take (step_of c.args.route.now.draft c.args.route.now.target c.args.bytes.now c.in-Err-drop_draft.e.call)) (g.S.Store.halted c.args.store.now) (g.S.Store.halted c.move_draft.new.store) (g.S.Store.halted c.drop_draft.new.store)
    (g.S.Store.past c.drop_draft.new.store) (c.in-Ok-Exists-move_draft.ensures.halted ∙ c.in_default.ensures.halted ∙ c.in-Ok-New.ensures.halted c.args.bytes.now) c.in-Err-drop_draft.ensures.halted
