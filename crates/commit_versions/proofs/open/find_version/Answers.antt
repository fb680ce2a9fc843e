use Rattle.std.proofs.Common.{[], ◌∷◌, ◌++◌, Ok, Err, ◌∙◌, subst}
use Rattle.std.specs.Prelude.{IfOk}
use Rattle.ice_store.specs.Places.{Parts}
use Rattle.ice_store.specs.Others.{Answers}
use Rattle.ice_store.specs.Calls.{NamesAnswer}
use Rattle.ice_store.specs.declared.history.Past.{Past}
use Rattle.ice_store.proofs.SinceLaws.{since_call, since_start}
use Rattle.commit_history.specs.Versions.{number_in, folder}
use Rattle.commit_history.proofs.Numbering.{numbering}
use Rattle.commit_history.proofs.ListingLaws.{inside}
use Rattle.commit_publish.specs.Steps.{Exactly, Anything}
use Rattle.commit_history.specs.Readings.{rules_of}
use Rattle.commit_versions.specs.Opening.{FindLeaves}
use Rattle.commit_versions.specs.Latest.{IsFound}
use Rattle.commit_versions.proofs.OpenLaws as laws
use Rattle.commit_versions.proofs.open.find_version.Goals as goal

pub returns-in-Ok-clause-told : goal.returns-in-Ok-clause-told
returns-in-Ok-clause-told g c =
    let t = c.args.table.now in
    let number = number_in t in
    let allows = g.M.Manners.allows (g.S.Store.manners c.args.store.now) in
    let rules = rules_of g.R.TableReading.content t allows in
    let ruled = numbering t in
    let localized = g.R.TableReading.localized t in
    let mannered = c.requires.mannered in
    let p0 = g.S.Store.past c.args.store.now in
    let p1 = g.S.Store.past c.names.new.self in
    let KC = laws.KC rules ruled localized mannered in
    let Told0 : Past → Past → Type 0 = laws.RR rules ruled localized mannered (Exactly []) KC in
    let r0 = since_start p0 KC Told0 c.requires.start (λ old here. laws.starts rules ruled localized mannered KC old here) in
    let dir = t ++ folder ∷ [] in
    let told = subst (λ (d : Parts). Answers allows p0 p1 (NamesAnswer d (Ok c.in-Ok.listed))) c.requires.dir c.in-Ok.ensures.told in
    since_call allows p0 p0 p1 Told0 (FindLeaves rules c.found_in.result) (NamesAnswer dir (Ok c.in-Ok.listed)) r0 told
    (λ old now new h told. laws.find_by rules ruled localized mannered dir (inside t) c.in-Ok.listed c.found_in.result (subst (λ l. IfOk c.found_in.result (IsFound number l)) (c.deref.ensures.value ∙ c.inner.ensures) c.found_in.ensures.found) old now new h told)

pub returns-in-Err-clause-told : goal.returns-in-Err-clause-told
returns-in-Err-clause-told g c =
    let t = c.args.table.now in
    let number = number_in t in
    let allows = g.M.Manners.allows (g.S.Store.manners c.args.store.now) in
    let rules = rules_of g.R.TableReading.content t allows in
    let ruled = numbering t in
    let localized = g.R.TableReading.localized t in
    let mannered = c.requires.mannered in
    let p0 = g.S.Store.past c.args.store.now in
    let p1 = g.S.Store.past c.names.new.self in
    let KC = laws.KC rules ruled localized mannered in
    let Told0 : Past → Past → Type 0 = laws.RR rules ruled localized mannered (Exactly []) KC in
    let r0 = since_start p0 KC Told0 c.requires.start (λ old here. laws.starts rules ruled localized mannered KC old here) in
    since_call allows p0 p0 p1 Told0 (laws.RR rules ruled localized mannered (Exactly []) Anything) (NamesAnswer c.args.dir.now (Err c.in-Err.e)) r0 c.in-Err.ensures.told
    (λ old now new h told. laws.names_err rules ruled localized mannered c.args.dir.now c.in-Err.e old now new h told)
