use Rattle.std.proofs.Common.{[], Ok, subst}
use Rattle.ice_store.specs.Since.{Since}
use Rattle.ice_store.proofs.SinceLaws.{since_start, since_then, since_where}
use Rattle.commit_history.specs.Versions.{number_in}
use Rattle.commit_history.proofs.Numbering.{numbering}
use Rattle.commit_publish.specs.Steps.{Exactly, Anything}
use Rattle.commit_history.specs.Readings.{rules_of}
use Rattle.commit_versions.specs.Opening.{OpenLeaves}
use Rattle.commit_versions.proofs.OpenLaws as laws
use Rattle.commit_versions.specs.Opening.{FoundLeaves, FoundStage}
use Rattle.commit_versions.proofs.open.open_version.Goals as goal

pub returns-in_default-clause-told : goal.returns-in_default-clause-told
returns-in_default-clause-told g c =
    let t = c.args.table.now in
    let number = number_in t in
    let allows = g.M.Manners.allows (g.S.Store.manners c.args.store.now) in
    let rules = rules_of g.R.TableReading.content t allows in
    let ruled = numbering t in
    let localized = g.R.TableReading.localized t in
    let mannered = c.requires.mannered in
    let p0 = g.S.Store.past c.args.store.now in
    let KC = laws.KC rules ruled localized mannered in
    since_start p0 KC (laws.RR rules ruled localized mannered (Exactly []) Anything) c.requires.start (λ old here. laws.forget rules ruled localized mannered KC old old (laws.starts rules ruled localized mannered KC old here))

pub returns-in_default-metadata_folder-clause-told : goal.returns-in_default-metadata_folder-clause-told
returns-in_default-metadata_folder-clause-told g c =
    let t = c.args.table.now in
    let number = number_in t in
    let allows = g.M.Manners.allows (g.S.Store.manners c.args.store.now) in
    let rules = rules_of g.R.TableReading.content t allows in
    let ruled = numbering t in
    let localized = g.R.TableReading.localized t in
    let mannered = c.requires.mannered in
    let p0 = g.S.Store.past c.args.store.now in
    let KC = laws.KC rules ruled localized mannered in
    since_start p0 KC (laws.RR rules ruled localized mannered (Exactly []) Anything) c.requires.start (λ old here. laws.forget rules ruled localized mannered KC old old (laws.starts rules ruled localized mannered KC old here))

pub open_found-requires-clause-start : goal.open_found-requires-clause-start
open_found-requires-clause-start g c =
    let t = c.args.table.now in
    let number = number_in t in
    let allows = g.M.Manners.allows (g.S.Store.manners c.args.store.now) in
    let rules = rules_of g.R.TableReading.content t allows in
    let ruled = numbering t in
    let localized = g.R.TableReading.localized t in
    let mannered = c.requires.mannered in
    let p0 = g.S.Store.past c.args.store.now in
    let p1 = g.S.Store.past c.find_version.new.store in
    let found = c.in-Ok-find_version.found in
    let Found_ = laws.Found_ rules ruled localized mannered in
    let told : Since p0 p1 (Found_ (Ok found)) = c.in-Ok-find_version.ensures.told in
    since_where p0 p1 (Found_ (Ok found)) (FoundStage number found) told (λ old now h. laws.stage_of rules ruled localized mannered found old now h)

pub returns-in-Ok-find_version-clause-told : goal.returns-in-Ok-find_version-clause-told
returns-in-Ok-find_version-clause-told g c =
    let t = c.args.table.now in
    let number = number_in t in
    let allows = g.M.Manners.allows (g.S.Store.manners c.args.store.now) in
    let rules = rules_of g.R.TableReading.content t allows in
    let ruled = numbering t in
    let localized = g.R.TableReading.localized t in
    let mannered = c.requires.mannered in
    let p0 = g.S.Store.past c.args.store.now in
    let p1 = g.S.Store.past c.find_version.new.store in
    let found = c.in-Ok-find_version.found in
    let Found_ = laws.Found_ rules ruled localized mannered in
    let told : Since p0 p1 (Found_ (Ok found)) = c.in-Ok-find_version.ensures.told in
    let p2 = g.S.Store.past c.open_found.new.store in
    since_then p0 p1 p2 (Found_ (Ok found)) (FoundLeaves rules t found c.open_found.result) (OpenLeaves rules t c.open_found.result) told
    (subst (λ m. Since p1 p2 (FoundLeaves (rules_of g.R.TableReading.content t (g.M.Manners.allows m)) t found c.open_found.result)) c.find_version.ensures.manners c.open_found.ensures.told)
    (λ old mid new a b. laws.found_then rules ruled localized mannered t found c.open_found.result old mid new a b)
