use Rattle.std.proofs.Common.{◌≡◌, [], false, Ok, refl, subst}
use Rattle.ice_store.specs.Files.{is_named}
use Rattle.ice_store.specs.Since.{Since}
use Rattle.ice_store.proofs.SinceLaws.{since_turned}
use Rattle.commit_history.specs.Versions.{number_in}
use Rattle.commit_history.proofs.Numbering.{numbering}
use Rattle.commit_publish.specs.Stages.{InState}
use Rattle.commit_publish.specs.Steps.{Exactly}
use Rattle.commit_history.specs.Readings.{rules_of}
use Rattle.commit_versions.specs.Opening.{IsText, IsLong, ReadLeaves}
use Rattle.commit_versions.specs.declared.types.VersionFile.{VersionFile}
use Rattle.commit_versions.specs.declared.types.VersionFile.TheVariants.{Whole, TooLong, Absent}
use Rattle.commit_versions.proofs.OpenLaws as laws
use Rattle.commit_versions.proofs.open.read_opened.Goals as goal

pub returns-in-Ok-Whole-clause-told : goal.returns-in-Ok-Whole-clause-told
returns-in-Ok-Whole-clause-told g c =
    let t = c.args.table.now in
    let number = number_in t in
    let allows = g.M.Manners.allows (g.S.Store.manners c.args.store.now) in
    let rules = rules_of g.R.TableReading.content t allows in
    let ruled = numbering t in
    let localized = g.R.TableReading.localized t in
    let mannered = c.requires.mannered in
    let p0 = g.S.Store.past c.args.store.now in
    let base = c.args.place in
    let p1 = g.S.Store.past c.read_version.new.store in
    let RT = ReadLeaves rules base in
    let told = subst (λ (r : VersionFile). Since p0 p1 (RT (Ok r))) c.in-Ok-Whole.field-0-is c.in-Ok-Whole.ensures.told in
    since_turned p0 p1 (RT (Ok (Whole c.in-Ok-Whole.text))) (λ old now. (base ≡ base) × IsText rules base c.in-Ok-Whole.text old now) told (λ old now h. (refl, h))

pub returns-in-Ok-TooLong-clause-told : goal.returns-in-Ok-TooLong-clause-told
returns-in-Ok-TooLong-clause-told g c =
    let t = c.args.table.now in
    let number = number_in t in
    let allows = g.M.Manners.allows (g.S.Store.manners c.args.store.now) in
    let rules = rules_of g.R.TableReading.content t allows in
    let ruled = numbering t in
    let localized = g.R.TableReading.localized t in
    let mannered = c.requires.mannered in
    let p0 = g.S.Store.past c.args.store.now in
    let base = c.args.place in
    let p1 = g.S.Store.past c.read_version.new.store in
    let RT = ReadLeaves rules base in
    let told = subst (λ (r : VersionFile). Since p0 p1 (RT (Ok r))) c.in-Ok-TooLong.field-0-is c.in-Ok-TooLong.ensures.told in
    since_turned p0 p1 (RT (Ok TooLong)) (λ old now. (base ≡ base) × laws.RR rules ruled localized mannered (Exactly []) (InState (λ d. IsLong base d.files)) old now) told (λ old now h. (refl, h))

pub returns-in-Ok-Absent-clause-told : goal.returns-in-Ok-Absent-clause-told
returns-in-Ok-Absent-clause-told g c =
    let t = c.args.table.now in
    let number = number_in t in
    let allows = g.M.Manners.allows (g.S.Store.manners c.args.store.now) in
    let rules = rules_of g.R.TableReading.content t allows in
    let ruled = numbering t in
    let localized = g.R.TableReading.localized t in
    let mannered = c.requires.mannered in
    let p0 = g.S.Store.past c.args.store.now in
    let base = c.args.place in
    let p1 = g.S.Store.past c.read_version.new.store in
    let RT = ReadLeaves rules base in
    let told = subst (λ (r : VersionFile). Since p0 p1 (RT (Ok r))) c.in-Ok-Absent.field-0-is c.in-Ok-Absent.ensures.told in
    since_turned p0 p1 (RT (Ok Absent)) (λ old now. (base ≡ base) × laws.RR rules ruled localized mannered (Exactly []) (InState (λ d. is_named d.files base ≡ false)) old now) told (λ old now h. (refl, h))
