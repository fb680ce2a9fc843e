use Rattle.std.proofs.Common.{◌≡◌, ◌+◌, ℕ, List, [], Ok, Err, Some, None, Option, refl, sym, subst}
use Rattle.ice_store.specs.Others.{Answers}
use Rattle.ice_store.specs.Calls.{ReadAnswer}
use Rattle.ice_store.specs.Since.{Since}
use Rattle.ice_store.specs.declared.history.Past.{Past}
use Rattle.ice_store.proofs.SinceLaws.{since_call, since_start}
use Rattle.commit_history.specs.Versions.{number_in}
use Rattle.commit_history.proofs.Numbering.{numbering}
use Rattle.commit_publish.specs.Steps.{Exactly, Anything}
use Rattle.commit_history.specs.Readings.{rules_of}
use Rattle.commit_versions.specs.Opening.{ReadLeaves, version_file_of, file_limit}
use Rattle.commit_versions.specs.declared.types.VersionFile.{VersionFile}
use Rattle.commit_versions.specs.declared.types.VersionFile.TheVariants.{Absent}
use Rattle.commit_versions.proofs.OpenLaws as laws
use Rattle.commit_versions.proofs.open.read_version.Goals as goal

pub returns-in-Ok-Some-clause-told : goal.returns-in-Ok-Some-clause-told
returns-in-Ok-Some-clause-told g c =
    let t = c.args.table.now in
    let number = number_in t in
    let allows = g.M.Manners.allows (g.S.Store.manners c.args.store.now) in
    let rules = rules_of g.R.TableReading.content t allows in
    let ruled = numbering t in
    let localized = g.R.TableReading.localized t in
    let mannered = c.requires.mannered in
    let p0 = g.S.Store.past c.args.store.now in
    let base = c.args.place.now in
    let pos = c.requires.positive in
    let p1 = g.S.Store.past c.read_at.new.self in
    let KO = laws.KO rules ruled localized mannered base in
    let Told0 : Past → Past → Type 0 = λ old now. (now ≡ old) × KO now in
    let r0 = since_start p0 KO Told0 c.requires.start (λ old here. (refl, here)) in
    let text = c.in-Ok-Some.text in
    let RT = ReadLeaves rules base in
    subst (λ (r : VersionFile). Since p0 p1 (RT (Ok r))) (sym c.sized.ensures)
    (since_call allows p0 p0 p1 Told0 (RT (Ok (version_file_of text))) (ReadAnswer base 0 (file_limit + 1) (Ok (Some text))) r0 (subst (λ (o : Option (List ℕ)). Answers allows p0 p1 (ReadAnswer base 0 (file_limit + 1) (Ok o))) c.in-Ok-Some.field-0-is c.in-Ok-Some.ensures.told)
    (λ old now new h told. subst (λ (p : Past). RT (Ok (version_file_of text)) p new) h.0 (laws.read_ok rules ruled localized mannered base pos file_limit refl (file_limit + 1) refl text now new h.1 told)))

pub returns-in-Ok-None-clause-told : goal.returns-in-Ok-None-clause-told
returns-in-Ok-None-clause-told g c =
    let t = c.args.table.now in
    let number = number_in t in
    let allows = g.M.Manners.allows (g.S.Store.manners c.args.store.now) in
    let rules = rules_of g.R.TableReading.content t allows in
    let ruled = numbering t in
    let localized = g.R.TableReading.localized t in
    let mannered = c.requires.mannered in
    let p0 = g.S.Store.past c.args.store.now in
    let base = c.args.place.now in
    let pos = c.requires.positive in
    let p1 = g.S.Store.past c.read_at.new.self in
    let KO = laws.KO rules ruled localized mannered base in
    let Told0 : Past → Past → Type 0 = λ old now. (now ≡ old) × KO now in
    let r0 = since_start p0 KO Told0 c.requires.start (λ old here. (refl, here)) in
    let RT = ReadLeaves rules base in
    since_call allows p0 p0 p1 Told0 (RT (Ok Absent)) (ReadAnswer base 0 (file_limit + 1) (Ok None)) r0 (subst (λ (o : Option (List ℕ)). Answers allows p0 p1 (ReadAnswer base 0 (file_limit + 1) (Ok o))) c.in-Ok-None.field-0-is c.in-Ok-None.ensures.told)
    (λ old now new h told. subst (λ (p : Past). RT (Ok Absent) p new) h.0 (laws.read_absent rules ruled localized mannered base pos (file_limit + 1) now new h.1 told))

pub returns-in-Err-clause-told : goal.returns-in-Err-clause-told
returns-in-Err-clause-told g c =
    let t = c.args.table.now in
    let number = number_in t in
    let allows = g.M.Manners.allows (g.S.Store.manners c.args.store.now) in
    let rules = rules_of g.R.TableReading.content t allows in
    let ruled = numbering t in
    let localized = g.R.TableReading.localized t in
    let mannered = c.requires.mannered in
    let p0 = g.S.Store.past c.args.store.now in
    let base = c.args.place.now in
    let pos = c.requires.positive in
    let p1 = g.S.Store.past c.read_at.new.self in
    let KO = laws.KO rules ruled localized mannered base in
    let Told0 : Past → Past → Type 0 = λ old now. (now ≡ old) × KO now in
    let r0 = since_start p0 KO Told0 c.requires.start (λ old here. (refl, here)) in
    since_call allows p0 p0 p1 Told0 (laws.RR rules ruled localized mannered (Exactly []) Anything) (ReadAnswer base 0 (file_limit + 1) (Err c.in-Err.e)) r0 c.in-Err.ensures.told
    (λ old now new h told. subst (λ (p : Past). laws.RR rules ruled localized mannered (Exactly []) Anything p new) h.0 (laws.read_err rules ruled localized mannered base pos (file_limit + 1) c.in-Err.e now now new (laws.starts rules ruled localized mannered KO now h.1) told))
