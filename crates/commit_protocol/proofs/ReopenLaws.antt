-- What is found after a stop of a steady history is opened as the table after a prefix of its commits.
use Rattle.std.proofs.Common.{◌≡◌, inl, inr, ℕ, ◌<◌, zero, suc, Bool, true, false, if◌then◌else◌, List, Option, Some, None, Result, Ok, Err, refl, sym, ap, ◌∙◌, subst, arith}
use Rattle.serde_json.specs.Data.{Data}
use Rattle.serde_json.specs.View.{view}
use Rattle.ice_store.specs.Places.{Parts}
use Rattle.ice_store.specs.Files.{find}
use Rattle.ice_store.specs.History.{replay}
use Rattle.ice_store.specs.declared.history.Held.{Held}
use Rattle.commit_history.specs.Tables.{version, table as table_in, table_at, sealed_at, sealed_bytes, Whole, IsGood}
use Rattle.commit_history.specs.Versions.{number_in}
use Rattle.commit_history.specs.Commits.{IsLast, Reopens, standing, found}
use Rattle.commit_history.proofs.Agreeing.{Agrees, same_table, still_whole, version_named, table_is}
use Rattle.commit_history.proofs.Manners.{law}
use Rattle.commit_history.proofs.Numbering.{numbering}
use Rattle.table_metadata.specs.Spelling.{Spells}
use Rattle.commit_versions.specs.Opening.{version_limit}
use Rattle.commit_versions.specs.declared.types.OpenErr.{OpenErr}
use Rattle.commit_versions.specs.declared.types.OpenErr.TheVariants.{NoTable}
use Rattle.commit_protocol.specs.Metadata.{metadata_reading, metadata_local}
use Rattle.commit_protocol.specs.Promises.{ReopensOpened, Shows, kept_commits, restarted}
use Rattle.commit_protocol.specs.Verdicts.{IsLastFile, IsTable, OpenVerdict, IsOpeningTold, Shown, opening_shown}
use Rattle.commit_protocol.specs.declared.opening.At.{At}
use Rattle.commit_protocol.proofs.RestartLaws.{begun_agrees}
use Rattle.commit_protocol.proofs.UniqueLaws.{Answer, OpenCase, one_case, case_of, case_of_table}

sealed_file : (o : Option Held) (bytes : List ℕ) → sealed_bytes o ≡ Some bytes → (h : Held) × (o ≡ Some h) × (h.bytes ≡ bytes)
sealed_file None bytes e = absurd (cc (e))
sealed_file (Some h) bytes e = elim h.is_sealed as (λ (s : Bool). (if s then Some h.bytes else None) ≡ Some bytes → (k : Held) × (Some h ≡ Some k) × (k.bytes ≡ bytes)) [
  | true ↦ λ it. (h, refl, cc (it))
  | false ↦ λ it. absurd (cc (it))
] e

module _ (table : Parts) (files : List Held) where
  abbrev pub number : Parts → ℕ
  number = number_in table

  -- the table's file is the last version's
  table_file : (bytes : List ℕ) → table_in number files ≡ Some bytes → 0 < version number files → version number files < version_limit → (place : Parts) × IsLastFile table files place (version number files) bytes
  table_file bytes is pos below =
      let at = version_named number files pos in
      let here : sealed_at files at.0 ≡ Some bytes = sym (table_is number (numbering table) files at.0 at.1 pos) ∙ is in
      let file = sealed_file (find files at.0) bytes here in
      (at.0, record { is_last = refl; numbers = record { is = at.1.is; positive = pos; below = below }; file = record { file = file.0; stands = file.1; bytes_is = file.2 } })

  -- whether there is a version
  pos_of : (bytes : List ℕ) → table_in number files ≡ Some bytes → 0 < version number files
  pos_of bytes is = by_version (version number files) refl
    where
      by_version : (n : ℕ) → version number files ≡ n → 0 < version number files
      by_version zero e = let none : table_in number files ≡ None = ap (λ (n : ℕ). table_at number n files) e in absurd (cc (none, is))
      by_version (suc n) e = omega (arith, e)

  module _ (result : Result At OpenErr) (told : IsOpeningTold result) (verdict : OpenVerdict table files result) where
    abbrev pub Case : Answer table files → Type 0
    Case = OpenCase table files

    one : (s : Answer table files) → Case s → opening_shown result ≡ s
    one s c = one_case table files (opening_shown result) s (case_of table files result told verdict) c

    failed_so : (r : Result At OpenErr) (e : OpenErr) → opening_shown r ≡ Err e → r ≡ Err e
    failed_so (Ok at) e is = absurd (cc (is))
    failed_so (Err f) e is = let same : f ≡ e = cc (is) in ap (λ (x : OpenErr). Err x) same

    -- no version is opened as no table
    empty : version number files ≡ 0 → result ≡ Err (NoTable table)
    empty none = failed_so result (NoTable table) (one (Err (NoTable table)) (inl (none, refl)))

    shows_so : (r : Result At OpenErr) (x : Shown) → opening_shown r ≡ Ok x → Spells x.bytes x.tree → Shows (Some x.bytes) table r
    shows_so (Ok at) x is spells =
        let same : record { place = at.place; last = at.version; bytes = at.text; tree = view at.meta } ≡ x = cc (is) in
        (at, refl, ap (λ (y : Shown). y.bytes) same, subst (λ (d : Data). Spells x.bytes d) (sym (ap (λ (y : Shown). y.tree) same)) spells)
    shows_so (Err f) x is spells = absurd (cc (is))

    -- a good table is opened
    opened : (good : IsGood (metadata_reading table) files) → version number files < version_limit → Shows (Some good.bytes) table result
    opened good below =
        let file = table_file good.bytes good.is (pos_of good.bytes good.is) below in
        let tree = good.good.0.0 in
        let metadata = good.good.0.1 in
        let last = version number files in
        let there : IsTable table files file.0 last good.bytes tree = record { file = file.1; short = good.good.1; metadata = metadata } in
        let x : Shown = record { place = file.0; last = last; bytes = good.bytes; tree = tree } in
        shows_so result x (one (Ok x) (case_of_table table files file.0 last good.bytes tree there)) metadata.spells

    shown_by : Whole (metadata_reading table) files → version number files < version_limit → Shows (table_in number files) table result
    shown_by (inl none) below = subst (λ (o : Option (List ℕ)). Shows o table result) (sym (ap (λ (n : ℕ). table_at number n files) none)) (empty none)
    shown_by (inr good) below = subst (λ (o : Option (List ℕ)). Shows o table result) (sym good.is) (opened good below)

pub reopens : (table : Parts) → ReopensOpened table
reopens table past files result steady image below told verdict =
    let reading = metadata_reading table in
    let begun = (replay (restarted files)).files in
    let r : Reopens reading (standing (number_in table) past) files = law reading (numbering table) (metadata_local table) past steady files image in
    let agrees : Agrees reading (found files) begun = begun_agrees reading files in
    let whole : Whole reading begun = still_whole reading (found files) begun agrees (numbering table) (metadata_local table) r.whole in
    let same : table_in (number_in table) begun ≡ table_in (number_in table) (found files) = same_table reading (found files) begun agrees (numbering table) (metadata_local table) r.whole in
    let is_last : IsLast (kept_commits table past r.count) (table_in (number_in table) begun) = subst (λ (t : Option (List ℕ)). IsLast (kept_commits table past r.count) t) (sym same) r.last in
    record { count = r.count; last = table_in (number_in table) begun; is_last = is_last; shows = shown_by table begun result told verdict whole below }
