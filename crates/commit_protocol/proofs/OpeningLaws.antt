-- Laws of opening a table: from the opened bytes to its metadata.
use Rattle.std.proofs.Common.{◌≡◌, ℕ, List, [], Option, Result, Ok, Err, inl, inr, sym, subst}
use Rattle.serde_json.specs.View.{view}
use Rattle.ice_store.specs.Places.{Parts}
use Rattle.ice_store.specs.declared.history.Past.{Past}
use Rattle.ice_store.specs.declared.history.Step.{Step}
use Rattle.ice_store.specs.declared.faults.ReadErr.TheVariants.{Missing, Damaged, Unsupported, StoreFault, Memory}
use Rattle.commit_history.specs.Versions.{number_in}
use Rattle.commit_history.specs.Runs.{Ran}
use Rattle.commit_history.proofs.Running.{ran_turned}
use Rattle.commit_publish.specs.Stages.{InState}
use Rattle.commit_publish.specs.Steps.{Exactly, Anything}
use Rattle.commit_versions.specs.Opening.{OpenStage, IsOpened, OpenLeaves}
use Rattle.commit_versions.specs.Latest.{IsBaseNumber}
use Rattle.commit_versions.specs.declared.types.Opened.{Opened}
use Rattle.commit_versions.specs.declared.types.OpenErr.{OpenErr}
use Rattle.commit_versions.specs.declared.types.OpenErr.TheVariants.{NoTable, LocationDiffers, Read}
use Rattle.commit_protocol.specs.Metadata.{table_rules, IsMetadata, ReadsTable, IsAt, OpenErrLeaves, TableLeaves}
use Rattle.commit_protocol.specs.declared.opening.At.{At}
use Rattle.commit_publish.specs.Kinds.{Counts}
use Rattle.commit_versions.specs.Opening.{OpenMarks, opening_kind}
use Rattle.ice_store.specs.declared.history.Failure.{Failure}

module _ (table : Parts) (allows : Past → Step → Type 0) where
  module _ (o : Opened) (old now : Past) (opened : IsOpened (table_rules table allows) o.place o.text old now) (numbers : IsBaseNumber (number_in table) o.place o.version) where
    at_of : (at : At) → (at.place ≡ o.place) × (at.version ≡ o.version) × (at.text ≡ o.text) × IsMetadata table o.text (view at.meta) → IsAt table allows at old now
    at_of at (place, version, text, metadata) = record {
      opened = subst (λ (p : Parts). IsOpened (table_rules table allows) p at.text old now) (sym place) (subst (λ (t : List ℕ). IsOpened (table_rules table allows) o.place t old now) (sym text) opened);
      numbers = subst (λ (p : Parts). IsBaseNumber (number_in table) p at.version) (sym place) (subst (λ (v : ℕ). IsBaseNumber (number_in table) o.place v) (sym version) numbers);
      metadata = subst (λ (t : List ℕ). IsMetadata table t (view at.meta)) (sym text) metadata;
    }

    forgotten : Ran (table_rules table allows) (Exactly []) Anything old now
    forgotten = ran_turned (table_rules table allows) (Exactly []) (Exactly []) (InState (OpenStage (number_in table) o.place)) Anything old now opened.listed.run (λ l e. e) (λ h. tt)

    pub table_by : (r : Result At OpenErr) → ReadsTable table o r → TableLeaves table allows r old now
    table_by (Ok at) r = at_of at r
    table_by (Err (NoTable place)) r = absurd r
    table_by (Err (LocationDiffers place location)) r = (r.0, (o.place, record { text = o.text; opened = opened; holds = r.1 }))
    table_by (Err (Read (Missing place))) r = absurd r
    table_by (Err (Read (Damaged place at))) r = record { text = o.text; opened = subst (λ (p : Parts). IsOpened (table_rules table allows) p o.text old now) (sym r.0) opened; holds = r.1 }
    table_by (Err (Read (Unsupported place what))) r = inr (record { text = o.text; opened = subst (λ (p : Parts). IsOpened (table_rules table allows) p o.text old now) (sym r.0) opened; holds = r.1 })
    table_by (Err (Read (StoreFault place))) r = absurd r
    table_by (Err (Read Memory)) r = forgotten

  pub unopened_by : (e : OpenErr) (old now : Past) → OpenLeaves (table_rules table allows) table (Err e) old now → OpenErrLeaves table allows e old now
  unopened_by (NoTable place) old now r = r
  unopened_by (LocationDiffers place location) old now r = absurd r
  unopened_by (Read (Missing place)) old now r = r
  unopened_by (Read (Damaged place at)) old now r = absurd r
  unopened_by (Read (Unsupported place what)) old now r = inl r
  unopened_by (Read (StoreFault place)) old now r = r
  unopened_by (Read Memory) old now r = r

-- Reading the opened bytes calls no store.

pub reads_counts : (table : Parts) (o : Opened) (r : Result At OpenErr) (before now : ℕ) → ReadsTable table o r → now ≡ before → Counts (opening_kind r) before now
reads_counts table o (Ok at) before now r e = e
reads_counts table o (Err (NoTable place)) before now r e = e
reads_counts table o (Err (LocationDiffers place location)) before now r e = e
reads_counts table o (Err (Read (Missing place))) before now r e = e
reads_counts table o (Err (Read (Damaged place at))) before now r e = e
reads_counts table o (Err (Read (Unsupported place what))) before now r e = e
reads_counts table o (Err (Read (StoreFault place))) before now r e = absurd r
reads_counts table o (Err (Read Memory)) before now r e = e

pub reads_marks : (table : Parts) (o : Opened) (r : Result At OpenErr) (before now : Option Failure) (told : Option Past) → ReadsTable table o r → now ≡ before → OpenMarks (opening_kind r) before now told
reads_marks table o (Ok at) before now told r e = e
reads_marks table o (Err (NoTable place)) before now told r e = e
reads_marks table o (Err (LocationDiffers place location)) before now told r e = e
reads_marks table o (Err (Read (Missing place))) before now told r e = e
reads_marks table o (Err (Read (Damaged place at))) before now told r e = e
reads_marks table o (Err (Read (Unsupported place what))) before now told r e = e
reads_marks table o (Err (Read (StoreFault place))) before now told r e = absurd r
reads_marks table o (Err (Read Memory)) before now told r e = e
