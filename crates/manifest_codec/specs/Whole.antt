-- What is spelled as a manifest list, or as a manifest, is read: the same, each row and entry with the place where it begins.
use Rattle.std.specs.Prelude.{◌≡◌, ℕ, List, [], ◌∷◌}
use Rattle.schema_types.specs.declared.types.PartField.{PartField}
use Rattle.manifest_entries.specs.declared.entry.Entry.{Entry}
use Rattle.manifest_rows.specs.declared.row.ManifestRow.{ManifestRow}
use Rattle.manifest_codec.specs.declared.manifest.Manifest.{Manifest}
use Rattle.manifest_codec.specs.Lists.{IsList}
use Rattle.manifest_codec.specs.Manifests.{IsManifest}
use Rattle.manifest_codec.specs.Spelling.{SpellsList, SpellsManifest}

-- the row, as if it began at this place
abbrev pub row_at : ℕ → ManifestRow → ManifestRow
row_at at row = record {
  manifest_path = row.manifest_path;
  manifest_length = row.manifest_length;
  partition_spec_id = row.partition_spec_id;
  is_deletes = row.is_deletes;
  sequence_number = row.sequence_number;
  min_sequence_number = row.min_sequence_number;
  added_snapshot_id = row.added_snapshot_id;
  added_files_count = row.added_files_count;
  existing_files_count = row.existing_files_count;
  deleted_files_count = row.deleted_files_count;
  added_rows_count = row.added_rows_count;
  existing_rows_count = row.existing_rows_count;
  deleted_rows_count = row.deleted_rows_count;
  partitions = row.partitions;
  key_metadata = row.key_metadata;
  at = at;
}

-- the entry, as if it began at this place
abbrev pub entry_at : ℕ → Entry → Entry
entry_at at entry = record {
  status = entry.status;
  snapshot_id = entry.snapshot_id;
  sequence_number = entry.sequence_number;
  file_sequence_number = entry.file_sequence_number;
  data_file = entry.data_file;
  at = at;
}

-- the manifest with these entries
abbrev pub with_entries : List Entry → Manifest → Manifest
with_entries entries m = record {
  spec_id = m.spec_id;
  is_deletes = m.is_deletes;
  schema_text = m.schema_text;
  schema_id = m.schema_id;
  spec_text = m.spec_text;
  entries = entries;
}

-- The second ones are the first ones, each at some place.
abbrev pub ArePlaced : {A : Type 0} → (ℕ → A → A) → List A → List A → Type 0
ArePlaced place [] [] = Unit {0}
ArePlaced place (x ∷ xs) (y ∷ ys) = ((at : ℕ) × (y ≡ place at x)) × ArePlaced place xs ys
ArePlaced place _ _ = ⊥

-- Bytes that spell a list of rows are a list of these rows.
abbrev pub SpelledListsAreRead : Type 0
SpelledListsAreRead = (rows : List ManifestRow) (bytes : List ℕ) → SpellsList rows bytes → (placed : List ManifestRow) × IsList bytes placed × ArePlaced row_at rows placed

-- Bytes that spell a manifest are that manifest.
abbrev pub SpelledManifestsAreRead : Type 0
SpelledManifestsAreRead = (ps : List PartField) (m : Manifest) (bytes : List ℕ) → SpellsManifest ps m bytes
    → (placed : List Entry) × IsManifest ps bytes (with_entries placed m) × ArePlaced entry_at m.entries placed
