-- Which bytes spell a manifest list, and a manifest (Apache Iceberg specification, "Manifests" and "Manifest Lists"; Apache Avro 1.11, "Object
-- Container Files").
use Rattle.std.specs.Prelude.{◌≡◌, ℕ, List, [], ◌∷◌, ◌++◌, length, Ok}
use Rattle.std.specs.List.{flat_map}
use Rattle.serde_json.specs.Read.{read as read_text}
use Rattle.avro_container.specs.Container.{Pair, SpellsBlock, SpellsHeader}
use Rattle.avro_container.specs.Spelling.{SpellsEach}
use Rattle.avro_schema.specs.declared.schema.Field.{Field}
use Rattle.avro_schema.specs.declared.schema.Schema.{Schema, out-Schema}
use Rattle.avro_schema.specs.Form.{Form, form_of}
use Rattle.avro_datum.specs.declared.datum.Datum.{Datum, out-Datum}
use Rattle.avro_datum.specs.Spelling.{Spells}
use Rattle.schema_types.specs.declared.types.PartField.{PartField}
use Rattle.manifest_cells.specs.Cells.{fields_in}
use Rattle.manifest_columns.specs.declared.slots.Slot.{Slot}
use Rattle.manifest_columns.specs.Shapes.{fields_of}
use Rattle.manifest_columns.specs.Tables.{row_columns}
use Rattle.manifest_entries.specs.declared.entry.Entry.{Entry}
use Rattle.manifest_entries.specs.declared.entry.EntrySlots.{EntrySlots}
use Rattle.manifest_entries.specs.Entries.{IsEntry}
use Rattle.manifest_rows.specs.declared.row.ManifestRow.{ManifestRow}
use Rattle.manifest_rows.specs.Rows.{IsRow, row_slots}
use Rattle.manifest_codec.specs.declared.manifest.Manifest.{Manifest}
use Rattle.manifest_codec.specs.Keys.{HasKeys}
use Rattle.manifest_codec.specs.Manifests.{IsManifest, checked_entry, manifest_slots}
use Rattle.manifest_codec.specs.Schemas.{text_schema, checked}
use Rattle.manifest_codec.specs.Lists.{IsList}

-- A block of the values, which are as many as it states.
pub record SpellsObjects (f : Form) (sync : List ℕ) (ds : List Datum) (b : List ℕ) : Type 0 where
  pub body : List ℕ
  pub values : SpellsEach (Spells f) ds body
  pub block : SpellsBlock sync (length ds) body b

-- The values stand for these, one for each.
abbrev pub StandEach : {A : Type 0} → (Datum → A → Type 0) → List Datum → List A → Type 0
StandEach Is [] [] = Unit {0}
StandEach Is (d ∷ ds) (x ∷ xs) = Is d x × StandEach Is ds xs
StandEach Is _ _ = ⊥

-- The values are records that stand for the rows, one for each.
abbrev pub StandFor : List Slot → List Datum → List ManifestRow → Type 0
StandFor slots = StandEach (λ d row. IsRow slots (fields_in (out-Datum d)) row)

-- The same of entries.
abbrev pub StandForEntries : EntrySlots → List Datum → List Entry → Type 0
StandForEntries slots = StandEach (λ d entry. IsEntry slots (fields_in (out-Datum d)) entry)

-- A header whose schema is a record with the columns of a row, and blocks of records that stand for the rows.
pub record SpellsList (rows : List ManifestRow) (b : List ℕ) : Type 0 where
  pub text : List ℕ
  pub meta : List Pair
  pub sync : List ℕ
  pub schema : Schema
  pub fields : List Field
  pub blocks : List (List Datum)
  pub head : List ℕ
  pub body : List ℕ
  pub is_header : SpellsHeader text meta sync head
  pub is_schema : text_schema (read_text text) ≡ Ok schema
  pub has_columns : checked row_columns (fields_of (out-Schema schema)) ≡ Ok fields
  pub are_blocks : SpellsEach (SpellsObjects (form_of schema) sync) blocks body
  pub are_rows : StandFor (row_slots fields) (flat_map (λ (ds : List Datum). ds) blocks) rows
  pub is : b ≡ head ++ body

-- Bytes that are a list of rows spell one.
abbrev pub ListsAreSpelled : Type 0
ListsAreSpelled = (bytes : List ℕ) (rows : List ManifestRow) → IsList bytes rows → SpellsList rows bytes

-- A header whose schema is a record with the columns of an entry and fields of the partition type, blocks of records that stand for the entries, and the keys.
pub record SpellsManifest (ps : List PartField) (m : Manifest) (b : List ℕ) : Type 0 where
  pub text : List ℕ
  pub meta : List Pair
  pub sync : List ℕ
  pub schema : Schema
  pub fields : List Field
  pub blocks : List (List Datum)
  pub head : List ℕ
  pub body : List ℕ
  pub is_header : SpellsHeader text meta sync head
  pub is_schema : text_schema (read_text text) ≡ Ok schema
  pub has_columns : checked_entry ps (fields_of (out-Schema schema)) ≡ Ok fields
  pub are_blocks : SpellsEach (SpellsObjects (form_of schema) sync) blocks body
  pub are_entries : StandForEntries (manifest_slots ps fields) (flat_map (λ (ds : List Datum). ds) blocks) m.entries
  pub has_keys : HasKeys meta m
  pub is : b ≡ head ++ body

-- Bytes that are a manifest spell it.
abbrev pub ManifestsAreSpelled : Type 0
ManifestsAreSpelled = (ps : List PartField) (bytes : List ℕ) (m : Manifest) → IsManifest ps bytes m → SpellsManifest ps m bytes
