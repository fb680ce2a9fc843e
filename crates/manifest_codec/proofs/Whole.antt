-- What is spelled as a manifest list, or as a manifest, is read.
use Rattle.std.proofs.Common.{◌≡◌, ◌≤◌, ℕ, suc, ◌-◌, ◌+◌, List, [], ◌∷◌, ◌++◌, length, Result, Ok, Option, refl, sym, ap, ◌∙◌, subst, arith, length-append}
use Rattle.std.specs.List.{flat_map}
use Rattle.serde_json.specs.Read.{read as read_text}
use Rattle.avro_container.specs.declared.fault.ContainerCause.{ContainerCause}
use Rattle.avro_container.specs.Reading.{Read}
use Rattle.avro_container.specs.Container.{SpellsHeader, Pair}
use Rattle.avro_container.specs.ContainerReading.{container_block_at, header_at, Said}
use Rattle.avro_container.specs.Spelling.{SpellsEach}
use Rattle.avro_container.proofs.BlockLaws.{block_again}
use Rattle.avro_container.proofs.HeaderLaws.{header_again}
use Rattle.avro_schema.specs.declared.schema.Field.{Field}
use Rattle.avro_schema.specs.declared.schema.Schema.{Schema, out-Schema}
use Rattle.avro_schema.specs.Form.{Form, form_of}
use Rattle.avro_pieces.specs.declared.fault.DatumCause.{DatumCause}
use Rattle.avro_datum.specs.declared.datum.Datum.{Datum, out-Datum}
use Rattle.avro_datum.specs.Reading.{read}
use Rattle.avro_datum.specs.Spelling.{Spells}
use Rattle.avro_datum.proofs.Again.{again}
use Rattle.manifest_cells.specs.Cells.{fields_in}
use Rattle.manifest_columns.specs.Shapes.{fields_of}
use Rattle.manifest_columns.specs.Tables.{row_columns}
use Rattle.manifest_columns.specs.declared.slots.Slot.{Slot}
use Rattle.manifest_entries.specs.declared.entry.Entry.{Entry}
use Rattle.manifest_entries.specs.declared.entry.EntrySlots.{EntrySlots}
use Rattle.manifest_entries.specs.Entries.{IsEntry}
use Rattle.manifest_rows.specs.declared.row.ManifestRow.{ManifestRow}
use Rattle.manifest_rows.specs.Rows.{IsRow, cells, row_slots}
use Rattle.manifest_codec.specs.declared.fault.ManifestCause.{ManifestCause}
use Rattle.manifest_codec.specs.Faults.{Fault, ◌>>=◌, placed, at_schema}
use Rattle.manifest_codec.specs.Keys.{HasKeys}
use Rattle.manifest_codec.specs.Objects.{Objects, with_object, in_block, with_block, in_blocks}
use Rattle.manifest_codec.specs.Records.{AreEach}
use Rattle.manifest_codec.specs.Schemas.{Head, text_schema, checked, head_at, file_at}
use Rattle.manifest_codec.specs.Lists.{IsRowAt, GivesList}
use Rattle.manifest_codec.specs.Manifests.{IsEntryAt, GivesManifest, checked_entry, manifest_slots}
use Rattle.manifest_codec.specs.Spelling.{SpellsObjects, StandEach}
use Rattle.manifest_codec.specs.Whole.{ArePlaced, row_at, entry_at, with_entries, SpelledListsAreRead, SpelledManifestsAreRead}
use Rattle.manifest_codec.proofs.Steps.{at_end, next_is}

-- what is read of objects: the same, each at its place
pub record Placed {A : Type 0} (Is : ℕ → Datum → A → Type 0) (place : ℕ → A → A) (objects : Objects) (xs : List A) : Type 0 where
  pub all : List A
  pub are : AreEach Is objects all
  pub moved : ArePlaced place xs all

module _ {A : Type 0} (Is : ℕ → Datum → A → Type 0) (Of : Datum → A → Type 0) (place : ℕ → A → A) (found : (at : ℕ) (d : Datum) (x : A) → Of d x → Is at d (place at x)) where
  -- an object, and what is behind it
  one : (end left : ℕ) (r : Read DatumCause Datum) (behind : List ℕ → Objects) (d : Datum) (rest : List ℕ) (x : A) (xs : List A) → r ≡ Ok (d, rest) → Of d x → Placed Is place (behind rest) xs
      → Placed Is place (with_object end left r behind) (x ∷ xs)
  one end left r behind d rest x xs e is more =
      let P : Read DatumCause Datum → Type 0 = λ r. Placed Is place (with_object end left r behind) (x ∷ xs) in
      subst P (sym e) (record { all = place (end - left) x ∷ more.all; are = (found (end - left) d x is, more.are); moved = ((end - left, refl), more.moved) })

  -- the objects of a block, and what is behind it
  inside : (f : Form) (first end : ℕ) (next : Objects) (ds es : List Datum) (body : List ℕ) (xs : List A) → SpellsEach (Spells f) ds body → StandEach Of (ds ++ es) xs
      → ((more : List A) → StandEach Of es more → Placed Is place next more) → Placed Is place (in_block f first end next (length ds) body) xs
  unfolding in_block
  inside f first end next [] es body xs s st go =
      let P : List ℕ → Type 0 = λ b. Placed Is place (in_block f first end next 0 b) xs in
      subst P (sym s) (go xs st)
  inside f first end next (d ∷ ds) es body [] s st go = absurd st
  inside f first end next (d ∷ ds) es body (x ∷ xs) s st go =
      one end (length body) (read f body) (in_block f first end next (length ds)) d s.rest x xs (ap (read f) s.is ∙ again f d s.front s.rest s.first) st.0
      (inside f first end next ds es s.rest xs s.second st.1 go)

  none : (f : Form) (sync : List ℕ) (n most : ℕ) (bytes : List ℕ) (xs : List A) → bytes ≡ [] → StandEach Of [] xs → Placed Is place (in_blocks f sync n most bytes) xs
  none f sync n most bytes [] e st =
      let P : Objects → Type 0 = λ o. Placed Is place o [] in
      subst P (sym (at_end f sync n most bytes (ap length e))) (record { all = []; are = tt; moved = tt })
  none f sync n most bytes (x ∷ xs) e st = absurd st

  whole : (f : Form) (sync : List ℕ) (n most : ℕ) (blocks : List (List Datum)) (bytes : List ℕ) (xs : List A) → length sync ≡ 16 → length bytes ≤ most
      → SpellsEach (SpellsObjects f sync) blocks bytes → StandEach Of (flat_map (λ (ds : List Datum). ds) blocks) xs → Placed Is place (in_blocks f sync n most bytes) xs
  whole f sync n most [] bytes xs marker fits s st = none f sync n most bytes xs s st
  whole f sync n most (ds ∷ blocks) bytes xs marker fits s st =
      let b = s.first.block in
      let size : length bytes ≡ length b.head + (length b.size + (length s.first.body + length sync)) + length s.rest =
      ap length s.is ∙ length-append s.front s.rest ∙ ap (λ n. n + length s.rest)
      (ap length b.is ∙ length-append b.head _ ∙ ap (λ n. length b.head + n) (length-append b.size _ ∙ ap (λ n. length b.size + n) (length-append s.first.body sync))) in
      let less : most ≡ suc (most - 1) = omega (arith, size, marker, fits) in
      let next = next_is f sync n most (most - 1) bytes less (λ e. omega (arith, e, size, marker)) in
      let read = ap (container_block_at sync) s.is ∙ block_again sync (length ds) s.first.body s.front s.rest b in
      let P : Objects → Type 0 = λ o. Placed Is place o xs in
      subst P (sym (next ∙ ap (with_block f n (in_blocks f sync n (most - 1))) read))
      (inside f _ _ (in_blocks f sync n (most - 1) s.rest) ds (flat_map (λ (ds : List Datum). ds) blocks) s.first.body xs s.first.values st
      (λ more st. whole f sync n (most - 1) blocks s.rest more marker (omega (arith, size, marker, fits)) s.second st))

-- a file that is spelled
opened : (check : Option (List Field) → Result (List Field) ManifestCause) (bytes text : List ℕ) (meta : List Pair) (sync : List ℕ) (s : Schema) (fs : List Field) (head body : List ℕ) → bytes ≡ head ++ body
    → SpellsHeader text meta sync head → text_schema (read_text text) ≡ Ok s → check (fields_of (out-Schema s)) ≡ Ok fs
    → file_at check bytes ≡ Ok (fs, meta, in_blocks (form_of s) sync (length bytes) (length body) body)
unfolding file_at head_at
opened check bytes text meta sync s fs head body is h e c =
    let of_head : Head → Result (List Field × List Pair × Objects) Fault = λ h. at_schema (check (fields_of (out-Schema h.0))) >>= λ fs. Ok (fs, h.1, in_blocks (form_of h.0) h.2 (length bytes) (length h.3) h.3) in
    let header : header_at bytes ≡ Ok ((text, meta, sync), body) = ap header_at is ∙ header_again text meta sync head body h in
    ap (λ (r : Read ContainerCause Said). (placed (length bytes) r >>= λ h. at_schema (text_schema (read_text h.0.0)) >>= λ s. Ok (s, h.0.1, h.0.2, h.1)) >>= of_head) header
    ∙ ap (λ (r : Result Schema ManifestCause). (at_schema r >>= λ s. Ok (s, meta, sync, body)) >>= of_head) e
    ∙ ap (λ (r : Result (List Field) ManifestCause). at_schema r >>= λ fs. Ok (fs, meta, in_blocks (form_of s) sync (length bytes) (length body) body)) c

row_found : (slots : List Slot) (at : ℕ) (d : Datum) (row : ManifestRow) → IsRow slots (fields_in (out-Datum d)) row → IsRowAt slots at d (row_at at row)
unfolding cells
row_found slots at d row h = (h, refl)

pub lists_read : SpelledListsAreRead
lists_read rows bytes s =
    let Of : Datum → ManifestRow → Type 0 = λ d row. IsRow (row_slots s.fields) (fields_in (out-Datum d)) row in
    let r = whole (IsRowAt (row_slots s.fields)) Of row_at (row_found (row_slots s.fields)) (form_of s.schema) s.sync (length bytes) (length s.body) s.blocks s.body rows s.is_header.marker (omega arith) s.are_blocks s.are_rows in
    let file = opened (checked row_columns) bytes s.text s.meta s.sync s.schema s.fields s.head s.body s.is s.is_header s.is_schema s.has_columns in
    let P : Result (List Field × List Pair × Objects) Fault → Type 0 = λ file. GivesList file (Ok r.all) in
    (r.all, subst P (sym file) r.are, r.moved)

entry_found : (slots : EntrySlots) (at : ℕ) (d : Datum) (entry : Entry) → IsEntry slots (fields_in (out-Datum d)) entry → IsEntryAt slots at d (entry_at at entry)
entry_found slots at d entry h = (h, refl)

pub manifests_read : SpelledManifestsAreRead
manifests_read ps m bytes s =
    let slots = manifest_slots ps s.fields in
    let Of : Datum → Entry → Type 0 = λ d entry. IsEntry slots (fields_in (out-Datum d)) entry in
    let r = whole (IsEntryAt slots) Of entry_at (entry_found slots) (form_of s.schema) s.sync (length bytes) (length s.body) s.blocks s.body m.entries s.is_header.marker (omega arith) s.are_blocks s.are_entries in
    let file = opened (checked_entry ps) bytes s.text s.meta s.sync s.schema s.fields s.head s.body s.is s.is_header s.is_schema s.has_columns in
    let keys : HasKeys s.meta (with_entries r.all m) = record {
      spec_id = s.has_keys.spec_id;
      is_deletes = s.has_keys.is_deletes;
      schema_text = s.has_keys.schema_text;
      schema_id = s.has_keys.schema_id;
      spec_text = s.has_keys.spec_text;
    } in
    let P : Result (List Field × List Pair × Objects) Fault → Type 0 = λ file. GivesManifest ps file (Ok (with_entries r.all m)) in
    (r.all, subst P (sym file) (r.are, keys), r.moved)
