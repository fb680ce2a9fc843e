-- What is written as a list is read as the rows that were written.
use Rattle.std.proofs.Common.{◌≡◌, ℕ, pos, ◌<◌, ◌≤◌, ◌+◌, ◌^◌, List, [], ◌∷◌, ◌++◌, length, length-append, append_assoc, map, Bool, true, false, ◌||◌, ◌==◌, nat_le, if◌then◌else◌, All, IfOk, Some, Result, Ok, Err, refl, sym, ap, subst, ◌∙◌, arith, ltb-false, eqb-true}
use Rattle.std.specs.List.{AllByRecursion, flat_map, list_any}
use Rattle.std.proofs.lemmas.Bool.Decides.{nat_tests}
use Rattle.std.proofs.lemmas.List.{append-nil}
use Rattle.std.proofs.lemmas.List.Elements.{recursion_from_All}
use Rattle.serde_json.specs.Read.{read as read_text}
use Rattle.avro_container.specs.Container.{SpellsBlock, SpellsHeader}
use Rattle.avro_container.specs.ContainerWriting.{written_block}
use Rattle.avro_container.specs.Long.{written_long}
use Rattle.avro_container.specs.Spelling.{SpellsEach}
use Rattle.avro_container.proofs.LongWritten.{written_spells}
use Rattle.avro_schema.specs.declared.schema.Schema.{Schema}
use Rattle.avro_schema.specs.Form.{Form, form_of, depth}
use Rattle.avro_schema.specs.Writing.{written_schema}
use Rattle.avro_datum.specs.declared.datum.Datum.{Datum, out-Datum}
use Rattle.avro_datum.specs.declared.datum.Datum.TheVariants.{Fields, outs-Fields}
use Rattle.avro_datum.specs.Spelling.{Spells}
use Rattle.manifest_cells.specs.Cells.{fields_in}
use Rattle.manifest_columns.specs.Tables.{written_row_columns}
use Rattle.manifest_columns.specs.Written.{written_field}
use Rattle.manifest_rows.specs.declared.row.ManifestRow.{ManifestRow}
use Rattle.manifest_rows.specs.Rows.{IsRow}
use Rattle.manifest_rows.specs.Written.{row_fields, written_slots}
use Rattle.manifest_rows.proofs.Back.{read_back}
use Rattle.manifest_codec.specs.Schemas.{text_schema, tree_schema}
use Rattle.manifest_codec.specs.Spelling.{SpellsList, SpellsObjects, StandFor}
use Rattle.manifest_codec.proofs.Whole.{lists_read}
use Rattle.manifest_blocks.specs.declared.fault.WriteErr.{WriteErr}
use Rattle.manifest_blocks.specs.Blocks.{Block, is_full, with_object, no_objects, blocks_from, blocks_of, bytes_of, is_too_large, IsWritten}
use Rattle.manifest_writing.specs.Files.{schema_text}
use Rattle.manifest_writing.specs.Lists.{WritesList, list_schema, list_meta, row_bytes}
use Rattle.manifest_writing.specs.Laws.{IsSpelled, ReadsBack}
use Rattle.manifest_writing.proofs.RowValues.{is_shallow}
use Rattle.manifest_writing.proofs.Columns.{has_columns}
use Rattle.manifest_writing.proofs.SchemaBack.{schema_again}

either : (a b : Bool) → (a || b) ≡ false → (a ≡ false) × (b ≡ false)
either true b e = absurd cc
either false b e = (refl, e)

-- the values are spelled by the objects, one by each
AreSpelled : Form → List Datum → List (List ℕ) → Type 0
AreSpelled f [] [] = Unit {0}
AreSpelled f (d ∷ ds) (object ∷ objects) = Spells f d object × AreSpelled f ds objects
AreSpelled f _ _ = ⊥

-- one more value
each_more : (f : Form) (ds : List Datum) (b : List ℕ) (d : Datum) (object : List ℕ) → SpellsEach (Spells f) ds b → Spells f d object → SpellsEach (Spells f) (ds ++ d ∷ []) (b ++ object)
each_more f [] b d object s h = record { front = object; rest = []; first = h; second = refl; is = ap (λ (x : List ℕ). x ++ object) s ∙ sym (append-nil object) }
each_more f (e ∷ ds) b d object s h = record {
  front = s.front;
  rest = s.rest ++ object;
  first = s.first;
  second = each_more f ds s.rest d object s.second h;
  is = ap (λ (x : List ℕ). x ++ object) s.is ∙ append_assoc s.front s.rest object;
}

-- a block of values
own_block : (f : Form) (sync : List ℕ) (ds : List Datum) (b : Block) → length ds ≡ b.0 → b.0 ≤ 64000 → is_too_large b ≡ false → SpellsEach (Spells f) ds b.1 → SpellsObjects f sync ds (written_block sync b.0 b.1)
own_block f sync ds b e few fits s =
    let P : ℕ → Type 0 = λ n. SpellsBlock sync n b.1 (written_block sync b.0 b.1) in
    let small : length b.1 ≤ 67108864 = ltb-false 67108864 (length b.1) fits in
    record {
      body = b.1;
      values = s;
      block = subst P (sym e) (record {
        head = written_long (pos b.0);
        size = written_long (pos (length b.1));
        counts = written_spells (pos b.0) (omega (arith, few));
        sizes = written_spells (pos (length b.1)) (omega (arith, small));
        few = omega (arith, few);
        small = small;
        is = refl;
      });
    }

-- values in groups, each of which a block spells
record Grouped (f : Form) (sync : List ℕ) (before ds : List Datum) (blocks : List Block) : Type 0 where
  groups : List (List Datum)
  spells : SpellsEach (SpellsObjects f sync) groups (bytes_of sync blocks)
  are : flat_map (λ (ds : List Datum). ds) groups ≡ before ++ ds

last_group : (f : Form) (sync : List ℕ) (before : List Datum) (b : Block) (none : Bool) → (b.0 == 0) ≡ none → length before ≡ b.0 → b.0 ≤ 64000 → SpellsEach (Spells f) before b.1
    → list_any is_too_large (if none then [] else b ∷ []) ≡ false → Grouped f sync before [] (if none then [] else b ∷ [])
last_group f sync [] b true n e few s h = record { groups = []; spells = refl; are = refl }
last_group f sync (d ∷ before) b true n e few s h = absurd (let none : b.0 ≡ 0 = eqb-true b.0 0 n in omega (arith, none, e))
last_group f sync before b false n e few s h = record {
  groups = before ∷ [];
  spells = record { front = written_block sync b.0 b.1; rest = []; first = own_block f sync before b e few (either _ _ h).0 s; second = refl; is = refl };
  are = refl;
}

below : (n : ℕ) → nat_le 64000 n ≡ false → n < 64000
below n e = grind (arith, nat_tests)

-- what goes on behind a block
abbrev GoesOn : Form → List ℕ → List Datum → List (List ℕ) → Type 0
GoesOn f sync ds objects = (b : Block) (before : List Datum) → length before ≡ b.0 → b.0 < 64000 → SpellsEach (Spells f) before b.1 → list_any is_too_large (blocks_from b objects) ≡ false → Grouped f sync before ds (blocks_from b objects)

one_more : (f : Form) (sync : List ℕ) (d : Datum) (ds before : List Datum) (objects : List (List ℕ)) (b : Block) (full : Bool) → is_full b ≡ full → length (before ++ d ∷ []) ≡ b.0 → b.0 ≤ 64000 → SpellsEach (Spells f) (before ++ d ∷ []) b.1
    → GoesOn f sync ds objects → list_any is_too_large (if full then b ∷ blocks_from no_objects objects else blocks_from b objects) ≡ false
    → Grouped f sync before (d ∷ ds) (if full then b ∷ blocks_from no_objects objects else blocks_from b objects)
one_more f sync d ds before objects b true t e few s go h =
    let small : (is_too_large b ≡ false) × (list_any is_too_large (blocks_from no_objects objects) ≡ false) = either _ _ h in
    let more = go no_objects [] refl (omega arith) refl small.1 in
    record {
      groups = (before ++ d ∷ []) ∷ more.groups;
      spells = record { front = written_block sync b.0 b.1; rest = bytes_of sync (blocks_from no_objects objects); first = own_block f sync (before ++ d ∷ []) b e few small.0 s; second = more.spells; is = refl };
      are = ap (λ (xs : List Datum). (before ++ d ∷ []) ++ xs) more.are ∙ append_assoc before (d ∷ []) ds;
    }
one_more f sync d ds before objects b false t e few s go h =
    let more = go b (before ++ d ∷ []) e (below b.0 (either _ _ t).0) s h in
    record { groups = more.groups; spells = more.spells; are = more.are ∙ append_assoc before (d ∷ []) ds }

grouped : (f : Form) (sync : List ℕ) (ds : List Datum) (objects : List (List ℕ)) → AreSpelled f ds objects → GoesOn f sync ds objects
unfolding blocks_from AreSpelled
grouped f sync [] [] a b before e few s h = last_group f sync before b (b.0 == 0) refl e (omega (arith, few)) s h
grouped f sync [] (object ∷ objects) a b before e few s h = absurd a
grouped f sync (d ∷ ds) [] a b before e few s h = absurd a
grouped f sync (d ∷ ds) (object ∷ objects) a b before e few s h =
    one_more f sync d ds before objects (with_object b object) (is_full (with_object b object)) refl (omega (arith, length-append before (d ∷ []), e)) (omega (arith, few)) (each_more f before b.1 d object s a.0)
    (λ c others e few s h. grouped f sync ds objects a.1 c others e few s h) h

-- The records of rows.
record_of : ManifestRow → Datum
record_of row = Fields (row_fields row)

all_spelled : (rows : List ManifestRow) → AllByRecursion IsSpelled rows → AreSpelled (form_of list_schema) (map record_of rows) (map row_bytes rows)
unfolding AreSpelled record_of
all_spelled [] h = tt
all_spelled (row ∷ rows) h = (h.0, all_spelled rows h.1)

stand : (rows : List ManifestRow) → StandFor written_slots (map record_of rows) rows
unfolding record_of
stand [] = tt
stand (row ∷ rows) =
    let P : List Datum → Type 0 = λ ds. IsRow written_slots ds row in
    (subst P (sym (ap fields_in (outs-Fields (row_fields row)))) (read_back row), stand rows)

same_text : (a b : List ℕ) → Some a ≡ Some b → a ≡ b
same_text a b e = cc

pub reads_back : (rows : List ManifestRow) (sync bytes : List ℕ) → All IsSpelled rows → read_text (schema_text list_schema) ≡ Some (written_schema list_schema) → IsWritten list_meta sync (map row_bytes rows) bytes → ReadsBack rows bytes
reads_back rows sync bytes spelled reads w =
    let g = grouped (form_of list_schema) sync (map record_of rows) (map row_bytes rows) (all_spelled rows (recursion_from_All IsSpelled rows spelled)) no_objects [] refl (omega arith) refl w.fits in
    let said = w.header.spells in
    let same : schema_text list_schema ≡ said.0 = same_text _ _ said.1 in
    let P : List ℕ → Type 0 = λ head. SpellsHeader said.0 w.header.pairs sync head in
    let Q : List Datum → Type 0 = λ ds. StandFor written_slots ds rows in
    let s : SpellsList rows bytes = record {
      text = said.0;
      meta = w.header.pairs;
      sync = sync;
      schema = list_schema;
      fields = map written_field written_row_columns;
      blocks = g.groups;
      head = w.head;
      body = bytes_of sync (blocks_of (map row_bytes rows));
      is_header = subst P (sym w.header.is) said.2;
      is_schema = ap (λ (t : List ℕ). text_schema (read_text t)) (sym same) ∙ ap text_schema reads ∙ ap tree_schema schema_again;
      has_columns = has_columns;
      are_blocks = g.spells;
      are_rows = subst Q (sym g.are) (stand rows);
      is = w.is;
    } in
    lists_read rows bytes s

pub read_of : (rows : List ManifestRow) (sync : List ℕ) (r : Result (List ℕ) WriteErr) → All IsSpelled rows → read_text (schema_text list_schema) ≡ Some (written_schema list_schema) → WritesList rows sync r → IfOk r (ReadsBack rows)
read_of rows sync (Ok bytes) spelled reads w = reads_back rows sync bytes spelled reads w
read_of rows sync (Err e) spelled reads w = tt

-- the text of the schema is read
pub list_reads : (s : Schema) (text : List ℕ) → s ≡ list_schema → text ≡ schema_text s → (depth (form_of s) ≤ 32 → read_text text ≡ Some (written_schema s)) → read_text (schema_text list_schema) ≡ Some (written_schema list_schema)
list_reads s text same is h =
    let P : Schema → Type 0 = λ s. read_text (schema_text s) ≡ Some (written_schema s) in
    subst P same (ap read_text (sym is) ∙ h (subst (λ (s : Schema). depth (form_of s) ≤ 32) (sym same) is_shallow))
