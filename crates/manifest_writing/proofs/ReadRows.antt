-- Rows that were read may be written.
use Rattle.std.proofs.Common.{◌≡◌, ℕ, zero, suc, pos, ◌≤◌, ◌<◌, ◌^◌, List, [], ◌∷◌, ◌++◌, length, map, true, Option, Some, None, IfSome, refl, sym, ap, subst, arith}
use Rattle.std.specs.List.{AllByRecursion, flat_map, slice_get}
use Rattle.std.specs.Str.{IsUtf8}
use Rattle.std.proofs.lemmas.List.{length-map}
use Rattle.std.proofs.lemmas.List.Elements.{All-from_recursion}
use Rattle.avro_container.specs.Long.{zigzag}
use Rattle.avro_container.specs.Spelling.{SpellsEach}
use Rattle.avro_schema.specs.declared.schema.Field.{Field}
use Rattle.avro_schema.specs.Form.{Form, null, boolean, int, long, float4, float8, bytes as blob, string, fixed, choice, array, pairs, fields, union, Forms, no_forms, form, form_of}
use Rattle.avro_datum.specs.declared.datum.Datum.{Datum, out-Datum}
use Rattle.avro_datum.specs.declared.datum.Datum.TheOpen.{Datum-F}
use Rattle.avro_datum.specs.declared.datum.Datum.TheVariants.{Long, Str, outs-Null, outs-Bool, outs-Int, outs-Long, outs-Float4, outs-Float8, outs-Blob, outs-Str, outs-Fix, outs-Choice, outs-List, outs-Pairs, outs-Fields, outs-Branch}
use Rattle.avro_datum.specs.Spelling.{Spells}
use Rattle.avro_datum.specs.Writing.{IsOf, AreOf, IsOfNth}
use Rattle.avro_datum.proofs.Values.{is_of}
use Rattle.manifest_columns.specs.declared.column.Column.{Column}
use Rattle.manifest_columns.specs.declared.column.Kind.TheVariants.{Summaries}
use Rattle.manifest_columns.specs.declared.name.Name.TheVariants as names
use Rattle.manifest_columns.specs.declared.name.RecordName.TheVariants as record_names
use Rattle.manifest_columns.specs.Slots.{slot_of}
use Rattle.manifest_cells.specs.Cells.{Cell, single, records, not_null, inside, plain, fields_in, held, record_cells, items_in, listed, records_in, listed_as}
use Rattle.manifest_rows.specs.declared.row.FieldSummary.{FieldSummary}
use Rattle.manifest_rows.specs.declared.row.ManifestRow.{ManifestRow}
use Rattle.manifest_rows.specs.Rows.{IsRow, cells, row_slots, summary_cells}
use Rattle.manifest_codec.specs.Spelling.{SpellsObjects, StandFor}
use Rattle.manifest_codec.proofs.Spelled.{lists_spelled}
use Rattle.manifest_writing.specs.Lists.{IsWritable}
use Rattle.manifest_writing.specs.Laws.{ReadRowsAreWritable}

-- what a value has that is of some schema: a long fits, a string is UTF-8, an array isn't too long
abbrev Sound : Datum-F Datum → Type 0
Sound (Datum-F.Long n) = zigzag n < 2 ^ 64
Sound (Datum-F.Str t) = IsUtf8 t
Sound (Datum-F.List ds) = length ds ≤ 16777216
Sound _ = Unit {0}

-- the same of what is in a branch
abbrev SoundWithin : Datum-F Datum → Type 0
SoundWithin (Datum-F.Branch n inner) = Sound (out-Datum inner)
SoundWithin _ = Unit {0}

abbrev Holds : Datum → Type 0
Holds d = Sound (out-Datum d) × SoundWithin (out-Datum d)

record Told (o : Datum-F Datum) : Type 0 where
  own : Sound o
  within : SoundWithin o
  fields : AllByRecursion Holds (fields_in o)

same : (d c : Datum) (o : Datum-F Datum) → d ≡ c → out-Datum c ≡ o → Told o → Told (out-Datum d)
same d c o e f t = subst (λ (x : Datum). Told (out-Datum x)) (sym e) (subst Told (sym f) t)

mutual
  unfolding IsOf

  told : (f : Form) (d : Datum) → IsOf f d → Told (out-Datum d)
  told null d h = same d _ _ h outs-Null (record { own = tt; within = tt; fields = tt })
  told boolean d h = same d _ _ h.1 (outs-Bool h.0) (record { own = tt; within = tt; fields = tt })
  told int d h = same d _ _ h.1 (outs-Int h.0) (record { own = tt; within = tt; fields = tt })
  told long d h = same d _ _ h.1 (outs-Long h.0) (record { own = h.2; within = tt; fields = tt })
  told float4 d h = same d _ _ h.1 (outs-Float4 h.0) (record { own = tt; within = tt; fields = tt })
  told float8 d h = same d _ _ h.1 (outs-Float8 h.0) (record { own = tt; within = tt; fields = tt })
  told blob d h = same d _ _ h.1 (outs-Blob h.0) (record { own = tt; within = tt; fields = tt })
  told string d h = same d _ _ h.1 (outs-Str h.0) (record { own = h.2; within = tt; fields = tt })
  told (fixed n) d h = same d _ _ h.1 (outs-Fix h.0) (record { own = tt; within = tt; fields = tt })
  told (choice n) d h = same d _ _ h.1 (outs-Choice h.0) (record { own = tt; within = tt; fields = tt })
  told (array f) d h = same d _ _ h.1 (outs-List h.0) (record { own = h.3; within = tt; fields = tt })
  told (pairs f) d h = same d _ _ h.1 (outs-Pairs h.0) (record { own = tt; within = tt; fields = tt })
  told (fields fs) d h = same d _ _ h.1 (outs-Fields h.0) (record { own = tt; within = tt; fields = told_all fs h.0 h.2 })
  told (union fs) d h = same d _ _ h.2 (outs-Branch h.0 h.1) (record { own = tt; within = told_nth fs h.0 h.1 h.4; fields = tt })

  told_all : (fs : Forms) (ds : List Datum) → AreOf fs ds → AllByRecursion Holds ds
  told_all no_forms [] h = tt
  told_all no_forms (d ∷ ds) h = absurd h
  told_all (form f fs) [] h = absurd h
  told_all (form f fs) (d ∷ ds) h = let t = told f d h.0 in ((t.own, t.within), told_all fs ds h.1)

  told_nth : (fs : Forms) (n : ℕ) (d : Datum) → IsOfNth fs n d → Sound (out-Datum d)
  told_nth no_forms n d h = absurd h
  told_nth (form f fs) zero d h = (told f d h).own
  told_nth (form f fs) (suc n) d h = told_nth fs n d h

-- What is held in a place.
abbrev IsSound : Option Datum → Type 0
IsSound found = IfSome found (λ d. Sound (out-Datum d))

sound_not_null : (d : Datum) (o : Datum-F Datum) → out-Datum d ≡ o → Sound o → IsSound (not_null d o)
sound_not_null d Datum-F.Null e h = tt
sound_not_null d o e h = subst Sound (sym e) h

sound_inside : (d : Datum) (o : Datum-F Datum) → out-Datum d ≡ o → Sound o → SoundWithin o → IsSound (inside d o)
sound_inside d (Datum-F.Branch n inner) e h w = sound_not_null inner (out-Datum inner) refl w
sound_inside d Datum-F.Null e h w = tt
sound_inside d o e h w = subst Sound (sym e) h

sound_at : (ds : List Datum) (n : ℕ) → AllByRecursion Holds ds → IsSound (plain (slice_get ds n))
unfolding plain
sound_at [] n h = tt
sound_at (d ∷ ds) zero h = sound_inside d (out-Datum d) refl h.0.0 h.0.1
sound_at (d ∷ ds) (suc n) h = sound_at ds n h.1

sound_held : (ds : List Datum) (place : Option ℕ) → AllByRecursion Holds ds → IsSound (held ds place)
unfolding plain
sound_held ds None h = tt
sound_held ds (Some n) h = sound_at ds n h

-- What a row has.
value_of : (a b : Option Datum) → Some (single a) ≡ Some (single b) → a ≡ b
value_of a b e = cc

list_of : (a b : Cell) → Some a ≡ Some b → a ≡ b
list_of a b e = cc

sound_text : (t : List ℕ) (found : Option Datum) → Some (Str t) ≡ found → IsSound found → IsUtf8 t
sound_text t found e h = subst Sound (outs-Str t) (subst IsSound (sym e) h)

sound_number : (n : ℕ) (found : Option Datum) → Some (Long (pos n)) ≡ found → IsSound found → n < 2 ^ 63
sound_number n found e h =
    let fits : zigzag (pos n) < 2 ^ 64 = subst Sound (outs-Long (pos n)) (subst IsSound (sym e) h) in
    omega (arith, fits)

same_records : (xs ys : List (List (Option Datum))) → records (Some xs) ≡ records (Some ys) → xs ≡ ys
same_records xs ys e = cc

sound_items : (ss : List FieldSummary) (places : List (Option ℕ)) (d : Datum) (o : Datum-F Datum) → listed_as summary_cells (Some ss) ≡ listed places d (items_in o) → Sound o → length ss ≤ 16777216
sound_items ss places d (Datum-F.List ds) e h =
    let lengths : length (map summary_cells ss) ≡ length (map (record_cells places) ds) = ap length (same_records _ _ e) in
    omega (arith, h, lengths, length-map ss summary_cells, length-map ds (record_cells places))
sound_items ss places d o e h = absurd cc

sound_list : (ss : Option (List FieldSummary)) (places : List (Option ℕ)) (found : Option Datum) → listed_as summary_cells ss ≡ records_in places found → IsSound found → IfSome ss (λ ss. length ss ≤ 16777216)
sound_list None places found e h = tt
sound_list (Some ss) places None e h = absurd cc
sound_list (Some ss) places (Some d) e h = sound_items ss places d (out-Datum d) e h

-- the column of the summaries
partitions : Column
partitions = record { id = pos 507; name = names.Partitions; kind = Summaries (pos 508) record_names.FieldSummary; may_lack = true }

row_writable : (fs : List Field) (ds : List Datum) (row : ManifestRow) → AllByRecursion Holds ds → IsRow (row_slots fs) ds row → IsWritable row
unfolding cells partitions
row_writable fs ds row all h = record {
  path = sound_text row.manifest_path _ (value_of _ _ (ap (λ (cs : List Cell). slice_get cs 0) h)) (sound_held ds _ all);
  size = sound_number row.manifest_length _ (value_of _ _ (ap (λ (cs : List Cell). slice_get cs 1) h)) (sound_held ds _ all);
  summaries = sound_list row.partitions (slot_of fs partitions).within _ (list_of _ _ (ap (λ (cs : List Cell). slice_get cs 7) h)) (sound_held ds _ all);
}

-- The rows of a list.
each_of : (f : Form) (ds : List Datum) (b : List ℕ) → SpellsEach (Spells f) ds b → AllByRecursion (IsOf f) ds
each_of f [] b s = tt
each_of f (d ∷ ds) b s = (is_of f d s.front s.first, each_of f ds s.rest s.second)

of_both : (f : Form) (ds es : List Datum) → AllByRecursion (IsOf f) ds → AllByRecursion (IsOf f) es → AllByRecursion (IsOf f) (ds ++ es)
of_both f [] es h k = k
of_both f (d ∷ ds) es h k = (h.0, of_both f ds es h.1 k)

all_of : (f : Form) (sync : List ℕ) (blocks : List (List Datum)) (b : List ℕ) → SpellsEach (SpellsObjects f sync) blocks b → AllByRecursion (IsOf f) (flat_map (λ (ds : List Datum). ds) blocks)
all_of f sync [] b s = tt
all_of f sync (ds ∷ blocks) b s = of_both f ds (flat_map (λ (ds : List Datum). ds) blocks) (each_of f ds s.first.body s.first.values) (all_of f sync blocks s.rest s.second)

rows_writable : (fs : List Field) (f : Form) (ds : List Datum) (rows : List ManifestRow) → AllByRecursion (IsOf f) ds → StandFor (row_slots fs) ds rows → AllByRecursion IsWritable rows
rows_writable fs f [] [] h st = tt
rows_writable fs f [] (row ∷ rows) h st = absurd st
rows_writable fs f (d ∷ ds) [] h st = absurd st
rows_writable fs f (d ∷ ds) (row ∷ rows) h st = (row_writable fs (fields_in (out-Datum d)) row (told f d h.0).fields st.0, rows_writable fs f ds rows h.1 st.1)

pub read_writable : ReadRowsAreWritable
read_writable bytes rows h =
    let s = lists_spelled bytes rows h in
    All-from_recursion IsWritable rows (rows_writable s.fields (form_of s.schema) (flat_map (λ (ds : List Datum). ds) s.blocks) rows (all_of (form_of s.schema) s.sync s.blocks s.body s.are_blocks) s.are_rows)
