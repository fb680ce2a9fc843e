-- What is read as a manifest list, or as a manifest, is spelled as one.
use Rattle.std.proofs.Common.{◌≡◌, ℕ, zero, suc, ◌-◌, List, [], ◌∷◌, ◌++◌, length, Result, Ok, Err, Option, Bool, true, false, ◌==◌, cond, refl, sym, ap, subst, arith, eqb-true}
use Rattle.std.specs.List.{flat_map}
use Rattle.serde_json.specs.Read.{read as read_text}
use Rattle.avro_container.specs.declared.fault.ContainerCause.{ContainerCause}
use Rattle.avro_container.specs.declared.fault.ContainerCause.TheVariants.{Short}
use Rattle.avro_container.specs.Reading.{Read}
use Rattle.avro_container.specs.Container.{SpellsBlock, SpellsHeader, Pair}
use Rattle.avro_container.specs.ContainerReading.{container_block_at, header_at, Said}
use Rattle.avro_container.specs.Spelling.{SpellsEach}
use Rattle.avro_container.proofs.BlockLaws.{block_found}
use Rattle.avro_container.proofs.HeaderLaws.{header_found}
use Rattle.avro_schema.specs.declared.schema.Field.{Field}
use Rattle.avro_schema.specs.declared.schema.Schema.{Schema, out-Schema}
use Rattle.avro_schema.specs.Form.{Form, form_of}
use Rattle.avro_pieces.specs.declared.fault.DatumCause.{DatumCause}
use Rattle.avro_datum.specs.declared.datum.Datum.{Datum, out-Datum}
use Rattle.avro_datum.specs.Reading.{read}
use Rattle.avro_datum.specs.Spelling.{Spells}
use Rattle.avro_datum.proofs.Found.{found}
use Rattle.manifest_cells.specs.Cells.{fields_in}
use Rattle.manifest_columns.specs.Shapes.{fields_of}
use Rattle.manifest_columns.specs.Tables.{row_columns}
use Rattle.manifest_entries.specs.declared.entry.Entry.{Entry}
use Rattle.manifest_entries.specs.Entries.{IsEntry}
use Rattle.manifest_rows.specs.declared.row.ManifestRow.{ManifestRow}
use Rattle.manifest_rows.specs.Rows.{IsRow, row_slots}
use Rattle.manifest_codec.specs.declared.fault.ManifestCause.{ManifestCause}
use Rattle.manifest_codec.specs.declared.fault.ManifestCause.TheVariants.{Container, Value}
use Rattle.manifest_codec.specs.Faults.{Fault, ◌>>=◌, placed, at_schema}
use Rattle.manifest_codec.specs.Objects.{Objects, ended, stopped, with_object, in_block, with_block, in_blocks}
use Rattle.manifest_codec.specs.Records.{AreEach}
use Rattle.manifest_codec.specs.Schemas.{Head, text_schema, checked, head_at, file_at}
use Rattle.manifest_codec.specs.Lists.{IsRowAt, GivesList}
use Rattle.manifest_codec.specs.Manifests.{IsEntryAt, GivesManifest, checked_entry, manifest_slots}
use Rattle.manifest_codec.specs.Spelling.{SpellsObjects, StandEach, ListsAreSpelled, ManifestsAreSpelled}

-- the values of a block, what they stand for, and what is behind them
record Inside {A : Type 0} (Is : ℕ → Datum → A → Type 0) (Of : Datum → A → Type 0) (f : Form) (count : ℕ) (bytes : List ℕ) (next : Objects) (xs : List A) : Type 0 where
  ds : List Datum
  own : List A
  more : List A
  values : SpellsEach (Spells f) ds bytes
  counted : length ds ≡ count
  stand : StandEach Of ds own
  behind : AreEach Is next more
  is : xs ≡ own ++ more

-- the blocks of a file and their values
pub record Blocks {A : Type 0} (Of : Datum → A → Type 0) (f : Form) (sync bytes : List ℕ) (xs : List A) : Type 0 where
  pub blocks : List (List Datum)
  pub spells : SpellsEach (SpellsObjects f sync) blocks bytes
  pub stand : StandEach Of (flat_map (λ (ds : List Datum). ds) blocks) xs

empty : (bytes : List ℕ) → (length bytes == 0) ≡ true → bytes ≡ []
empty [] e = refl
empty (x ∷ bytes) e = absurd (let none : length (x ∷ bytes) ≡ 0 = eqb-true (length (x ∷ bytes)) 0 e in omega arith)

module _ {A : Type 0} (Is : ℕ → Datum → A → Type 0) (Of : Datum → A → Type 0) (told : (at : ℕ) (d : Datum) (x : A) → Is at d x → Of d x) where
  -- nothing is read of objects that end with a fault
  none_of : {B : Type 0} (cause : ManifestCause) (at : ℕ) (xs : List A) → AreEach Is (stopped cause at) xs → B
  none_of cause at [] h = absurd h
  none_of cause at (x ∷ xs) h = absurd h

  stand_both : (ds es : List Datum) (xs more : List A) → StandEach Of ds xs → StandEach Of es more → StandEach Of (ds ++ es) (xs ++ more)
  stand_both [] es [] more h g = g
  stand_both [] es (x ∷ xs) more h g = absurd h
  stand_both (d ∷ ds) es [] more h g = absurd h
  stand_both (d ∷ ds) es (x ∷ xs) more h g = (h.0, stand_both ds es xs more h.1 g)

  no_bytes : (b : Bool) (bytes : List ℕ) (cause : ManifestCause) (at : ℕ) (f : Form) (next : Objects) (xs : List A) → (length bytes == 0) ≡ b → AreEach Is (cond b next (stopped cause at)) xs → Inside Is Of f 0 bytes next xs
  no_bytes true [] cause at f next xs e h = record { ds = []; own = []; more = xs; values = refl; counted = refl; stand = tt; behind = h; is = refl }
  no_bytes true (x ∷ bytes) cause at f next xs e h = absurd (let none : length (x ∷ bytes) ≡ 0 = eqb-true (length (x ∷ bytes)) 0 e in omega arith)
  no_bytes false bytes cause at f next xs e h = none_of cause at xs h

  -- the values behind an object
  step : (f : Form) (end : ℕ) (next : Objects) (n : ℕ) (bytes : List ℕ) (behind : List ℕ → Objects) (r : Read DatumCause Datum) (xs : List A) → read f bytes ≡ r
      → ((rest : List ℕ) (xs : List A) → AreEach Is (behind rest) xs → Inside Is Of f n rest next xs) → AreEach Is (with_object end (length bytes) r behind) xs → Inside Is Of f (suc n) bytes next xs
  step f end next n bytes behind (Err (cause, left)) xs e go h = none_of (Value cause) (end - left) xs h
  step f end next n bytes behind (Ok (d, rest)) [] e go h = absurd h
  step f end next n bytes behind (Ok (d, rest)) (x ∷ xs) e go h =
      let more = go rest xs h.1 in
      let front = found f bytes d rest e in record {
        ds = d ∷ more.ds;
        own = x ∷ more.own;
        more = more.more;
        values = record { front = front.front; rest = rest; first = front.spells; second = more.values; is = front.is };
        counted = ap suc more.counted;
        stand = (told (end - length bytes) d x h.0, more.stand);
        behind = more.behind;
        is = ap (λ rs. x ∷ rs) more.is;
      }

  inside : (f : Form) (first end : ℕ) (next : Objects) (count : ℕ) (bytes : List ℕ) (xs : List A) → AreEach Is (in_block f first end next count bytes) xs → Inside Is Of f count bytes next xs
  unfolding in_block
  inside f first end next zero bytes xs h = no_bytes (length bytes == 0) bytes _ _ f next xs refl h
  inside f first end next (suc n) bytes xs h = step f end next n bytes (in_block f first end next n) (read f bytes) xs refl (λ rest xs h. inside f first end next n rest xs h) h

  no_blocks : (f : Form) (sync bytes : List ℕ) (xs : List A) → bytes ≡ [] → AreEach Is ended xs → Blocks Of f sync bytes xs
  no_blocks f sync bytes [] e h = record { blocks = []; spells = e; stand = tt }
  no_blocks f sync bytes (x ∷ xs) e h = absurd h

  block : (f : Form) (sync : List ℕ) (n : ℕ) (bytes : List ℕ) (behind : List ℕ → Objects) (r : Read ContainerCause (ℕ × List ℕ)) (xs : List A) → container_block_at sync bytes ≡ r
      → ((rest : List ℕ) (xs : List A) → AreEach Is (behind rest) xs → Blocks Of f sync rest xs) → AreEach Is (with_block f n behind r) xs → Blocks Of f sync bytes xs
  block f sync n bytes behind (Err (cause, left)) xs e go h = none_of (Container cause) (n - left) xs h
  block f sync n bytes behind (Ok ((count, body), rest)) xs e go h =
      let own = inside f (n - length rest - 16 - length body) (n - length rest - 16) (behind rest) count body xs h in
      let more = go rest own.more own.behind in
      let front = block_found sync bytes count body rest e in
      let P : ℕ → Type 0 = λ k. SpellsBlock sync k body front.0 in
      let Q : List A → Type 0 = StandEach Of (own.ds ++ flat_map (λ (ds : List Datum). ds) more.blocks) in record {
        blocks = own.ds ∷ more.blocks;
        spells = record { front = front.0; rest = rest; first = record { body = body; values = own.values; block = subst P (sym own.counted) front.1 }; second = more.spells; is = front.2 };
        stand = subst Q (sym own.is) (stand_both own.ds (flat_map (λ (ds : List Datum). ds) more.blocks) own.own own.more own.stand more.stand);
      }

  -- a file ends, or a block or a fault follows
  next_in : (f : Form) (sync bytes : List ℕ) (other : Objects) (b : Bool) (xs : List A) → (length bytes == 0) ≡ b → (AreEach Is other xs → Blocks Of f sync bytes xs) → AreEach Is (cond b ended other) xs → Blocks Of f sync bytes xs
  next_in f sync bytes other true xs e go h = no_blocks f sync bytes xs (empty bytes e) h
  next_in f sync bytes other false xs e go h = go h

  pub whole : (f : Form) (sync : List ℕ) (n most : ℕ) (bytes : List ℕ) (xs : List A) → AreEach Is (in_blocks f sync n most bytes) xs → Blocks Of f sync bytes xs
  unfolding in_blocks
  whole f sync n zero bytes xs h = next_in f sync bytes (stopped (Container Short) n) (length bytes == 0) xs refl (none_of (Container Short) n xs) h
  whole f sync n (suc most) bytes xs h =
      next_in f sync bytes (with_block f n (in_blocks f sync n most) (container_block_at sync bytes)) (length bytes == 0) xs refl
      (block f sync n bytes (in_blocks f sync n most) (container_block_at sync bytes) xs refl (λ rest xs h. whole f sync n most rest xs h)) h

-- what is read of a file
abbrev pub Given : Type 0
Given = Result (List Field × List Pair × Objects) Fault

-- a file whose header, schema and fields were read
record Opened (check : Option (List Field) → Result (List Field) ManifestCause) (bytes : List ℕ) (fs : List Field) (meta : List Pair) (objects : Objects) : Type 0 where
  text : List ℕ
  sync : List ℕ
  schema : Schema
  head : List ℕ
  body : List ℕ
  is_header : SpellsHeader text meta sync head
  is_schema : text_schema (read_text text) ≡ Ok schema
  has_columns : check (fields_of (out-Schema schema)) ≡ Ok fs
  has_objects : objects ≡ in_blocks (form_of schema) sync (length bytes) (length body) body
  is : bytes ≡ head ++ body

module _ (check : Option (List Field) → Result (List Field) ManifestCause) (bytes : List ℕ) (G : Given → Type 0) (refused : (e : Fault) → G (Err e) → ⊥) where
  abbrev Reads : Type 0
  Reads = (fs : List Field) × (meta : List Pair) × (objects : Objects) × Opened check bytes fs meta objects × G (Ok (fs, meta, objects))

  abbrev to_file : List Pair → List ℕ → List ℕ → Schema → List Field → Given
  to_file meta sync rest s fs = Ok (fs, meta, in_blocks (form_of s) sync (length bytes) (length rest) rest)

  abbrev of_head : Head → Given
  of_head h = at_schema (check (fields_of (out-Schema h.0))) >>= to_file h.1 h.2 h.3 h.0

  abbrev to_head : Said × List ℕ → Schema → Result Head Fault
  to_head h s = Ok (s, h.0.1, h.0.2, h.1)

  of_fields : (text : List ℕ) (meta : List Pair) (sync rest : List ℕ) (s : Schema) (c : Result (List Field) ManifestCause) → header_at bytes ≡ Ok ((text, meta, sync), rest) → text_schema (read_text text) ≡ Ok s
      → check (fields_of (out-Schema s)) ≡ c → G (at_schema c >>= to_file meta sync rest s) → Reads
  of_fields text meta sync rest s (Err cause) e f g h = absurd (refused _ h)
  of_fields text meta sync rest s (Ok fs) e f g h =
      let front = header_found bytes text meta sync rest e in (
        fs,
        meta,
        in_blocks (form_of s) sync (length bytes) (length rest) rest,
        record { text = text; sync = sync; schema = s; head = front.front; body = rest; is_header = front.spells; is_schema = f; has_columns = g; has_objects = refl; is = front.is },
        h,
      )

  of_schema : (text : List ℕ) (meta : List Pair) (sync rest : List ℕ) (s : Result Schema ManifestCause) → header_at bytes ≡ Ok ((text, meta, sync), rest) → text_schema (read_text text) ≡ s
      → G ((at_schema s >>= to_head ((text, meta, sync), rest)) >>= of_head) → Reads
  of_schema text meta sync rest (Err cause) e f h = absurd (refused _ h)
  of_schema text meta sync rest (Ok s) e f h = of_fields text meta sync rest s (check (fields_of (out-Schema s))) e f refl h

  of_header : (r : Read ContainerCause Said) → header_at bytes ≡ r
      → G ((placed (length bytes) r >>= λ h. at_schema (text_schema (read_text h.0.0)) >>= to_head h) >>= of_head) → Reads
  of_header (Err (cause, left)) e h = absurd (refused _ h)
  of_header (Ok ((text, meta, sync), rest)) e h = of_schema text meta sync rest (text_schema (read_text text)) e refl h

  reads : G (file_at check bytes) → Reads
  unfolding file_at head_at
  reads h = of_header (header_at bytes) refl h

pub lists_spelled : ListsAreSpelled
lists_spelled bytes rows h =
    let r = reads (checked row_columns) bytes (λ file. GivesList file (Ok rows)) (λ e h. h) h in
    let o = r.3 in
    let Is : ℕ → Datum → ManifestRow → Type 0 = IsRowAt (row_slots r.0) in
    let Of : Datum → ManifestRow → Type 0 = λ d row. IsRow (row_slots r.0) (fields_in (out-Datum d)) row in
    let P : Objects → Type 0 = λ objects. AreEach Is objects rows in
    let all = whole Is Of (λ at d x h. h.0) (form_of o.schema) o.sync (length bytes) (length o.body) o.body rows (subst P o.has_objects r.4) in record {
      text = o.text;
      meta = r.1;
      sync = o.sync;
      schema = o.schema;
      fields = r.0;
      blocks = all.blocks;
      head = o.head;
      body = o.body;
      is_header = o.is_header;
      is_schema = o.is_schema;
      has_columns = o.has_columns;
      are_blocks = all.spells;
      are_rows = all.stand;
      is = o.is;
    }

pub manifests_spelled : ManifestsAreSpelled
manifests_spelled ps bytes m h =
    let r = reads (checked_entry ps) bytes (λ file. GivesManifest ps file (Ok m)) (λ e h. h) h in
    let o = r.3 in
    let Is : ℕ → Datum → Entry → Type 0 = IsEntryAt (manifest_slots ps r.0) in
    let Of : Datum → Entry → Type 0 = λ d entry. IsEntry (manifest_slots ps r.0) (fields_in (out-Datum d)) entry in
    let P : Objects → Type 0 = λ objects. AreEach Is objects m.entries in
    let all = whole Is Of (λ at d x h. h.0) (form_of o.schema) o.sync (length bytes) (length o.body) o.body m.entries (subst P o.has_objects r.4.0) in record {
      text = o.text;
      meta = r.1;
      sync = o.sync;
      schema = o.schema;
      fields = r.0;
      blocks = all.blocks;
      head = o.head;
      body = o.body;
      is_header = o.is_header;
      is_schema = o.is_schema;
      has_columns = o.has_columns;
      are_blocks = all.spells;
      are_entries = all.stand;
      has_keys = r.4.1;
      is = o.is;
    }
