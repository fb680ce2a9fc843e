-- The written tree of a list's schema is read as that schema.
use Rattle.std.proofs.Common.{◌≡◌, ℕ, ℤ, List, [], ◌∷◌, map, codes, Bool, true, false, if◌then◌else◌, Option, Some, Ok, refl, ap, ◌∙◌, rules}
use Rattle.serde_json.specs.Data.{Data, string, array}
use Rattle.serde_json.specs.View.{items_of}
use Rattle.avro_schema.specs.declared.schema.Field.{Field}
use Rattle.avro_schema.specs.declared.schema.Logical.TheVariants.{Plain}
use Rattle.avro_schema.specs.declared.schema.Schema.{Schema, the_lemmas}
use Rattle.avro_schema.specs.declared.schema.Schema.TheVariants as types
use Rattle.avro_schema.specs.Attribute.{id_at}
use Rattle.avro_schema.specs.Logical.{has_logical, int_logical, long_logical, bytes_logical, string_logical}
use Rattle.avro_schema.specs.Names.{last_part}
use Rattle.avro_schema.specs.Primitive.{primitive, is_primitive}
use Rattle.avro_schema.specs.Reading.{schema_of, read, level, object_at, record_at, new_name, union_at, array_at, inner_at, each, field_at, named}
use Rattle.avro_schema.specs.Writing.{is_written, with_name, Writes, written_each, written_type, written_field, written_schema, primitive_tree, put_id, put_logical, put_map, array_tree, record_tree, begins_with_null, put_default, field_tree}
use Rattle.manifest_columns.specs.declared.column.Column.{Column}
use Rattle.manifest_columns.specs.declared.column.Kind.{Kind}
use Rattle.manifest_columns.specs.declared.column.Kind.TheVariants.{Bool as Truth, Int, Long, Text, Bytes, Summaries}
use Rattle.manifest_columns.specs.declared.name.RecordName.TheVariants as names
use Rattle.manifest_columns.specs.Name.{name_of, record_name_of}
use Rattle.manifest_columns.specs.Tables.{written_row_columns, written_summary_columns}
use Rattle.manifest_columns.specs.Written.{plain_type, plain_field, nullable, written_type as type_of_kind, written_field as column_field}
use Rattle.manifest_writing.specs.Lists.{list_schema}
use Rattle.manifest_writing.proofs.Tame.{field-written}

-- names of types that were written
abbrev Names : Type 0
Names = List (List ℕ)

-- Trees of columns.

plain_tree : Kind → Data
plain_tree Truth = string (codes "boolean")
plain_tree Int = primitive_tree (codes "int") Plain
plain_tree Long = primitive_tree (codes "long") Plain
plain_tree Text = primitive_tree (codes "string") Plain
plain_tree Bytes = primitive_tree (codes "bytes") Plain
plain_tree _ = string (codes "null")

nullable_tree : Bool → Data → Data
nullable_tree false d = d
nullable_tree true d = array (items_of (string (codes "null") ∷ d ∷ []))

plain_column_tree : Column → Data
plain_column_tree c = field_tree (name_of c.name) (nullable_tree c.may_lack (plain_tree c.kind)) (Some c.id)

kind_tree : Kind → Data
kind_tree (Summaries element name) = array_tree (record_tree (record_name_of name) (map plain_column_tree written_summary_columns)) (Some element) false
kind_tree kind = plain_tree kind

column_tree : Column → Data
column_tree c = field_tree (name_of c.name) (nullable_tree c.may_lack (kind_tree c.kind)) (Some c.id)

list_tree : Data
list_tree = record_tree (record_name_of names.ManifestFile) (map column_tree written_row_columns)

-- the names behind a column
behind : Kind → Names → Names
behind (Summaries element name) ns = with_name (record_name_of name) ns
behind _ ns = ns

behind_all : List Column → Names → Names
behind_all [] ns = ns
behind_all (c ∷ cs) ns = behind_all cs (behind c.kind ns)

-- a kind of a row's columns, whose record wasn't written before
IsNew : Kind → Names → Type 0
IsNew Truth ns = Unit {0}
IsNew Int ns = Unit {0}
IsNew Long ns = Unit {0}
IsNew Text ns = Unit {0}
IsNew Bytes ns = Unit {0}
IsNew (Summaries element name) ns = is_written (record_name_of name) ns ≡ false
IsNew _ ns = ⊥

AreNew : List Column → Names → Type 0
AreNew [] ns = Unit {0}
AreNew (c ∷ cs) ns = IsNew c.kind ns × AreNew cs (behind c.kind ns)

-- What is written for types.

null_written : (ns : Names) → written_type types.Null ns ≡ (string (codes "null"), ns)
null_written ns = search (rules, the_lemmas)

plain_written : (k : Kind) (ns : Names) → written_type (plain_type k) ns ≡ (plain_tree k, ns)
unfolding plain_tree
plain_written Truth ns = search (rules, the_lemmas)
plain_written Int ns = search (rules, the_lemmas)
plain_written Long ns = search (rules, the_lemmas)
plain_written Text ns = search (rules, the_lemmas)
plain_written Bytes ns = search (rules, the_lemmas)
plain_written k ns = null_written ns

union_written : (bs : List Schema) (ns : Names) → written_type (types.Union bs) ns ≡ (array (items_of (written_each (map written_type bs) ns).0), (written_each (map written_type bs) ns).1)
union_written bs ns = search (rules, the_lemmas)

array_written : (t : Schema) (id : Option ℤ) (m : Bool) (ns : Names) → written_type (types.List t id m) ns ≡ (array_tree (written_type t ns).0 id m, (written_type t ns).1)
array_written t id m ns = search (rules, the_lemmas)

abbrev fields_written : List ℕ → List Field → Writes Data
fields_written name fs ns = (record_tree name (written_each (map written_field fs) ns).0, (written_each (map written_field fs) ns).1)

record_once : (name : List ℕ) (fs : List Field) (ns : Names) → written_type (types.Fields name fs) ns ≡ (if is_written name ns then (string name, ns) else ((fields_written name fs ns).0, with_name name (fields_written name fs ns).1))
record_once name fs ns = search (rules, the_lemmas)

nullable_written : (b : Bool) (t : Schema) (ns ms : Names) (d : Data) → written_type t ns ≡ (d, ms) → written_type (nullable b t) ns ≡ (nullable_tree b d, ms)
unfolding nullable_tree
nullable_written false t ns ms d e = e
nullable_written true t ns ms d e =
    union_written (types.Null ∷ t ∷ []) ns
    ∙ ap (λ (x : Data × Names). (array (items_of (x.0 ∷ (written_type t x.1).0 ∷ [])), (written_type t x.1).1)) (null_written ns)
    ∙ ap (λ (x : Data × Names). (array (items_of (string (codes "null") ∷ x.0 ∷ [])), x.1)) e

list_written : (t : Schema) (id : Option ℤ) (m : Bool) (ns ms : Names) (d : Data) → written_type t ns ≡ (d, ms) → written_type (types.List t id m) ns ≡ (array_tree d id m, ms)
list_written t id m ns ms d e = array_written t id m ns ∙ ap (λ (x : Data × Names). (array_tree x.0 id m, x.1)) e

record_written : (name : List ℕ) (fs : List Field) (ns ms : Names) (ds : List Data) → is_written name ns ≡ false → written_each (map written_field fs) ns ≡ (ds, ms) → written_type (types.Fields name fs) ns ≡ (record_tree name ds, with_name name ms)
record_written name fs ns ms ds e all =
    record_once name fs ns
    ∙ ap (λ (b : Bool). if b then (string name, ns) else ((fields_written name fs ns).0, with_name name (fields_written name fs ns).1)) e
    ∙ ap (λ (x : List Data × Names). (record_tree name x.0, with_name name x.1)) all

-- a field, and those behind it
next : (f : Field) (fs : List Field) (ns ms ks : Names) (d : Data) (ds : List Data) → written_type f.schema ns ≡ (d, ms) → written_each (map written_field fs) ms ≡ (ds, ks)
    → written_each (map written_field (f ∷ fs)) ns ≡ (field_tree f.name d f.field_id ∷ ds, ks)
next f fs ns ms ks d ds e rest =
    ap (λ (x : Data × Names). (x.0 ∷ (written_each (map written_field fs) x.1).0, (written_each (map written_field fs) x.1).1)) (field-written f ns ∙ ap (λ (x : Data × Names). (field_tree f.name x.0 f.field_id, x.1)) e)
    ∙ ap (λ (x : List Data × Names). (field_tree f.name d f.field_id ∷ x.0, x.1)) rest

plain_columns_written : (cs : List Column) (ns : Names) → written_each (map written_field (map plain_field cs)) ns ≡ (map plain_column_tree cs, ns)
unfolding plain_column_tree
plain_columns_written [] ns = refl
plain_columns_written (c ∷ cs) ns =
    next (plain_field c) (map plain_field cs) ns ns ns (nullable_tree c.may_lack (plain_tree c.kind)) (map plain_column_tree cs) (nullable_written c.may_lack (plain_type c.kind) ns ns (plain_tree c.kind) (plain_written c.kind ns)) (plain_columns_written cs ns)

kind_written : (k : Kind) (ns : Names) → IsNew k ns → written_type (type_of_kind k) ns ≡ (kind_tree k, behind k ns)
unfolding kind_tree behind IsNew
kind_written Truth ns h = plain_written Truth ns
kind_written Int ns h = plain_written Int ns
kind_written Long ns h = plain_written Long ns
kind_written Text ns h = plain_written Text ns
kind_written Bytes ns h = plain_written Bytes ns
kind_written (Summaries element name) ns h =
    list_written (types.Fields (record_name_of name) (map plain_field written_summary_columns)) (Some element) false ns (with_name (record_name_of name) ns) (record_tree (record_name_of name) (map plain_column_tree written_summary_columns))
    (record_written (record_name_of name) (map plain_field written_summary_columns) ns ns (map plain_column_tree written_summary_columns) h (plain_columns_written written_summary_columns ns))
kind_written k ns h = absurd h

columns_written : (cs : List Column) (ns : Names) → AreNew cs ns → written_each (map written_field (map column_field cs)) ns ≡ (map column_tree cs, behind_all cs ns)
unfolding AreNew behind_all column_tree
columns_written [] ns h = refl
columns_written (c ∷ cs) ns h =
    next (column_field c) (map column_field cs) ns (behind c.kind ns) (behind_all cs (behind c.kind ns)) (nullable_tree c.may_lack (kind_tree c.kind)) (map column_tree cs)
    (nullable_written c.may_lack (type_of_kind c.kind) ns (behind c.kind ns) (kind_tree c.kind) (kind_written c.kind ns h.0)) (columns_written cs (behind c.kind ns) h.1)

rows_are_new : AreNew written_row_columns []
unfolding AreNew IsNew behind
rows_are_new = (tt, (tt, (tt, (tt, (tt, (tt, (tt, (tt, (tt, (tt, (tt, (tt, (tt, (refl, (tt, tt)))))))))))))))

tree_is : written_schema list_schema ≡ list_tree
unfolding written_schema list_tree
tree_is = ap (λ (x : Data × Names). x.0) (record_written (record_name_of names.ManifestFile) (map column_field written_row_columns) [] (behind_all written_row_columns []) (map column_tree written_row_columns) refl (columns_written written_row_columns [] rows_are_new))

tree_read : schema_of list_tree ≡ Ok list_schema
unfolding schema_of read level object_at record_at new_name union_at array_at inner_at each field_at named primitive is_primitive last_part id_at has_logical int_logical long_logical bytes_logical string_logical primitive_tree put_id put_logical put_map array_tree record_tree begins_with_null put_default field_tree list_tree column_tree kind_tree nullable_tree plain_tree plain_column_tree
tree_read = refl

pub schema_again : schema_of (written_schema list_schema) ≡ Ok list_schema
schema_again = ap schema_of tree_is ∙ tree_read
