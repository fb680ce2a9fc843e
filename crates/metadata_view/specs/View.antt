-- What the fields of metadata say (Iceberg table specification, Table Metadata, Snapshots, Snapshot References).
-- Each reading is total: where a field isn't of its form it is read as a default, and the metadata is refused.
use Rattle.std.specs.Prelude.{ℕ, ℤ, pos, List, [], ◌∷◌, ◌++◌, map, codes, Option, Some, None, option_map, option_and_then, unwrap_or, if◌then◌else◌}
use Rattle.std.specs.Str.{bytes_eq}
use Rattle.serde_json.specs.Data.{Data, string, number, object, Members, no_members, member}
use Rattle.serde_json.specs.Find.{get, get_member, as_str, of_integer}
use Rattle.metadata_json.specs.Fields.{signed, unsigned, items_in, items_at, members_at, members_in, signed_at, unsigned_at, text_at}
use Rattle.metadata_json.specs.Edits.{set, object_at}
use Rattle.metadata_form.specs.Form.{int, unless_minus_one, is_branch_text}
use Rattle.metadata_view.specs.declared.types.Snapshot.{Snapshot}
use Rattle.metadata_view.specs.declared.types.Ref.{Ref}
use Rattle.metadata_view.specs.declared.types.Statistics.{Statistics}
use Rattle.metadata_view.specs.declared.types.Property.{Property}
use Rattle.metadata_view.specs.declared.typed.Typed.{Typed}

-- the whole number of 32 bits in the field k, else 0
abbrev pub int_at : List ℕ → Data → ℤ
int_at k d = unwrap_or (option_and_then int (get k d)) (pos 0)

-- `table-uuid`
abbrev pub uuid_of : Data → List ℕ
uuid_of = text_at (codes "table-uuid")

-- `location`
abbrev pub location_of : Data → List ℕ
location_of = text_at (codes "location")

-- `last-sequence-number`
abbrev pub last_sequence_of : Data → ℤ
last_sequence_of = signed_at (codes "last-sequence-number")

-- `last-updated-ms`: milliseconds since 1970-01-01 UTC
abbrev pub updated_of : Data → ℕ
updated_of = unsigned_at (codes "last-updated-ms")

-- absent, null and -1 stand for no current snapshot
abbrev pub current_of : Data → Option ℤ
current_of d = option_and_then unless_minus_one (option_and_then signed (get (codes "current-snapshot-id") d))

-- `current-schema-id`
abbrev pub current_schema_id_of : Data → ℤ
current_schema_id_of = int_at (codes "current-schema-id")

-- `default-spec-id`
abbrev pub default_spec_id_of : Data → ℤ
default_spec_id_of = int_at (codes "default-spec-id")

-- ---- snapshots

-- the operation that a summary names
abbrev pub operation_of : Option Data → List ℕ
operation_of None = []
operation_of (Some summary) = text_at (codes "operation") summary

-- what an item of `snapshots` says
unfoldable pub snapshot_of : Data → Snapshot
snapshot_of d = record {
  id = signed_at (codes "snapshot-id") d;
  parent = option_and_then signed (get (codes "parent-snapshot-id") d);
  sequence = signed_at (codes "sequence-number") d;
  ms = unsigned_at (codes "timestamp-ms") d;
  list = text_at (codes "manifest-list") d;
  operation = operation_of (get (codes "summary") d);
  schema_id = option_and_then signed (get (codes "schema-id") d);
}

-- the snapshots of an array, in its order
abbrev pub snapshots_in : Option Data → List Snapshot
snapshots_in o = map snapshot_of (items_in o)

-- `snapshots`
abbrev pub snapshots_of : Data → List Snapshot
snapshots_of d = snapshots_in (get (codes "snapshots") d)

-- ---- refs

-- a branch at a snapshot
unfoldable pub new_branch : ℤ → Data
new_branch id = object (member (codes "snapshot-id") (number (of_integer id)) (member (codes "type") (string (codes "branch")) no_members))

-- the ref `main` that is written in the field `refs`
abbrev pub main_ref : Data → Option Data
main_ref d = option_and_then (get (codes "main")) (get (codes "refs") d)

-- Without a ref `main`, the branch `main` is at the current snapshot.
abbrev pub with_main : Option ℤ → Option Data → Data → Data
with_main None main refs = refs
with_main (Some id) None refs = set (codes "main") (new_branch id) refs
with_main (Some id) (Some ref) refs = refs

-- `refs` with `main`, also where only the current snapshot gives it
abbrev pub refs_tree : Data → Data
refs_tree d = with_main (current_of d) (main_ref d) (object_at (codes "refs") d)

-- what a member of `refs` says
unfoldable pub ref_of : List ℕ → Data → Ref
ref_of k d = record {
  name = k;
  id = signed_at (codes "snapshot-id") d;
  is_branch = is_branch_text (text_at (codes "type") d);
  max_ref_age_ms = option_and_then unsigned (get (codes "max-ref-age-ms") d);
  min_keep = option_and_then unsigned (get (codes "min-snapshots-to-keep") d);
  max_snapshot_age_ms = option_and_then unsigned (get (codes "max-snapshot-age-ms") d);
}

-- the refs of an object, in byte order of their names
abbrev pub refs_in : Members → List Ref
refs_in no_members = []
refs_in (member k d ms) = ref_of k d ∷ refs_in ms

-- the refs of the table, `main` included where only the current snapshot gives it
abbrev pub refs_of : Data → List Ref
refs_of d = refs_in (members_in (Some (refs_tree d)))

-- the ref with this name
abbrev pub ref_with : List Ref → List ℕ → Option Ref
ref_with [] name = None
ref_with (r ∷ rs) name = if bytes_eq r.name name then Some r else ref_with rs name

-- ---- statistics files and properties

-- what an item of `statistics` or `partition-statistics` says
unfoldable pub statistics_file_of : Data → Statistics
statistics_file_of d = record { snapshot_id = signed_at (codes "snapshot-id") d; path = text_at (codes "statistics-path") d }

-- the statistics files, and then the partition statistics files
abbrev pub statistics_of : Data → List Statistics
statistics_of d = map statistics_file_of (items_at (codes "statistics") d) ++ map statistics_file_of (items_at (codes "partition-statistics") d)

-- the text that a value is, else the empty one
abbrev pub text_in : Data → List ℕ
text_in d = unwrap_or (as_str d) []

-- the properties of an object, in byte order of their names
abbrev pub properties_in : Members → List Property
properties_in no_members = []
properties_in (member k d ms) = record { name = k; value = text_in d } ∷ properties_in ms

-- `properties`
abbrev pub properties_of : Data → List Property
properties_of d = properties_in (members_at (codes "properties") d)

-- the value of the first property with this name
abbrev pub value_in : List ℕ → List Property → Option (List ℕ)
value_in k [] = None
value_in k (p ∷ ps) = if bytes_eq k p.name then Some p.value else value_in k ps

-- the value of a property, where the table has it
unfoldable pub property_of : List ℕ → Data → Option (List ℕ)
property_of k d = option_map text_in (get_member k (members_at (codes "properties") d))

-- ---- all together

-- all that the fields of metadata say
abbrev pub typed_of : Data → Typed
typed_of d = record {
  uuid = uuid_of d;
  location = location_of d;
  last_sequence = last_sequence_of d;
  last_updated_ms = updated_of d;
  current = current_of d;
  current_schema_id = current_schema_id_of d;
  default_spec_id = default_spec_id_of d;
  snapshots = snapshots_of d;
  refs = refs_of d;
  statistics = statistics_of d;
  properties = properties_of d;
}
