-- The edits of metadata (Iceberg table specification, Table Metadata and Snapshot References; file system tables).
-- Each is made of `set` and `add`, which change one field and no other, so a field that isn't named here stays.
use Rattle.std.specs.Prelude.{ℕ, ℤ, max, List, codes, Option, Some, None, unwrap_or, IsSome, if◌then◌else◌}
use Rattle.ice_store.specs.Numbers.{natural_of}
use Rattle.serde_json.specs.Data.{Data, number, string, object, unsigned, member, no_members}
use Rattle.serde_json.specs.Find.{get, of_integer}
use Rattle.metadata_json.specs.Edits.{set, object_at, add, add_within}
use Rattle.metadata_view.specs.Links.{is_main}
use Rattle.metadata_view.specs.View.{updated_of, property_of, new_branch}
use Rattle.metadata_view.specs.declared.types.Snapshot.{Snapshot}
use Rattle.metadata_snapshots.specs.Edits.{with_listed}

-- the ref at the snapshot; a new one is a branch
unfoldable pub moved_ref : ℤ → Option Data → Data
moved_ref id (Some ref) = set (codes "snapshot-id") (number (of_integer id)) ref
moved_ref id None = new_branch id

-- `refs` with the ref at the snapshot
unfoldable pub with_moved_ref : List ℕ → ℤ → Data → Data
with_moved_ref name id d = let refs = object_at (codes "refs") d in set (codes "refs") (set name (moved_ref id (get name refs)) refs) d

-- an item of `snapshot-log`: the snapshot became the current one at this moment
unfoldable pub snapshot_log_item : ℤ → ℕ → Data
snapshot_log_item id t = object (member (codes "snapshot-id") (number (of_integer id)) (member (codes "timestamp-ms") (number (unsigned t)) no_members))

-- the current snapshot moves, and the snapshot log says when
unfoldable pub with_current : ℤ → ℕ → Data → Data
with_current id t d = add (codes "snapshot-log") (snapshot_log_item id t) (set (codes "current-snapshot-id") (number (of_integer id)) d)

-- the moment of an edit, which doesn't fall behind the metadata that it edits
abbrev pub moment_of : ℕ → Data → ℕ
moment_of ms d = max ms (updated_of d)

-- The ref goes to the snapshot. With `main` the current snapshot moves, and the snapshot log says when.
unfoldable pub with_ref : List ℕ → ℤ → ℕ → Data → Data
with_ref name id ms d = if is_main name then with_current id (moment_of ms d) (with_moved_ref name id d) else with_moved_ref name id d

-- ---- the next version

-- how many items a table keeps where it doesn't say (Iceberg table specification, write.metadata.previous-versions-max)
abbrev pub default_versions : ℕ
default_versions = 100

-- the limit that the property's value sets, or the default where it is absent
abbrev pub limit_in : Option (List ℕ) → Option ℕ
limit_in None = Some default_versions
limit_in (Some text) = natural_of text

-- how many items of the metadata log a table keeps, where its property is absent or of its form
unfoldable pub version_limit : Data → Option ℕ
version_limit d = limit_in (property_of (codes "write.metadata.previous-versions-max") d)

-- the property is absent or of its form
abbrev pub HasVersionLimit : Data → Type 0
HasVersionLimit d = IsSome (version_limit d)

-- at least 1
abbrev pub kept_versions : Option ℕ → ℕ
kept_versions limit = max (unwrap_or limit default_versions) 1

-- an item of `metadata-log`: a metadata file, and the moment of its version
unfoldable pub metadata_log_item : List ℕ → ℕ → Data
metadata_log_item previous t = object (member (codes "metadata-file") (string previous) (member (codes "timestamp-ms") (number (unsigned t)) no_members))

-- the metadata file of the version before goes to the log with the moment of that version
unfoldable pub with_previous : ℕ → List ℕ → Data → Data
with_previous most previous d = add_within most (codes "metadata-log") (metadata_log_item previous (updated_of d)) d

-- the next version, whose metadata log keeps this many items at most
unfoldable pub next_keeping : ℕ → List ℕ → ℕ → Data → Data
next_keeping most previous ms d = set (codes "last-updated-ms") (number (unsigned (moment_of ms d))) (with_previous most previous d)

-- the next version, updated at `ms` or later, after the metadata file `previous`
unfoldable pub next_version : List ℕ → ℕ → Data → Data
next_version previous ms d = next_keeping (kept_versions (version_limit d)) previous ms d

-- ---- a new snapshot

-- The snapshot is listed, and `main` goes to it.
unfoldable pub with_snapshot : Snapshot → List (List ℕ × List ℕ) → ℕ → Data → Data
with_snapshot s texts ms d = with_ref (codes "main") s.id ms (with_listed s texts d)
