-- The fields of the objects in metadata, and the first of them that isn't as it has to be (Iceberg table specification,
-- version 2). A field that lacks counts in its place by byte order of the keys.
use Rattle.std.specs.Prelude.{ℕ, ℤ, List, [], ◌∷◌, Bool, true, false, ◌||◌, codes, Option, Some, None, option_map, option_and_then, is_some, if◌then◌else◌}
use Rattle.std.specs.Option.{option_or}
use Rattle.std.specs.Ordering.{int_eq}
use Rattle.serde_json.specs.Data.{Data, null, boolean, number, string, array, object}
use Rattle.serde_json.specs.Find.{get, as_object}
use Rattle.metadata_json.specs.Fields.{signed, items_at}
use Rattle.metadata_form.specs.declared.key.Key.{Key}
use Rattle.metadata_form.specs.declared.key.Key.TheVariants.{BlobMetadata, CurrentSchemaId, CurrentSnapshotId, DefaultSortOrderId, DefaultSpecId, Fields, FileFooterSizeInBytes, FileSizeInBytes, FormatVersion, KeyMetadata, LastColumnId, LastPartitionId, LastSequenceNumber, LastUpdatedMs, Location, ManifestList, MaxRefAgeMs, MaxSnapshotAgeMs, MetadataFile, MetadataLog, MinSnapshotsToKeep, ParentSnapshotId, PartitionSpecs, PartitionStatistics, Properties, Refs, SchemaId, Schemas, SequenceNumber, SnapshotId as SnapshotIdKey, SnapshotLog, Snapshots, SortOrders, Statistics, StatisticsPath, Summary as SummaryKey, TableUuid, TimestampMs, Kind}
use Rattle.metadata_form.specs.declared.form.Form.{Form}
use Rattle.metadata_form.specs.declared.form.Form.TheVariants.{Text, Uuid, Int, Count, Long, Moment, SnapshotId, RefType, Texts, Summary, Ints, Objects}
use Rattle.metadata_form.specs.declared.fields.Need.{Need}
use Rattle.metadata_form.specs.declared.fields.Need.TheVariants.{Required, Optional, NotNull}
use Rattle.metadata_form.specs.declared.fields.Field.{Field}
use Rattle.metadata_form.specs.declared.rules.Rule.{Rule}
use Rattle.metadata_form.specs.declared.rules.Rule.TheVariants as rule
use Rattle.metadata_form.specs.Key.{name_of}
use Rattle.metadata_form.specs.Path.{in_member, itself_unless}
use Rattle.metadata_form.specs.Form.{int, misfit, array_fault, object_fault}

-- the value is null
abbrev pub is_null : Data → Bool
is_null null = true
is_null (boolean b) = false
is_null (number n) = false
is_null (string s) = false
is_null (array ds) = false
is_null (object ms) = false

-- what stands in a field is as the field needs it; an optional field that is null counts as absent
abbrev pub found_fault : Need → (Data → Option (List ℕ)) → Option Data → Option (List ℕ)
found_fault Required fault None = Some []
found_fault Required fault (Some d) = fault d
found_fault Optional fault None = None
found_fault Optional fault (Some d) = if is_null d then None else fault d
found_fault NotNull fault None = None
found_fault NotNull fault (Some d) = fault d

-- the fault of one member of an object
abbrev pub member_fault : Key → Need → (Data → Option (List ℕ)) → Data → Option (List ℕ)
member_fault k need fault d = option_map (in_member (name_of k)) (found_fault need fault (get (name_of k) d))

-- what is wrong with a field of an object
unfoldable pub field_fault : Field → Data → Option (List ℕ)
field_fault f d = member_fault f.key f.need (misfit f.form) d

-- the first thing that is wrong with these fields of an object
unfoldable pub fields_fault : List Field → Data → Option (List ℕ)
fields_fault [] d = None
fields_fault (f ∷ fs) d = option_or (field_fault f d) (fields_fault fs d)

-- an object with these fields
unfoldable pub record_fault : List Field → Data → Option (List ℕ)
record_fault fs d = if is_some (as_object d) then fields_fault fs d else Some []

-- ---- the fields of each kind of object, in byte order of their keys

-- a field: its key, whether it may lack, and its form
abbrev pub field : Key → Need → Form → Field
field k n f = record { key = k; need = n; form = f }

-- Snapshots
abbrev pub snapshot_fields : List Field
snapshot_fields =
    field ManifestList NotNull Text
    ∷ field ParentSnapshotId Optional Long
    ∷ field SchemaId Optional Int
    ∷ field SequenceNumber Required Long
    ∷ field SnapshotIdKey Required SnapshotId
    ∷ field SummaryKey Required Summary
    ∷ field TimestampMs Required Moment ∷ []

-- Snapshot References
abbrev pub ref_fields : List Field
ref_fields =
    field MaxRefAgeMs Optional Moment
    ∷ field MaxSnapshotAgeMs Optional Moment
    ∷ field MinSnapshotsToKeep Optional Count
    ∷ field SnapshotIdKey Required Long
    ∷ field Kind Required RefType ∷ []

-- Table Metadata Fields: `snapshot-log`
abbrev pub snapshot_log_fields : List Field
snapshot_log_fields =
    field SnapshotIdKey Required Long
    ∷ field TimestampMs Required Long ∷ []

-- Table Metadata Fields: `metadata-log`
abbrev pub metadata_log_fields : List Field
metadata_log_fields =
    field MetadataFile Required Text
    ∷ field TimestampMs Required Long ∷ []

-- Table Statistics
abbrev pub statistics_fields : List Field
statistics_fields =
    field FileFooterSizeInBytes Required Long
    ∷ field FileSizeInBytes Required Long
    ∷ field KeyMetadata Optional Text
    ∷ field SnapshotIdKey Required Long
    ∷ field StatisticsPath Required Text ∷ []

-- Table Statistics: blob metadata
abbrev pub blob_fields : List Field
blob_fields =
    field Fields Required Ints
    ∷ field Properties Optional Texts
    ∷ field SequenceNumber Required Long
    ∷ field SnapshotIdKey Required Long
    ∷ field Kind Required Text ∷ []

-- Partition Statistics
abbrev pub partition_statistics_fields : List Field
partition_statistics_fields =
    field FileSizeInBytes Required Long
    ∷ field SnapshotIdKey Required Long
    ∷ field StatisticsPath Required Text ∷ []

-- ---- table metadata

-- Table Statistics: each file has a list of blobs, and `blob-metadata` is the first field by byte order
unfoldable pub statistics_fault : Data → Option (List ℕ)
statistics_fault d = if is_some (as_object d) then option_or (member_fault BlobMetadata Required (array_fault (record_fault blob_fields)) d) (fields_fault statistics_fields d) else Some []

-- what stands in a field is this id
abbrev pub is_id : ℤ → Option ℤ → Bool
is_id id None = false
is_id id (Some z) = int_eq z id

-- an item of the list has this id in the field k
abbrev pub has_id : List ℕ → ℤ → List Data → Bool
has_id k id [] = false
has_id k id (d ∷ ds) = is_id id (option_and_then signed (get k d)) || has_id k id ds

-- there is a number, and an item of the list has it in the field k
abbrev pub names_item : List ℕ → List Data → Option ℤ → Bool
names_item k ds None = false
names_item k ds (Some id) = has_id k id ds

-- a number of 32 bits that is the id of an item of the list
abbrev pub name_fault : List ℕ → List Data → Data → Option (List ℕ)
name_fault k ds d = itself_unless (names_item k ds (int d))

-- where a rule of table metadata isn't met
unfoldable pub rule_fault : Rule → Data → Option (List ℕ)
rule_fault (rule.Holds f) d = field_fault f d
rule_fault rule.CurrentSchema d = member_fault CurrentSchemaId Required (name_fault (codes "schema-id") (items_at (codes "schemas") d)) d
rule_fault rule.DefaultSpec d = member_fault DefaultSpecId Required (name_fault (codes "spec-id") (items_at (codes "partition-specs") d)) d
rule_fault rule.MetadataLog d = member_fault MetadataLog Optional (array_fault (record_fault metadata_log_fields)) d
rule_fault rule.PartitionStatistics d = member_fault PartitionStatistics Optional (array_fault (record_fault partition_statistics_fields)) d
rule_fault rule.Refs d = member_fault Refs Optional (object_fault (record_fault ref_fields)) d
rule_fault rule.SnapshotLog d = member_fault SnapshotLog Optional (array_fault (record_fault snapshot_log_fields)) d
rule_fault rule.Snapshots d = member_fault Snapshots Optional (array_fault (record_fault snapshot_fields)) d
rule_fault rule.Statistics d = member_fault Statistics Optional (array_fault statistics_fault) d

-- the first place where one of these rules isn't met
unfoldable pub rules_fault : List Rule → Data → Option (List ℕ)
rules_fault [] d = None
rules_fault (r ∷ rs) d = option_or (rule_fault r d) (rules_fault rs d)

-- Table Metadata Fields, in byte order of their keys
abbrev pub metadata_rules : List Rule
metadata_rules =
    rule.CurrentSchema
    ∷ rule.Holds (field CurrentSnapshotId Optional Long)
    ∷ rule.Holds (field DefaultSortOrderId Required Int)
    ∷ rule.DefaultSpec
    ∷ rule.Holds (field FormatVersion Required Int)
    ∷ rule.Holds (field LastColumnId Required Int)
    ∷ rule.Holds (field LastPartitionId Required Int)
    ∷ rule.Holds (field LastSequenceNumber Required Long)
    ∷ rule.Holds (field LastUpdatedMs Required Moment)
    ∷ rule.Holds (field Location Required Text)
    ∷ rule.MetadataLog
    ∷ rule.Holds (field PartitionSpecs Required Objects)
    ∷ rule.PartitionStatistics
    ∷ rule.Holds (field Properties Optional Texts)
    ∷ rule.Refs
    ∷ rule.Holds (field Schemas Required Objects)
    ∷ rule.SnapshotLog
    ∷ rule.Snapshots
    ∷ rule.Holds (field SortOrders Required Objects)
    ∷ rule.Statistics
    ∷ rule.Holds (field TableUuid Required Uuid) ∷ []

-- the first field of metadata that isn't as it has to be, a `manifest-list` that lacks aside
unfoldable pub metadata_fault : Data → Option (List ℕ)
metadata_fault d = if is_some (as_object d) then rules_fault metadata_rules d else Some []
