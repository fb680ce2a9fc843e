-- The tree that is written for a partition spec without an unknown transform, with the members of the Rust type alone (Iceberg table
-- specification, Appendix C, "Partition Specs"), and the specs that it is written for.
use Rattle.std.specs.Prelude.{ℕ, ℤ, pos, negsuc, ◌<◌, ◌^◌, ◌++◌, List, [], ◌∷◌, codes, map}
use Rattle.std.specs.Fmt.{decimal}
use Rattle.serde_json.specs.Data.{Data, number, string, array, object, no_members, put}
use Rattle.serde_json.specs.Find.{of_integer}
use Rattle.serde_json.specs.View.{items_of}
use Rattle.schema_types.specs.declared.types.SpecField.{SpecField}
use Rattle.schema_types.specs.declared.types.Spec.{Spec}
use Rattle.schema_types.specs.declared.types.Transform.{Transform}
use Rattle.schema_types.specs.declared.types.Transform.TheVariants.{Identity, Bucket, Truncate, Year, Month, Day, Hour, Void, Unknown}
use Rattle.schema_trees.specs.Ids.{AreNew}
use Rattle.schema_trees.specs.Spelling.{field_ids}

-- the text of a transform; one that isn't known has none, and isn't written
abbrev pub transform_text : Transform → List ℕ
transform_text Identity = codes "identity"
transform_text (Bucket n) = codes "bucket[" ++ (decimal n ++ codes "]")
transform_text (Truncate n) = codes "truncate[" ++ (decimal n ++ codes "]")
transform_text Year = codes "year"
transform_text Month = codes "month"
transform_text Day = codes "day"
transform_text Hour = codes "hour"
transform_text Void = codes "void"
transform_text Unknown = []

-- the tree of a whole number
abbrev pub int_tree : ℤ → Data
int_tree z = number (of_integer z)

-- the tree of a spec's field
unfoldable pub field_tree : SpecField → Data
field_tree f = object (put (codes "transform") (string (transform_text f.transform)) (put (codes "source-id") (int_tree f.source_id) (put (codes "name") (string f.name) (put (codes "field-id") (int_tree f.field_id) no_members))))

-- the tree of a spec
unfoldable pub written_spec : Spec → Data
written_spec s = object (put (codes "spec-id") (int_tree s.id) (put (codes "fields") (array (items_of (map field_tree s.fields))) no_members))

-- Specs as they are read: the numbers are within their Rust types.

-- a whole number of 32 bits
abbrev pub IsInt : ℤ → Type 0
IsInt (pos n) = n < 2 ^ 31
IsInt (negsuc n) = n < 2 ^ 31

-- a size below 2^32
abbrev pub HasSize : Transform → Type 0
HasSize Identity = Unit {0}
HasSize (Bucket n) = n < 2 ^ 32
HasSize (Truncate n) = n < 2 ^ 32
HasSize Year = Unit {0}
HasSize Month = Unit {0}
HasSize Day = Unit {0}
HasSize Hour = Unit {0}
HasSize Void = Unit {0}
HasSize Unknown = Unit {0}

-- a field with numbers within their types
pub record FieldFits (f : SpecField) : Type 0 where
  pub field_id : IsInt f.field_id
  pub source_id : IsInt f.source_id
  pub size : HasSize f.transform

-- the same of each field
abbrev pub FieldsFit : List SpecField → Type 0
FieldsFit [] = Unit {0}
FieldsFit (f ∷ fs) = FieldFits f × FieldsFit fs

-- a spec such as is read
pub record IsSpec (s : Spec) : Type 0 where
  pub id : IsInt s.id
  pub fields : FieldsFit s.fields
  pub are_new : AreNew [] (field_ids s.fields)
