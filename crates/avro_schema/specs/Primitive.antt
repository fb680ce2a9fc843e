-- Primitive types (Apache Avro specification, "Primitive Types").
use Rattle.std.specs.Prelude.{ℕ, List, Bool, codes, if◌then◌else◌, Option, Some, None, is_some}
use Rattle.std.specs.Str.{bytes_eq}
use Rattle.serde_json.specs.Data as json
use Rattle.serde_json.specs.Data.{Data}
use Rattle.avro_schema.specs.Logical.{int_logical, long_logical, bytes_logical, string_logical}
use Rattle.avro_schema.specs.declared.schema.Schema.{Schema}
use Rattle.avro_schema.specs.declared.schema.Schema.TheVariants.{Null, Bool as Boolean, Int, Long, Float4, Float8, Blob, Str}

-- the primitive type of this name with the attributes of the tree
unfoldable pub primitive : List ℕ → Data → Option Schema
primitive name d =
    if bytes_eq name (codes "null") then Some Null
    else (if bytes_eq name (codes "boolean") then Some Boolean
    else (if bytes_eq name (codes "int") then Some (Int (int_logical d))
    else (if bytes_eq name (codes "long") then Some (Long (long_logical d))
    else (if bytes_eq name (codes "float") then Some Float4
    else (if bytes_eq name (codes "double") then Some Float8
    else (if bytes_eq name (codes "bytes") then Some (Blob (bytes_logical d))
    else (if bytes_eq name (codes "string") then Some (Str (string_logical d)) else None)))))))

-- the name is a primitive type's
unfoldable pub is_primitive : List ℕ → Bool
is_primitive name = is_some (primitive name json.null)
