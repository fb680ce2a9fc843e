-- Logical types (Apache Avro specification, "Logical Types"). One that is unknown or does not go with its type is ignored.
use Rattle.std.specs.Prelude.{ℕ, ◌==◌, List, Bool, codes, if◌then◌else◌, Option, Some, None}
use Rattle.serde_json.specs.Data.{Data}
use Rattle.serde_json.specs.Find.{get}
use Rattle.avro_schema.specs.Attribute.{text_at, is_text, u32_of, flag_at}
use Rattle.avro_schema.specs.declared.schema.Logical.{Logical}
use Rattle.avro_schema.specs.declared.schema.Logical.TheVariants.{Plain, Date, TimeMicros, TimestampMicros, Decimal, Uuid}

-- the attribute `logicalType` is this word
unfoldable pub has_logical : List ℕ → Data → Bool
has_logical word d = is_text word (text_at (codes "logicalType") d)

-- the logical type of an int
unfoldable pub int_logical : Data → Logical
int_logical d = if has_logical (codes "date") d then Date else Plain

-- the logical type of a long
unfoldable pub long_logical : Data → Logical
long_logical d = if has_logical (codes "time-micros") d then TimeMicros
    else (if has_logical (codes "timestamp-micros") d then TimestampMicros (flag_at (codes "adjust-to-utc") d) else Plain)

-- a lacking scale is 0
abbrev pub scale_of : Option Data → Option ℕ
scale_of None = Some 0
scale_of (Some d) = u32_of d

-- the precision of a decimal, where it is a number of 32 bits
abbrev pub precision_of : Option Data → Option ℕ
precision_of None = None
precision_of (Some d) = u32_of d

-- a decimal of this precision and scale, where both are right
abbrev pub decimal_from : Option ℕ → Option ℕ → Logical
decimal_from None scale = Plain
decimal_from (Some precision) None = Plain
decimal_from (Some precision) (Some scale) = Decimal precision scale

-- the decimal that the attributes say
unfoldable pub decimal_of : Data → Logical
decimal_of d = decimal_from (precision_of (get (codes "precision") d)) (scale_of (get (codes "scale") d))

-- the logical type of bytes and of a fixed type
unfoldable pub bytes_logical : Data → Logical
bytes_logical d = if has_logical (codes "decimal") d then decimal_of d else Plain

-- the logical type of a string
unfoldable pub string_logical : Data → Logical
string_logical d = if has_logical (codes "uuid") d then Uuid else Plain

-- of a fixed of so many bytes
unfoldable pub fixed_logical : ℕ → Data → Logical
fixed_logical size d = if has_logical (codes "decimal") d then decimal_of d
    else (if has_logical (codes "uuid") d then (if size == 16 then Uuid else Plain) else Plain)
