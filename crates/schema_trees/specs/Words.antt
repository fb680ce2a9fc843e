-- The texts that name transforms (Iceberg table specification, "Partition Transforms" and Appendix C, "Partition Specs").
use Rattle.std.specs.Prelude.{ℕ, ◌-◌, ◌^◌, ◌==◌, ◌&&◌, ◌++◌, List, [], ◌∷◌, codes, length, take, nat_lt, if◌then◌else◌, Option, Some, None}
use Rattle.std.specs.Fmt.{decimal}
use Rattle.std.specs.List.{before_first, after_first}
use Rattle.std.specs.Str.{bytes_eq}
use Rattle.std.specs.Str.Parse.{digits_value}
use Rattle.schema_types.specs.declared.types.Transform.{Transform}
use Rattle.schema_types.specs.declared.types.Transform.TheVariants.{Identity, Bucket, Truncate, Year, Month, Day, Hour, Void, Unknown}

-- the number below 2^32 whose decimal digits the text is
unfoldable pub number_of : List ℕ → Option ℕ
number_of t = if bytes_eq (decimal (digits_value 10 t)) t && nat_lt (digits_value 10 t) (2 ^ 32) then Some (digits_value 10 t) else None

-- the text without its last character
abbrev pub front : List ℕ → List ℕ
front t = take (length t - 1) t

-- the number that the text is before its last character, which is c
unfoldable pub number_before : ℕ → List ℕ → Option ℕ
number_before c t = if bytes_eq (front t ++ (c ∷ [])) t then number_of (front t) else None

-- the transform of this name with this size
abbrev pub sized_transform : List ℕ → Option ℕ → Transform
sized_transform word None = Unknown
sized_transform word (Some n) = if bytes_eq word (codes "bucket") then Bucket n else (if bytes_eq word (codes "truncate") then Truncate n else Unknown)

-- a name with a size in brackets behind it, as `bucket[16]`
unfoldable pub bracketed : List ℕ → Transform
bracketed t = sized_transform (before_first (λ b. b == 91) t) (number_before 93 (after_first (λ b. b == 91) t))

-- the transform that a text names
unfoldable pub transform_of : List ℕ → Transform
transform_of t =
    if bytes_eq t (codes "identity") then Identity
    else (if bytes_eq t (codes "year") then Year
    else (if bytes_eq t (codes "month") then Month
    else (if bytes_eq t (codes "day") then Day
    else (if bytes_eq t (codes "hour") then Hour
    else (if bytes_eq t (codes "void") then Void else bracketed t)))))
