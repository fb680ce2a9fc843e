-- The texts that name primitive types (Iceberg table specification, "Primitive Types" and Appendix C, "Data Types").
use Rattle.std.specs.Prelude.{ℕ, ◌==◌, List, [], ◌∷◌, codes, nat_lt, if◌then◌else◌, Option, Some, None}
use Rattle.std.specs.List.{before_first, after_first}
use Rattle.std.specs.Option.{option_or}
use Rattle.std.specs.Str.{bytes_eq}
use Rattle.schema_types.specs.declared.types.ColType.{ColType}
use Rattle.schema_types.specs.declared.types.ColType.TheVariants.{Boolean, Int, Long, Float, Double, Decimal, Date, Time, Timestamp, Timestamptz, Str, Uuid, Fixed, Binary}
use Rattle.schema_trees.specs.Words.{number_of, number_before}

-- the type that is named by one word
unfoldable pub plain : List ℕ → Option ColType
plain t =
    if bytes_eq t (codes "boolean") then Some Boolean
    else (if bytes_eq t (codes "int") then Some Int
    else (if bytes_eq t (codes "long") then Some Long
    else (if bytes_eq t (codes "float") then Some Float
    else (if bytes_eq t (codes "double") then Some Double
    else (if bytes_eq t (codes "date") then Some Date
    else (if bytes_eq t (codes "time") then Some Time
    else (if bytes_eq t (codes "timestamp") then Some Timestamp
    else (if bytes_eq t (codes "timestamptz") then Some Timestamptz
    else (if bytes_eq t (codes "string") then Some Str
    else (if bytes_eq t (codes "uuid") then Some Uuid
    else (if bytes_eq t (codes "binary") then Some Binary else None)))))))))))

-- the fixed type of this length
abbrev pub fixed_from : List ℕ → Option ℕ → Option ColType
fixed_from word None = None
fixed_from word (Some n) = if bytes_eq word (codes "fixed") then Some (Fixed n) else None

-- a fixed type, as `fixed[16]`
unfoldable pub fixed_of : List ℕ → Option ColType
fixed_of t = fixed_from (before_first (λ b. b == 91) t) (number_before 93 (after_first (λ b. b == 91) t))

-- the decimal type of this precision, at most 38, and this scale
abbrev pub decimal_from : Option ℕ → Option ℕ → Option ColType
decimal_from None scale = None
decimal_from (Some precision) None = None
decimal_from (Some precision) (Some scale) = if nat_lt 38 precision then None else Some (Decimal precision scale)

-- the text without a space at its front
abbrev pub behind_space : List ℕ → List ℕ
behind_space [] = []
behind_space (b ∷ t) = if b == 32 then t else b ∷ t

-- the decimal type whose numbers stand before and behind a comma, the second one with a bracket behind it
unfoldable pub numbers_of : List ℕ → Option ColType
numbers_of t = decimal_from (number_of (before_first (λ b. b == 44) t)) (number_before 41 (behind_space (after_first (λ b. b == 44) t)))

-- a decimal type, as `decimal(9,2)` or `decimal(9, 2)`
unfoldable pub decimal_of : List ℕ → Option ColType
decimal_of t = if bytes_eq (before_first (λ b. b == 40) t) (codes "decimal") then numbers_of (after_first (λ b. b == 40) t) else None

-- the primitive type that a text names
unfoldable pub primitive : List ℕ → Option ColType
primitive t = option_or (plain t) (option_or (fixed_of t) (decimal_of t))
